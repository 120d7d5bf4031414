mod Tapings
