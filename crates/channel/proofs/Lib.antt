pub mod Sends
mod Places
mod Rounds
mod Fades
mod Layers
