-- The token in hand.
use Rattle.std.specs.Prelude.{ℕ, Option, Some, None}
use Rattle.flow.specs.declared.token.SuperframeToken.{SuperframeToken}

-- the id on the token in hand; where none is in hand, this one
abbrev pub id_in_hand : Option SuperframeToken → ℕ → ℕ
id_in_hand None id = id
id_in_hand (Some token) id = token.flow
