-- The lines that answer the commands of a script that need no flow. Each says what the rules give, in the script's words.
use Rattle.std.specs.Prelude.{◌≡◌, ℕ, Bool, true, false, cond, ◌&&◌, List, [], ◌++◌, length, Some, None, Ok, Err, codes, decimal, MatchBool, Option, Result, nat_le}
use Rattle.std.specs.List.{flat_map}
use Rattle.channel.specs.Patterns.{shown}
use Rattle.channel.specs.declared.pattern.FadePattern.{FadePattern}
use Rattle.framing.specs.Giving.{Asked, gives, refuses, is_torn, asked}
use Rattle.framing.specs.Fragments.{Fragment, body, notional, padding, fragments}
use Rattle.service.specs.Words.{word_of_kind}
use Rattle.service.specs.declared.header.SyncHeader.{SyncHeader}
use Rattle.spelling.specs.Answer.{yes_or_no}
use Rattle.spelling.specs.Hex.{in_word}
use Rattle.spelling.specs.Optional.{optional_words}

-- a number, or `-` where there is none
abbrev pub dash_or : Option ℕ → List ℕ
dash_or n = optional_words decimal [] n (codes "-")

abbrev pub line_end : List ℕ
line_end = codes "\n"

-- a refusal, by its number
abbrev pub refused_line : ℕ → List ℕ
refused_line n = codes "refused " ++ (decimal n ++ line_end)

abbrev pub checksum_line : List ℕ → List ℕ
checksum_line value = codes "checksum " ++ (in_word value ++ line_end)

-- the flags of a sync header, and the payload behind it
abbrev pub flag_words : Bool → Bool → List ℕ → List ℕ
flag_words access unreferenced payload =
    codes "access "
    ++ (yes_or_no access ++ (codes " unreferenced " ++ (yes_or_no unreferenced ++ (codes " payload " ++ in_word payload))))

-- what a packet reads as, or the number of its refusal
abbrev pub header_line : Result (SyncHeader × List ℕ) ℕ → List ℕ
header_line (Err n) = refused_line n
header_line (Ok p) =
    codes "header "
    ++ (word_of_kind p.0.kind
    ++ (codes " frame "
    ++ (dash_or p.0.frame_id
    ++ (codes " time "
    ++ (dash_or p.0.timestamp
    ++ (codes " " ++ (flag_words p.0.access_point p.0.unreferenced p.1 ++ line_end)))))))

-- a sync header and a payload, as written
abbrev pub wrote_line : List ℕ → List ℕ
wrote_line bytes = codes "wrote " ++ (decimal (length bytes) ++ (codes " " ++ (in_word bytes ++ line_end)))

abbrev pub end_word : Bool → List ℕ
end_word true = codes "last"
end_word false = codes "more"

abbrev pub fragment_line : Fragment → List ℕ
fragment_line (body place bytes last) =
    codes "body "
    ++ (decimal place
    ++ (codes " " ++ (decimal (length bytes) ++ (codes " " ++ (end_word last ++ (codes " " ++ (in_word bytes ++ line_end)))))))
fragment_line (notional place) = codes "notional " ++ (decimal place ++ line_end)
fragment_line (padding place) = codes "padding " ++ (decimal place ++ line_end)

-- nothing where a reel is lawful, else the number and the place of its block
abbrev pub reel_line : Option (ℕ × ℕ) → List ℕ
reel_line None = codes "lawful\n"
reel_line (Some f) = codes "refused " ++ (decimal f.0 ++ (codes " " ++ (decimal f.1 ++ line_end)))

-- 20: is the pattern, of so many bytes, long enough and not too long?
abbrev pub fade_line : ℕ → List ℕ
fade_line n = cond (nat_le 1 n && nat_le n 64) (codes "fade " ++ (decimal n ++ line_end)) (refused_line 20)

-- The holder of the pattern afterwards: the pattern where it is refused by nothing, else as it was.
abbrev pub Prepared : List ℕ → FadePattern → FadePattern → Type 0
Prepared pattern before after =
    MatchBool (nat_le 1 (length pattern) && nat_le (length pattern) 64) (shown after ≡ pattern) (after ≡ before)

-- what is answered where this length, and these bytes, were written, or a number refuses
abbrev pub written_line : Result ℕ ℕ → List ℕ → List ℕ
written_line (Ok n) bytes = wrote_line bytes
written_line (Err n) bytes = refused_line n

-- what is answered where asking for the fragments comes to this, and the fragments are these
abbrev pub asked_lines : Asked → List Fragment → List ℕ
asked_lines gives all = flat_map fragment_line all ++ codes "nothing\n"
asked_lines (refuses n) all = refused_line n
asked_lines (is_torn n place) all = codes "torn " ++ (decimal n ++ (codes " " ++ (decimal place ++ line_end)))

-- what is answered for a frame of which the fragments are asked for: every fragment of it and then nothing, or its refusal
abbrev pub fragments_lines : List ℕ → List ℕ
fragments_lines frame = asked_lines (asked frame) (fragments frame)
