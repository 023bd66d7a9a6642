-- What was seen of a packet, as numbers: kind, port that it came from, tag, window, streams out and in, first TSN; where a cookie stands, and its length; the options.
use Rattle.std.specs.Prelude.{ℕ, List, [], ◌∷◌, Option, Some, None, Result, Ok, Err}
use Rattle.calls.specs.declared.peeking.Peeked.{Peeked}
use Rattle.calls.specs.declared.peeking.Peeked.TheVariants.{Init, Echo}

abbrev pub seen_number : Result (Option Peeked) ℕ → ℕ
seen_number (Err n) = n
seen_number (Ok seen) = 0

abbrev unseen : List ℕ
unseen = 0 ∷ 0 ∷ 0 ∷ 0 ∷ 0 ∷ 0 ∷ 0 ∷ 0 ∷ 0 ∷ 0 ∷ []

-- kind 1 is an INIT with its fields, 2 a COOKIE ECHO, 0 anything else
abbrev pub seen_words : Result (Option Peeked) ℕ → List ℕ
seen_words (Err n) = unseen
seen_words (Ok None) = unseen
seen_words (Ok (Some (Init v source options))) = 1 ∷ source ∷ v.tag ∷ v.window ∷ v.outs ∷ v.ins ∷ v.tsn.0 ∷ 0 ∷ 0 ∷ options ∷ []
seen_words (Ok (Some (Echo at len))) = 2 ∷ 0 ∷ 0 ∷ 0 ∷ 0 ∷ 0 ∷ 0 ∷ at ∷ len ∷ 0 ∷ []
