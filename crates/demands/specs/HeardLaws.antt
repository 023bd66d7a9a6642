-- What is heard in two parts: the second goes on from where the first has led. Assumes nothing.
use Rattle.std.specs.Prelude.{ℕ, ◌≡◌, Bool, true, false}
use Rattle.std.proofs.Math.Path.{refl, sym, ap}
use Rattle.std.proofs.Common.{◌∙◌}
use mathlib.Core.List.{List, [], ◌∷◌, ◌++◌, append_assoc}
use Rattle.scans.specs.Scan.{pick}
use Rattle.numbers.specs.Numbering.{Numberings}
use Rattle.arriving.specs.declared.verdict.Verdict.{Verdict}
use Rattle.demands.specs.News.{News, numbered, is_of_data, news_of_data}
use Rattle.demands.specs.Heard.{Heard, Side, side_by, said_of, side_goes_on, said_on}

module _ (N : Numberings) where
  pub goes_none : (k : Side) → side_goes_on N k [] ≡ k
  unfolding side_goes_on
  goes_none k = refl

  pub said-none : (k : Side) → said_on N k [] ≡ []
  unfolding said_on
  said-none k = refl

  pub goes-append : (hs gs : List Heard) (k : Side) → side_goes_on N k (hs ++ gs) ≡ side_goes_on N (side_goes_on N k hs) gs
  unfolding side_goes_on
  goes-append [] gs k = refl
  goes-append (h ∷ hs) gs k = goes-append hs gs (side_by N k h)

  pub said-append : (hs gs : List Heard) (k : Side) → said_on N k (hs ++ gs) ≡ said_on N k hs ++ said_on N (side_goes_on N k hs) gs
  unfolding said_on side_goes_on
  said-append [] gs k = refl
  said-append (h ∷ hs) gs k =
      ap (λ (ts : List News). said_of N k h ++ ts) (said-append hs gs (side_by N k h))
      ∙ sym (append_assoc (said_of N k h) (said_on N (side_by N k h) hs) (said_on N (side_goes_on N (side_by N k h) hs) gs))

pub told-append : (packet : List ℕ) (vs ws : List Verdict) → news_of_data packet (vs ++ ws) ≡ news_of_data packet vs ++ news_of_data packet ws
unfolding news_of_data
told-append packet [] ws = refl
told-append packet (v ∷ vs) ws = go (is_of_data packet v) (told-append packet vs ws)
  where
    go : (t : Bool) → news_of_data packet (vs ++ ws) ≡ news_of_data packet vs ++ news_of_data packet ws
        → pick t (numbered v.number ∷ news_of_data packet (vs ++ ws)) (news_of_data packet (vs ++ ws)) ≡ pick t (numbered v.number ∷ news_of_data packet vs) (news_of_data packet vs) ++ news_of_data packet ws
    go true e = ap (λ (ts : List News). numbered v.number ∷ ts) e
    go false e = e
