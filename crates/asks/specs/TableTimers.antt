-- T3 over head and words of the places: exact for any words.
use Rattle.std.specs.Prelude.{ℕ, List, eqb}
use Rattle.scans.specs.Scan.{pick}
use Rattle.numbers.specs.Profile.{rail}
use Rattle.path.specs.Sizes.{sizes_of}
use Rattle.acks.specs.Acks.{Expired, expired_head, expired_words}
use Rattle.flat.specs.declared.head.Head.{Head}
use Rattle.asks.specs.TableAnswer.{Reply, with_sender, refused_with, told_with, over_with}

-- the answer, and the words of the places
pub record Lapse : Type 0 where
  pub answer : Reply
  pub places : List ℕ

-- T3: "with nothing outstanding it is answered 7"
abbrev pub lapsed_by : Head → Expired → Reply
lapsed_by h e = pick (eqb e.number 0) (pick e.over (over_with h) (told_with (with_sender h e.head) 0)) (refused_with h e.number)

-- "all outstanding marked", by the number that bars the call
unfoldable pub lapsed : ℕ → Head → List ℕ → Lapse
lapsed n h places =
    pick (eqb n 0)
    (record { answer = lapsed_by h (expired_head (sizes_of h.sender.mode) rail h.sender places); places = expired_words (sizes_of h.sender.mode) rail h.sender places })
    (record { answer = refused_with h n; places = places })
