-- What the type of the record tells: how long its tables are, and that its next TSN is a number of 32 bits. Assumes nothing.
use Prim.Native.Nat.{◌<◌}
use mathlib.Core.Path.{◌≡◌}
use mathlib.Core.List.{List}
use lib.ListN.{length}
use mir.Val.{Val}
use denote.Laws.{Is}
use denote.Struct.Declared.{row}
use borrow.Author.Rules.{rules}
use Rattle.flat.specs.declared.head.Association.{Association}
use Rattle.flat.specs.contracts.head.Association as record_of
use Rattle.rows.specs.TableRowsLaws.{Sized}

module _ (a : Association) (v : List Val) (g : Is (row record_of.the_type) a v) where
  held-long : length a.held ≡ 512
  held-long = search (rules, g)

  in-long : length a.next_in ≡ 128
  in-long = search (rules, g)

  places-long : length a.places ≡ 1024
  places-long = search (rules, g)

  out-long : length a.next_out ≡ 128
  out-long = search (rules, g)

  cookie-long : length a.cookie ≡ 256
  cookie-long = search (rules, g)

  pub sized : Sized a.held a.next_in a.places a.next_out a.cookie
  sized = record { held = held-long; next = in-long; places = places-long; next_out = out-long; kept = cookie-long }

  pub next-within : a.head.sender.next_tsn.0 < 4294967296
  next-within = search (rules, g.1.1.0.1.1.1.1.1.0)
