-- Our own INIT, over tables: every one begins anew.
use Rattle.std.specs.Prelude.{ℕ, List, eqb, replicate}
use Rattle.scans.specs.Scan.{pick}
use Rattle.numbers.specs.Profile.{held_word_count, place_word_count, rail}

-- the words of every table, and the bytes of the cookie
pub record Tables : Type 0 where
  pub held : List ℕ
  pub next : List ℕ
  pub places : List ℕ
  pub next_out : List ℕ
  pub kept : List ℕ

-- all zeros, as in a record that begins
abbrev pub zero_tables : Tables
zero_tables = record { held = replicate (held_word_count rail) 0; next = replicate rail.streams 0; places = replicate (place_word_count rail) 0; next_out = replicate rail.streams 0; kept = replicate rail.«longest-cookie» 0 }

-- what a call with that number leaves
unfoldable pub tables_after : ℕ → Tables → Tables
tables_after n t = pick (eqb n 0) zero_tables t
