-- The chunks of a packet, one by one, over a head and lent tables: "then chunk by chunk 7, 8, 27 and the rest, each with its own verdict"; "the replies
-- to one packet share one of at most 1,472, in chunk order, and what no longer fits is left out".
use Rattle.std.specs.Prelude.{ℕ, ◌+◌, ◌-◌, false, List, [], ◌++◌, length, take, drop}
use Rattle.scans.specs.Scan.{pick, either}
use Rattle.octets.specs.Walk.{over_items}
use Rattle.steps.specs.declared.chunk.Beside.{Beside}
use Rattle.steps.specs.declared.verdict.Owed.TheVariants.{Nothing}
use Rattle.arriving.specs.declared.walk.Walked.{Walked}
use Rattle.arriving.specs.ChunkVerdict.{unread_at}
use Rattle.arriving.specs.Walked.{owes, is_due, beside_at}
use Rattle.flat.specs.declared.head.Head.{Head}
use Rattle.flat.specs.Shown.{bare}
use Rattle.rows.specs.declared.stepped.Stepped.{Stepped}
use Rattle.rows.specs.TableRows.{Rowed, rowed}
use Rattle.rows.specs.Lending.{Standing}
use Rattle.landing.specs.declared.walk.Walk.{Walk}
use Rattle.landing.specs.Verdicts.{verdict_at, count_after, words_noted}

-- nothing passed yet
unfoldable pub head_walk_begun : Head → Walk
head_walk_begun h = record { head = h; count = 0; used = 0; unread = false; due = false; complete = Nothing }

-- what became of a chunk, taken in; its verdict is the last of n
abbrev pub walk_taken : Walk → Stepped → ℕ → Walk
walk_taken w d n = record {
  head = d.head;
  count = n;
  used = w.used + d.written;
  unread = d.unread;
  due = either w.due (is_due d.owed);
  complete = owes w.complete d.owed;
}

-- the same walk with n verdicts
abbrev pub with_count : Walk → ℕ → Walk
with_count w n = record { head = w.head; count = n; used = w.used; unread = w.unread; due = w.due; complete = w.complete }

-- the walk with no tables and no verdicts beside it, for the rules that they have no part in
abbrev pub bare_walked : Walk → Walked
bare_walked w = record {
  association = bare w.head;
  count = w.count;
  verdicts = [];
  used = w.used;
  unread = w.unread;
  due = w.due;
  complete = w.complete;
}

-- the walk so far, with all that is lent
pub record TableTurn : Type 0 where
  pub walk : Walk
  pub held : List ℕ
  pub next : List ℕ
  pub places : List ℕ
  pub next_out : List ℕ
  pub kept : List ℕ
  pub area : List ℕ
  pub verdicts : List ℕ
  pub space : List ℕ

abbrev pub table_turn_of : Walk → List ℕ → List ℕ → List ℕ → List ℕ → List ℕ → List ℕ → List ℕ → List ℕ → TableTurn
table_turn_of w held next places next_out kept area verdicts space = record {
  walk = w;
  held = held;
  next = next;
  places = places;
  next_out = next_out;
  kept = kept;
  area = area;
  verdicts = verdicts;
  space = space;
}

-- the same, with what stands in the lent tables
abbrev pub turn_over : Walk → Standing → List ℕ → List ℕ → TableTurn
turn_over w t verdicts space = table_turn_of w t.held t.next t.places t.next_out t.kept t.area verdicts space

-- a chunk that is left unread, and one that is read
abbrev pub unread_turn : ℕ → TableTurn → TableTurn
unread_turn at t =
    table_turn_of (with_count t.walk (count_after t.walk.count)) t.held t.next t.places t.next_out t.kept t.area
    (words_noted t.verdicts t.walk.count (unread_at at)) t.space

abbrev pub read_turn : ℕ → TableTurn → Rowed → TableTurn
read_turn at t o =
    table_turn_of (walk_taken t.walk o.stepped (count_after t.walk.count)) o.held o.next o.places o.next_out o.kept o.area
    (words_noted t.verdicts t.walk.count (verdict_at at o.stepped)) o.space

-- what the row of the chunk at the head of s leaves
abbrev pub rowed_at : ℕ → Beside → List ℕ → List ℕ → TableTurn → Rowed
rowed_at at b cookie s t =
    rowed (beside_at at b) cookie s t.walk.head t.held t.next t.places t.next_out t.kept t.area t.space

-- the chunk at the head of s, which begins at `at`; its space is what is left behind the replies so far
unfoldable pub table_turned : ℕ → Beside → List ℕ → List ℕ → TableTurn → TableTurn
table_turned at b cookie s t = pick t.walk.unread (unread_turn at t) (read_turn at t (rowed_at at b cookie s t))

-- of the whole space, the part behind the replies so far; and the whole again, with what a chunk left in that part
abbrev pub in_part : TableTurn → TableTurn
in_part t =
    table_turn_of t.walk t.held t.next t.places t.next_out t.kept t.area t.verdicts
    (take (length t.space - t.walk.used) (drop t.walk.used t.space))

abbrev pub in_whole : List ℕ → ℕ → TableTurn → TableTurn
in_whole xs n t =
    table_turn_of t.walk t.held t.next t.places t.next_out t.kept t.area t.verdicts
    (take n xs ++ (t.space ++ drop (length xs - n) (drop n xs)))

unfoldable pub turned_in : ℕ → Beside → List ℕ → List ℕ → TableTurn → TableTurn
turned_in at b cookie s t = in_whole t.space t.walk.used (table_turned at b cookie s (in_part t))

-- every chunk of a packet, in order; one that begins where s does begins so far behind the packet's start
unfoldable pub table_walked_over : Beside → List ℕ → List ℕ → TableTurn → TableTurn
table_walked_over b cookie packet t =
    over_items (λ (u : TableTurn) (s : List ℕ). turned_in (length packet - length s) b cookie s u) t packet 12
