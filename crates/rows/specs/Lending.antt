-- What stands in the lent tables, and what the rows that write several of them leave there.
use Rattle.std.specs.Prelude.{ℕ, ◌≡◌, Bool, List}
use Rattle.scans.specs.Scan.{pick}
use Rattle.chunks.specs.Frame.{bytes_in}
use Rattle.parameters.specs.Parameter.{value_of, COOKIE}
use Rattle.steps.specs.Opening.{kept_cookie}
use Rattle.steps.specs.declared.chunk.Beside.{Beside}
use Rattle.flat.specs.declared.head.Head.{Head}
use Rattle.rows.specs.declared.lent.Tables.{Tables}
use Rattle.rows.specs.declared.stepped.Stepped.{Stepped}
use Rattle.rows.specs.TableRows.{held_by, area_by, cleared_if, Rowed, rowed_of, rowed}

-- held chunks, next expected SSNs, places to send, next SSNs, the bytes of the cookie, the area
pub record Standing : Type 0 where
  pub held : List ℕ
  pub next : List ℕ
  pub places : List ℕ
  pub next_out : List ℕ
  pub kept : List ℕ
  pub area : List ℕ

abbrev pub standing_of : List ℕ → List ℕ → List ℕ → List ℕ → List ℕ → List ℕ → Standing
standing_of held next places next_out kept area = record { held = held; next = next; places = places; next_out = next_out; kept = kept; area = area }

abbrev pub standing : Tables → Standing
standing t = standing_of t.held.now t.next_in.now t.places.now t.next_out.now t.kept.now t.area.now

-- the same tables, whatever stands in them
abbrev pub AreSame : Tables → Tables → Type 0
AreSame t u =
    (u.held.ghost_name ≡ t.held.ghost_name) × (u.next_in.ghost_name ≡ t.next_in.ghost_name) × (u.places.ghost_name ≡ t.places.ghost_name)
    × (u.next_out.ghost_name ≡ t.next_out.ghost_name) × (u.kept.ghost_name ≡ t.kept.ghost_name) × (u.area.ghost_name ≡ t.area.ghost_name)

-- a DATA is heard
abbrev pub heard_into : Head → List ℕ → Standing → Standing
heard_into h s t = standing_of (held_by h t.held t.next s) t.next t.places t.next_out t.kept (area_by h t.held t.next t.area s)

-- the receiving side begins, with these bytes of the cookie
abbrev pub receiving_if : Bool → List ℕ → Standing → Standing
receiving_if b cookie t = standing_of (cleared_if b 512 t.held) (cleared_if b 128 t.next) t.places t.next_out (pick b cookie t.kept) t.area

-- the bytes of the cookie that an INIT ACK brings
abbrev pub cookie_brought : List ℕ → List ℕ
cookie_brought s = (kept_cookie (bytes_in s (value_of COOKIE 4 s))).bytes

-- all tables begin
abbrev pub begun_if : Bool → Standing → Standing
begun_if b t = standing_of (cleared_if b 512 t.held) (cleared_if b 128 t.next) (cleared_if b 1024 t.places) (cleared_if b 128 t.next_out) (cleared_if b 256 t.kept) t.area

-- the result and all that is lent
abbrev pub rowed_with : Stepped → Standing → List ℕ → Rowed
rowed_with d t space = rowed_of d t.held t.next t.places t.next_out t.kept t.area space

-- what becomes of the chunk at the head of s, beside a lent cookie
abbrev pub rowed_over : Beside → List ℕ → List ℕ → Head → Standing → List ℕ → Rowed
rowed_over b cookie s h t space = rowed b cookie s h t.held t.next t.places t.next_out t.kept t.area space
