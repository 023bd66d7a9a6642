-- The table's column "Leaves" at the library's face: of every function that a host links, by its promise. "All" is the head, every word of both tables, the next
-- SSNs both ways, the cookie's bytes, both areas, the words for verdicts and the output.
use Rattle.std.specs.Prelude.{ℕ, ◌<◌, ◌≤◌, ◌^◌, ◌≡◌, List, length, get_or}
use Rattle.scans.specs.Each.{All}
use Rattle.chunks.specs.AgainLaws.{Octet}
use Rattle.states.specs.declared.call.Call.TheVariants.{FirstTimer, SecondTimer}
use Rattle.association.specs.declared.ends.Association.{Association}
use Rattle.association.specs.AssociationKeptLaws.{AssociationKept}
use Rattle.steps.specs.declared.lent.Lent.{Lent}
use Rattle.steps.specs.declared.lent.Echoed.{Echoed}
use Rattle.steps.specs.SoundLaws.{Worded}
use Rattle.arriving.specs.declared.verdict.Verdict.{Verdict}
use Rattle.arriving.specs.PacketRefusal.{Barred}
use Rattle.calls.specs.Closing.{shutting, aborting}
use Rattle.calls.specs.Telling.{telling_stream, telling_stale, beating}
use Rattle.asks.specs.TableOpening.{Tables}
use Rattle.asks.specs.TableOpeningLaws.{TablesLong}
use Rattle.landing.specs.Verdicts.{verdicts_of}
use Rattle.kept.specs.declared.head.Kept.{Kept}
use Rattle.kept.specs.declared.parts.KeptKeeping.{KeptKeeping}
use Rattle.kept.specs.Cause.{reason_of}
use Rattle.face.specs.FaceLeft.{CallTold}
use Rattle.face.specs.FaceOpening.{tables_lent, AssociatedLent, associated_lent}
use Rattle.face.specs.FaceMessages.{HandedLent, handed_lent, DeliveredLent, delivered_lent}
use Rattle.face.specs.FaceTransmit.{DispatchedLent, dispatched_lent}
use Rattle.face.specs.FaceArrival.{ArrivedLent, arrived_lent}
use Rattle.face.specs.FaceAcknowledging.{SackSaid}
use Rattle.face.specs.Promises.{record_of, Closes, Associates, Arrives, HandsIn, Takes, Transmits, Acknowledges, Sends, Expires, Lapses, Samples}

-- all that a host keeps for an association and lends: the head, the tables, the areas for what is held and for what is sent, words for verdicts, an output
pub record Store : Type 0 where
  pub kept : Kept
  pub tables : Tables
  pub received : List ℕ
  pub sent : List ℕ
  pub verdicts : List ℕ
  pub out : List ℕ

abbrev pub store_of : Kept → Tables → List ℕ → List ℕ → List ℕ → List ℕ → Store
store_of k ts received sent verdicts out = record { kept = k; tables = ts; received = received; sent = sent; verdicts = verdicts; out = out }

-- the record that it shows
abbrev pub record_in : Store → Association
record_in b = record_of b.kept b.tables.held b.tables.next b.tables.places b.tables.next_out b.tables.kept

-- with another head, and other tables or another output
abbrev pub store_with_tables : Store → Kept → Tables → List ℕ → Store
store_with_tables b k ts out = store_of k ts b.received b.sent b.verdicts out

abbrev pub with_out : Store → Kept → List ℕ → Store
with_out b k out = store_with_tables b k b.tables out

abbrev pub store_with_places : Store → Kept → List ℕ → List ℕ → List ℕ → List ℕ → Store
store_with_places b k places next_out sent out = store_of k (tables_lent b.tables.held b.tables.next places next_out b.tables.kept) b.received sent b.verdicts out

abbrev pub store_with_held : Store → Kept → DeliveredLent → Store
store_with_held b k x = store_with_tables b k (tables_lent x.held x.next b.tables.places b.tables.next_out b.tables.kept) x.out

-- what a packet is lent, and back
abbrev pub for_packet : Store → ArrivedLent
for_packet b = arrived_lent b.tables.held b.tables.next b.tables.places b.tables.next_out b.tables.kept b.received b.verdicts b.out

abbrev pub from_packet : Store → Kept → ArrivedLent → Store
from_packet b k x = store_of k (tables_lent x.held x.next x.places x.next_out x.kept) x.area b.sent x.verdicts x.out

-- a call of a function that the host links told t, and made e of b: its promise, with what the types say of its numbers. What it is lent to read, or not at all,
-- it cannot change. What is told beside the number, with a SACK's lists, is no part of a store; `ow_lent_peek`, `ow_version` and `ow_sizes` are lent none
pub data Called (b : Store) (t : CallTold) (e : Store) : Type 0 where
  -- in a book that is known: closed in another, a record is outside its bounds
  close : (port mode : ℕ) (x : Tables) → mode ≤ 1 → Closes port mode t x → e ≡ store_with_tables b t.kept x b.out → Called b t e
  associate : (tag tsn port streams : ℕ) (x : AssociatedLent) → tsn < 2 ^ 32 → Associates b.kept tag tsn port streams (associated_lent b.tables b.out) t x
      → e ≡ store_with_tables b t.kept x.tables x.out → Called b t e
  arrive : (packet : List ℕ) (lent : Lent) (cookie : List ℕ) (word : Echoed) (x : ArrivedLent) → All Octet packet → Worded word
      → Arrives b.kept packet lent cookie word (for_packet b) t x → e ≡ from_packet b t.kept x → Called b t e
  call_hand_in : (message : List ℕ) (stream unordered ppid : ℕ) (x : HandedLent) → stream < 65536 → ppid < 4294967296
      → HandsIn b.kept b.tables.held message stream unordered ppid (handed_lent b.tables.places b.sent) t x
      → e ≡ store_with_places b t.kept x.places b.tables.next_out x.area b.out → Called b t e
  deliver : (x : DeliveredLent) → Takes b.kept b.tables.places b.received (delivered_lent b.tables.held b.tables.next b.out) t x → e ≡ store_with_held b t.kept x → Called b t e
  transmit : (x : DispatchedLent) → Transmits b.kept b.tables.held b.sent (dispatched_lent b.tables.places b.tables.next_out b.out) t x
      → e ≡ store_with_places b t.kept x.places x.next b.sent x.out → Called b t e
  sack : (x : SackSaid) → Acknowledges b.kept b.tables.held b.tables.places b.out t x → e ≡ with_out b t.kept x.out → Called b t e
  shutdown : (x : List ℕ) → Sends shutting b.kept b.tables.held b.tables.places b.out t x → e ≡ with_out b t.kept x → Called b t e
  abort : (cause tsn : ℕ) (x : List ℕ) → Sends (λ a. aborting a (reason_of cause tsn)) b.kept b.tables.held b.tables.places b.out t x → e ≡ with_out b t.kept x → Called b t e
  error_stream : (stream : ℕ) (x : List ℕ) → Sends (λ a. telling_stream a (record { 0 = stream })) b.kept b.tables.held b.tables.places b.out t x → e ≡ with_out b t.kept x
      → Called b t e
  error_stale : (port tag late : ℕ) (x : List ℕ) → Sends (λ a. telling_stale a port tag late) b.kept b.tables.held b.tables.places b.out t x → e ≡ with_out b t.kept x
      → Called b t e
  heartbeat : (value x : List ℕ) → Sends (λ a. beating a value) b.kept b.tables.held b.tables.places b.out t x → e ≡ with_out b t.kept x → Called b t e
  t1 : (x : List ℕ) → Expires FirstTimer b.kept b.tables.held b.tables.places b.tables.kept b.out t x → e ≡ with_out b t.kept x → Called b t e
  t2 : (x : List ℕ) → Expires SecondTimer b.kept b.tables.held b.tables.places b.tables.kept b.out t x → e ≡ with_out b t.kept x → Called b t e
  t3 : (x : List ℕ) → Lapses b.kept b.tables.held b.tables.places t x → e ≡ store_with_places b t.kept x b.tables.next_out b.sent b.out → Called b t e
  rtt : (sample : ℕ) → Samples b.kept b.tables.held b.tables.places sample t → e ≡ with_out b t.kept b.out → Called b t e

-- a number that is not 0 leaves all
abbrev pub StoreRefusalLeaves : Store → CallTold → Store → Type 0
StoreRefusalLeaves b t e = Called b t e → 0 < t.number → e ≡ b

-- ---- the chunks of a packet

-- what the host reads of its verdicts: as many as it is told
abbrev pub verdicts_told : CallTold → Store → List Verdict
verdicts_told t e = verdicts_of (get_or t.words 0 0) e.verdicts

-- a chunk that is refused
abbrev pub VerdictRefused : Verdict → Type 0
VerdictRefused v = 0 < v.number

-- a head with other number-keeping
abbrev pub kept_with_keeping : Kept → KeptKeeping → Kept
kept_with_keeping k x = record { state = k.state; tries = k.tries; cookie_len = k.cookie_len; ends = k.ends; keeping = x; sender = k.sender }

-- a packet all of whose chunks are refused is not answered, and leaves all but its verdicts and, where one is refused with 11 ("TSN listed if room") or 14 ("TSN
-- comes, point moves, nothing held"), number-keeping
pub record PacketLeaves (b : Store) (t : CallTold) (e : Store) : Type 0 where
  pub silent : get_or t.words 1 0 ≡ 0
  pub store : e ≡ store_of (kept_with_keeping b.kept t.kept.keeping) b.tables b.received b.sent e.verdicts b.out
  pub head : All Barred (verdicts_told t e) → e.kept ≡ b.kept

abbrev pub RefusedLeave : Store → CallTold → Store → Type 0
RefusedLeave b t e =
    (packet : List ℕ) (lent : Lent) (cookie : List ℕ) (word : Echoed) → Arrives b.kept packet lent cookie word (for_packet b) t (for_packet e) → e.kept ≡ t.kept → e.sent ≡ b.sent
    → length b.verdicts ≡ 1460 → All VerdictRefused (verdicts_told t e) → PacketLeaves b t e

-- ---- bounds

-- within its bounds, and as long as its types have it
pub record Within (b : Store) : Type 0 where
  pub whole : TablesLong b.tables
  pub words : length b.verdicts ≡ 1460
  pub sound : AssociationKept (record_in b)

abbrev pub StaysWithin : Store → CallTold → Store → Type 0
StaysWithin b t e = Called b t e → Within b → Within e
