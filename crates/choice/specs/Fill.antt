-- A packet filled over head, words of the places and next SSNs: exact for any words.
use Rattle.std.specs.Prelude.{◌≡◌, ℕ, ◌+◌, ◌-◌, ◌%◌, ◌^◌, Bool, true, false, List, [], get_or, replicate, ◌==◌, nat_lt, slice_index_or, slice_set, refl}
use Rattle.std.proofs.Common.{◌∙◌, ltb-false}
use Rattle.numbers.specs.declared.circle.Tsn.{Tsn}
use Rattle.numbers.specs.declared.circle.Ssn.{Ssn}
use Rattle.numbers.specs.Circle.{tsn0, ssn0}
use Rattle.numbers.specs.Numbering.{ring, on}
use Rattle.numbers.specs.Profile.{Profile}
use Rattle.scans.specs.Scan.{pick, either}
use Rattle.scans.specs.Upto.{run_while}
use Rattle.path.specs.Sizes.{Sizes}
use Rattle.places.specs.declared.place.Chunk.{Chunk}
use Rattle.places.specs.declared.place.Place.{Place}
use Rattle.places.specs.declared.all.Tally.{Tally}
use Rattle.places.specs.Places.{being, weight_of, tallied}
use Rattle.sending.specs.declared.choosing.Best.{Best}
use Rattle.sending.specs.declared.choosing.Load.{Load}
use Rattle.sending.specs.Sending.{with_flight}
use Rattle.sending.specs.Choose.{best_place, size_of, goes, next_ssn, numbered, Going}
use Rattle.sending.specs.SendingTableLaws.{ssn-is, numbered_is}
use Rattle.sending.specs.ChoosePartsLaws.{loaded_by}
use Rattle.tables.specs.PlaceWords.{places_of, place_at, place_put}
use Rattle.tables.specs.Ssns.{ssns_of, ssn_put, ssn-past}
use Rattle.sender.specs.declared.Sender.{Sender}
use Rattle.sender.specs.Seen.{sending_shown}

-- the SSN that a chunk goes out with
pub next-at : (P : Profile) (ns : List ℕ) (c : Chunk) → c.unordered ≡ false → next_ssn P (ssns_of P ns) c ≡ slice_index_or (ssns_of P ns) c.stream.0 ssn0
next-at P ns c e = ssn-is P (ssns_of P ns) c ∙ rw e (go (nat_lt c.stream.0 P.streams) refl)
  where
    go : (t : Bool) → nat_lt c.stream.0 P.streams ≡ t → pick t (slice_index_or (ssns_of P ns) c.stream.0 ssn0) ssn0 ≡ slice_index_or (ssns_of P ns) c.stream.0 ssn0
    go true q = refl
    go false q = ssn-past P ns c.stream.0 (ltb-false c.stream.0 P.streams q)

pub next-none : (P : Profile) (ns : List ℕ) (c : Chunk) → c.unordered ≡ true → next_ssn P (ssns_of P ns) c ≡ ssn0
next-none P ns c e = ssn-is P (ssns_of P ns) c ∙ rw e

-- the next SSNs after a place went out
unfoldable pub counted_in : Profile → List ℕ → Place → List ℕ
counted_in P ns p =
    pick (p.status == 3) ns
    (pick p.chunk.unordered ns
    (pick p.chunk.end (ssn_put P ns p.chunk.stream.0 (record { 0 = on (ring (2 ^ 16)) (get_or (ssns_of P ns) p.chunk.stream.0 ssn0).0 1 }))
    ns))

-- the place as it goes out
unfoldable pub sent_place : Profile → Sender → List ℕ → Place → Place
sent_place P h ns p = pick (p.status == 3) (being p 2) (record { status = 2; misses = p.misses; chunk = numbered P (sending_shown P h [] ns) p.chunk })

pub sent-new : (P : Profile) (h : Sender) (ns : List ℕ) (p : Place) {n : Ssn} → (p.status == 3) ≡ false → n ≡ next_ssn P (ssns_of P ns) p.chunk
    → ◌≡◌ {A = Place}
    (record {
      status = 2;
      misses = p.misses;
      chunk = record {
        tsn = h.next_tsn;
        order = p.chunk.order;
        stream = p.chunk.stream;
        ssn = n;
        ppid = p.chunk.ppid;
        len = p.chunk.len;
        begin = p.chunk.begin;
        end = p.chunk.end;
        unordered = p.chunk.unordered;
      };
    })
    (sent_place P h ns p)
unfolding sent_place
sent-new P h ns p e f = rw (e, numbered_is P (sending_shown P h [] ns) p.chunk, f)

-- the head after it
unfoldable pub sent_head : Sender → Place → Sender
sent_head h p =
    pick (p.status == 3)
    (record { acked = h.acked; next_tsn = h.next_tsn; advertised = h.advertised; oldest = h.oldest; path = with_flight h.path (h.path.flight + weight_of p); mode = h.mode })
    (record { acked = h.acked; next_tsn = record { 0 = on (ring (2 ^ 32)) h.next_tsn.0 1 }; advertised = h.advertised; oldest = (h.oldest + 1) % 2 ^ 32; path = with_flight h.path (h.path.flight + weight_of p); mode = h.mode })

-- the packet with place i more, which holds p
unfoldable pub load_after : Sender → Load → ℕ → Place → Load
load_after h l i p =
    let t : Tsn = pick (p.status == 3) p.chunk.tsn h.next_tsn in
    record {
      payload = l.payload + p.chunk.len;
      room = l.room - size_of p;
      count = l.count + 1;
      places = slice_set l.places l.count i;
      resent = either l.resent (p.status == 3);
      first = pick (nat_lt l.count 1) t l.first;
      last = t;
    }

-- head, tables and packet
pub record Fill : Type 0 where
  pub head : Sender
  pub words : List ℕ
  pub ns : List ℕ
  pub load : Load

-- the next candidate goes, or none does
unfoldable pub going_in : Profile → Fill → Going
going_in P f =
    let b : Best = best_place f.head.acked f.head.oldest (places_of P f.words) in
    record { go = goes (loaded_by (sending_shown P f.head [] []) f.load) b (place_at P f.words b.place); place = b.place }

unfoldable pub filling_in : Profile → Fill → ℕ → Fill
filling_in P f i =
    let p : Place = place_at P f.words i in
    record {
      head = sent_head f.head p;
      words = place_put P f.words i (sent_place P f.head f.ns p);
      ns = counted_in P f.ns p;
      load = load_after f.head f.load i p;
    }

unfoldable pub begun_in : Sizes → Profile → Sender → List ℕ → List ℕ → Fill
begun_in z P h ws ns =
    let tally : Tally = tallied h.acked (places_of P ws) in
    record {
      head = record { acked = h.acked; next_tsn = h.next_tsn; advertised = h.advertised; oldest = h.oldest; path = with_flight h.path tally.flight; mode = h.mode };
      words = ws;
      ns = ns;
      load = record { payload = tally.payload; room = z.room; count = 0; places = replicate z.bundled 0; resent = false; first = tsn0; last = tsn0 };
    }

unfoldable pub filled_in : Sizes → Profile → Sender → List ℕ → List ℕ → Fill
filled_in z P h ws ns = run_while (λ f. (going_in P f).go) (λ f. filling_in P f (going_in P f).place) (begun_in z P h ws ns) z.bundled

-- the best place is the one that goes, if one does
pub goes-best : (P : Profile) (h : Sender) (ws ns : List ℕ) (l : Load) (b : Best) {p : Place} → b ≡ best_place h.acked h.oldest (places_of P ws) → p ≡ place_at P ws b.place
    → ◌≡◌ {A = Going} (going_in P (record { head = h; words = ws; ns = ns; load = l })) (record { go = goes (loaded_by (sending_shown P h [] []) l) b p; place = b.place })
unfolding going_in
goes-best P h ws ns l b e q = rw (q, e)

-- one step, put together
pub fill_step : (P : Profile) (h : Sender) (ws ns : List ℕ) (l : Load) (i : ℕ) {p q : Place} {hd : Sender} {xs ys : List ℕ} {ld : Load}
    → p ≡ place_at P ws i → hd ≡ sent_head h p → q ≡ sent_place P h ns p → xs ≡ place_put P ws i q → ys ≡ counted_in P ns p → ld ≡ load_after h l i p
    → ◌≡◌ {A = Fill} (record { head = hd; words = xs; ns = ys; load = ld }) (filling_in P (record { head = h; words = ws; ns = ns; load = l }) i)
unfolding filling_in
fill_step P h ws ns l i a b c d e f = rw (d, c, b, e, f, a)

-- head, words, next SSNs and packet together
abbrev pub fill_of : Sender → List ℕ → List ℕ → Load → Fill
fill_of h ws ns l = record { head = h; words = ws; ns = ns; load = l }

-- the packet to begin with
abbrev pub empty_of : Sizes → Sender → List ℕ → List ℕ → Tally → Fill
empty_of z h ws ns w = record {
  head = record { acked = h.acked; next_tsn = h.next_tsn; advertised = h.advertised; oldest = h.oldest; path = with_flight h.path w.flight; mode = h.mode };
  words = ws;
  ns = ns;
  load = record { payload = w.payload; room = z.room; count = 0; places = replicate z.bundled 0; resent = false; first = tsn0; last = tsn0 };
}

pub filled-by : (z : Sizes) (P : Profile) (h : Sender) (ws ns : List ℕ) {w : Tally} {f : Fill} → w ≡ tallied h.acked (places_of P ws)
    → f ≡ run_while (λ f. (going_in P f).go) (λ f. filling_in P f (going_in P f).place) (empty_of z h ws ns w) z.bundled → f ≡ filled_in z P h ws ns
unfolding filled_in begun_in
filled-by z P h ws ns a b = rw (← a) b
