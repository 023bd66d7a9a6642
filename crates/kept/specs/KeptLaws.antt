-- Packing and unpacking undo each other. Assumes nothing.
use Rattle.std.specs.Prelude.{◌≡◌, refl, Bool, true, false, not, map, eqb}
use Rattle.std.proofs.Common.{eqb-true, eq-eqb}
use mir.Val.{bool_byte}
use Rattle.scans.specs.Scan.{any}
use Rattle.scans.specs.Each.{clash, after-so, neither}
use Rattle.states.specs.declared.state.State.{State}
use Rattle.states.specs.declared.state.State.TheVariants.{Closed, CookieWait, CookieEchoed, Established, ShutdownPending, ShutdownSent, ShutdownReceived, ShutdownAckSent}
use Rattle.numbers.specs.declared.keeping.Keeping.{Keeping}
use Rattle.path.specs.declared.path.Path.{Path}
use Rattle.sender.specs.declared.Sender.{Sender}
use Rattle.flat.specs.declared.head.Head.{Head}
use Rattle.kept.specs.declared.head.Kept.{Kept}
use Rattle.kept.specs.Flags.{is_yes, is_junk}
use Rattle.kept.specs.FlagsLaws.{flag-back, byte-clean, byte-back, flags-back, bytes-clean, bytes_back}
use Rattle.kept.specs.Parts.{unpacked_keeping, packed_keeping, unpacked_path, packed_path, unpacked_sender, packed_sender}
use Rattle.kept.specs.Kept.{state_number, tries_of, state_of, is_state, has_junk, is_named, unpacked, packed}

state-back : (s : State) → state_of (state_number s) (tries_of s) ≡ s
state-back Closed = refl
state-back (CookieWait n) = refl
state-back (CookieEchoed n) = refl
state-back Established = refl
state-back ShutdownPending = refl
state-back (ShutdownSent n) = refl
state-back ShutdownReceived = refl
state-back (ShutdownAckSent n) = refl

keeping-back : (k : Keeping) → unpacked_keeping (packed_keeping k) ≡ k
keeping-back k = λ i. record { point = k.point; come = flags-back k.come i; dups = k.dups; listed = k.listed }

path-back : (p : Path) → unpacked_path (packed_path p) ≡ p
path-back p = λ i. record {
  control = p.control;
  clock = record { sampled = flag-back p.clock.sampled i; srtt = p.clock.srtt; rttvar = p.clock.rttvar; rto = p.clock.rto };
  flight = p.flight;
  running = flag-back p.running i;
  until = p.until;
  tries = p.tries;
}

sender-back : (s : Sender) → unpacked_sender (packed_sender s) ≡ s
sender-back s = λ i. record { acked = s.acked; next_tsn = s.next_tsn; advertised = s.advertised; oldest = s.oldest; path = path-back s.path i; mode = s.mode }

-- a head that a call gave back is read as it was
pub unpack-pack : (h : Head) → unpacked (packed h) ≡ h
unfolding unpacked packed
unpack-pack h = λ i. record { state = state-back h.state i; ends = h.ends; keeping = keeping-back h.keeping i; sender = sender-back h.sender i; cookie_len = h.cookie_len }

state-named : (s : State) → is_state (state_number s) (tries_of s) ≡ true
unfolding is_state
state-named s = rw (state-back s, eq-eqb (state_number s) _ refl) (eq-eqb (tries_of s) _ refl)

pack-clean : (h : Head) → has_junk (packed h) ≡ false
unfolding has_junk packed
pack-clean h = rw (byte-clean h.sender.path.running, byte-clean h.sender.path.clock.sampled) (bytes-clean h.keeping.come)

-- and it is named
pub pack-named : (h : Head) → is_named (packed h) ≡ true
unfolding is_named packed
pack-named h = rw (state-named h.state, pack-clean h)

-- what every number and flag of a named head tells
pub record StateNamed (k : Kept) : Type 0 where
  pub number : state_number (state_of k.state k.tries) ≡ k.state
  pub tries : tries_of (state_of k.state k.tries) ≡ k.tries
  pub running : bool_byte (is_yes k.sender.path.running) ≡ k.sender.path.running
  pub sampled : bool_byte (is_yes k.sender.path.clock.sampled) ≡ k.sender.path.clock.sampled
  pub come : map bool_byte (map is_yes k.keeping.come) ≡ k.keeping.come

not-true : (b : Bool) → not b ≡ true → b ≡ false
not-true true e = clash e
not-true false e = refl

named_by : (k : Kept) → is_named k ≡ true → StateNamed k
unfolding is_named is_state has_junk
named_by k h =
    let a = after-so (is_state k.state k.tries) (not (has_junk k)) h in
    let b = after-so (eqb (state_number (state_of k.state k.tries)) k.state) (eqb (tries_of (state_of k.state k.tries)) k.tries) a.0 in
    let c = neither (is_junk k.sender.path.running) _ (not-true (has_junk k) a.1) in
    let d = neither (is_junk k.sender.path.clock.sampled) (any is_junk k.keeping.come) c.1 in
    record {
      number = eqb-true (state_number (state_of k.state k.tries)) k.state b.0;
      tries = eqb-true (tries_of (state_of k.state k.tries)) k.tries b.1;
      running = byte-back k.sender.path.running c.0;
      sampled = byte-back k.sender.path.clock.sampled d.0;
      come = bytes_back k.keeping.come d.1;
    }

-- what is named is given back as it came, where nothing changes it
pub pack-unpack : (k : Kept) → is_named k ≡ true → packed (unpacked k) ≡ k
unfolding unpacked packed
pack-unpack k h =
    let n = named_by k h in
    λ i. record {
      state = n.number i;
      tries = n.tries i;
      cookie_len = k.cookie_len;
      ends = k.ends;
      keeping = record { point = k.keeping.point; come = n.come i; dups = k.keeping.dups; listed = k.keeping.listed };
      sender = record {
        acked = k.sender.acked;
        next_tsn = k.sender.next_tsn;
        advertised = k.sender.advertised;
        oldest = k.sender.oldest;
        path = record {
          control = k.sender.path.control;
          clock = record {
            sampled = n.sampled i;
            srtt = k.sender.path.clock.srtt;
            rttvar = k.sender.path.clock.rttvar;
            rto = k.sender.path.clock.rto;
          };
          flight = k.sender.path.flight;
          running = n.running i;
          until = k.sender.path.until;
          tries = k.sender.path.tries;
        };
        mode = k.sender.mode;
      };
    }
