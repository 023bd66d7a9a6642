-- The head as a host keeps it: the state is two numbers, and a flag is a byte.
use Rattle.std.specs.Prelude.{ℕ, Bool, true, false, not, eqb}
use Rattle.scans.specs.Scan.{pick, any}
use Rattle.states.specs.declared.state.State.{State}
use Rattle.states.specs.declared.state.State.TheVariants.{Closed, CookieWait, CookieEchoed, Established, ShutdownPending, ShutdownSent, ShutdownReceived, ShutdownAckSent}
use Rattle.flat.specs.declared.head.Head.{Head}
use Rattle.kept.specs.declared.head.Kept.{Kept}
use Rattle.kept.specs.Flags.{is_junk}
use Rattle.kept.specs.Parts.{unpacked_keeping, packed_keeping, unpacked_sender, packed_sender}

-- "The eight of RFC 9260", in the order of a life
abbrev pub state_number : State → ℕ
state_number Closed = 0
state_number (CookieWait n) = 1
state_number (CookieEchoed n) = 2
state_number Established = 3
state_number ShutdownPending = 4
state_number (ShutdownSent n) = 5
state_number ShutdownReceived = 6
state_number (ShutdownAckSent n) = 7

-- "each waiting state carries its count of tries"; the others have 0
abbrev pub tries_of : State → ℕ
tries_of Closed = 0
tries_of (CookieWait n) = n
tries_of (CookieEchoed n) = n
tries_of Established = 0
tries_of ShutdownPending = 0
tries_of (ShutdownSent n) = n
tries_of ShutdownReceived = 0
tries_of (ShutdownAckSent n) = n

-- the state of two numbers, if they are those of one
abbrev pub state_of : ℕ → ℕ → State
state_of k n =
    pick (eqb k 1) (CookieWait n) (pick (eqb k 2) (CookieEchoed n) (pick (eqb k 3) Established (pick (eqb k 4) ShutdownPending
    (pick (eqb k 5) (ShutdownSent n) (pick (eqb k 6) ShutdownReceived (pick (eqb k 7) (ShutdownAckSent n) Closed))))))

-- the two numbers are those of a state
unfoldable pub is_state : ℕ → ℕ → Bool
is_state k n = pick (eqb (state_number (state_of k n)) k) (eqb (tries_of (state_of k n)) n) false

-- a flag is neither 0 nor 1
unfoldable pub has_junk : Kept → Bool
has_junk k = pick (is_junk k.sender.path.running) true (pick (is_junk k.sender.path.clock.sampled) true (any is_junk k.keeping.come))

-- the head is named: its two numbers name a state, and each flag yes or no
unfoldable pub is_named : Kept → Bool
is_named k = pick (is_state k.state k.tries) (not (has_junk k)) false

-- one thing where it is, another where it is not
abbrev pub named : {A : Type 0} → Kept → A → A → A
named k x y = pick (is_named k) x y

-- the head that the rules are about, and that which the host keeps
unfoldable pub unpacked : Kept → Head
unpacked k = record {
  state = state_of k.state k.tries;
  ends = k.ends;
  keeping = unpacked_keeping k.keeping;
  sender = unpacked_sender k.sender;
  cookie_len = k.cookie_len;
}

unfoldable pub packed : Head → Kept
packed h = record {
  state = state_number h.state;
  tries = tries_of h.state;
  cookie_len = h.cookie_len;
  ends = h.ends;
  keeping = packed_keeping h.keeping;
  sender = packed_sender h.sender;
}
