-- The host closes (RFC 9260 section 9).
use Rattle.std.specs.Prelude.{ℕ, List}
use Rattle.scans.specs.Scan.{pick}
use Rattle.chunks.specs.declared.cause.Cause.{Cause}
use Rattle.chunks.specs.declared.cause.Cause.TheVariants.{NoUserData, UserAbort, ProtocolViolation}
use Rattle.chunks.specs.Types.{abort_type}
use Rattle.chunks.specs.Cause.{caused, cause_code, information}
use Rattle.chunks.specs.Frame.{framed}
use Rattle.chunks.specs.ShutdownChunk.{shutdown_bytes}
use Rattle.sending.specs.Sending.{is_bare}
use Rattle.states.specs.declared.state.State.TheVariants.{Closed, ShutdownPending, ShutdownSent}
use Rattle.states.specs.declared.call.Call.TheVariants.{Shutdown, Abort}
use Rattle.states.specs.Calls.{knows_peer}
use Rattle.association.specs.declared.ends.Association.{Association}
use Rattle.association.specs.Fresh.{with_state}
use Rattle.calls.specs.declared.closing.Reason.{Reason}
use Rattle.calls.specs.declared.closing.Reason.TheVariants.{User, NoData, Violation}
use Rattle.calls.specs.Packet.{to_peer}
use Rattle.calls.specs.Answer.{is_short_out, barred, Plan, quietly, carrying_chunk, unless}

-- section 9.2: SHUTDOWN goes out once nothing is left to send
unfoldable pub shutting : Association → List ℕ → Plan
shutting a out =
    unless (barred a (is_short_out out) Shutdown) a
    (pick (is_bare a.sending)
    (carrying_chunk (with_state a (ShutdownSent 0)) (to_peer a.ends) (shutdown_bytes a.receiving.keeping.point))
    (quietly (with_state a ShutdownPending)))

-- "9 calls for ABORT with cause 9, 12 and 16 with cause 13"; the host's own has cause 12
abbrev pub abort_cause : Reason → Cause
abort_cause User = UserAbort
abort_cause (NoData t) = NoUserData t
abort_cause Violation = ProtocolViolation

-- ABORT with its cause (section 3.3.7)
abbrev pub abort_bytes : Reason → List ℕ
abort_bytes why = framed abort_type 0 (caused (cause_code (abort_cause why)) (information (abort_cause why)))

-- section 9.1; where no tag of the peer is known, in COOKIE-WAIT, nothing goes out
abbrev pub aborted : Association → Reason → Plan
aborted a why =
    pick (knows_peer a.state)
    (carrying_chunk (with_state a Closed) (to_peer a.ends) (abort_bytes why))
    (quietly (with_state a Closed))

-- the host's own ABORT, or one that a verdict calls for
unfoldable pub aborting : Association → Reason → List ℕ → Plan
aborting a why out = unless (barred a (is_short_out out) Abort) a (aborted a why)
