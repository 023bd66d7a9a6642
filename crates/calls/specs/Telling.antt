-- ERROR and HEARTBEAT, which leave the record as it is.
use Rattle.std.specs.Prelude.{ℕ, List, eqb}
use Rattle.scans.specs.Scan.{pick}
use Rattle.numbers.specs.declared.circle.StreamId.{StreamId}
use Rattle.chunks.specs.declared.cause.Cause.{Cause}
use Rattle.chunks.specs.declared.cause.Cause.TheVariants.{InvalidStream, StaleCookie}
use Rattle.chunks.specs.Types.{error_type}
use Rattle.chunks.specs.Cause.{caused, cause_code, information}
use Rattle.chunks.specs.Frame.{framed}
use Rattle.chunks.specs.HeartbeatChunk.{heartbeat_bytes}
use Rattle.states.specs.declared.call.Call.TheVariants.{Acknowledge, TellStale, Heartbeat}
use Rattle.association.specs.declared.ends.Association.{Association}
use Rattle.association.specs.Heads.{head_to}
use Rattle.association.specs.Bounds.{lacks_port, earlier}
use Rattle.calls.specs.Packet.{to_peer}
use Rattle.calls.specs.Answer.{is_short_out, barred, Plan, carrying_chunk, unless}

-- ERROR with one cause (section 3.3.10)
abbrev pub error_bytes : Cause → List ℕ
error_bytes c = framed error_type 0 (caused (cause_code c) (information c))

-- "14 for ERROR with cause 1"
unfoldable pub telling_stream : Association → StreamId → List ℕ → Plan
telling_stream a stream out = unless (barred a (is_short_out out) Acknowledge) a (carrying_chunk a (to_peer a.ends) (error_bytes (InvalidStream stream)))

-- 4 "port or tag", which only an INIT's is 0 (section 8.5.1 A)
unfoldable pub stale_refusal : ℕ → ℕ → ℕ → ℕ
stale_refusal local port tag = pick (lacks_port local port) 4 (pick (eqb tag 0) 4 0)

-- "a stale 27 with cause 3", to the port and tag of the cookie's peer
unfoldable pub telling_stale : Association → ℕ → ℕ → ℕ → List ℕ → Plan
telling_stale a port tag late out =
    unless (earlier (barred a (is_short_out out) TellStale) (stale_refusal a.ends.local_port port tag)) a
    (carrying_chunk a (head_to a.ends port tag) (error_bytes (StaleCookie late)))

-- section 8.3, with a value of the host
unfoldable pub beating : Association → List ℕ → List ℕ → Plan
beating a value out = unless (barred a (is_short_out out) Heartbeat) a (carrying_chunk a (to_peer a.ends) (heartbeat_bytes value))
