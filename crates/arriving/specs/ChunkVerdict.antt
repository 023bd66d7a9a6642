-- What the host is told of a chunk: the numbers that stand for the cases of its fate, of the call it names and of what happened.
use Rattle.std.specs.Prelude.{ℕ}
use Rattle.steps.specs.declared.verdict.Done.{Done}
use Rattle.steps.specs.declared.verdict.Fate.{Fate}
use Rattle.steps.specs.declared.verdict.Fate.TheVariants.{Accepted, Refused, Skipped, SkippedAndReported, Stopped, StoppedAndReported, Unread}
use Rattle.steps.specs.declared.verdict.Named.{Named}
use Rattle.steps.specs.declared.verdict.Named.TheVariants.{NoCall, AbortNoData, AbortViolation, ErrorStream, ErrorStale}
use Rattle.steps.specs.declared.verdict.Reason.{Reason}
use Rattle.steps.specs.declared.verdict.Reason.TheVariants.{Aborted, StaleCookie, HostName, ShutDown}
use Rattle.steps.specs.declared.verdict.Event.{Event}
use Rattle.steps.specs.declared.verdict.Event.TheVariants.{NoEvent, Up, Down, Restarted, Retagged}
use Rattle.steps.specs.declared.verdict.Told.{Told}
use Rattle.steps.specs.Verdict.{fate_number, named_cause}
use Rattle.arriving.specs.declared.verdict.Verdict.{Verdict}

-- the fate; its number, where it is refused, stands beside it
abbrev pub fate_code : Fate → ℕ
fate_code Accepted = 0
fate_code (Refused n) = 1
fate_code Skipped = 2
fate_code SkippedAndReported = 3
fate_code Stopped = 4
fate_code StoppedAndReported = 5
fate_code Unread = 6

-- the TSN of "ABORT with cause 9", the stream of "ERROR with cause 1"
abbrev pub named_value : Named → ℕ
named_value NoCall = 0
named_value (AbortNoData t) = t.0
named_value AbortViolation = 0
named_value (ErrorStream s) = s.0
named_value ErrorStale = 0

-- what happened: 0 nothing, 1 the association is up, from 2 to 5 why it is down, 6 the peer has restarted, 7 it has another tag
abbrev pub reason_code : Reason → ℕ
reason_code Aborted = 2
reason_code StaleCookie = 3
reason_code HostName = 4
reason_code ShutDown = 5

abbrev pub event_code : Event → ℕ
event_code NoEvent = 0
event_code Up = 1
event_code (Down r) = reason_code r
event_code Restarted = 6
event_code Retagged = 7

-- the verdict, in numbers, of the chunk that begins at `at`
abbrev pub codes_at : ℕ → Fate → Named → Event → Verdict
codes_at at f c e = record {
  at = at;
  value = named_value c;
  fate = fate_code f;
  number = fate_number f;
  cause = named_cause c;
  event = event_code e;
}

-- of one behind one that leaves the rest of the packet unread
abbrev pub unread_at : ℕ → Verdict
unread_at at = codes_at at Unread NoCall NoEvent

-- of one that makes nothing happen
abbrev pub told_at : ℕ → Told → Verdict
told_at at t = codes_at at t.fate t.named NoEvent

-- of any other
abbrev pub chunk_verdict : ℕ → Done → Verdict
chunk_verdict at d = codes_at at d.fate d.named d.event
