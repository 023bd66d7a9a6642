use Prim.Native.Nat.{ℕ}
use mathlib.Core.Path.{ap}
use mathlib.Core.List.{List}
use Rattle.chunks.specs.Frame.{framed}
use Rattle.chunks.specs.FrameLaws.{wrote_as}
use Rattle.chunks.specs.Cause.{caused, information}
use Rattle.chunks.proofs.cause.write_cause.Goals as goal

pub returns-in-InvalidStream : goal.returns-in-InvalidStream
unfolding information
returns-in-InvalidStream c = rw c.in-InvalidStream.is (wrote_as (ap (λ (x : List ℕ). framed c.args.kind c.args.flags (caused 1 x)) c.halves.ensures) c.write_row.ensures)

pub returns-in-StaleCookie : goal.returns-in-StaleCookie
unfolding information
returns-in-StaleCookie c = rw c.in-StaleCookie.is c.write_row-in-StaleCookie.ensures

pub returns-in-NoUserData : goal.returns-in-NoUserData
unfolding information
returns-in-NoUserData c = rw c.in-NoUserData.is c.write_row-in-NoUserData.ensures

pub returns-in-UserAbort : goal.returns-in-UserAbort
unfolding information
returns-in-UserAbort c = rw c.in-UserAbort.is c.write_caused.ensures

pub returns-in-ProtocolViolation : goal.returns-in-ProtocolViolation
unfolding information
returns-in-ProtocolViolation c = rw c.in-ProtocolViolation.is c.write_caused-in-ProtocolViolation.ensures
