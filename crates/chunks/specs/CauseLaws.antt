-- Laws of error causes. Assumes nothing.
use Rattle.std.specs.Prelude.{◌≤◌, length}
use Rattle.std.proofs.Common.{arith}
use Rattle.chunks.specs.declared.cause.Cause.{Cause}
use Rattle.chunks.specs.declared.cause.Cause.TheVariants.{InvalidStream, StaleCookie, NoUserData, UserAbort, ProtocolViolation}
use Rattle.chunks.specs.Cause.{information}

-- none carries more than one row
pub information-small : (c : Cause) → length (information c) ≤ 4
unfolding information
information-small (InvalidStream s) = omega arith
information-small (StaleCookie late) = omega arith
information-small (NoUserData t) = omega arith
information-small UserAbort = omega arith
information-small ProtocolViolation = omega arith
