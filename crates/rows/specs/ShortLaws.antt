-- The two chunks that refuse a restart are short. Assumes nothing.
use Rattle.std.specs.Prelude.{◌+◌, ◌≤◌, [], length}
use Rattle.std.proofs.Common.{arith}
use Rattle.chunks.specs.Cause.{caused}
use Rattle.chunks.specs.FrameLaws.{framed-long}
use Rattle.chunks.specs.ShutdownChunk.{shutdown_ack_bytes}
use Rattle.steps.specs.Meeting.{shutting_bytes}

pub shut-short : length shutdown_ack_bytes ≤ 4
shut-short = omega (arith, framed-long 8 0 [])

pub shutting-short : length shutting_bytes ≤ 8
shutting-short = omega (arith, framed-long 9 0 (caused 10 []))

pub both-short : length shutdown_ack_bytes + length shutting_bytes ≤ 65532
both-short = omega (arith, shut-short, shutting-short)
