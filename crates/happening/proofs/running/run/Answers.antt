use native.Mathlib.Omega.{arith}
use borrow.Author.Rules.{rules}
use Rattle.happening.specs.TableHappening.{table_happened}
use Rattle.happening.specs.EventShownLaws.{left-shows}
use Rattle.happening.proofs.Types.{sized, next-within}
use Rattle.happening.proofs.running.run.Goals as goal

pub returns-in-Packet : goal.returns-in-Packet
unfolding table_happened
returns-in-Packet c = let e = left-shows _ _ _ (rw c.in-Packet.is (c.packet.ensures _)) (rw c.in-Packet.is (sized c.args.a _ c.well_formed.0, λ i. omega (arith, c.type_inv.input i))) in record { out_after = e.0; event_shows = e.1 }

pub returns-in-Associate : goal.returns-in-Associate
unfolding table_happened
returns-in-Associate c = let e = left-shows _ _ _ (rw c.in-Associate.is (c.associate.ensures _ _ _ c.args.input.now c.args.cookie.now)) (rw c.in-Associate.is tt) in record { out_after = e.0; event_shows = e.1 }

pub returns-in-HandIn : goal.returns-in-HandIn
unfolding table_happened
returns-in-HandIn c = let e = left-shows _ _ _ (rw c.in-HandIn.is (c.hand_in.ensures _ _ c.args.cookie.now _)) (rw c.in-HandIn.is ((sized c.args.a _ c.well_formed.0).places, search rules, search rules)) in record { out_after = e.0; event_shows = e.1 }

pub returns-in-Transmit : goal.returns-in-Transmit
unfolding table_happened
returns-in-Transmit c = let e = left-shows _ _ _ (rw c.in-Transmit.is (c.transmit.ensures _ _ c.args.input.now c.args.cookie.now)) (rw c.in-Transmit.is ((sized c.args.a _ c.well_formed.0).places, (sized c.args.a _ c.well_formed.0).next_out, next-within c.args.a _ c.well_formed.0)) in record { out_after = e.0; event_shows = e.1 }

pub returns-in-Take : goal.returns-in-Take
unfolding table_happened
returns-in-Take c = let e = left-shows _ _ _ (rw c.in-Take.is (c.take.ensures _ _ c.args.input.now c.args.cookie.now)) (rw c.in-Take.is ((sized c.args.a _ c.well_formed.0).held, (sized c.args.a _ c.well_formed.0).next)) in record { out_after = e.0; event_shows = e.1 }

pub returns-in-Acknowledge : goal.returns-in-Acknowledge
unfolding table_happened
returns-in-Acknowledge c = let e = left-shows _ _ _ (rw c.in-Acknowledge.is (c.acknowledge.ensures _ _ _ c.args.input.now c.args.cookie.now)) (rw c.in-Acknowledge.is tt) in record { out_after = e.0; event_shows = e.1 }

pub returns-in-T1 : goal.returns-in-T1
unfolding table_happened
returns-in-T1 c = let e = left-shows _ _ _ (rw c.in-T1.is (c.first_timer.ensures _ _ _ c.args.input.now c.args.cookie.now)) (rw c.in-T1.is tt) in record { out_after = e.0; event_shows = e.1 }

pub returns-in-T2 : goal.returns-in-T2
unfolding table_happened
returns-in-T2 c = let e = left-shows _ _ _ (rw c.in-T2.is (c.second_timer.ensures _ _ _ c.args.input.now c.args.cookie.now)) (rw c.in-T2.is tt) in record { out_after = e.0; event_shows = e.1 }

pub returns-in-T3 : goal.returns-in-T3
unfolding table_happened
returns-in-T3 c = let e = left-shows _ _ _ (rw c.in-T3.is (c.third_timer.ensures _ _ _ c.args.input.now c.args.cookie.now _)) (rw c.in-T3.is (sized c.args.a _ c.well_formed.0).places) in record { out_after = e.0; event_shows = e.1 }

pub returns-in-Shutdown : goal.returns-in-Shutdown
unfolding table_happened
returns-in-Shutdown c = let e = left-shows _ _ _ (rw c.in-Shutdown.is (c.shutdown.ensures _ _ _ c.args.input.now c.args.cookie.now)) (rw c.in-Shutdown.is tt) in record { out_after = e.0; event_shows = e.1 }

pub returns-in-Abort : goal.returns-in-Abort
unfolding table_happened
returns-in-Abort c = let e = left-shows _ _ _ (rw c.in-Abort.is (c.abort.ensures _ _ _ c.args.input.now c.args.cookie.now)) (rw c.in-Abort.is tt) in record { out_after = e.0; event_shows = e.1 }

pub returns-in-ErrorStream : goal.returns-in-ErrorStream
unfolding table_happened
returns-in-ErrorStream c = let e = left-shows _ _ _ (rw c.in-ErrorStream.is (c.error_stream.ensures _ _ _ c.args.input.now c.args.cookie.now)) (rw c.in-ErrorStream.is tt) in record { out_after = e.0; event_shows = e.1 }

pub returns-in-ErrorStale : goal.returns-in-ErrorStale
unfolding table_happened
returns-in-ErrorStale c = let e = left-shows _ _ _ (rw c.in-ErrorStale.is (c.error_stale.ensures _ _ _ c.args.input.now c.args.cookie.now)) (rw c.in-ErrorStale.is tt) in record { out_after = e.0; event_shows = e.1 }

pub returns-in-Heartbeat : goal.returns-in-Heartbeat
unfolding table_happened
returns-in-Heartbeat c = let e = left-shows _ _ _ (rw c.in-Heartbeat.is (c.heartbeat.ensures _ _ _ c.args.input.now c.args.cookie.now)) (rw c.in-Heartbeat.is tt) in record { out_after = e.0; event_shows = e.1 }

pub returns-in-Sample : goal.returns-in-Sample
unfolding table_happened
returns-in-Sample c = let e = left-shows _ _ _ (rw c.in-Sample.is (c.sample.ensures _ _ _ c.args.input.now c.args.cookie.now _)) (rw c.in-Sample.is tt) in record { out_after = e.0; event_shows = e.1 }

pub returns-in-Unknown : goal.returns-in-Unknown
unfolding table_happened
returns-in-Unknown c = let e = left-shows _ _ _ (rw c.in-Unknown.is (c.unknown.ensures _ _ _ c.args.input.now c.args.cookie.now _)) (rw c.in-Unknown.is tt) in record { out_after = e.0; event_shows = e.1 }
