use mathlib.Core.Path.{refl}
use Rattle.steps.specs.VerdictLaws.{clear-quiet, error-quiet, pass-quiet}
use Rattle.flat.specs.Shown.{bare}
use Rattle.rows.specs.Lending.{standing}
use Rattle.rows.specs.TableRows.{is_starting}
use Rattle.rows.specs.TableRowsLaws.{data-quiet, row-late-data-quiet, sack-quiet, row-pending-quiet, places_in, heard-stands, receiving-stands, begun-stands, row-rowed, quiet-row-rowed}
use Rattle.rows.proofs.chunk.step.Goals as goal

pub returns-in-Refused-clause-left : goal.returns-in-Refused-clause-left
returns-in-Refused-clause-left c = quiet-row-rowed c.args.head (standing c.args.tables.now) c.args.space.now c.args.s.now c.args.b c.args.cookie.now c.row_met.ensures c.in-Refused.is refl (c.refused.ensures, refl)

pub returns-in-AnswerInit-clause-left : goal.returns-in-AnswerInit-clause-left
returns-in-AnswerInit-clause-left c = row-rowed c.args.head (standing c.args.tables.now) c.args.space.now c.args.s.now c.args.b c.args.cookie.now c.row_met.ensures c.in-AnswerInit.is (c.answer_init.ensures.0, refl, c.answer_init.ensures.1)

pub returns-in-TakeInitAck-clause-left : goal.returns-in-TakeInitAck-clause-left
returns-in-TakeInitAck-clause-left c = row-rowed c.args.head (standing c.args.tables.now) c.args.space.now c.args.s.now c.args.b c.args.cookie.now c.row_met.ensures c.in-TakeInitAck.is (let e = c.take_init_ack.ensures in (e.0, receiving-stands (standing c.args.tables.now) c.args.s.now (e.1, e.2, e.3), e.4))

pub returns-in-ReadEcho-clause-left : goal.returns-in-ReadEcho-clause-left
returns-in-ReadEcho-clause-left c = row-rowed c.args.head (standing c.args.tables.now) c.args.space.now c.args.s.now c.args.b c.args.cookie.now c.row_met.ensures c.in-ReadEcho.is (let e = c.read_echo.ensures in (e.0, begun-stands (standing c.args.tables.now) (is_starting c.args.head.state c.args.head.ends c.args.b.echoed c.args.s.now) (e.1, e.2, e.3, e.4, e.5), e.6))

pub returns-in-BecomeEstablished-clause-left : goal.returns-in-BecomeEstablished-clause-left
returns-in-BecomeEstablished-clause-left c = quiet-row-rowed c.args.head (standing c.args.tables.now) c.args.space.now c.args.s.now c.args.b c.args.cookie.now c.row_met.ensures c.in-BecomeEstablished.is refl (rw c.moved.ensures at c.accepted.ensures, refl)

pub returns-in-ReadData-clause-left : goal.returns-in-ReadData-clause-left
returns-in-ReadData-clause-left c = quiet-row-rowed c.args.head (standing c.args.tables.now) c.args.space.now c.args.s.now c.args.b c.args.cookie.now c.row_met.ensures c.in-ReadData.is (data-quiet c.args.head c.args.tables.now.held.now c.args.tables.now.next_in.now c.args.s.now) (let e = c.read_data.ensures in (e.0, heard-stands (standing c.args.tables.now) c.args.head c.args.s.now (e.1, e.2)))

pub returns-in-ReadLateData-clause-left : goal.returns-in-ReadLateData-clause-left
returns-in-ReadLateData-clause-left c = quiet-row-rowed c.args.head (standing c.args.tables.now) c.args.space.now c.args.s.now c.args.b c.args.cookie.now c.row_met.ensures c.in-ReadLateData.is (row-late-data-quiet c.args.head c.args.tables.now.held.now c.args.tables.now.next_in.now c.args.s.now) (let e = c.read_late_data.ensures in (e.0, heard-stands (standing c.args.tables.now) c.args.head c.args.s.now (e.1, e.2)))

pub returns-in-ReadSack-clause-left : goal.returns-in-ReadSack-clause-left
returns-in-ReadSack-clause-left c = quiet-row-rowed c.args.head (standing c.args.tables.now) c.args.space.now c.args.s.now c.args.b c.args.cookie.now c.row_met.ensures c.in-ReadSack.is (sack-quiet c.args.head c.args.tables.now.places.now c.args.s.now) (c.read_sack.ensures.0, λ i. places_in (standing c.args.tables.now) (c.read_sack.ensures.1 i))

pub returns-in-ReadSackPending-clause-left : goal.returns-in-ReadSackPending-clause-left
returns-in-ReadSackPending-clause-left c = quiet-row-rowed c.args.head (standing c.args.tables.now) c.args.space.now c.args.s.now c.args.b c.args.cookie.now c.row_met.ensures c.in-ReadSackPending.is (row-pending-quiet c.args.head c.args.tables.now.places.now c.args.s.now) (c.read_sack_pending.ensures.0, λ i. places_in (standing c.args.tables.now) (c.read_sack_pending.ensures.1 i))

pub returns-in-ReadSackReceived-clause-left : goal.returns-in-ReadSackReceived-clause-left
returns-in-ReadSackReceived-clause-left c = row-rowed c.args.head (standing c.args.tables.now) c.args.space.now c.args.s.now c.args.b c.args.cookie.now c.row_met.ensures c.in-ReadSackReceived.is (c.read_sack_received.ensures.0, λ i. places_in (standing c.args.tables.now) (c.read_sack_received.ensures.1 i), c.read_sack_received.ensures.2)

pub returns-in-EchoHeartbeat-clause-left : goal.returns-in-EchoHeartbeat-clause-left
returns-in-EchoHeartbeat-clause-left c = row-rowed c.args.head (standing c.args.tables.now) c.args.space.now c.args.s.now c.args.b c.args.cookie.now c.row_met.ensures c.in-EchoHeartbeat.is (c.echo_heartbeat.ensures.0, refl, c.echo_heartbeat.ensures.1)

-- cc, where refl is enough: so the edit tables_exchanged leaves this clause true, and `same` alone refuses it
pub returns-in-ClearTries-clause-left : goal.returns-in-ClearTries-clause-left
returns-in-ClearTries-clause-left c = quiet-row-rowed c.args.head (standing c.args.tables.now) c.args.space.now c.args.s.now c.args.b c.args.cookie.now c.row_met.ensures c.in-ClearTries.is (clear-quiet (bare c.args.head) c.args.s.now) (c.clear_tries.ensures, cc)

pub returns-in-BecomeClosed-clause-left : goal.returns-in-BecomeClosed-clause-left
returns-in-BecomeClosed-clause-left c = quiet-row-rowed c.args.head (standing c.args.tables.now) c.args.space.now c.args.s.now c.args.b c.args.cookie.now c.row_met.ensures c.in-BecomeClosed.is refl (c.become_closed.ensures, refl)

pub returns-in-PassError-clause-left : goal.returns-in-PassError-clause-left
returns-in-PassError-clause-left c = quiet-row-rowed c.args.head (standing c.args.tables.now) c.args.space.now c.args.s.now c.args.b c.args.cookie.now c.row_met.ensures c.in-PassError.is refl (c.accepted-in-PassError.ensures, refl)

pub returns-in-ReadError-clause-left : goal.returns-in-ReadError-clause-left
returns-in-ReadError-clause-left c = quiet-row-rowed c.args.head (standing c.args.tables.now) c.args.space.now c.args.s.now c.args.b c.args.cookie.now c.row_met.ensures c.in-ReadError.is (error-quiet (bare c.args.head) c.args.s.now) (c.read_error.ensures, refl)

pub returns-in-ReadShutdown-clause-left : goal.returns-in-ReadShutdown-clause-left
returns-in-ReadShutdown-clause-left c = row-rowed c.args.head (standing c.args.tables.now) c.args.space.now c.args.s.now c.args.b c.args.cookie.now c.row_met.ensures c.in-ReadShutdown.is (c.read_shutdown.ensures.0, λ i. places_in (standing c.args.tables.now) (c.read_shutdown.ensures.1 i), c.read_shutdown.ensures.2)

pub returns-in-CrossShutdown-clause-left : goal.returns-in-CrossShutdown-clause-left
returns-in-CrossShutdown-clause-left c = row-rowed c.args.head (standing c.args.tables.now) c.args.space.now c.args.s.now c.args.b c.args.cookie.now c.row_met.ensures c.in-CrossShutdown.is (c.cross_shutdown.ensures.0, λ i. places_in (standing c.args.tables.now) (c.cross_shutdown.ensures.1 i), c.cross_shutdown.ensures.2)

pub returns-in-RepeatShutdownAck-clause-left : goal.returns-in-RepeatShutdownAck-clause-left
returns-in-RepeatShutdownAck-clause-left c = row-rowed c.args.head (standing c.args.tables.now) c.args.space.now c.args.s.now c.args.b c.args.cookie.now c.row_met.ensures c.in-RepeatShutdownAck.is (c.repeat_shutdown_ack.ensures.0, λ i. places_in (standing c.args.tables.now) (c.repeat_shutdown_ack.ensures.1 i), c.repeat_shutdown_ack.ensures.2)

pub returns-in-ReflectComplete-clause-left : goal.returns-in-ReflectComplete-clause-left
returns-in-ReflectComplete-clause-left c = quiet-row-rowed c.args.head (standing c.args.tables.now) c.args.space.now c.args.s.now c.args.b c.args.cookie.now c.row_met.ensures c.in-ReflectComplete.is refl (c.reflect_complete.ensures, refl)

pub returns-in-SendComplete-clause-left : goal.returns-in-SendComplete-clause-left
returns-in-SendComplete-clause-left c = quiet-row-rowed c.args.head (standing c.args.tables.now) c.args.space.now c.args.s.now c.args.b c.args.cookie.now c.row_met.ensures c.in-SendComplete.is refl (c.send_complete.ensures, refl)

pub returns-in-BecomeComplete-clause-left : goal.returns-in-BecomeComplete-clause-left
returns-in-BecomeComplete-clause-left c = quiet-row-rowed c.args.head (standing c.args.tables.now) c.args.space.now c.args.s.now c.args.b c.args.cookie.now c.row_met.ensures c.in-BecomeComplete.is refl (c.become_complete.ensures, refl)

pub returns-in-PassUnknown-clause-left : goal.returns-in-PassUnknown-clause-left
returns-in-PassUnknown-clause-left c = quiet-row-rowed c.args.head (standing c.args.tables.now) c.args.space.now c.args.s.now c.args.b c.args.cookie.now c.row_met.ensures c.in-PassUnknown.is (pass-quiet (bare c.args.head) _) (c.pass_unknown.ensures, refl)

pub returns-in-TellUnknown-clause-left : goal.returns-in-TellUnknown-clause-left
returns-in-TellUnknown-clause-left c = row-rowed c.args.head (standing c.args.tables.now) c.args.space.now c.args.s.now c.args.b c.args.cookie.now c.row_met.ensures c.in-TellUnknown.is (c.tell_unknown.ensures.0, refl, c.tell_unknown.ensures.1)

pub returns-in-RepeatAck-clause-left : goal.returns-in-RepeatAck-clause-left
returns-in-RepeatAck-clause-left c = row-rowed c.args.head (standing c.args.tables.now) c.args.space.now c.args.s.now c.args.b c.args.cookie.now c.row_met.ensures c.in-RepeatAck.is (c.repeat_ack.ensures.0, refl, c.repeat_ack.ensures.1)
