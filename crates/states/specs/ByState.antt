-- A row of a table by state: one cell for each of the eight, in this order.
use Rattle.states.specs.declared.state.State.{State}
use Rattle.states.specs.declared.state.State.TheVariants.{Closed, CookieWait, CookieEchoed, Established, ShutdownPending, ShutdownSent, ShutdownReceived, ShutdownAckSent}

abbrev pub by : {A : Type 0} → A → A → A → A → A → A → A → A → State → A
by closed wait echoed established pending sent received ackSent Closed = closed
by closed wait echoed established pending sent received ackSent (CookieWait n) = wait
by closed wait echoed established pending sent received ackSent (CookieEchoed n) = echoed
by closed wait echoed established pending sent received ackSent Established = established
by closed wait echoed established pending sent received ackSent ShutdownPending = pending
by closed wait echoed established pending sent received ackSent (ShutdownSent n) = sent
by closed wait echoed established pending sent received ackSent ShutdownReceived = received
by closed wait echoed established pending sent received ackSent (ShutdownAckSent n) = ackSent
