-- T1, T2, T3 and a measured round trip: "Tries: 8 for T1, 10 for T2 and T3; the next expiry closes and reports".
use Rattle.std.specs.Prelude.{ℕ, false, List, eqb, take, drop}
use Rattle.scans.specs.Scan.{pick}
use Rattle.path.specs.Sizes.{rail_sizes, sizes_of}
use Rattle.chunks.specs.ShutdownChunk.{shutdown_bytes, shutdown_ack_bytes}
use Rattle.chunks.specs.CookieChunk.{cookie_echo_bytes}
use Rattle.sending.specs.declared.expiring.Expiry.{Expiry}
use Rattle.sending.specs.Sending.{sending_backed_off, sending_sampled}
use Rattle.sending.specs.Expiry.{sending_expired}
use Rattle.states.specs.declared.state.State.{State}
use Rattle.states.specs.declared.state.State.TheVariants.{Closed, CookieWait, CookieEchoed, Established, ShutdownPending, ShutdownSent, ShutdownReceived, ShutdownAckSent}
use Rattle.states.specs.declared.call.Call.{Call}
use Rattle.states.specs.declared.call.Call.TheVariants.{ThirdTimer, Sample}
use Rattle.states.specs.Tries.{tried_again, is_closed}
use Rattle.association.specs.declared.ends.Association.{Association}
use Rattle.association.specs.declared.ends.Cookie.{Cookie}
use Rattle.association.specs.Fresh.{with_state, with_sending}
use Rattle.calls.specs.Packet.{head_to_peer, to_peer}
use Rattle.calls.specs.Answer.{is_short_out, barred, Plan, refusing, quietly, carrying_chunk, closing_plan, unless}
use Rattle.calls.specs.Opening.{init_bytes}

-- the cookie that is kept
abbrev pub cookie_resent : Cookie → List ℕ
cookie_resent c = take c.len (drop 0 c.bytes)

-- what a state waits for is asked again (sections 5.1 and 9.2), a SHUTDOWN with the point as it is now
abbrev pub repeating : State → Association → Plan
repeating (CookieWait n) a = carrying_chunk a (head_to_peer a.ends 0) (init_bytes a)
repeating (CookieEchoed n) a = carrying_chunk a (to_peer a.ends) (cookie_echo_bytes (cookie_resent a.cookie))
repeating (ShutdownSent n) a = carrying_chunk a (to_peer a.ends) (shutdown_bytes a.receiving.keeping.point)
repeating (ShutdownAckSent n) a = carrying_chunk a (to_peer a.ends) shutdown_ack_bytes
repeating Closed a = quietly a
repeating Established a = quietly a
repeating ShutdownPending a = quietly a
repeating ShutdownReceived a = quietly a

-- one try more, and RTO doubled as T3 does (sections 5.1.6 and 9.2 follow 6.3), in both books alike
unfoldable pub association_backed_off : Association → State → Association
association_backed_off a s = with_sending (with_state a s) (sending_backed_off rail_sizes a.sending)

-- the next expiry closes; one before it asks again
unfoldable pub tried_to : Association → State → Plan
tried_to a s = pick (is_closed s) (closing_plan a) (repeating s (association_backed_off a s))

-- T1 and T2 alike
unfoldable pub expiring : Association → Call → List ℕ → Plan
expiring a call out = unless (barred a (is_short_out out) call) a (tried_to a (tried_again a.state))

-- T3: "with nothing outstanding it is answered 7"
abbrev pub overdue_plan : Association → Expiry → Plan
overdue_plan a e = pick (eqb e.number 0) (pick e.over (closing_plan a) (quietly (with_sending a e.sending))) (refusing a e.number)

-- T3: "all outstanding marked", and nothing is sent by this call
unfoldable pub expiring_third : Association → Plan
expiring_third a = unless (barred a false ThirdTimer) a (overdue_plan a (sending_expired (sizes_of a.sending.mode) a.sending))

-- a round trip of so many milliseconds, in both books alike
unfoldable pub sampling : Association → ℕ → Plan
sampling a sample = unless (barred a false Sample) a (quietly (with_sending a (sending_sampled rail_sizes a.sending sample)))
