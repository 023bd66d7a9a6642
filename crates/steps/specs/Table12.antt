-- Table 12 of RFC 9260 section 5.2.4, as it stands there. That `action_of` says the same is the law `table-12`.
use Rattle.std.specs.Prelude.{Bool, true, false, List, [], ◌∷◌, eqb}
use Rattle.scans.specs.Scan.{pick}
use Rattle.states.specs.declared.state.State.{State}
use Rattle.states.specs.Calls.{knows_peer}
use Rattle.association.specs.declared.ends.Ends.{Ends}
use Rattle.steps.specs.declared.lent.Made.{Made}
use Rattle.steps.specs.declared.meeting.Action.{Action}
use Rattle.steps.specs.declared.meeting.Action.TheVariants.{Restart, Retag, Late, Again, Outside}

-- the legend: X "does not match the existing TCB", M "matches the existing TCB", 0 "unknown: Peer's Tag not known yet / no Tie-Tag in the State Cookie",
-- A "all cases, i.e. M, X, or 0"
pub data Mark : Type 0 where
  x-mark : Mark
  m-mark : Mark
  o-mark : Mark
  a-mark : Mark

-- what is found fits what the table has
abbrev pub fits : Mark → Mark → Bool
fits a-mark found = true
fits x-mark x-mark = true
fits x-mark m-mark = false
fits x-mark o-mark = false
fits x-mark a-mark = false
fits m-mark x-mark = false
fits m-mark m-mark = true
fits m-mark o-mark = false
fits m-mark a-mark = false
fits o-mark x-mark = false
fits o-mark m-mark = false
fits o-mark o-mark = true
fits o-mark a-mark = false

-- Local Tag, Peer's Tag, Local-Tie-Tag, Peer's-Tie-Tag
pub record TagMarks : Type 0 where
  pub local : Mark
  pub peer : Mark
  pub local_tie : Mark
  pub peer_tie : Mark

abbrev pub marks : Mark → Mark → Mark → Mark → TagMarks
marks l p t u = record { local = l; peer = p; local_tie = t; peer_tie = u }

pub record Line : Type 0 where
  pub when : TagMarks
  pub action : Action

abbrev line : Mark → Mark → Mark → Mark → Action → Line
line l p t u x = record { when = marks l p t u; action = x }

-- (A), (B), (B), (C), (D)
abbrev pub table12 : List Line
table12 =
    line x-mark x-mark m-mark m-mark Restart
    ∷ line m-mark x-mark a-mark a-mark Retag
    ∷ line m-mark o-mark a-mark a-mark Retag
    ∷ line x-mark m-mark o-mark o-mark Late
    ∷ line m-mark m-mark a-mark a-mark Again
    ∷ []

abbrev pub is_met : TagMarks → TagMarks → Bool
is_met row found =
    pick (fits row.local found.local)
    (pick (fits row.peer found.peer)
    (pick (fits row.local_tie found.local_tie) (fits row.peer_tie found.peer_tie) false) false) false

-- the first line that is met, or "any case not shown"
abbrev pub looked_up : List Line → TagMarks → Action
looked_up [] found = Outside
looked_up (row ∷ rows) found = pick (is_met row.when found) row.action (looked_up rows found)

-- what is found of a cookie
abbrev pub tag_mark : Bool → Mark
tag_mark matches = pick matches m-mark x-mark

abbrev pub peer_mark : Bool → Bool → Mark
peer_mark known matches = pick known (tag_mark matches) o-mark

abbrev pub tie_mark : Bool → Bool → Mark
tie_mark none matches = pick none o-mark (tag_mark matches)

abbrev pub tags_found : State → Ends → Made → TagMarks
tags_found s e m =
    marks (tag_mark (eqb m.my_tag e.my_tag)) (peer_mark (knows_peer s) (eqb m.peer_tag e.peer_tag))
    (tie_mark (eqb m.my_tie 0) (eqb m.my_tie e.my_tag)) (tie_mark (eqb m.peer_tie 0) (eqb m.peer_tie e.peer_tag))
