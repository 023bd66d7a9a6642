-- The host's word on an echoed cookie, as a number.
use Rattle.std.specs.Prelude.{ℕ, eqb}
use Rattle.scans.specs.Scan.{pick}
use Rattle.steps.specs.declared.lent.Made.{Made}
use Rattle.steps.specs.declared.lent.Echoed.{Echoed}
use Rattle.steps.specs.declared.lent.Echoed.TheVariants.{Bad, Stale, Good}

-- "reports an echoed one as bad, or as stale or good with the tags, streams, initial TSNs and window it was made from"
unfoldable pub echoed_of : ℕ → Made → Echoed
echoed_of word made = pick (eqb word 1) (Stale made) (pick (eqb word 2) (Good made) Bad)
