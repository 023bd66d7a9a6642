-- Why the host aborts, as the number of an error cause.
use Rattle.std.specs.Prelude.{ℕ, eqb}
use Rattle.scans.specs.Scan.{pick}
use Rattle.calls.specs.declared.closing.Reason.{Reason}
use Rattle.calls.specs.declared.closing.Reason.TheVariants.{User, NoData, Violation}

-- "9 calls for ABORT with cause 9, 12 and 16 with cause 13"; the host's own has cause 12, as which any other number counts
unfoldable pub reason_of : ℕ → ℕ → Reason
reason_of cause tsn = pick (eqb cause 9) (NoData (record { 0 = tsn })) (pick (eqb cause 13) Violation User)
