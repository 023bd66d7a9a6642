-- The promise leaves one outcome: two results that a contract allows are equal.
-- Assumes nothing.
use mathlib.Core.Path.{◌≡◌, sym, ◌∙◌}
use Rattle.crc32c_register.proofs.half.after_4.Reads as after-4-reads

pub after-4-unique : (κs : _) (a : _) (r q : _) (s t : _) → after-4-reads.Post κs a r s → after-4-reads.Post κs a q t → r ≡ q
after-4-unique κs a r q s t x y = x ∙ sym y
