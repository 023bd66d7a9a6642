-- The bounds of a record are the same in both books. Assumes nothing.
use Rattle.std.specs.Prelude.{ℕ, ◌≤◌, ◌≡◌}
use Rattle.numbers.specs.Profile.{rail}
use Rattle.path.specs.Sizes.{rail_sizes}
use Rattle.sending.specs.BookLaws.{blind-within}
use Rattle.association.specs.declared.ends.Association.{Association}
use Rattle.association.specs.Fresh.{with_mode}
use Rattle.association.specs.Bounds.{is_sound}

pub blind-sound : (a : Association) (m : ℕ) → m ≤ 1 → a.sending.mode ≤ 1 → is_sound (with_mode a m) ≡ is_sound a
unfolding is_sound
blind-sound a m h k = rw (blind-within rail_sizes rail a.sending m h k)
