-- The gap blocks of a SACK, as offsets from its point.
use Rattle.std.specs.Prelude.{ℕ, ◌+◌, ◌-◌, Bool, true, false, get_or, ltb, leb}
use Rattle.numbers.specs.declared.keeping.Blocks.{Blocks}
use Rattle.numbers.specs.Profile.{gap_blocks, rail}
use Rattle.scans.specs.Scan.{pick}
use Rattle.scans.specs.Upto.{smaller, any_upto}

-- how many the arrays list: "64 gap blocks" at most
abbrev pub held : Blocks → ℕ
held b = smaller b.count (gap_blocks rail)

-- the end of the block before, 0 before the first
unfoldable pub last_end : Blocks → ℕ → ℕ
last_end b j = pick (ltb j 1) 0 (get_or b.ends (j - 1) 0)

-- "a block that starts below 2, ends before its start, or touches or overlaps the one before", or "that names a TSN never sent": farther
-- than the room above the point
unfoldable pub is_ill : Blocks → ℕ → ℕ → Bool
is_ill b room j =
    pick (ltb (get_or b.starts j 0) (last_end b j + 2)) true
    (pick (ltb (get_or b.ends j 0) (get_or b.starts j 0)) true
    (ltb room (get_or b.ends j 0)))

-- one of its blocks is such a one
unfoldable pub any_ill : Blocks → ℕ → Bool
any_ill b room = any_upto (is_ill b room) 0 (held b)

-- the offset d from the SACK's point is in block j
unfoldable pub block_has : Blocks → ℕ → ℕ → Bool
block_has b d j = pick (ltb d (get_or b.starts j 0)) false (leb d (get_or b.ends j 0))

-- "those in blocks": the offset d is in one of them
unfoldable pub is_blocked : Blocks → ℕ → Bool
is_blocked b d = any_upto (block_has b d) 0 (held b)
