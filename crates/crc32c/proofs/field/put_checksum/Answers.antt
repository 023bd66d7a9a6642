use Rattle.std.proofs.Common.{◌≡◌, lt-ltb, le-ltb, append_assoc, drop-drop, rules}
use Rattle.crc32c.specs.Field.{low_first, with_field}
use Rattle.crc32c.proofs.field.put_checksum.Goals as goal

pub returns-then-s-ge12 : goal.returns-then-s-ge12
unfolding with_field
returns-then-s-ge12 c =
    let e : c.to_le_bytes.result ≡ low_first c.args.crc = search rules in
    rw (le-ltb _ _ c.if-s-ge12.true, c.copy_from_slice.ensures.after, e, drop-drop, append_assoc)

pub returns-else-s-ge12 : goal.returns-else-s-ge12
unfolding with_field
returns-else-s-ge12 c = rw (lt-ltb _ _ c.if-s-ge12.false)
