-- "Read both ways": an INIT or INIT ACK that is accepted is accepted too where its length counts the padding of its last parameter.
-- Assumes nothing.
use Rattle.std.specs.Prelude.{ℕ, ◌+◌, ◌-◌, ◌%◌, ◌<◌, ◌≤◌, ◌≡◌, Bool, true, false, List, ltb, eqb, take, drop}
use Rattle.std.proofs.Math.Path.{refl, ap}
use Rattle.std.proofs.Common.{◌∙◌, arith, length-drop}
use borrow.Author.Tests.{le-ltb, ltb-false, eqb-true}
use Rattle.std.proofs.Math.ListN.{length}
use Rattle.scans.specs.Scan.{pick}
use Rattle.scans.specs.Each.{all_map, clash, after-not, neither}
use Rattle.octets.specs.Bytes.{u8, u16, up4}
use Rattle.octets.specs.BytesLaws.{u16-append}
use Rattle.octets.specs.Walk.{walk, first_item}
use Rattle.octets.specs.WalkLaws.{first_on, first-end}
use Rattle.octets.specs.TilingLaws.{first-all}
use Rattle.octets.specs.Padding.{counting, Padded, Inside, AllInside, counting-long, counting-kind, counting-says, counting-part, padded-item, padded-size, padded-all}
use Rattle.packets.specs.Shape.{least, misplaced, tiled, params, sack_filled, chunk_filled}
use Rattle.packets.specs.ShapeLaws.{Accepted, placed}
use Rattle.packets.specs.BodyLaws.{is_initial, filled-init}

-- one that is not misplaced ends within the chunk
not-misplaced : (p : List ℕ) → misplaced p ≡ false → Inside p
unfolding misplaced
not-misplaced p e =
    let a = neither (ltb (u16 p 2) 4) _ e in
    record { some = ltb-false (u16 p 2) 4 a.0; within = go (eqb (u16 p 2) (length p)) refl a.1 }
  where
    go : (t : Bool) → eqb (u16 p 2) (length p) ≡ t → pick t false (ltb (length p) (up4 (u16 p 2))) ≡ false → u16 p 2 ≤ length p
    go true x y = omega (arith, eqb-true (u16 p 2) (length p) x)
    go false x y = omega (arith, ltb-false (length p) (up4 (u16 p 2)) y)

pub tiled-inside : (b : List ℕ) → tiled b ≡ true → AllInside b
unfolding tiled
tiled-inside b t =
    all_map (λ k e. not-misplaced (drop k b) e) (walk b 0)
    (first-all misplaced b 0 (ltb-false (first_item misplaced b 0) (length b) (after-not (ltb (first_item misplaced b 0) (length b)) true t).0))

-- what tiles, tiles with its padding
module _ {b c : List ℕ} (e : Padded b c) where
  padded-placed : (at : ℕ) → at % 4 ≡ 0 → at < length b → Inside (drop at b) → misplaced (drop at c) ≡ false
  padded-placed at m h i =
      let f : u16 (drop at c) 2 ≡ u16 (drop at b) 2 = ap (λ (p : List ℕ). u16 p 2) (padded-item e at h) ∙ u16-append (drop at b) e.padding 2 (omega (arith, i.some, i.within)) in
      placed (drop at c) (omega (arith, f, i.some)) (omega (arith, f, i.within, e.long, length-drop at b, length-drop at c))

  pub tiled-padded : tiled b ≡ true → tiled c ≡ true
  unfolding tiled
  tiled-padded t = rw (all, le-ltb (length c) (length c) (omega arith))
    where
      all : first_item misplaced c 0 ≡ length c
      all =
          padded-all e (λ at. first_item misplaced c at ≡ length c) (λ at h g. first-end misplaced c at g)
          (λ at m h g i q. first_on misplaced c at g (padded-placed at m h i) ∙ ap (λ (n : ℕ). first_item misplaced c (at + n)) (padded-size e at h i) ∙ q) (tiled-inside b t)

-- ---- the chunk

least-initial : (k : ℕ) → is_initial k ≡ true → least k ≡ 20
unfolding least
least-initial k = go (eqb k 1) refl (eqb k 2) refl
  where
    go : (a : Bool) → eqb k 1 ≡ a → (b : Bool) → eqb k 2 ≡ b → pick a true b ≡ true → least k ≡ 20
    go true p b q h = ap least (eqb-true k 1 p)
    go false p true q h = ap least (eqb-true k 2 q)
    go false p false q h = clash h

filled-tiles : (s : List ℕ) → is_initial (u8 s 0) ≡ true → chunk_filled s ≡ true → tiled (params s) ≡ true
unfolding chunk_filled
filled-tiles s = go (eqb (u8 s 0) 1) (eqb (u8 s 0) 2)
  where
    go : (a b : Bool) → pick a true b ≡ true → pick a (tiled (params s)) (pick b (tiled (params s)) (pick (eqb (u8 s 0) 3) (sack_filled s) true)) ≡ true → tiled (params s) ≡ true
    go true b h f = f
    go false true h f = f
    go false false h f = clash h

-- the parameters are the part from 20 on
pub params_are : (s : List ℕ) → params s ≡ take (u16 s 2 - 20) (drop 20 s)
unfolding params
params_are s = refl

module _ (s : List ℕ) (a : Accepted s) (i : is_initial (u8 s 0) ≡ true) where
  pub initial-long : 20 ≤ u16 s 2
  initial-long = omega (arith, a.enough, least-initial (u8 s 0) i)

  pub initial-inside : AllInside (params s)
  initial-inside = tiled-inside (params s) (filled-tiles s i a.full)

  pub accepted-counting : up4 (u16 s 2) ≤ length s → Accepted (counting s)
  unfolding params
  accepted-counting h =
      let said : u16 (counting s) 2 ≡ up4 (u16 s 2) = counting-says s (omega (arith, initial-long)) in
      let p : Padded (params s) (params (counting s)) = rw said (counting-part s 20 (omega arith) refl initial-long h) in
      record {
        enough = rw (counting-kind s, said) (omega (arith, a.enough));
        within = rw (said, counting-long s) h;
        full = filled-init (counting s) (rw (counting-kind s) i) (tiled-padded p (filled-tiles s i a.full));
      }
