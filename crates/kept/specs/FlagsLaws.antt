-- A flag and its byte are each told by the other, and a loop over them leaves what it should. Assumes nothing.
use Rattle.std.specs.Prelude.{ℕ, zero, suc, ◌+◌, ◌<◌, ◌≤◌, ◌≡◌, refl, Bool, true, false, List, [], ◌∷◌, ◌++◌, map, length, get_or, set}
use Rattle.std.proofs.Common.{sym, ap, ◌∙◌, arith, lt-ltb, length-set, length-append}
use mir.Val.{bool_byte}
use Rattle.std.proofs.lemmas.List.{set_at}
use Rattle.std.proofs.Math.Seq.{append_snoc}
use Rattle.scans.specs.Scan.{any, fold_from, Folding, fold_more, fold_end}
use Rattle.scans.specs.Each.{clash, neither}
use Rattle.kept.specs.Flags.{is_yes, is_junk}

pub flag-back : (b : Bool) → is_yes (bool_byte b) ≡ b
flag-back true = refl
flag-back false = refl

pub byte-clean : (b : Bool) → is_junk (bool_byte b) ≡ false
byte-clean true = refl
byte-clean false = refl

pub byte-back : (n : ℕ) → is_junk n ≡ false → bool_byte (is_yes n) ≡ n
byte-back zero e = refl
byte-back (suc zero) e = refl
byte-back (suc (suc n)) e = clash (sym e ∙ lt-ltb 1 (suc (suc n)) (omega arith))

pub flags-back : (l : List Bool) → map is_yes (map bool_byte l) ≡ l
flags-back [] = refl
flags-back (b ∷ l) = rw (flag-back b, flags-back l)

pub bytes-clean : (l : List Bool) → any is_junk (map bool_byte l) ≡ false
bytes-clean [] = refl
bytes-clean (b ∷ l) = rw (byte-clean b) (bytes-clean l)

pub bytes_back : (l : List ℕ) → any is_junk l ≡ false → map bool_byte (map is_yes l) ≡ l
bytes_back [] e = refl
bytes_back (n ∷ l) e = let b = neither (is_junk n) (any is_junk l) e in rw (byte-back n b.0, bytes_back l b.1)

-- ---- a loop that puts f of each element of one array into another

abbrev putting : {A B : Type 0} → (A → B) → List B → ℕ → A → List B
putting f ys i x = set ys i (f x)

puts : {A B : Type 0} (f : A → B) (done zs : List B) (i : ℕ) (xs : List A) → length done ≡ i → length zs ≡ length xs → fold_from (putting f) (done ++ zs) i xs ≡ done ++ map f xs
puts f done [] i [] l e = refl
puts f done [] i (x ∷ xs) l e = absurd (omega arith)
puts f done (z ∷ zs) i [] l e = absurd (omega arith)
puts f done (z ∷ zs) i (x ∷ xs) l e =
    rw (set_at done z zs (f x) i l, ← append_snoc done (f x) zs)
    (puts f (done ++ (f x ∷ [])) zs (i + 1) xs (length-append done (f x ∷ []) ∙ omega arith) (omega arith) ∙ append_snoc done (f x) (map f xs))

-- it has done i of n; zs is what the other array held before
pub record Putting {A B : Type 0} (f : A → B) (xs : List A) (zs : List B) (n i : ℕ) (ys : List B) : Type 0 where
  pub folding : Folding (putting f) zs xs n i ys
  pub wide : length ys ≡ n

module _ {A B : Type 0} {f : A → B} {xs : List A} {zs : List B} {n i : ℕ} {ys : List B} (w : Putting f xs zs n i ys) where
  pub put-more : (d : A) (v : B) → i < n → v ≡ f (get_or xs i d) → Putting f xs zs n (i + 1) (set ys i v)
  put-more d v h e = record { folding = fold_more w.folding d (set ys i v) h (ap (λ (z : B). set ys i z) e); wide = length-set ys i v ∙ w.wide }

  pub put-end : length zs ≡ n → n ≤ i → ys ≡ map f xs
  put-end l h = fold_end w.folding h ∙ puts f [] zs 0 xs refl (l ∙ sym w.folding.long)
