-- Whether two lists hold the same bytes. Assumes nothing.
use Rattle.std.specs.Prelude.{◌≡◌, refl, Bool, true, false, ◌&&◌, List, [], ◌∷◌, ℕ, eqb}
use Rattle.std.specs.Cmp.Lexicographic.{pointwise}
use Rattle.std.proofs.Common.{sym, ap, true≢false, eq-eqb, eqb-true}

unfoldable pub same : List ℕ → List ℕ → Bool
same [] [] = true
same [] (y ∷ ys) = false
same (x ∷ xs) [] = false
same (x ∷ xs) (y ∷ ys) = eqb x y && same xs ys

-- it is what `==` says of two slices of bytes
pub same_bytes : (a b : List ℕ) → pointwise eqb a b ≡ same a b
unfolding same
same_bytes [] [] = refl
same_bytes [] (y ∷ b) = refl
same_bytes (x ∷ a) [] = refl
same_bytes (x ∷ a) (y ∷ b) = ap (λ (r : Bool). eqb x y && r) (same_bytes a b)

-- ---- then they are equal lists

pub same_refl : (a : List ℕ) → same a a ≡ true
unfolding same
same_refl [] = refl
same_refl (x ∷ a) = rw (eq-eqb x x refl) (same_refl a)

both : (a b : Bool) → (a && b) ≡ true → (a ≡ true) × (b ≡ true)
both true b e = (refl, e)
both false b e = absurd (true≢false (sym e))

pub same_eq : (a b : List ℕ) → same a b ≡ true → a ≡ b
unfolding same
same_eq [] [] e = refl
same_eq [] (y ∷ b) e = absurd (true≢false (sym e))
same_eq (x ∷ a) [] e = absurd (true≢false (sym e))
same_eq (x ∷ a) (y ∷ b) e =
    let h = both (eqb x y) (same a b) e in
    let p : x ≡ y = eqb-true x y h.0 in
    let q : a ≡ b = same_eq a b h.1 in
    cc

pub eq-same : (a b : List ℕ) → a ≡ b → same a b ≡ true
eq-same a b e = rw e (same_refl b)
