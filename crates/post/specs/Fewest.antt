-- What the search finds: the first that fits, and nothing only where none fits. Assumes nothing.
use Rattle.std.proofs.Math.Path.{◌≡◌, refl}
use Rattle.std.proofs.Common.{sym, ap, ◌∙◌, true≢false, eq-or-lt_of_le, arith}
use Rattle.std.specs.Prelude.{Bool, true, cond}
use Rattle.std.proofs.Math.Bool.{false}
use Prim.Native.Nat.{ℕ, zero, suc, ◌≤◌, ◌<◌}
use Rattle.std.proofs.Math.Logic.{⊎_elim}
use Rattle.pebbling.specs.Len.{lt_or_le}
use Rattle.std.specs.Prelude.{None, Option, Some}
use Rattle.post.specs.Search.{or_else, least}

-- ---- the least

-- g is from 1 to n and fits, and none before it does
pub record First (p : ℕ → Bool) (n g : ℕ) : Type 0 where
  pub from : 0 < g
  pub upto : g ≤ n
  pub fits : p g ≡ true
  pub none_fewer : (j : ℕ) → 0 < j → j < g → p j ≡ false

module _ (p : ℕ → Bool) where
  unfit : (n : ℕ) (b : Bool) → p (suc n) ≡ b → cond b (Some (suc n)) None ≡ None → p (suc n) ≡ false
  unfit n true q e = let z : ◌≡◌ {A = ℕ} 0 1 = cc in absurd (omega arith)
  unfit n false q e = q

  pub least_none : (n : ℕ) → least n p ≡ None → (j : ℕ) → 0 < j → j ≤ n → p j ≡ false
  unfolding least
  least_none zero e j a b = absurd (omega arith)
  least_none (suc n) e j a b = go (least n p) (least_none n) e
    where
      go : (seen : Option ℕ) → (seen ≡ None → (i : ℕ) → 0 < i → i ≤ n → p i ≡ false) → or_else seen (cond (p (suc n)) (Some (suc n)) None) ≡ None → p j ≡ false
      go (Some h) r e = let z : ◌≡◌ {A = ℕ} 0 1 = cc in absurd (omega arith)
      go None r e = ⊎_elim (λ q. rw q (unfit n (p (suc n)) refl e)) (λ l. r refl j a (omega arith)) (eq-or-lt_of_le b)

  at_last : (n g : ℕ) (b : Bool) → p (suc n) ≡ b → cond b (Some (suc n)) None ≡ Some g → (p (suc n) ≡ true) × (suc n ≡ g)
  at_last n g true q e = (q, cc)
  at_last n g false q e = let z : ◌≡◌ {A = ℕ} 0 1 = cc in absurd (omega arith)

  pub least_found : (n g : ℕ) → least n p ≡ Some g → First p n g
  unfolding least
  least_found zero g e = let z : ◌≡◌ {A = ℕ} 0 1 = cc in absurd (omega arith)
  least_found (suc n) g e = go (least n p) refl (least_found n g) e
    where
      go : (seen : Option ℕ) → least n p ≡ seen → (seen ≡ Some g → First p n g) → or_else seen (cond (p (suc n)) (Some (suc n)) None) ≡ Some g → First p (suc n) g
      go (Some h) q r e =
          let f = r e in
          record { from = f.from; upto = omega (arith, f.upto); fits = f.fits; none_fewer = f.none_fewer }
      go None q r e =
          let l = at_last n g (p (suc n)) refl e in
          let d : suc n ≡ g = l.1 in
          rw (← d) (record { from = omega arith; upto = omega arith; fits = l.0; none_fewer = λ j a b. least_none n q j a (omega arith) })

  -- no other fits before the first
  not-before : (n m g h : ℕ) → First p n g → First p m h → g < h → ⊥
  not-before n m g h f i l = true≢false (sym f.fits ∙ i.none_fewer g f.from l)

  pub first_one : (n m g h : ℕ) → First p n g → First p m h → g ≡ h
  first_one n m g h f i =
      ⊎_elim (λ l. absurd (not-before n m g h f i l))
      (λ l. ⊎_elim (λ k. absurd (not-before m n h g i f k)) (λ k. let e : g ≡ h = omega arith in e) (lt_or_le h g))
      (lt_or_le g h)

  -- so the first is found
  pub first_least : (n g : ℕ) → First p n g → least n p ≡ Some g
  first_least n g f = go (least n p) refl
    where
      go : (seen : Option ℕ) → least n p ≡ seen → least n p ≡ Some g
      go None q = absurd (true≢false (sym f.fits ∙ least_none n q g f.from f.upto))
      go (Some h) q = q ∙ ap Some (first_one n n h g (least_found n h q) f)

  -- a longer search finds the same
  pub least_kept : (n m g : ℕ) → n ≤ m → least n p ≡ Some g → least m p ≡ Some g
  least_kept n m g l e =
      let f = least_found n g e in
      first_least m g (record { from = f.from; upto = omega (arith, f.upto); fits = f.fits; none_fewer = f.none_fewer })

  -- where one fits, one is found, and it is no later
  pub least_some : (n j : ℕ) → 0 < j → j ≤ n → p j ≡ true → (g : ℕ) × (least n p ≡ Some g) × (g ≤ j)
  least_some n j a b t = go (least n p) refl
    where
      go : (seen : Option ℕ) → least n p ≡ seen → (g : ℕ) × (least n p ≡ Some g) × (g ≤ j)
      go None q = absurd (true≢false (sym t ∙ least_none n q j a b))
      go (Some h) q =
          let f = least_found n h q in
          (h, q, ⊎_elim (λ l. absurd (true≢false (sym t ∙ f.none_fewer j a l))) (λ l. l) (lt_or_le j h))
