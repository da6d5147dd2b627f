-- A table that follows a rule, and how the checker shows it: one test that it computes over all entries, and one law.
-- Assumes nothing.
use Rattle.std.specs.Prelude.{◌≡◌, Bool, true, false, ◌&&◌, List, ℕ, zero, suc, ◌<◌, T, eqb, get_or}
use Rattle.std.proofs.Common.{sym, subst, ⊎_elim, le_of_suc-le-suc, not-suc-le-zero, eq-or-lt_of_le, eqb→eq}

-- each of the first n entries of the list l is what the rule f says
pub record Tabled (n : ℕ) (f : ℕ → ℕ) (l : List ℕ) : Type 0 where
  pub at : (k : ℕ) → k < n → get_or l k 0 ≡ f k

-- both halves of a test that holds
pub and_left : (a b : Bool) → T (a && b) → T a
and_left true b t = tt
and_left false b t = t

pub and_right : (a b : Bool) → T (a && b) → T b
and_right true b t = t
and_right false b t = absurd t

-- the test p holds of each number below n
abbrev pub every : (ℕ → Bool) → ℕ → Bool
every p zero = true
every p (suc n) = p n && every p n

-- what was computed for all numbers below n holds of each
pub below : (p : ℕ → Bool) (n : ℕ) → T (every p n) → (k : ℕ) → k < n → T (p k)
below p zero t k h = absurd (not-suc-le-zero h)
below p (suc n) t k h =
    ⊎_elim
    (λ e. subst (λ (m : ℕ). T (p m)) (sym e) (and_left (p n) (every p n) t))
    (λ l. below p n (and_right (p n) (every p n) t) k l)
    (eq-or-lt_of_le (le_of_suc-le-suc h))

-- a list each of whose entries is computed to be what the rule says is a table of the rule; for numbers that are written out the proof
-- is `tabled tt`
pub tabled : {n : ℕ} {f : ℕ → ℕ} {l : List ℕ} → T (every (λ k. eqb (get_or l k 0) (f k)) n) → Tabled n f l
tabled {n} {f} {l} t = record { at = λ k h. eqb→eq (get_or l k 0) (f k) (below (λ k. eqb (get_or l k 0) (f k)) n t k h) }
