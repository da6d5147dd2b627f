-- Cards of any number n of ticks: docs/RULES.md, "Cards of n ticks". Assumes nothing.
use Rattle.std.specs.Prelude.{◌≡◌, refl, Bool, true, false, cond, ◌&&◌, ◌⊎◌, ℕ, zero, suc, ◌+◌, ◌-◌, ◌^◌, ◌≤◌, ◌<◌, leb}
use Rattle.std.proofs.Common.{sym, true≢false, inl, inr, le_antisymm, lt_of_not-le, arith, leb-true, le-leb, pow_pos, pow_mono}
use Rattle.std.proofs.Math.Nat.{pow-succ'}
use Rattle.std.proofs.lemmas.Bool.{lt-leb}
use Rattle.pebbling.specs.Len.{len, len_law, len_lt, lt_or_le}

-- ---- definitions

-- from 1 to 1,048,576
unfoldable pub allowed : ℕ → Bool
allowed n = leb 1 n && leb n 1048576

-- the first k, from i on, with 2^k at least n; looked for up to `more` further
unfoldable pub least_from : ℕ → ℕ → ℕ → ℕ
least_from zero i n = i
least_from (suc more) i n = cond (leb n (2 ^ i)) i (least_from more (suc i) n)

-- the least k with 2^k at least n, for n up to 2^20
unfoldable pub level : ℕ → ℕ
level n = least_from 20 0 n

-- the round with which a card of n ticks begins
unfoldable pub first_round : ℕ → ℕ
first_round n = 2 ^ suc (level n) - n

-- ---- which n are allowed

pub allowed_holds : (n : ℕ) → 0 < n → n ≤ 1048576 → allowed n ≡ true
unfolding allowed
allowed_holds n some few = rw (le-leb 1 n some, le-leb n 1048576 few) refl

pub allowed_range : (n : ℕ) → allowed n ≡ true → (0 < n) × (n ≤ 1048576)
unfolding allowed
allowed_range n e = go (leb 1 n) (leb n 1048576) refl refl e
  where
    go : (a b : Bool) → leb 1 n ≡ a → leb n 1048576 ≡ b → (a && b) ≡ true → (0 < n) × (n ≤ 1048576)
    go true true p q e = (leb-true 1 n p, leb-true n 1048576 q)
    go true false p q e = absurd (true≢false (sym e))
    go false b p q e = absurd (true≢false (sym e))

-- 0 is not; from 1 on it is a matter of the most there may be
pub allowed_none : (n : ℕ) → n ≡ 0 → allowed n ≡ false
unfolding allowed
allowed_none n e = rw (lt-leb 1 n (omega arith)) refl

pub allowed_most : (n : ℕ) → (n ≡ 0 → ⊥) → leb n 1048576 ≡ allowed n
unfolding allowed
allowed_most n some = rw (le-leb 1 n (omega arith)) refl

-- ---- the level is the least

-- 2^k is at least n, and no smaller k will do
pub record Least (n k : ℕ) : Type 0 where
  pub enough : n ≤ 2 ^ k
  pub none_smaller : (j : ℕ) → j < k → 2 ^ j < n

from_least : (more i n : ℕ) → n ≤ 2 ^ (i + more) → ((j : ℕ) → j < i → 2 ^ j < n) → Least n (least_from more i n)
unfolding least_from
from_least zero i n h below = let e : i + 0 ≡ i = omega arith in record { enough = rw e at h; none_smaller = below }
from_least (suc more) i n h below =
    let e : i + suc more ≡ suc i + more = omega arith in
    go (from_least more (suc i) n (rw e at h)) (lt_or_le (2 ^ i) n)
  where
    next : 2 ^ i < n → (j : ℕ) → j < suc i → 2 ^ j < n
    next l j m = omega (arith, pow_mono {i = j} {j = i} (omega arith))

    go : (((j : ℕ) → j < suc i → 2 ^ j < n) → Least n (least_from more (suc i) n)) → (2 ^ i < n) ⊎ (n ≤ 2 ^ i)
        → Least n (cond (leb n (2 ^ i)) i (least_from more (suc i) n))
    go further (inl l) = rw (lt-leb n (2 ^ i) l) (further (next l))
    go further (inr l) = rw (le-leb n (2 ^ i) l) (record { enough = l; none_smaller = below })

pub level_is_the_least : (n : ℕ) → n ≤ 1048576 → Least n (level n)
unfolding level
level_is_the_least n few = from_least 20 0 n few (λ j l. omega arith)

-- there is one least
pub least_unique : (n j k : ℕ) → Least n j → Least n k → j ≡ k
least_unique n j k a b = le_antisymm (not_above j k a b) (not_above k j b a)
  where
    not_above : (j k : ℕ) → Least n j → Least n k → j ≤ k
    not_above j k a b = omega (arith, lt_of_not-le (λ (g : suc k ≤ j). omega (arith, a.none_smaller k g, b.enough)))

pub level_small : (n : ℕ) → n ≤ 1048576 → level n ≤ 20
level_small n few =
    omega (arith, lt_of_not-le (λ (g : 21 ≤ level n). omega (arith, (level_is_the_least n few).none_smaller 20 g)))

-- it is the number of binary digits of n - 1
pub level_by_digits : (n : ℕ) → 0 < n → n ≤ 1048576 → len (n - 1) ≡ level n
level_by_digits n some few =
    least_unique n (len (n - 1)) (level n)
    (record { enough = omega (arith, (len_law (n - 1)).below); none_smaller = λ j l. omega (arith, len_lt (n - 1) j l) })
    (level_is_the_least n few)

-- and k itself for a card of 2^k ticks
pub level_of_a_power : (k : ℕ) → k ≤ 20 → level (2 ^ k) ≡ k
level_of_a_power k small =
    least_unique (2 ^ k) (level (2 ^ k)) k (level_is_the_least (2 ^ k) (omega (arith, pow_mono {i = k} {j = 20} small)))
    (record { enough = omega arith; none_smaller = λ j l. omega (arith, pow_mono {i = suc j} {j = k} l, pow_pos j, pow-succ' 2 j) })

-- ---- the first round is a paying round, and has as many rounds left as there are ticks

pub first_round_pays : (n : ℕ) → 0 < n → n ≤ 1048576 → (2 ^ level n ≤ first_round n) × (first_round n < 2 ^ suc (level n))
unfolding first_round
first_round_pays n some few =
    let l = level_is_the_least n few in
    (omega (arith, l.enough, pow-succ' 2 (level n)), omega (arith, pow_pos (suc (level n))))

pub ticks_are_rounds_left : (n : ℕ) → n ≤ 1048576 → first_round n + n ≡ 2 ^ suc (level n)
unfolding first_round
ticks_are_rounds_left n few = omega (arith, (level_is_the_least n few).enough, pow-succ' 2 (level n))

-- a card of 2^k ticks begins with its first paying round
pub first_round_of_a_power : (k : ℕ) → k ≤ 20 → first_round (2 ^ k) ≡ 2 ^ k
unfolding first_round
first_round_of_a_power k small = rw (level_of_a_power k small) (omega (arith, pow-succ' 2 k))

-- ---- on both sides of the edges

pub levels_at_the_edges : (level 1 ≡ 0) × (level 2 ≡ 1) × (level 3 ≡ 2) × (level 4 ≡ 2) × (level 5 ≡ 3) × (level 300 ≡ 9)
    × (level 65536 ≡ 16) × (level 65537 ≡ 17) × (level 1048575 ≡ 20) × (level 1048576 ≡ 20)
unfolding level least_from
levels_at_the_edges = (refl, refl, refl, refl, refl, refl, refl, refl, refl, refl)

pub first_rounds_at_the_edges : (first_round 1 ≡ 1) × (first_round 2 ≡ 2) × (first_round 3 ≡ 5) × (first_round 300 ≡ 724) × (first_round 1048576 ≡ 1048576)
unfolding first_round level least_from
first_rounds_at_the_edges = (refl, refl, refl, refl, refl)

pub allowed_at_the_edges : (allowed 0 ≡ false) × (allowed 1 ≡ true) × (allowed 1048576 ≡ true) × (allowed 1048577 ≡ false)
unfolding allowed
allowed_at_the_edges = (refl, refl, refl, refl)
