-- What the code of `powers` and `hashes` comes to, over plain numbers: each law has a premise for each callee's promise. Assumes nothing.
use mathlib.Core.Path.{◌≡◌, refl, sym, ap, ◌∙◌}
use Prim.Native.Nat.{ℕ, zero, suc, ◌+◌, ◌-◌, ◌*◌, ◌/◌, ◌%◌, ◌^◌, ◌≤◌, ◌<◌}
use native.Mathlib.Nat.{mod-lt, mod-eq_of_lt, mul-le-mul, one-mul}
use native.Mathlib.Numerals.{add-one}
use native.Mathlib.Omega.{arith}
use borrow.Author.Tests.{lt-ltb, le-ltb, eq-eqb, ne_eqb}
use lib.Pow.{pow_pos, pow_mono, pow-lt}
use lib.Count.{count_leading_zeros, leading_length}
use Rattle.pebbling.specs.Len.{len, len_law, len_le, lt_len, len_unique, len_zero, len_pos, len_pow, two_halves}
use Rattle.pebbling.specs.OptimalLeft.{g, left, twice_left, left-fits}
use Rattle.pebbling.specs.HashesDone.{fair, done_rushing, done_speed1, done_speed2_early, done_speed2_late, done_optimal_early, done_optimal_late, done_all}
use Rattle.pebbling.specs.OnePebbler.{held_length}
use Rattle.pebbling.specs.Recursion.{schedule, rushing, speed1, speed2, optimal}
use Rattle.pebbling.specs.Promises.{Power, Bits, Left, Curve, Done, Holds}

-- ---- powers and lengths

shifted : (k : ℕ) → k ≤ 21 → (1 * 2 ^ k) % 4294967296 ≡ 2 ^ k
shifted k h = rw (one-mul (2 ^ k)) (mod-eq_of_lt (omega (arith, pow_mono h)))

pub power_law : (k : ℕ) → k ≤ 21 → Power k ((1 * 2 ^ k) % 4294967296)
power_law k h = record { is = shifted k h; pos = rw (shifted k h) (pow_pos k); small = rw (shifted k h) (pow_mono h) }

pub bits_law : (x : ℕ) → x < 4294967296 → Bits x (32 - count_leading_zeros 32 x)
bits_law x h =
    let m = leading_length 32 x h in
    let e : len x ≡ m.0 = len_unique x m.0 (record { below = m.2; least = m.3 }) in
    record { is = omega arith; small = omega arith }

-- ---- rounds left

pub next_power : (k p : ℕ) → Power (k + 1) p → p ≡ 2 ^ suc k
next_power k p a = a.is ∙ ap (λ (x : ℕ). 2 ^ x) (add-one k)

-- ---- the hashes of a round

module _ (k r whole : ℕ) (p : Power k whole) where
  pub rushing_at : r ≡ whole - 1 → whole - 1 ≡ rushing k r
  unfolding rushing
  rushing_at e = rw (eq-eqb r (2 ^ k - 1) (omega arith)) (omega arith)

  pub rushing_not : (r ≡ whole - 1 → ⊥) → 0 ≡ rushing k r
  unfolding rushing
  rushing_not e = rw (ne_eqb r (2 ^ k - 1) (λ q. e (omega arith))) refl

module _ (k r half : ℕ) (p : Power (k - 1) half) where
  pub speed2_idle : r < half → 0 ≡ speed2 k r
  unfolding speed2
  speed2_idle h = rw (lt-ltb r (2 ^ (k - 1)) (omega arith)) refl

  pub optimal_idle : r < half → 0 ≡ optimal k r
  unfolding optimal
  optimal_idle h = rw (lt-ltb r (2 ^ (k - 1)) (omega arith)) refl

  module _ (whole : ℕ) (q : Power k whole) (l : half ≤ r) where
    pub speed2_two : r < whole - 1 → 2 ≡ speed2 k r
    unfolding speed2
    speed2_two h = rw (le-ltb r (2 ^ (k - 1)) (omega arith), lt-ltb r (2 ^ k - 1) (omega arith)) refl

    pub speed2_one : whole - 1 ≤ r → 1 ≡ speed2 k r
    unfolding speed2
    speed2_one h = rw (le-ltb r (2 ^ (k - 1)) (omega arith), le-ltb r (2 ^ k - 1) (omega arith)) refl

    module _ (h : r < 2 ^ k) (c n above m : ℕ) (left : Left k r c) (a : Bits (c - whole) n) where
      -- what is left to round 2^k
      to_go : c - whole ≡ 2 ^ k - r
      to_go = omega arith

      pub above_small : n ≤ k
      above_small = omega (arith, ap len to_go, len_le (2 ^ k - r) k (omega arith))

      module _ (b : Power n above) (d : Bits (2 * r % above) m) where
        pub rest_small : m ≤ k
        rest_small =
            let u : 2 * r % above < 2 ^ n = omega (arith, mod-lt (2 * r) {m = above} b.pos) in
            omega (arith, len_le (2 * r % above) n u, above_small)

        pub optimal_at : ((k + r) % 2 + (k + 1) - m) / 2 ≡ optimal k r
        unfolding optimal
        optimal_at =
            let e : 2 ^ len (2 ^ k - r) ≡ above = ap (λ (x : ℕ). 2 ^ len x) (sym to_go) ∙ ap (λ (x : ℕ). 2 ^ x) (sym a.is) ∙ sym b.is in
            rw (le-ltb r (2 ^ (k - 1)) (omega arith), e, d.is) refl

-- by the schedule's number
pub schedule_0 : (s k r : ℕ) → s ≡ 0 → rushing k r ≡ schedule s k r
unfolding schedule
schedule_0 s k r e = rw e refl

pub schedule_1 : (s k r : ℕ) → s ≡ 1 → 1 ≡ schedule s k r
unfolding schedule speed1
schedule_1 s k r e = rw e refl

pub schedule_2 : (s k r : ℕ) → s ≡ 2 → speed2 k r ≡ schedule s k r
unfolding schedule
schedule_2 s k r e = rw e refl

pub three : (s : ℕ) → s ≤ 3 → (s ≡ 0 → ⊥) → (s ≡ 1 → ⊥) → (s ≡ 2 → ⊥) → s ≡ 3
three s h a b c = omega arith

pub schedule_3 : (s k r : ℕ) → s ≡ 3 → optimal k r ≡ schedule s k r
unfolding schedule
schedule_3 s k r e = rw e refl

-- ---- the hashes that are left, and those that are done

pub curve_fits : (k n l : ℕ) → k ≤ 22 → n ≤ 1048576 → n * (k - l) ≤ 23068672
curve_fits k n l h b = let d : k - l ≤ 22 = omega arith in omega (arith, mul-le-mul b d)

pub curve_law : (k n l p : ℕ) → k ≤ 22 → n ≤ 1048576 → Bits n l → Power l p → Curve k n (n * (k - l) + p)
unfolding g
curve_law k n l p h b a q = record { is = rw (← a.is) (omega arith); small = omega (arith, curve_fits k n l h b) }

-- what the code of `optimal_left` asks of its calls and of its differences
pub record Leftover (k c a l : ℕ) : Type 0 where
  pub bits : l ≤ k
  pub above : a ≤ 1048576
  pub over : c ≤ a
  pub wide : len a ≤ k + 2
  pub short : len (a - c) ≤ k
  pub fits : g k (a - c) + 2 ≤ g (k + 2) a

pub leftover : (k c a l : ℕ) → 0 < k → k ≤ 20 → c ≤ 2 ^ (k - 1) → Bits c l → a ≡ 2 ^ l → Leftover k c a l
leftover zero c a l p q h d e = absurd (omega arith)
leftover (suc k) c a l p q h d e =
    let w : 2 ^ (suc k - 1) ≡ 2 ^ k = ap (λ (x : ℕ). 2 ^ x) (omega arith) in
    let b : c ≤ 2 ^ k = omega arith in
    let f : l ≤ suc k = omega (arith, len_le c (suc k) (omega (arith, pow_pos k))) in
    let m : a ≡ 2 ^ len c = e ∙ ap (λ (x : ℕ). 2 ^ x) d.is in
    let n : len a ≡ suc (len c) = ap len m ∙ len_pow (len c) in
    record {
      bits = f;
      above = omega (arith, pow_mono {i = l} {j = 20} (omega arith));
      over = omega (arith, len_law c);
      wide = omega arith;
      short = rw m (small c b);
      fits = rw m (left-fits k c b);
    }
  where
    small : (c : ℕ) → c ≤ 2 ^ k → len (2 ^ len c - c) ≤ suc k
    small zero b = rw len_zero (len_le 1 (suc k) (omega (arith, pow_pos k)))
    small (suc c) b = len_le (2 ^ len (suc c) - suc c) (suc k) (omega (arith, pow_pos k, len_pos (suc c) (omega arith)))

left_by : (k c l a x y : ℕ) → Bits c l → Power l a → Curve (k + 2) a x → Curve k (a - c) y → ((k + c) % 2 + (x - y - 2)) / 2 ≡ left k c
unfolding left twice_left
left_by k c l a x y d p e f =
    let m : 2 ^ len c ≡ a = ap (λ (x : ℕ). 2 ^ x) (sym d.is) ∙ sym p.is in
    rw (m, e.is, f.is) refl

-- the same by the rounds left, of which the last 2^k are those from round 2^k on
pub left_at : (k rest whole l a x y : ℕ) → whole ≡ 2 ^ k → Bits (rest - whole) l → Power l a → Curve (k + 2) a x → Curve k (a - (rest - whole)) y
    → ((k + (rest - whole)) % 2 + (x - y - 2)) / 2 ≡ left k (rest - 2 ^ k)
left_at k rest whole l a x y w d p e f = left_by k (rest - whole) l a x y d p e f ∙ ap (λ (q : ℕ). left k (rest - q)) w

module _ (k r half : ℕ) (0<k : 0 < k) (0<r : 0 < r) (h : r < 2 ^ k) (p : Power (k - 1) half) where
  pub idle_speed2 : r < half → Done speed2 k r 0
  idle_speed2 l = record { is = sym (done_speed2_early k r 0<k 0<r (omega arith)); small = pow_pos k }

  pub idle_optimal : r < half → Done optimal k r 0
  idle_optimal l = record { is = sym (done_optimal_early k r 0<k 0<r (omega arith)); small = pow_pos k }

  module _ (whole : ℕ) (q : Power k whole) (l : half ≤ r) where
    pub busy_speed2 : (whole ≤ 2 * r) × Done speed2 k r (2 * r - whole)
    busy_speed2 =
        let d = done_speed2_late k r 0<k 0<r (omega arith) h in
        (omega (arith, two_halves k 0<k), record { is = omega arith; small = omega arith })

    module _ (c : ℕ) (a : Left k r c) where
      pub left_asked : (2 ^ k ≤ c) × (c ≤ 2 ^ k + 2 ^ (k - 1))
      left_asked = (omega arith, omega (arith, two_halves k 0<k))

      pub busy_optimal : (x : ℕ) → x ≡ left k (c - 2 ^ k) → (x ≤ whole - 1) × Done optimal k r (whole - 1 - x)
      busy_optimal x e =
          let d = done_optimal_late k r 0<k 0<r (c - 2 ^ k) (omega arith) (omega (arith, left_asked)) in
          (omega arith, record { is = omega arith; small = omega arith })

-- by the schedule's number
pub before_end : (k r whole : ℕ) → r ≤ 2 ^ k → Power k whole → (r ≡ whole → ⊥) → r < 2 ^ k
before_end k r whole h p n = omega arith

pub done_at_end : (s k r whole : ℕ) → s ≤ 3 → Power k whole → r ≡ whole → Done (schedule s) k r (whole - 1)
done_at_end s k r whole h p e =
    record { is = omega (arith, done_all (schedule s) (fair s h) k r (omega arith)); small = omega (arith, p.pos) }

pub done_0 : (s k r : ℕ) → r < 2 ^ k → s ≡ 0 → Done (schedule s) k r 0
unfolding schedule
done_0 s k r h e = rw e (record { is = sym (done_rushing k r h); small = pow_pos k })

pub done_1 : (s k r : ℕ) → 0 < r → r < 2 ^ k → s ≡ 1 → Done (schedule s) k r (r - 1)
unfolding schedule
done_1 s k r p h e = rw e (record { is = sym (done_speed1 k r); small = omega arith })

pub done_2 : (s k r x : ℕ) → s ≡ 2 → Done speed2 k r x → Done (schedule s) k r x
unfolding schedule
done_2 s k r x e d = rw e d

pub done_3 : (s k r x : ℕ) → s ≡ 3 → Done optimal k r x → Done (schedule s) k r x
unfolding schedule
done_3 s k r x e d = rw e d

-- ---- values held

pub held_law : (k h p n : ℕ) → h < 2 ^ k → Power k p → Bits (p - h) n → (n ≤ k + 1) × Holds k h (k + 2 - n)
held_law k h p n b q d =
    let e : len (p - h) ≡ len (2 ^ k - h) = ap (λ (x : ℕ). len (x - h)) q.is in
    let l : len (2 ^ k - h) ≤ k + 1 = len_le (2 ^ k - h) (k + 1) (omega (arith, pow-lt {i = k} {j = k + 1} (omega arith))) in
    let m : 0 < len (2 ^ k - h) = lt_len (2 ^ k - h) 0 (omega arith) in
    (omega arith, record { is = omega (arith, held_length k h 0 b); some = omega arith; small = omega arith })
