-- What the code of `position_list` comes to: stores of positions one behind another are `sets`, and two runs of stores, the second where the first ended, are one;
-- the hashes of the two halves add up. Assumes nothing.
use mathlib.Core.Path.{◌≡◌, refl, sym, ap, ◌∙◌}
use mathlib.Core.List.{List, ◌∷◌, ◌++◌}
use Prim.Native.Nat.{ℕ, zero, suc, ◌+◌, ◌-◌, ◌*◌, ◌^◌, ◌≤◌, ◌<◌}
use native.Mathlib.Numerals.{add-one}
use native.Mathlib.Omega.{arith}
use lib.ListN.{length, set, length-append, length-set}
use lib.Pow.{pow_mono}
use lib.Seq.{sets}
use Rattle.lists.specs.Written.{Written, written_length, written_as, written_both}
use Rattle.pebbling.specs.Len.{len, len_le, lt_len}
use Rattle.pebbling.specs.Recursion.{schedule, place, held, positions, work}
use Rattle.pebbling.specs.OnePebbler.{places, Newest, newest, newest_len, held_form, held_length}
use Rattle.pebbling.specs.SideBySide.{positions_itself, positions_split, positions_ended, work_prepare, work_out, work_split, work_ended}
use Rattle.pebbling.specs.HashesDone.{fair}
use Rattle.pebbling.specs.Totals.{work_lt}
use Rattle.pebbling.specs.Promises.{Power, Bits, Done}

-- ---- P_k itself: the loop over its finished y's

-- what is still to be stored from entry `next` on, y_i to y_k, makes the same list as it did where the loop began
pub record Filling (k base : ℕ) (list₀ : List ℕ) (i₀ next₀ : ℕ) (list : List ℕ) (i next : ℕ) : Type 0 where
  pub same : sets list next (places k i (suc k - i) base) ≡ sets list₀ next₀ (places k i₀ (suc k - i₀) base)
  pub ends : next + (suc k - i) ≡ next₀ + (suc k - i₀)
  pub kept : length list ≡ length list₀
  pub top : i ≤ suc k

pub filling_none : (k base : ℕ) (list : List ℕ) (i next : ℕ) → i ≤ suc k → Filling k base list i next list i next
filling_none k base list i next h = record { same = refl; ends = refl; kept = refl; top = h }

pub filling_step : (k base : ℕ) (list₀ : List ℕ) (i₀ next₀ : ℕ) (list : List ℕ) (i next p q : ℕ) → Filling k base list₀ i₀ next₀ list i next → i ≤ k → Power k p → Power i q
    → Filling k base list₀ i₀ next₀ (set list next (base + (p - q))) (i + 1) (next + 1)
unfolding places
filling_step k base list₀ i₀ next₀ list i next p q f h a b =
    let e : suc k - i ≡ suc (suc k - (i + 1)) = omega arith in
    let d : place k i base ≡ base + (p - q) = unfold place in omega (arith, a.is, b.is) in
    let s : sets list next (place k i base ∷ places k (suc i) (suc k - (i + 1)) base) ≡ sets list₀ next₀ (places k i₀ (suc k - i₀) base) = rw e at f.same in
    record {
      same = rw (add-one next) (rw (d, ← add-one i) at s);
      ends = omega (arith, f.ends);
      kept = length-set list next (base + (p - q)) ∙ f.kept;
      top = omega arith;
    }

-- the newest y is y_(n-1), for the length n of what is left
module _ (k h base p n : ℕ) (b : h < 2 ^ k) (a : Power k p) (d : Bits (p - h) n) where
  is_len : n ≡ len (2 ^ k - h)
  is_len = d.is ∙ ap (λ (x : ℕ). len (x - h)) a.is

  pub newest_top : n ≤ suc k
  newest_top = omega (arith, is_len, len_le (2 ^ k - h) (suc k) (omega arith))

  pub held_is : held k h base ≡ (base + h) ∷ places k n (suc k - n) base
  held_is = go (newest k h b)
    where
      go : (l : ℕ) × ((m : ℕ) × Newest k h l m) → held k h base ≡ (base + h) ∷ places k n (suc k - n) base
      go x =
          let e : n ≡ suc x.0 = is_len ∙ newest_len k h x.0 x.1.0 x.1.1 in
          let c : suc k - suc x.0 ≡ x.1.0 = omega (arith, x.1.1.whole) in
          rw (e, c) (held_form k h x.0 x.1.0 base x.1.1)

  pub held_many : length (held k h base) ≡ suc (suc k - n)
  held_many = omega (arith, is_len, newest_top, held_length k h base b, lt_len (2 ^ k - h) 0 (omega arith))

  pub filling_room : (list : List ℕ) (at i next : ℕ) (list' : List ℕ) → at + length (held k h base) ≤ length list → Filling k base (set list at (base + h)) n (at + 1) list' i next → i ≤ k
      → (next < length list') × (next < length list)
  filling_room list at i next list' room f l =
      let e = length-set list at (base + h) in
      (omega (arith, f.ends, f.kept, held_many), omega (arith, f.ends, held_many))

  pub filling_end : (list : List ℕ) (at i next : ℕ) (list' : List ℕ) → Filling k base (set list at (base + h)) n (at + 1) list' i next → k < i → Written (held k h base) at list next list'
  unfolding places
  filling_end list at i next list' f l =
      let e : suc k - i ≡ 0 = omega arith in
      record {
        ends = omega (arith, f.ends, held_many);
        holds = rw (e, add-one at) at f.same ∙ sym (ap (sets list at) held_is);
      }

-- its hashes
pub own_works_out : (t : ℕ → ℕ → ℕ) (k r whole : ℕ) → Power k whole → r ≡ whole → 0 ≡ work t k r
own_works_out t k r whole p e = sym (work_out t k r (e ∙ p.is))

pub own_works : (t : ℕ → ℕ → ℕ) (k r n : ℕ) → r < 2 ^ k → n ≡ t k r → n ≡ work t k r
own_works t k r n h e = e ∙ sym (work_prepare t k r h)

-- ---- all pebblers

-- past round 2^k there is a lower level
pub level : (k r whole : ℕ) → Power k whole → whole < r → r < 2 ^ suc k → suc (k - 1) ≡ k
level zero r whole p l h = absurd (omega arith)
level (suc k) r whole p l h = omega arith

-- up to round 2^k P_k alone is listed
module _ (t : ℕ → ℕ → ℕ) (k r base h whole : ℕ) (p : Power k whole) (early : r ≤ whole) (d : Done t k r h) where
  itself : held k h base ≡ positions t k r base
  itself = ap (λ (x : ℕ). held k x base) d.is ∙ sym (positions_itself t k r base (omega arith))

  pub own_asks : (list : List ℕ) (at : ℕ) → k ≤ 20 → base + 2 ^ k ≤ 1048576 → at + length (positions t k r base) ≤ length list
      → (k ≤ 20) × (h < 2 ^ k) × (base ≤ 1048576) × (at + length (held k h base) ≤ length list)
  own_asks list at l low room = (l, d.small, omega arith, omega (arith, ap length itself))

  pub own_says : (list list' : List ℕ) (at end : ℕ) → Written (held k h base) at list end list' → Written (positions t k r base) at list end list'
  own_says list list' at end w = written_as (held k h base) (positions t k r base) list list' at end itself w

-- later it is two P_j, of which the upper is listed first
module _ (t : ℕ → ℕ → ℕ) (k r base whole j half : ℕ) (e : suc j ≡ k) (p : Power k whole) (q : Power j half) (late : whole < r) where
  twice : 2 ^ k ≡ 2 * half
  twice = rw (← e) (omega arith)

  past : 2 ^ suc j + (r - whole) ≡ r
  past = omega (arith, twice)

  pub lower_round : k ≤ 20 → r < 2 ^ suc k → (j ≤ 20) × (0 < r - whole) × (r - whole < 2 ^ suc j)
  lower_round l b = (omega arith, omega arith, omega (arith, twice))

  pub upper_round : r - whole < half → (0 < half + (r - whole)) × (half + (r - whole) < 2 ^ suc j)
  upper_round u = (omega arith, omega arith)

  two_work : work t k r ≡ work t j (half + (r - whole)) + work t j (r - whole)
  two_work = rw (← e, q.is) (ap (work t (suc j)) (sym past) ∙ work_split t j (r - whole) (omega arith))

  two : positions t k r base ≡ positions t j (half + (r - whole)) (base + half) ++ positions t j (r - whole) base
  two =
      rw (← e, q.is) (ap (λ (x : ℕ). positions t (suc j) x base) (sym past) ∙ positions_split t j (r - whole) base (omega arith))

  sizes : length (positions t k r base) ≡ length (positions t j (half + (r - whole)) (base + half)) + length (positions t j (r - whole) base)
  sizes = ap length two ∙ length-append (positions t j (half + (r - whole)) (base + half)) (positions t j (r - whole) base)

  module _ (ended : half ≤ r - whole) where
    one : positions t j (r - whole) base ≡ positions t k r base
    one = sym (two ∙ ap (λ (s : List ℕ). s ++ positions t j (r - whole) base) (positions_ended t j (half + (r - whole)) (base + half) (omega arith)))

    pub lower_asks : (list : List ℕ) (at : ℕ) → base + 2 ^ k ≤ 1048576 → at + length (positions t k r base) ≤ length list
        → (base + 2 ^ j ≤ 1048576) × (at + length (positions t j (r - whole) base) ≤ length list)
    lower_asks list at low room = (omega (arith, twice), omega (arith, ap length one))

    pub lower_says : (list list' : List ℕ) (at end : ℕ) → Written (positions t j (r - whole) base) at list end list' → Written (positions t k r base) at list end list'
    lower_says list list' at end w = written_as (positions t j (r - whole) base) (positions t k r base) list list' at end one w

    pub lower_works : (n : ℕ) → n ≡ work t j (r - whole) → n ≡ work t k r
    lower_works n w = omega (arith, two_work, work_ended t j (half + (r - whole)) (omega arith))

  pub both_work : (m n : ℕ) → m ≡ work t j (half + (r - whole)) → n ≡ work t j (r - whole) → m + n ≡ work t k r
  both_work m n u v = omega (arith, two_work)

  module _ (list : List ℕ) (at : ℕ) (low : base + 2 ^ k ≤ 1048576) (room : at + length (positions t k r base) ≤ length list) where
    pub first_asks : (base + half + 2 ^ j ≤ 1048576) × (at + length (positions t j (half + (r - whole)) (base + half)) ≤ length list)
    first_asks = (omega (arith, twice), omega (arith, sizes))

    module _ (mid : List ℕ) (next : ℕ) (w : Written (positions t j (half + (r - whole)) (base + half)) at list next mid) where
      pub second_asks : (base + 2 ^ j ≤ 1048576) × (next + length (positions t j (r - whole) base) ≤ length mid)
      second_asks =
          let l : length mid ≡ length list = written_length (positions t j (half + (r - whole)) (base + half)) list mid at next w in
          (omega (arith, twice), omega (arith, sizes, w.ends))

      pub both_say : (list' : List ℕ) (end : ℕ) → Written (positions t j (r - whole) base) next mid end list' → Written (positions t k r base) at list end list'
      both_say list' end v =
          let us : List ℕ = positions t j (half + (r - whole)) (base + half) in
          let ls : List ℕ = positions t j (r - whole) base in
          written_as (us ++ ls) (positions t k r base) list list' at end (sym two) (written_both us ls list at mid next w list' end v)

-- few hashes come in a round
pub works_small : (s j r n : ℕ) → s ≤ 3 → j ≤ 20 → 0 < r → n ≡ work (schedule s) j r → n < 1048576
works_small s j r n h l p e = omega (arith, work_lt (schedule s) (fair s h) j r p, pow_mono {i = j} {j = 20} l)
