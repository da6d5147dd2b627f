-- How long a listing can be: at most 18 positions of four digits in a line, 2047 lines of at most 110 bytes, and the first and the last.
-- Assumes nothing.
use mathlib.Core.Path.{◌≡◌}
use mathlib.Core.Bool.{Bool, true, false, cond}
use mathlib.Core.List.{List, [], ◌∷◌, ◌++◌}
use mathlib.Core.Logic.{◌⊎◌, inl, inr}
use Prim.Native.Nat.{ℕ, zero, suc, ◌+◌, ◌-◌, ◌*◌, ◌^◌, ◌≤◌, ◌<◌, max}
use native.Mathlib.Nat.{mul-le-mul}
use native.Mathlib.Omega.{arith}
use lib.Dec.{eqb}
use lib.ListN.{length, length-append}
use lib.Pow.{pow_mono}
use Rattle.pebbling.specs.Demands.{positions_fall_strictly, never_more_than_slots, preparing_rounds_are_quiet, paying_rounds_pay}
use Rattle.pebbling.specs.Falling.{Falling}
use Rattle.pebbling.specs.HashesDone.{fair}
use Rattle.pebbling.specs.Len.{lt_or_le}
use Rattle.pebbling.specs.Recursion.{total, schedule, positions, work, put_out, slots}
use Rattle.pebbling.specs.Totals.{run_total, work_lt}
use Rattle.printing.specs.Names.{bytes}
use Rattle.listing.specs.Text.{decimal}
use Rattle.listing.specs.Listing.{space, line_feed, field, mark_before, position_list, put_out_field, held_fields, line_of, round_line, round_lines, line_for, head_line, total_line}
use Rattle.listing.specs.Steps.{Round}
use Rattle.listing.specs.Lines.{decimal_short, asked_short}

-- ---- fields

pub field_short : (n mark : ℕ) → n < 10000 → length (field n mark) ≤ 5
unfolding field
field_short n mark h = omega (arith, length-append (decimal n) (mark ∷ []), decimal_short n 3 h)

list_short : (top : ℕ) (ps : List ℕ) → top ≤ 10000 → Falling top 0 ps → length (position_list ps) ≤ 5 * length ps
unfolding position_list
list_short top [] h f = omega arith
list_short top (p ∷ ps) h f =
    omega (arith, length-append (field p (mark_before (length ps))) (position_list ps), field_short p (mark_before (length ps)) (omega (arith, f.0)), list_short p ps (omega (arith, f.0)) f.1)

-- ---- a round

pub slots_few : (s k : ℕ) → k ≤ 10 → slots s k ≤ 18
unfolding slots
slots_few s k h = go (eqb s 1)
  where
    go : (b : Bool) → cond b (max (k + 1) (2 * k - 2)) (k + 1) ≤ 18
    go true = omega arith
    go false = omega arith

module _ (s k r : ℕ) (ok : Round s k r) where
  power_small : 2 ^ k ≤ 1024
  power_small = pow_mono {i = k} {j = 10} ok.small

  pub held_few : length (positions (schedule s) k r 0) ≤ 18
  held_few = omega (arith, never_more_than_slots s ok.scheduled k r (omega (arith, ok.upto)), slots_few s k ok.small)

  out_short : length (put_out_field (put_out k r 0)) ≤ 5
  unfolding put_out_field bytes
  out_short = go (lt_or_le r (2 ^ k))
    where
      late : (c : ℕ) → 2 ^ k ≤ r → r + suc c ≡ 2 ^ suc k → length (put_out_field (put_out k r 0)) ≤ 5
      late c h e = rw (paying_rounds_pay k r c h e) (field_short c line_feed (omega (arith, power_small)))

      go : (r < 2 ^ k) ⊎ (2 ^ k ≤ r) → length (put_out_field (put_out k r 0)) ≤ 5
      go (inl h) = rw (preparing_rounds_are_quiet k r h) (omega arith)
      go (inr h) = late (2 ^ suc k - r - 1) h (omega (arith, ok.upto))

  pub line_short : length (round_line s k r) ≤ 110
  unfolding round_line line_of held_fields
  line_short =
      let ps : List ℕ = positions (schedule s) k r 0 in
      let w : ℕ = work (schedule s) k r in
      let a : List ℕ = field r space in
      let b : List ℕ = field w space in
      let c : List ℕ = field (length ps) space in
      let d : List ℕ = position_list ps in
      omega (
        arith,
        length-append (a ++ (b ++ (c ++ d))) (put_out_field (put_out k r 0)),
        length-append a (b ++ (c ++ d)),
        length-append b (c ++ d),
        length-append c d,
        field_short r space (omega (arith, ok.upto, power_small)),
        field_short w space (omega (arith, power_small, work_lt (schedule s) (fair s ok.scheduled) k r ok.from)),
        field_short (length ps) space (omega (arith, held_few)),
        list_short (2 ^ k) ps (omega (arith, power_small)) (positions_fall_strictly s ok.scheduled k r),
        held_few,
        out_short,
      )

-- ---- all rounds

module _ (s k : ℕ) (scheduled : s ≤ 3) (small : k ≤ 10) where
  pub lines_short : (n : ℕ) → n < 2 ^ suc k → length (round_lines s k n) ≤ 110 * n
  unfolding round_lines
  lines_short zero h = omega arith
  lines_short (suc n) h =
      omega (
        arith,
        length-append (round_lines s k n) (round_line s k (suc n)),
        lines_short n (omega arith),
        line_short s k (suc n) (record { scheduled = scheduled; small = small; from = omega arith; upto = h }),
      )

  grows : (n d : ℕ) → total (work (schedule s) k) n ≤ total (work (schedule s) k) (n + d)
  unfolding total
  grows n zero = let e : n + 0 ≡ n = omega arith in rw e (omega arith)
  grows n (suc d) = let e : n + suc d ≡ suc (n + d) = omega arith in rw e (omega (arith, grows n d))

  whole : total (work (schedule s) k) (2 ^ suc k - 1) ≤ 5120
  whole = omega (arith, run_total (schedule s) (fair s scheduled) k, mul-le-mul small (pow_mono {i = k} {j = 10} small))

  pub total_small : (n : ℕ) → n < 2 ^ suc k → total (work (schedule s) k) n ≤ 5120
  total_small n h =
      let e : n + (2 ^ suc k - 1 - n) ≡ 2 ^ suc k - 1 = omega arith in
      omega (arith, whole, rw e at (grows n (2 ^ suc k - 1 - n)))

-- ---- the first line and the last

pub head_short : (s k : ℕ) → k ≤ 10 → length (head_line s k) ≤ 19
unfolding head_line bytes
head_short s k h = omega (arith, length-append (line_for s k) (line_feed ∷ []), asked_short s k h)

pub total_short : (hashes : ℕ) → hashes ≤ 5120 → length (total_line hashes) ≤ 11
unfolding total_line bytes
total_short hashes h = omega (arith, field_short hashes line_feed (omega arith))
