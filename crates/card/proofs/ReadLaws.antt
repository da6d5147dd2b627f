-- What the code that reads and writes records comes to, over plain lists and numbers. Assumes nothing.
use mathlib.Core.Path.{◌≡◌, refl, sym, ap, ◌∙◌}
use mathlib.Core.Bool.{◌&&◌, and_assoc, and-true}
use Rattle.std.specs.Prelude.{fold}
use mathlib.Core.List.{List, [], ◌∷◌, ◌++◌, append_assoc}
use Prim.Native.Nat.{ℕ, zero, suc, ◌+◌, ◌-◌, ◌*◌, ◌^◌, ◌≤◌}
use native.Mathlib.Nat.{mul-le-mul, mul-le-mul_left}
use native.Mathlib.Numerals.{add-one}
use native.Mathlib.Omega.{arith}
use borrow.Author.Tests.{ne_eqb}
use lib.Bits.{bit_or, or_zero_l, or_add_and, and_le_r}
use lib.Dec.{eqb}
use lib.ListN.{length, take, drop, length-append}
use borrow.Rule.Slice.PartMut.{put_mid}
use lib.Seq.{drop-drop, drop_at, take_at}
use Rattle.lists.specs.Parts.{part_tail, put_tail}
use Rattle.lists.specs.Writing.{over, over_length}
use Rattle.oneway.specs.Laws.{width_small}
use Rattle.oneway.specs.Step.{known}
use Rattle.pebbling.specs.Recursion.{schedule, positions, slots}
use Rattle.pebbling.specs.Demands.{none_held_at_the_end, never_more_than_slots}
use Rattle.pebbling.specs.Promises.{Power}
use Rattle.pebbling.specs.Slots.{slots_some}
use Rattle.card.specs.declared.Head.{Head}
use Rattle.card.specs.Record.{width_of, held_count, held_size, slots_size, head_bytes, all_zero}

-- ---- zeros: what was seen is zero just where all bytes are

or-none : (a b : ℕ) → eqb (bit_or a b) 0 ≡ (eqb a 0 && eqb b 0)
or-none zero b = rw (or_zero_l b) refl
or-none (suc a) b =
    rw (ne_eqb (suc a) 0 (λ e. omega arith)) (ne_eqb (bit_or (suc a) b) 0 (λ e. omega (arith, or_add_and (suc a) b, and_le_r (suc a) b)))

pub all_seen : (seen : ℕ) (bytes : List ℕ) → eqb (fold bit_or seen bytes) 0 ≡ (eqb seen 0 && all_zero bytes)
unfolding all_zero
all_seen seen [] = sym (and-true (eqb seen 0))
all_seen seen (b ∷ bytes) = all_seen (bit_or seen b) bytes ∙ rw (or-none seen b) (and_assoc (eqb seen 0) (eqb b 0) (all_zero bytes))

-- ---- slots_size

-- there is a slot, so a value fits
pub first_slot : (head : Head) → width_of head ≤ slots_size head
unfolding slots_size
first_slot head = omega (arith, mul-le-mul_left (width_of head) (slots_some head.schedule head.k))

module _ (head : Head) (w : ℕ) (wide : w ≡ width_of head) where
  module _ (m : ℕ) (many : (m ≡ slots head.schedule head.k) × (m ≤ 38)) where
    pub slots_bytes : m * w ≡ slots_size head
    unfolding slots_size
    slots_bytes = rw (← wide, ← many.0) (omega arith)

    pub slots_fit : m * w ≤ 608
    slots_fit = omega (arith, mul-le-mul many.1 (width_small (record { function = head.function })), ap (λ (x : ℕ). m * x) wide)

  -- ---- held_size

  pub held_small : (n : ℕ) → n ≤ 41 → n * w ≤ 656
  held_small n h = omega (arith, mul-le-mul h (width_small (record { function = head.function })), ap (λ (x : ℕ). n * x) wide)

  module _ (known : head.schedule ≤ 3) (upto : head.round.0 ≤ 2 ^ suc head.k) where
    pub held_fits : held_size head ≤ slots_size head
    unfolding held_size slots_size held_count
    held_fits = mul-le-mul_left (width_of head) (never_more_than_slots head.schedule known head.k head.round.0 upto)

    pub held_counted : (n : ℕ) → n ≡ length (positions (schedule head.schedule) head.k head.round.0 0) → n * w ≡ held_size head
    unfolding held_size held_count
    held_counted n e = rw (← wide, e) (omega arith)

pub held_none : (head : Head) (p : ℕ) → head.schedule ≤ 3 → Power (head.k + 1) p → head.round.0 ≡ p → 0 ≡ held_size head
unfolding held_size held_count
held_none head p known q t =
    let e : head.round.0 ≡ 2 ^ suc head.k = t ∙ q.is ∙ ap (λ (x : ℕ). 2 ^ x) (add-one head.k) in
    rw (e, none_held_at_the_end head.schedule known head.k) (omega arith)

-- ---- put

pub head_length : (head : Head) → length (head_bytes head) ≡ 16
unfolding head_bytes
head_length head = refl

pub put_both : (head : Head) (bytes filled card mid y : List ℕ) → 16 + length filled ≤ length card → bytes ≡ head_bytes head → mid ≡ over bytes card
    → y ≡ over filled (take (length mid - 16) (drop 16 mid)) → put_mid 16 (length mid - 16) mid y ≡ over (head_bytes head ++ filled) card
put_both head bytes filled card mid y room e m q =
    let hb = head_bytes head in
    let l : length hb ≡ 16 = head_length head in
    let n : mid ≡ hb ++ drop 16 card = m ∙ rw (e, l) refl in
    let s : length mid ≡ length card = ap length m ∙ over_length bytes card (omega (arith, ap length e)) in
    let d : drop 16 mid ≡ drop 16 card = ap (drop 16) n ∙ drop_at hb (drop 16 card) 16 l in
    let a : take 16 mid ≡ hb = ap (take 16) n ∙ take_at hb (drop 16 card) 16 l in
    put_tail 16 mid y (omega arith)
    ∙ rw (a, q, part_tail 16 mid, d, drop-drop (length filled) 16 card, length-append hb filled, l) (sym (append_assoc hb filled (drop (16 + length filled) card)))
