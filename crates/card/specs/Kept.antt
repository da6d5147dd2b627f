-- A record that was written is read back, whatever was lent for it: the head, the values held, and zeros behind them. So a card that is
-- lent to a round as an earlier call left it passes every test. Assumes nothing.
use Rattle.std.specs.Prelude.{◌≡◌, true}
use Rattle.std.proofs.Math.Path.{refl, ap}
use Rattle.std.proofs.Common.{sym, ◌∙◌, pow_mono}
use mathlib.Core.List.{List, ◌++◌, map, append_assoc}
use Prim.Native.Nat.{ℕ, zero, suc, ◌+◌, ◌-◌, ◌^◌, ◌≤◌, ◌<◌}
use Rattle.std.proofs.Math.Nat.{mul-le-mul_left}
use native.Mathlib.Omega.{arith}
use borrow.Author.Tests.{le-ltb}
use Rattle.std.proofs.Math.ListN.{length, drop, replicate, length-append, length-replicate}
use Rattle.std.proofs.Math.Seq.{take_at, drop_at, drop-append-add}
use Rattle.records.specs.Numbers.{number_read}
use Rattle.lists.specs.Values.{values, joined}
use Rattle.lists.specs.Writing.{over, over_length}
use Rattle.oneway.specs.Laws.{step_length}
use Rattle.oneway.specs.Step.{known, width, step}
use Rattle.pebbling.specs.Demands.{never_more_than_slots}
use Rattle.pebbling.specs.OnBytes.{held_size_lem, held_read}
use Rattle.pebbling.specs.Recursion.{schedule, positions, chain}
use Rattle.card.specs.declared.Head.{Head}
use Rattle.std.specs.Prelude.{Ok}
use Rattle.card.specs.Record.{chain_of, width_of, held_count, held_size, slots_size, size, head_bytes, filled, card_bytes, head_of, held_values, free_slots, all_zero, laid_out}
use Rattle.card.specs.Refused.{inspect_slots, inspect_of}
use Rattle.card.specs.Sound.{Numbered, numbers_pass, in_range_lem}

-- ---- lists

-- what is written last stays
pub over-over : (x y old : List ℕ) → length x ≡ length y → over x (over y old) ≡ over x old
over-over x y old e = rw (drop_at y (drop (length y) old) (length x) (sym e), e) refl

all_zeros : (n : ℕ) → all_zero (replicate n 0) ≡ true
unfolding all_zero
all_zeros zero = refl
all_zeros (suc n) = all_zeros n

-- ---- values that fill a head's slots from slot 0 on

pub record Holding (head : Head) (vs : List (List ℕ)) : Type 0 where
  pub sized : length (joined vs) ≡ held_size head
  pub cut : (rest : List ℕ) → values (width_of head) (held_count head) (joined vs ++ rest) ≡ vs

-- the chain at the positions held is such values, by the facts over every width
pub chain_holding : (head : Head) (seed : List ℕ) → head.schedule ≤ 3 → length seed ≡ width_of head
    → Holding head (map (chain (step (chain_of head)) seed) (positions (schedule head.schedule) head.k head.round.0 0))
unfolding held_size held_count
chain_holding head seed known e =
    let c = chain_of head in
    record {
      sized = held_size_lem (width c) (step c) (step_length c) seed e head.schedule known head.k head.round.0;
      cut = held_read (width c) (step c) (step_length c) seed e head.schedule known head.k head.round.0;
    }

-- ---- the record

sixteen : (head : Head) (n : ℕ) → size head ≤ n → 16 ≤ n
unfolding size
sixteen head n h = omega arith

module _ (head : Head) (vs : List (List ℕ)) (nr : Numbered head) (from : 0 < head.round.0) (upto : head.round.0 ≤ 2 ^ suc head.k) (hs : Holding head vs) where
  held_fits : held_size head ≤ slots_size head
  unfolding held_size slots_size held_count
  held_fits = mul-le-mul_left (width_of head) (never_more_than_slots head.schedule nr.schedule head.k head.round.0 upto)

  filled_length : length (filled head vs) ≡ slots_size head
  unfolding filled
  filled_length =
      let z : ℕ = 0 in
      let n : ℕ = slots_size head - length (joined vs) in
      length-append (joined vs) (replicate n z) ∙ omega (arith, length-replicate n z, held_fits, hs.sized)

  pub card_length : length (card_bytes head vs) ≡ size head
  unfolding card_bytes size head_bytes
  card_length = length-append (head_bytes head) (filled head vs) ∙ omega (arith, filled_length)

  round_small : head.round.0 < 256 ^ 4
  round_small = omega (arith, upto, pow_mono {i = suc head.k} {j = 21} (omega (arith, nr.small)))

  module _ (rest : List ℕ) where
    head_back : head_of (head_bytes head ++ rest) ≡ head
    unfolding head_of head_bytes
    head_back = rw (number_read 4 head.round.0 round_small) refl

    laid_back : laid_out (head_bytes head ++ rest) ≡ true
    unfolding laid_out head_bytes all_zero
    laid_back = refl

    free_back : all_zero (free_slots head (head_bytes head ++ (filled head vs ++ rest))) ≡ true
    unfolding free_slots filled size
    free_back =
        let z : ℕ = 0 in
        let n : ℕ = slots_size head - held_size head in
        let l : length (head_bytes head) ≡ 16 = unfold head_bytes in refl in
        let m : 16 + slots_size head - (16 + held_size head) ≡ n = omega arith in
        let a : drop (16 + held_size head) (head_bytes head ++ ((joined vs ++ replicate (slots_size head - length (joined vs)) z) ++ rest)) ≡ replicate n z ++ rest =
        rw (append_assoc (joined vs) (replicate (slots_size head - length (joined vs)) z) rest, hs.sized, ← l)
        (drop-append-add (head_bytes head) (joined vs ++ (replicate n z ++ rest)) (held_size head)
        ∙ drop_at (joined vs) (replicate n z ++ rest) (held_size head) hs.sized) in
        rw (a, m, take_at (replicate n z) rest n (length-replicate n z)) (all_zeros n)

  module _ (old : List ℕ) (long : size head ≤ length old) where
    apart : over (card_bytes head vs) old ≡ head_bytes head ++ (filled head vs ++ drop (size head) old)
    unfolding card_bytes
    apart = rw (card_length) (append_assoc (head_bytes head) (filled head vs) (drop (size head) old))

    kept_length : length (over (card_bytes head vs) old) ≡ length old
    kept_length = over_length (card_bytes head vs) old (omega (arith, card_length))

    -- its head is read back
    pub headed_back : head_of (over (card_bytes head vs) old) ≡ head
    headed_back = ap head_of apart ∙ head_back (filled head vs ++ drop (size head) old)

    -- it passes inspection
    pub inspected : inspect_of (over (card_bytes head vs) old) ≡ Ok head
    unfolding inspect_of inspect_slots
    inspected =
        let rest : List ℕ = filled head vs ++ drop (size head) old in
        let s : size head ≤ length (head_bytes head ++ rest) = omega (arith, ap length apart, kept_length) in
        rw apart
        (rw (
          le-ltb (length (head_bytes head ++ rest)) 16 (sixteen head _ s),
          laid_back rest,
          head_back rest,
          numbers_pass head nr,
          le-ltb (length (head_bytes head ++ rest)) (size head) s,
          in_range_lem head from upto,
          free_back (drop (size head) old),
        ) refl)

    -- and the values held are read back
    pub values_back : held_values head (over (card_bytes head vs) old) ≡ vs
    unfolding held_values filled
    values_back =
        let z : ℕ = 0 in
        let l : length (head_bytes head) ≡ 16 = unfold head_bytes in refl in
        rw (apart, drop_at (head_bytes head) (filled head vs ++ drop (size head) old) 16 l, append_assoc (joined vs) (replicate (slots_size head - length (joined vs)) z) (drop (size head) old))
        (hs.cut (replicate (slots_size head - length (joined vs)) z ++ drop (size head) old))
