-- What the walk from the seed comes to, over plain lists. Assumes nothing.
use mathlib.Core.Path.{◌≡◌, refl, sym, ap, ◌∙◌}
use mathlib.Core.List.{List, [], ◌∷◌, ◌++◌, append_assoc}
use Prim.Native.Nat.{ℕ, zero, suc, ◌+◌, ◌-◌, ◌*◌, ◌≤◌, ◌<◌}
use native.Mathlib.Nat.{mul_comm}
use native.Mathlib.Omega.{arith}
use lib.ListN.{length, take, drop, get_or, length-append, length-take, drop_of_length-le}
use lib.Seq.{sets-eq, length-take-le, take-append-le, take-take, drop_at, drop-cons}
use Rattle.lists.specs.Values.{joined}
use Rattle.lists.specs.Written.{Written, written_none, written_length, written_front}
use Rattle.oneway.specs.declared.Chain.{Chain}
use Rattle.oneway.specs.Step.{width, step}
use Rattle.pebbling.specs.Falling.{Falling}
use Rattle.pebbling.specs.Recursion.{chain}
use Rattle.records.proofs.Laws.{Walking, walking_none, walking_next}
use Rattle.records.specs.Chains.{chain_add, chain_length}
use Rattle.refill.specs.Refill.{elements, highest, Fillable, Refilled}

-- ---- climb: from one position on, as many steps as the position went up

pub climbing_none : (c : Chain) (seed : List ℕ) (from : ℕ) → length seed ≡ width c → Walking c seed seed (from - from)
climbing_none c seed from e = let z : from - from ≡ 0 = omega arith in rw z (walking_none c seed e)

pub climbing_next : (c : Chain) (seed value value' : List ℕ) (from at : ℕ) → from ≤ at → Walking c seed value (at - from) → value' ≡ step c value → Walking c seed value' (at + 1 - from)
climbing_next c seed value value' from at h w e =
    let s : at + 1 - from ≡ at - from + 1 = omega arith in
    rw s (walking_next c seed value value' (at - from) w e)

-- ---- fill: the positions from i on are done

-- the highest position from i on is not above the one before it
falling_next : (top low : ℕ) (positions : List ℕ) (i : ℕ) → Falling top low positions → i < length positions → highest (drop (suc i) positions) ≤ get_or positions i 0
unfolding highest
falling_next top low [] i f h = absurd (omega arith)
falling_next top low (p ∷ []) zero f h = omega arith
falling_next top low (p ∷ q ∷ lower) zero f h = omega (arith, f.1.0)
falling_next top low (p ∷ lower) (suc i) f h = falling_next p low lower i f.1 (omega arith)

-- a piece, and then another written just in front of it, are one piece
written_before : (a b text text₁ text₂ : List ℕ) (at mid end last : ℕ) → mid ≡ at + length a → end ≤ length text → Written b mid text end text₁ → Written a at text₁ last text₂
    → Written (a ++ b) at text end text₂
written_before a b text text₁ text₂ at mid end last m h v w =
    let l : mid + length b ≤ length text = omega (arith, v.ends) in
    let n : at + length (a ++ b) ≤ length text = omega (arith, length-append a b) in
    let k : at + length a ≤ length text₁ = omega (arith, written_length b text text₁ mid end v) in
    let z : mid + length b ≡ at + length (a ++ b) = omega (arith, length-append a b) in
    let e : text₁ ≡ take mid text ++ (b ++ drop (mid + length b) text) = v.holds ∙ sets-eq b text mid l ∙ append_assoc (take mid text) b (drop (mid + length b) text) in
    let t : take at text₁ ≡ take at text =
    ap (take at) e ∙ take-append-le at (take mid text) (b ++ drop (mid + length b) text) (simp length-take (omega arith)) ∙ take-take at mid text (omega arith) in
    let d : drop (at + length a) text₁ ≡ b ++ drop (at + length (a ++ b)) text =
    ap (drop (at + length a)) e ∙ drop_at (take mid text) (b ++ drop (mid + length b) text) (at + length a) (length-take-le mid text (omega arith) ∙ m) ∙ rw z refl in
    record {
      ends = omega (arith, v.ends, length-append a b);
      holds = w.holds ∙ sets-eq a text₁ at k ∙ rw (t, d) (simp append_assoc) ∙ sym (sets-eq (a ++ b) text at n);
    }

-- the loop's invariant: the value is the chain's at the highest position done, and the values of all that are done stand in their slots
pub record Filling (c : Chain) (seed positions slots : List ℕ) (w i at : ℕ) (value slots' : List ℕ) : Type 0 where
  pub wide : w ≡ width c
  pub within : i ≤ length positions
  pub reached : at ≡ highest (drop i positions)
  pub walks : Walking c seed value at
  pub stored : Written (joined (elements c seed (drop i positions))) (i * w) slots (length positions * w) slots'

pub filling_none : (c : Chain) (seed positions slots : List ℕ) (w : ℕ) → Fillable c seed positions slots → w ≡ width c → Filling c seed positions slots w (length positions) 0 seed slots
unfolding joined highest
filling_none c seed positions slots w f e =
    let d : drop (length positions) positions ≡ [] = drop_of_length-le positions {i = length positions} (omega arith) in
    record {
      wide = e;
      within = omega arith;
      reached = rw d refl;
      walks = walking_none c seed f.seeded;
      stored = rw d (written_none slots (length positions * w));
    }

module _
    (c : Chain) (seed positions slots : List ℕ) (f : Fillable c seed positions slots)
    (w i at : ℕ) (value slots' : List ℕ) (s : Filling c seed positions slots w i at value slots') where
  -- the values take w bytes each, and there is room for all
  fill_end : length positions * w ≤ length slots
  fill_end = let e : length positions * w ≡ width c * length positions = rw s.wide (mul_comm (length positions) (width c)) in omega (arith, e, f.room)

  -- all is done
  pub filled : i ≤ 0 → Refilled c seed positions slots at slots'
  filled h =
      let z : i ≡ 0 = omega arith in
      let y : 0 * w ≡ 0 = omega arith in
      let v : Written (joined (elements c seed positions)) 0 slots (length positions * w) slots' = rw (z, y) at s.stored in
      record {
        leaves = written_front (joined (elements c seed positions)) slots slots' (length positions * w) (omega (arith, v.ends, fill_end)) v;
        counts = s.reached ∙ rw z refl;
      }

  module _ (h : 0 < i) where
    before : suc (i - 1) ≡ i
    before = omega arith

    slot_ends : i * w ≡ (i - 1) * w + w
    slot_ends = let e : suc (i - 1) * w ≡ (i - 1) * w + w = omega arith in ap (λ (n : ℕ). n * w) (sym before) ∙ e

    -- the next position is not below the last
    pub fill_up : at ≤ get_or positions (i - 1) 0
    fill_up =
        let l : highest (drop (suc (i - 1)) positions) ≤ get_or positions (i - 1) 0 = falling_next f.top 0 positions (i - 1) f.falls (omega (arith, s.within)) in
        rw s.reached (rw before at l)

    module _ (value' : List ℕ) (climbs : value' ≡ chain (step c) value (get_or positions (i - 1) 0 - at)) where
      fill_walks : Walking c seed value' (get_or positions (i - 1) 0)
      fill_walks =
          let e : at + (get_or positions (i - 1) 0 - at) ≡ get_or positions (i - 1) 0 = omega (arith, fill_up) in
          let v : value' ≡ chain (step c) seed (get_or positions (i - 1) 0) =
          climbs ∙ rw (s.walks.holds, ← chain_add (step c) seed at (get_or positions (i - 1) 0 - at), e) refl in
          record {
            wide = f.seeded;
            sized = ap length v ∙ chain_length c seed f.seeded (get_or positions (i - 1) 0) ∙ sym f.seeded;
            holds = v;
          }

      wide' : length value' ≡ w
      wide' = fill_walks.sized ∙ f.seeded ∙ sym s.wide

      -- one position more
      pub filling_next : (end : ℕ) (slots'' : List ℕ) → Written value' ((i - 1) * w) slots' end slots''
          → Filling c seed positions slots w (i - 1) (get_or positions (i - 1) 0) value' slots''
      unfolding joined highest
      filling_next end slots'' v =
          let d : drop (i - 1) positions ≡ get_or positions (i - 1) 0 ∷ drop i positions =
          drop-cons positions (i - 1) 0 (omega (arith, s.within)) ∙ rw before refl in
          let b : Written (value' ++ joined (elements c seed (drop i positions))) ((i - 1) * w) slots (length positions * w) slots'' =
          written_before value' (joined (elements c seed (drop i positions))) slots slots' slots'' ((i - 1) * w) (i * w) (length positions * w) end (omega (arith, slot_ends, wide')) fill_end s.stored v in
          record {
            wide = s.wide;
            within = omega (arith, s.within);
            reached = rw d refl;
            walks = fill_walks;
            stored = rw d (rw fill_walks.holds at b);
          }
