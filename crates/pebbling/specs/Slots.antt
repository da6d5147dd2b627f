-- The slots of a card's record are enough for what is held before every round, under every schedule. Assumes nothing.
use Rattle.std.specs.Prelude.{◌≡◌, Bool, true, false, cond, ◌⊎◌, ℕ, zero, suc, ◌+◌, ◌-◌, ◌*◌, ◌^◌, ◌≤◌, ◌<◌, max, eqb, length}
use Rattle.std.proofs.Common.{inl, inr, eq-zero-or-pos, arith}
use Rattle.pebbling.specs.Len.{lt_len, len_le, lt_or_le}
use Rattle.pebbling.specs.Recursion.{schedule, done, positions, slots}
use Rattle.pebbling.specs.SideBySide.{positions_itself, positions_children, side_positions_gone}
use Rattle.pebbling.specs.OnePebbler.{held_length}
use Rattle.pebbling.specs.HashesDone.{Fair, done_lt, fair}
use Rattle.pebbling.specs.Room.{Roomy, positions_room, rushing_roomy, speed2_roomy, optimal_roomy}
use Rattle.pebbling.specs.RoomSpeed1.{positions_room_speed1}

-- until P_k puts out its y_0 there are its own y's and no others
early : (t : ℕ → ℕ → ℕ) → Fair t → (k r base : ℕ) → r ≤ 2 ^ k → length (positions t k r base) ≤ k + 1
early t t_fair k r base h =
    let d : done t k r < 2 ^ k = done_lt t t_fair k r h in
    rw (positions_itself t k r base h) (omega (arith, held_length k (done t k r) base d, lt_len (2 ^ k - done t k r) 0 (omega arith)))

roomy_slots : (t : ℕ → ℕ → ℕ) → Fair t → Roomy t → (k r base : ℕ) → r ≤ 2 ^ suc k → length (positions t k r base) ≤ k + 1
roomy_slots t t_fair roomy k r base l = go (lt_or_le (2 ^ k) r)
  where
    go : (2 ^ k < r) ⊎ (r ≤ 2 ^ k) → length (positions t k r base) ≤ k + 1
    go (inl h) = omega (arith, positions_room t roomy k r (2 ^ suc k - r) base (omega arith) h, len_le (2 ^ suc k - r) k (omega arith))
    go (inr h) = early t t_fair k r base h

pub enough_slots : (s : ℕ) → s ≤ 3 → (k r base : ℕ) → r ≤ 2 ^ suc k → length (positions (schedule s) k r base) ≤ slots s k
unfolding schedule slots
enough_slots zero b k r base l = roomy_slots (schedule 0) (fair 0 b) rushing_roomy k r base l
enough_slots (suc zero) b k r base l = go (lt_or_le (2 ^ k) r)
  where
    go : (2 ^ k < r) ⊎ (r ≤ 2 ^ k) → length (positions (schedule 1) k r base) ≤ slots 1 k
    go (inr h) = omega (arith, early (schedule 1) (fair 1 b) k r base h)
    go (inl h) = by (eq-zero-or-pos (2 ^ suc k - r))
      where
        by : (2 ^ suc k - r ≡ 0) ⊎ (0 < 2 ^ suc k - r) → length (positions (schedule 1) k r base) ≤ slots 1 k
        by (inl e) = rw (positions_children (schedule 1) k r base h, side_positions_gone (schedule 1) k (r - 2 ^ k) base (omega arith)) (omega arith)
        by (inr p) = positions_room_speed1 k r (2 ^ suc k - r) base (omega arith) h p
enough_slots (suc (suc zero)) b k r base l = roomy_slots (schedule 2) (fair 2 b) speed2_roomy k r base l
enough_slots (suc (suc (suc zero))) b k r base l = roomy_slots (schedule 3) (fair 3 b) optimal_roomy k r base l
enough_slots (suc (suc (suc (suc s)))) b k r base l = absurd (omega arith)

-- there is a slot, and there are at most 38
pub slots_some : (s k : ℕ) → 0 < slots s k
unfolding slots
slots_some s k = go (eqb s 1)
  where
    go : (b : Bool) → 0 < cond b (max (k + 1) (2 * k - 2)) (k + 1)
    go true = omega arith
    go false = omega arith

pub slots_small : (s k : ℕ) → k ≤ 20 → slots s k ≤ 38
unfolding slots
slots_small s k h = go (eqb s 1)
  where
    go : (b : Bool) → cond b (max (k + 1) (2 * k - 2)) (k + 1) ≤ 38
    go true = omega arith
    go false = omega arith
