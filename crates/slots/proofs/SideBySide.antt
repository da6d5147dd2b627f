-- P_k past its round 2^k on slots: what `children` comes to over plain lists. No child above the highest bit of the rounds left runs, so that
-- P_k does what the P_(j+1) of that bit does; and that is two P_j, one behind the other. Assumes nothing.
use mathlib.Core.Path.{◌≡◌, ap, ◌∙◌}
use mathlib.Core.List.{List}
use mathlib.Core.Logic.{◌⊎◌, inl, inr}
use Prim.Native.Nat.{ℕ, zero, suc, ◌+◌, ◌-◌, ◌*◌, ◌^◌, ◌≤◌, ◌<◌}
use native.Mathlib.Nat.{eq-or-lt_of_le}
use native.Mathlib.Omega.{arith}
use lib.ListN.{length, take, drop, length-drop}
use lib.Pow.{pow_pos, pow_mono}
use borrow.Rule.Slice.PartMut.{put_mid}
use Rattle.lists.specs.Parts.{part_tail}
use Rattle.lists.specs.Values.{values, values_length}
use Rattle.oneway.specs.declared.Chain.{Chain}
use Rattle.oneway.specs.Step.{width, step}
use Rattle.pebbling.specs.HashesDone.{fair}
use Rattle.pebbling.specs.Len.{len, len_law, len_le, len_lt, lt_len}
use Rattle.pebbling.specs.Promises.{Power, Bits}
use Rattle.pebbling.specs.Recursion.{schedule, positions}
use Rattle.pebbling.specs.SideBySide.{work_split}
use Rattle.pebbling.specs.Totals.{work_lt}
use Rattle.slots.specs.Moves.{Moves, Advancing, Advanced}
use Rattle.slots.proofs.Halves.{held_before, held_count_after, alone_before, alone_after, alone_works, alone_round, both_round}
use Rattle.slots.proofs.Moving.{moves_same, moves_both}
use Rattle.slots.proofs.OwnRound.{out_asks, out_moves}

-- ---- P_(j+1) in its round 2^(j+1) + n: two P_j

module _ {chain : Chain} {s j n : ℕ} {old new : List ℕ} (asked : Advancing chain s (suc j) (2 ^ suc j + n) old new) (0<n : 0 < n) where
  -- once the upper half has ended
  lower_alone_asks : 2 ^ j ≤ n → Advancing chain s j n old new
  lower_alone_asks late =
      record {
        known = asked.known;
        schedule = asked.schedule;
        small = omega (arith, asked.small);
        from = 0<n;
        before = omega (arith, asked.before);
        enough = rw (alone_before (schedule s) j n 0<n late) at asked.enough;
        room = rw (alone_after (schedule s) j n 0<n late) at asked.room;
      }

  lower_alone : 2 ^ j ≤ n → {rd wr m : ℕ} {new' : List ℕ} → Advanced chain s j n old new rd wr m new' → Advanced chain s (suc j) (2 ^ suc j + n) old new rd wr m new'
  lower_alone late moves =
      let a : ℕ = length (positions (schedule s) (suc j) (2 ^ suc j + n) 0) in
      let l : length (values (width chain) a old) ≡ length (positions (schedule s) j n 0) = values_length (width chain) a old ∙ alone_before (schedule s) j n 0<n late in
      moves_same (alone_before (schedule s) j n 0<n late) (alone_after (schedule s) j n 0<n late) (alone_works (schedule s) j n 0<n late)
      (alone_round (schedule s) j n 0<n late (step chain) (values (width chain) a old) l) moves

  -- while both run
  spread : (width chain * length (positions (schedule s) j (2 ^ j + n) 0) + width chain * length (positions (schedule s) j n 0) ≤ length old)
      × (width chain * length (positions (schedule s) j (suc (2 ^ j + n)) 0) + width chain * length (positions (schedule s) j (suc n) 0) ≤ length new)
  spread = (omega (arith, rw (held_before (schedule s) j n 0<n) at asked.enough), omega (arith, rw (held_count_after (schedule s) j n 0<n) at asked.room))

  module _ (early : n < 2 ^ j) where
    upper_first_asks : Advancing chain s j (2 ^ j + n) old new
    upper_first_asks =
        record {
          known = asked.known;
          schedule = asked.schedule;
          small = omega (arith, asked.small);
          from = omega arith;
          before = omega arith;
          enough = omega (arith, spread);
          room = omega (arith, spread);
        }

    module _ {rd wr m : ℕ} {mid : List ℕ} (upper : Advanced chain s j (2 ^ j + n) old new rd wr m mid) (kept : length mid ≡ length new) where
      upper_inside : (rd ≤ length old) × (wr ≤ length mid)
      upper_inside = (omega (arith, upper.reads, spread), omega (arith, upper.writes, spread))

      lower_behind_asks : Advancing chain s j n (take (length old - rd) (drop rd old)) (take (length mid - wr) (drop wr mid))
      lower_behind_asks =
          record {
            known = asked.known;
            schedule = asked.schedule;
            small = omega (arith, asked.small);
            from = 0<n;
            before = omega arith;
            enough = rw (part_tail rd old, length-drop) (omega (arith, upper.reads, spread));
            room = rw (part_tail wr mid, length-drop) (omega (arith, upper.writes, spread));
          }

      module _ {rd' wr' m' : ℕ} {y : List ℕ} (lower : Advanced chain s j n (take (length old - rd) (drop rd old)) (take (length mid - wr) (drop wr mid)) rd' wr' m' y) where
        halves_fit : (rd + rd' ≤ length old) × (wr + wr' ≤ length new) × (m + m' < 2 * 2 ^ j)
        halves_fit = (
          omega (arith, upper.reads, lower.reads, spread),
          omega (arith, upper.writes, lower.writes, spread),
          omega (arith, upper.works, lower.works, work_lt (schedule s) (fair s asked.schedule) j (2 ^ j + n) (omega arith), work_lt (schedule s) (fair s asked.schedule) j n 0<n),
        )

        halves_move : Advanced chain s (suc j) (2 ^ suc j + n) old new (rd + rd') (wr + wr') (m + m') (put_mid wr (length mid - wr) mid y)
        halves_move =
            let a : ℕ = length (positions (schedule s) (suc j) (2 ^ suc j + n) 0) in
            let l : length (values (width chain) a old) ≡ length (positions (schedule s) j (2 ^ j + n) 0) + length (positions (schedule s) j n 0) =
            values_length (width chain) a old ∙ held_before (schedule s) j n 0<n in
            moves_same (held_before (schedule s) j n 0<n) (held_count_after (schedule s) j n 0<n) (work_split (schedule s) j n 0<n)
            (both_round (schedule s) j n 0<n early (step chain) (values (width chain) a old) l)
            (moves_both upper upper_inside.1 lower)

-- ---- the children of P_k in their round n

abbrev Same : Chain → ℕ → List ℕ → List ℕ → ℕ → ℕ → ℕ → ℕ → Type 0
Same chain s old new k n j m =
    Advancing chain s j (2 ^ j + m) old new
    × ((rd wr h : ℕ) (new' : List ℕ) → Advanced chain s j (2 ^ j + m) old new rd wr h new' → Advanced chain s k (2 ^ k + n) old new rd wr h new')

-- no child above P_j runs, so that the children of P_k do what those of P_(j+1) do in their round m
descend : {chain : Chain} {s : ℕ} {old new : List ℕ} (k n j m : ℕ) → suc j ≤ k → n + 2 ^ suc j ≡ m + 2 ^ k → Advancing chain s k (2 ^ k + n) old new
    → Same chain s old new k n (suc j) m
descend zero n j m l e asked = absurd (omega arith)
descend {chain} {s} {old} {new} (suc k) n j m l e asked = go (λ l e a. descend k (n - 2 ^ k) j m l e a) (eq-or-lt_of_le l)
  where
    go : (suc j ≤ k → n - 2 ^ k + 2 ^ suc j ≡ m + 2 ^ k → Advancing chain s k (2 ^ k + (n - 2 ^ k)) old new → Same chain s old new k (n - 2 ^ k) (suc j) m)
        → (suc j ≡ suc k) ⊎ (suc j < suc k) → Same chain s old new (suc k) n (suc j) m
    go ih (inl u) =
        let q : 2 ^ suc j ≡ 2 ^ suc k = ap (λ (x : ℕ). 2 ^ x) u in
        let d : m ≡ n = omega arith in
        rw (u, d) (asked, λ rd wr h new' moves. moves)
    go ih (inr u) =
        let g : 2 ^ suc j ≤ 2 ^ k = pow_mono (omega arith) in
        let late : 2 ^ k ≤ n = omega arith in
        let d : n ≡ 2 ^ k + (n - 2 ^ k) = omega arith in
        let 0<n : 0 < n = omega (arith, pow_pos k) in
        let a : Advancing chain s k (2 ^ k + (n - 2 ^ k)) old new = rw d at (lower_alone_asks asked 0<n late) in
        let b = ih (omega arith) (omega arith) a in
        (b.0, λ rd wr h new' moves. lower_alone asked 0<n late (rw d (b.1 rd wr h new' moves)))

-- what the code has worked out: P_j is the highest child that runs, it is in its round m, and c rounds are left
pub record Splitting (chain : Chain) (s k n c j half m : ℕ) (old new : List ℕ) : Type 0 where
  pub asked : Advancing chain s k (2 ^ k + n) old new
  pub under : suc j ≤ k
  pub is : half ≡ 2 ^ j
  pub round : n + 2 ^ suc j ≡ m + 2 ^ k
  pub some : 0 < m
  pub left : m + c ≡ 2 ^ suc j
  pub least : half ≤ c

module _ {chain : Chain} {s k n c : ℕ} {old new : List ℕ} (asked : Advancing chain s k (2 ^ k + n) old new) (left : (0 < n) × (n + c ≡ 2 ^ k)) where
  above : (0 < c) × (c < 2 ^ k)
  above = (omega (arith, left.1, asked.before), omega (arith, left.0, left.1))

  module _ {l : ℕ} (b : Bits c l) where
    pub bits_some : (1 ≤ l) × (l - 1 ≤ 21)
    bits_some = (omega (arith, b.is, lt_len c 0 above.0), omega (arith, b.is, len_le c k above.1, asked.small))

    module _ {half all : ℕ} (q : Power (l - 1) half) (p : Power k all) where
      under : suc (l - 1) ≡ len c
      under = omega (arith, b.is, lt_len c 0 above.0)

      least : 2 ^ (l - 1) ≤ c
      least = len_lt c (l - 1) (omega (arith, under))

      below : c < 2 ^ suc (l - 1)
      below = rw under (len_law c).below

      pub ended_fits : (2 * half ≤ all) × (all - 2 * half ≤ n)
      ended_fits =
          let g : 2 ^ suc (l - 1) ≤ 2 ^ k = rw under (pow_mono (len_le c k above.1)) in
          (omega (arith, q.is, p.is), omega (arith, q.is, p.is, left.1, below))

      pub splitting : Splitting chain s k n c (l - 1) half (n - (all - 2 * half)) old new
      splitting =
          record {
            asked = asked;
            under = omega (arith, under, len_le c k above.1);
            is = q.is;
            round = omega (arith, q.is, p.is, ended_fits);
            some = omega (arith, q.is, p.is, left.1, below, ended_fits);
            left = omega (arith, q.is, p.is, left.1, ended_fits);
            least = omega (arith, q.is, least);
          }

module _ {chain : Chain} {s k n c j half m : ℕ} {old new : List ℕ} (p : Splitting chain s k n c j half m old new) where
  halves : Same chain s old new k n (suc j) m
  halves = descend k n j m p.under p.round p.asked

  -- P_j puts out
  module _ (e : c ≡ half) where
    last : m ≡ 2 ^ j
    last = omega (arith, p.is, p.left)

    ended : 2 ^ j ≤ m
    ended = omega (arith, last)

    pub last_asks : (j ≤ 20) × (width chain * suc j ≤ length old) × (width chain * j ≤ length new)
    last_asks = out_asks (lower_alone_asks halves.0 p.some ended) last

    pub last_moves : {rd wr h : ℕ} {new' : List ℕ} → Moves (width chain) (suc j) j 0 (drop 1) old new rd wr h new'
        → Advanced chain s k (2 ^ k + n) old new rd wr h new'
    last_moves moves = halves.1 _ _ _ _ (lower_alone halves.0 p.some ended (out_moves (lower_alone_asks halves.0 p.some ended) last moves))

  -- it prepares, behind the children of the P_j over the upper half
  module _ (not : c ≡ half → ⊥) where
    early : m < 2 ^ j
    early = omega (arith, p.is, p.left, p.least)

    pub upper_asks : Advancing chain s j (2 ^ j + m) old new × ((0 < m) × (m + (c - half) ≡ 2 ^ j))
    upper_asks = (upper_first_asks halves.0 p.some early, (p.some, omega (arith, p.is, p.left, p.least)))

    module _ {rd wr h : ℕ} {mid : List ℕ} (upper : Advanced chain s j (2 ^ j + m) old new rd wr h mid) (kept : length mid ≡ length new) where
      pub upper_fits : (rd ≤ length old) × (wr ≤ length mid)
      upper_fits = upper_inside halves.0 p.some early upper kept

      pub lower_asks : Advancing chain s j m (take (length old - rd) (drop rd old)) (take (length mid - wr) (drop wr mid)) × (m < 2 ^ j)
      lower_asks = (lower_behind_asks halves.0 p.some early upper kept, early)

      module _ {rd' wr' h' : ℕ} {y : List ℕ} (lower : Advanced chain s j m (take (length old - rd) (drop rd old)) (take (length mid - wr) (drop wr mid)) rd' wr' h' y) where
        pub both_fit : (rd + rd' ≤ length old) × (wr + wr' ≤ length new) × (h + h' < 2 * 2 ^ j)
        both_fit = halves_fit halves.0 p.some early upper kept lower

        pub both_move : {rds wrs hs : ℕ} → (rds ≡ rd + rd') × (wrs ≡ wr + wr') × (hs ≡ h + h')
            → Advanced chain s k (2 ^ k + n) old new rds wrs hs (put_mid wr (length mid - wr) mid y)
        both_move sums = rw (sums.0, sums.1, sums.2) (halves.1 _ _ _ _ (halves_move halves.0 p.some early upper kept lower))
