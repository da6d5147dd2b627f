-- What the count of the values held comes to, over plain numbers: the split of the pebblers that run, and the room of a card.
-- Assumes nothing.
use mathlib.Core.Path.{◌≡◌, sym, ap, ◌∙◌}
use Prim.Native.Nat.{ℕ, zero, suc, ◌+◌, ◌-◌, ◌^◌, ◌≤◌, ◌<◌}
use native.Mathlib.Omega.{arith}
use lib.ListN.{length, length-append}
use Rattle.pebbling.specs.Demands.{never_more_than_slots}
use Rattle.pebbling.specs.Promises.{Power, Done, Holds, Aside}
use Rattle.pebbling.specs.Recursion.{schedule, done, held, positions}
use Rattle.pebbling.specs.Slots.{slots_small}
use Rattle.pebbling.specs.SideBySide.{positions_itself, positions_children, side_positions, side_positions_both, side_positions_last, side_positions_late, side_held_count, side_length}

-- ---- held_count_aside: P_k has children, and the last is P_j

pub level : (s k n more : ℕ) → Aside s k n more → suc (k - 1) ≡ k
level s zero n more ok = absurd (omega (arith, ok.from, ok.before))
level s (suc k) n more ok = omega arith

module _ (s j n more half : ℕ) (ok : Aside s (suc j) n more) (q : Power j half) where
  abbrev t : ℕ → ℕ → ℕ
  t = schedule s

  late : half < n → side_held_count t j (n - half) ≡ side_held_count t (suc j) n
  late h = rw q.is (sym (ap length (side_positions_late t j n 0 (omega (arith, q.is)))))

  late_asks : half < n → Aside s j (n - half) more
  late_asks h =
      record {
        schedule = ok.schedule;
        small = omega (arith, ok.small);
        from = omega arith;
        before = omega (arith, ok.before, q.is);
        few = omega (arith, ok.few, late h);
      }

  module _ (h : n ≤ half) (x own : ℕ) (d : Done (schedule s) j n x) (o : Holds j x own) where
    owned : own ≡ length (held j (done t j n) 0)
    owned = o.is ∙ ap (λ (y : ℕ). length (held j y 0)) d.is

    last : n ≡ half → more + own ≡ more + side_held_count t (suc j) n
    last e = omega (arith, owned, ap length (side_positions_last t j n 0 (omega (arith, q.is))))

    both : side_held_count t j n + own ≡ side_held_count t (suc j) n
    both =
        omega (
          arith,
          owned,
          ap length (side_positions_both t j n 0 (omega (arith, q.is))),
          length-append (side_positions t j n (0 + 2 ^ j)) (held j (done t j n) 0),
          side_length t j n (0 + 2 ^ j),
        )

    both_asks : (n ≡ half → ⊥) → Aside s j n (more + own)
    both_asks e =
        record {
          schedule = ok.schedule;
          small = omega (arith, ok.small);
          from = ok.from;
          before = omega (arith, q.is);
          few = omega (arith, ok.few, both);
        }

-- the same as the code has it, with k and j = k - 1
module _ (s k n more j half : ℕ) (e : suc j ≡ k) (ok : Aside s k n more) (q : Power j half) where
  abbrev ok' : Aside s (suc j) n more
  ok' = rw e ok

  pub aside_late_asks : half < n → Aside s j (n - half) more
  aside_late_asks h = late_asks s j n more half ok' q h

  pub aside_late : half < n → (m : ℕ) → m ≡ more + side_held_count (schedule s) j (n - half) → m ≡ more + side_held_count (schedule s) k n
  aside_late h m f = rw (← e) (f ∙ ap (λ (x : ℕ). more + x) (late s j n more half ok' q h))

  module _ (h : n ≤ half) (x own : ℕ) (d : Done (schedule s) j n x) (o : Holds j x own) where
    pub aside_last : n ≡ half → more + own ≡ more + side_held_count (schedule s) k n
    aside_last f = rw (← e) (last s j n more half ok' q h x own d o f)

    pub aside_both_asks : (n ≡ half → ⊥) → Aside s j n (more + own)
    aside_both_asks f = both_asks s j n more half ok' q h x own d o f

    pub aside_both : (m : ℕ) → m ≡ more + own + side_held_count (schedule s) j n → m ≡ more + side_held_count (schedule s) k n
    aside_both m f = rw (← e) (omega (arith, both s j n more half ok' q h x own d o))

-- ---- held

module _ (s k r : ℕ) (known : s ≤ 3) (small : k ≤ 20) (from : 0 < r) (before : r < 2 ^ suc k) (whole : ℕ) (q : Power k whole) where
  few : length (positions (schedule s) k r 0) ≤ 41
  few = omega (arith, never_more_than_slots s known k r (omega arith), slots_small s k small)

  module _ (h : whole < r) where
    aside : side_held_count (schedule s) k (r - whole) ≡ length (positions (schedule s) k r 0)
    aside = rw q.is (sym (ap length (positions_children (schedule s) k r 0 (omega (arith, q.is)))))

    pub held_asks : Aside s k (r - whole) 0
    held_asks =
        record { schedule = known; small = small; from = omega arith; before = omega (arith, q.is); few = omega (arith, few, aside) }

    pub held_children : (m : ℕ) → m ≡ 0 + side_held_count (schedule s) k (r - whole) → (m ≡ length (positions (schedule s) k r 0)) × (m ≤ 41)
    held_children m e = (omega (arith, aside), omega (arith, aside, few))

  pub held_itself : r ≤ whole → (x m : ℕ) → Done (schedule s) k r x → Holds k x m → (m ≡ length (positions (schedule s) k r 0)) × (m ≤ 41)
  held_itself h x m d o =
      let e : m ≡ length (positions (schedule s) k r 0) =
      o.is ∙ ap (λ (y : ℕ). length (held k y 0)) d.is ∙ sym (ap length (positions_itself (schedule s) k r 0 (omega (arith, q.is)))) in
      (e, omega (arith, e, few))
