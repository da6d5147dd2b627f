-- What each way out of the position list comes to: the tests on the way there pick the case of the definition. Assumes nothing.
use mathlib.Core.Path.{◌≡◌, refl, sym, ap, ◌∙◌}
use mathlib.Core.List.{List, [], ◌∷◌}
use Prim.Native.Nat.{ℕ, suc, ◌+◌, ◌^◌, ◌≤◌, ◌<◌}
use native.Mathlib.Omega.{arith}
use borrow.Author.Tests.{lt-ltb, le-ltb, eq-eqb, ne_eqb}
use lib.ListN.{length, take}
use lib.Pow.{pow_mono}
use Rattle.lists.specs.Writing.{over}
use Rattle.lists.specs.Written.{Written, written_taken}
use Rattle.refusals.specs.Numbers.{said_of, number_not_0}
use Rattle.refusals.specs.declared.Refusal.{Refusal}
use Rattle.refusals.specs.declared.Refusal.TheVariants.{TooManyTicks, UnknownSchedule, WrongLength, BadRecord}
use Rattle.std.specs.Prelude.{Err, Ok}
use Rattle.pebbling.specs.Recursion.{schedule, positions, work}
use Rattle.pebbling.specs.SideBySide.{positions_ended, work_ended}
use Rattle.pebbling.specs.Promises.{Power}
use Rattle.pebbling.specs.PositionList.{positions_must_say, positions_list, Positioned}
use Rattle.pebbling.specs.Slots.{enough_slots, slots_small}
use Rattle.pebbling.proofs.HashLaws.{next_power}

module _ (k s r : ℕ) (list : List ℕ) where
  refused : (why : Refusal) → positions_must_say k s r list ≡ said_of why → Positioned k s r list (Err why) list
  unfolding positions_list
  refused why e = record { says = sym e; leaves = rw (e, number_not_0 why) refl }

  pub refused_k : 20 < k → Positioned k s r list (Err TooManyTicks) list
  unfolding positions_must_say
  refused_k h = refused TooManyTicks (simp (lt-ltb 20 k h))

  module _ (k≤20 : k ≤ 20) where
    pub refused_schedule : 3 < s → Positioned k s r list (Err UnknownSchedule) list
    unfolding positions_must_say
    refused_schedule h = refused UnknownSchedule (simp (le-ltb 20 k k≤20, lt-ltb 3 s h))

    module _ (s≤3 : s ≤ 3) where
      pub refused_zero : r ≡ 0 → Positioned k s r list (Err BadRecord) list
      unfolding positions_must_say
      refused_zero e = refused BadRecord (simp (le-ltb 20 k k≤20, le-ltb 3 s s≤3, eq-eqb r 0 e))

      module _ (r≢0 : r ≡ 0 → ⊥) (end : ℕ) (p : Power (k + 1) end) where
        pub refused_late : end < r → Positioned k s r list (Err BadRecord) list
        unfolding positions_must_say
        refused_late h =
            refused BadRecord (simp (le-ltb 20 k k≤20, le-ltb 3 s s≤3, ne_eqb r 0 r≢0, lt-ltb (2 ^ suc k) r (omega (arith, next_power k end p))))

        module _ (in_time : r ≤ end) where
          -- refusal 4 is all that may still come
          by_length : (b : ℕ) → length (positions (schedule s) k r 0) ≡ b → length list < b → Positioned k s r list (Err WrongLength) list
          unfolding positions_must_say
          by_length b e h =
              refused WrongLength (simp (
                le-ltb 20 k k≤20,
                le-ltb 3 s s≤3,
                ne_eqb r 0 r≢0,
                le-ltb (2 ^ suc k) r (omega (arith, next_power k end p)),
                lt-ltb (length list) (length (positions (schedule s) k r 0)) (omega arith),
              ))

          listed : (n w : ℕ) (list' : List ℕ) → n ≡ length (positions (schedule s) k r 0) → w ≡ work (schedule s) k r → n ≤ length list
              → list' ≡ over (positions (schedule s) k r 0) list → Positioned k s r list (Ok (record { count = n; hashes = w })) list'
          unfolding positions_must_say positions_list
          listed n w list' a b h e =
              let t : positions_must_say k s r list ≡ 0 ∷ length (positions (schedule s) k r 0) ∷ work (schedule s) k r ∷ [] =
              simp (
                le-ltb 20 k k≤20,
                le-ltb 3 s s≤3,
                ne_eqb r 0 r≢0,
                le-ltb (2 ^ suc k) r (omega (arith, next_power k end p)),
                le-ltb (length list) (length (positions (schedule s) k r 0)) (omega arith),
              ) in
              record { says = rw (a, b) (sym t); leaves = rw t e }

          -- all rounds are run, and nothing is held
          pub listed_none : r ≡ end → Positioned k s r list (Ok (record { count = 0; hashes = 0 })) list
          listed_none e =
              let n : positions (schedule s) k r 0 ≡ [] = positions_ended (schedule s) k r 0 (omega (arith, next_power k end p)) in
              listed 0 0 list (sym (ap length n)) (sym (work_ended (schedule s) k r (omega (arith, next_power k end p)))) (omega arith) (rw n refl)

          module _ (not_end : r ≡ end → ⊥) where
            pub round_asked : (0 < r) × (r < 2 ^ suc k)
            round_asked = (omega arith, omega (arith, next_power k end p))

            -- aside there is room for them
            pub aside_asked : (0 + 2 ^ k ≤ 1048576) × (0 + length (positions (schedule s) k r 0) ≤ 38)
            aside_asked = (
              omega (arith, pow_mono {i = k} {j = 20} k≤20),
              omega (arith, enough_slots s s≤3 k r 0 (omega (arith, round_asked)), slots_small s k k≤20),
            )

            module _ (n w : ℕ) (aside aside' : List ℕ) (sized : length aside ≡ 38) (first : Written (positions (schedule s) k r 0) 0 aside n aside' × (w ≡ work (schedule s) k r)) where
              count : n ≡ length (positions (schedule s) k r 0)
              count = omega (arith, first.0.ends)

              pub few : n ≤ 38
              few = omega (arith, count, aside_asked.1)

              pub refused_length : length list < n → Positioned k s r list (Err WrongLength) list
              refused_length h = by_length n (sym count) h

              module _ (room : n ≤ length list) where
                -- what stands aside are the positions, and they are copied
                there : take n aside' ≡ positions (schedule s) k r 0
                there = written_taken (positions (schedule s) k r 0) aside aside' n (omega (arith, aside_asked.1)) first.0

                pub listed_all : (list' : List ℕ) → list' ≡ over (take n aside') list → Positioned k s r list (Ok (record { count = n; hashes = w })) list'
                listed_all list' e = listed n w list' count first.1 room (e ∙ rw there refl)
