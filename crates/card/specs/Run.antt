-- A card that is started and run: what start and the rounds after it leave, by the right sides of their promises, and what each round reads
-- from it. A round r is a number from 1 on; `after .. (r - 1)` is the record before it. Assumes nothing.
use Rattle.std.specs.Prelude.{◌≡◌, true, length}
use Rattle.std.proofs.Math.Path.{refl, sym, ap}
use Rattle.std.proofs.Common.{◌∙◌, arith}
use mathlib.Core.List.{List, map}
use Prim.Native.Nat.{ℕ, zero, suc, ◌-◌, ◌^◌, ◌≤◌, ◌<◌}
use borrow.Author.Tests.{eq-eqb, ne_eqb, lt-ltb, le-ltb}
use Rattle.std.proofs.Math.Pow.{pow_pos}
use Rattle.lists.specs.Values.{joined}
use Rattle.lists.specs.Writing.{over}
use Rattle.oneway.specs.Step.{known, width, step}
use Rattle.oneway.specs.declared.Chain.{Chain}
use Rattle.pebbling.specs.Demands.{round_moves_the_chain, card_holds_the_chain}
use Rattle.pebbling.specs.Recursion.{schedule, positions, tick, before, chain}
use Rattle.refusals.specs.Numbers.{said_of}
use Rattle.refusals.specs.declared.Refusal.TheVariants.{WrongLength, Spent}
use Rattle.card.specs.declared.Head.{Head}
use Rattle.std.specs.Prelude.{Ok}
use Rattle.card.specs.Record.{head_at, slots_size, size, card_bytes, held_values}
use Rattle.card.specs.Refused.{numbers, room_for, start_judged, inspect_of, ready, round_judged}
use Rattle.card.specs.Promises.{start_card, elements_held, round_must_say, round_card, round_out}
use Rattle.card.specs.Sound.{Numbered, ready_passes}
use Rattle.card.specs.Kept.{over-over, Holding, chain_holding, card_length, inspected, values_back}

-- ---- definitions

-- a known function, a k and a schedule within their bounds, a seed of the function's width, and a lent record that is long enough
pub record Given (function k s : ℕ) (seed lent : List ℕ) : Type 0 where
  pub known : known function ≡ true
  pub small : k ≤ 20
  pub scheduled : s ≤ 3
  pub seeded : length seed ≡ width (record { function = function })
  pub long : size (head_at function k s 1) ≤ length lent

-- the record that a start and n rounds leave; round r is lent the out buffer `outs r`
unfoldable pub after : (function k s : ℕ) (seed lent : List ℕ) (outs : ℕ → List ℕ) → ℕ → List ℕ
after function k s seed lent outs zero = start_card function k s seed lent
after function k s seed lent outs (suc n) = round_card (after function k s seed lent outs n) (outs (suc n))

-- the record before round r as it is to be: the chain's elements at the positions held, from slot 0 on, over what was lent
abbrev pub record_at : (function k s : ℕ) (seed lent : List ℕ) → ℕ → List ℕ
record_at function k s seed lent r = over (card_bytes (head_at function k s r) (elements_held seed (head_at function k s r))) lent

-- ---- laws

module _ (function k s : ℕ) (seed lent : List ℕ) (given : Given function k s seed lent) where
  abbrev c : Chain
  c = record { function = function }

  abbrev head : ℕ → Head
  head = head_at function k s

  abbrev vs : ℕ → List (List ℕ)
  vs r = map (chain (step c) seed) (positions (schedule s) k r 0)

  abbrev kept : ℕ → List ℕ
  kept = record_at function k s seed lent

  numbered : (r : ℕ) → Numbered (head r)
  numbered r = record { known = given.known; small = given.small; schedule = given.scheduled }

  holding : (r : ℕ) → Holding (head r) (vs r)
  holding r = chain_holding (head r) seed given.scheduled given.seeded

  long : (r : ℕ) → size (head r) ≤ length lent
  unfolding size slots_size
  long r = given.long

  -- start refuses nothing
  pub start_passes : start_judged (head_at function k s 1) seed lent ≡ Ok (head_at function k s 1)
  unfolding start_judged numbers room_for
  start_passes =
      rw (
        given.known,
        le-ltb 20 k given.small,
        le-ltb 3 s given.scheduled,
        eq-eqb (length seed) (width c) given.seeded,
        le-ltb (length lent) (size (head_at function k s 1)) given.long,
      ) refl

  -- what a round reads from such a record: the head and the values
  pub head_read : (r : ℕ) → 0 < r → r ≤ 2 ^ suc k → inspect_of (record_at function k s seed lent r) ≡ Ok (head_at function k s r)
  head_read r from upto = inspected (head r) (vs r) (numbered r) from upto (holding r) lent (long r)

  pub values_read : (r : ℕ) → 0 < r → r ≤ 2 ^ suc k
      → held_values (head_at function k s r) (record_at function k s seed lent r) ≡ map (chain (step c) seed) (positions (schedule s) k r 0)
  values_read r from upto = values_back (head r) (vs r) (numbered r) from upto (holding r) lent (long r)

  -- it refuses the record with 6 when all rounds are run, and before that with 4 an out buffer that is too short
  pub spent_says : (r : ℕ) (out : List ℕ) → r ≡ 2 ^ suc k → round_must_say (record_at function k s seed lent r) out ≡ said_of Spent
  unfolding round_must_say round_judged ready
  spent_says r out e = rw (head_read r (omega (arith, pow_pos (suc k))) (omega arith), eq-eqb r (2 ^ suc k) e) refl

  pub short_says : (r : ℕ) (out : List ℕ) → 0 < r → r < 2 ^ suc k → length out < width c
      → round_must_say (record_at function k s seed lent r) out ≡ said_of WrongLength
  unfolding round_must_say round_judged ready
  short_says r out from less short =
      rw (
        head_read r from (omega arith),
        ne_eqb r (2 ^ suc k) (λ e. omega arith),
        lt-ltb (length out) (width c) short,
      ) refl

  -- and otherwise nothing
  pub round_passes : (r : ℕ) (out : List ℕ) → 0 < r → r < 2 ^ suc k → width c ≤ length out
      → round_judged (record_at function k s seed lent r) out ≡ Ok (head_at function k s r)
  unfolding round_judged
  round_passes r out from less w = rw (head_read r from (omega arith)) (ready_passes (head r) out (numbered r) less w)

  -- start leaves the record for round 1
  pub start_leaves : start_card function k s seed lent ≡ record_at function k s seed lent 1
  unfolding before start_card
  start_leaves =
      rw start_passes
      (ap (λ (ys : List (List ℕ)). over (card_bytes (head 1) ys) lent)
      (card_holds_the_chain s given.scheduled k (step c) seed 1 (omega arith) (omega (arith, pow_pos (suc k)))))

  -- and a round the one for the next round
  pub round_leaves : (r : ℕ) (out : List ℕ) → 0 < r → r < 2 ^ suc k → width c ≤ length out
      → round_card (record_at function k s seed lent r) out ≡ record_at function k s seed lent (suc r)
  unfolding round_card size slots_size
  round_leaves r out from less w =
      rw (round_passes r out from less w, values_read r from (omega arith), round_moves_the_chain s given.scheduled k (step c) seed r from less)
      (over-over (card_bytes (head (suc r)) (vs (suc r))) (card_bytes (head r) (vs r)) lent
      (card_length (head (suc r)) (vs (suc r)) (numbered (suc r)) (omega arith) less (holding (suc r))
      ∙ sym (card_length (head r) (vs r) (numbered r) from (omega arith) (holding r))))

  -- what it puts out
  pub round_puts_out : (r : ℕ) (out : List ℕ) → 0 < r → r < 2 ^ suc k → width c ≤ length out
      → round_out (record_at function k s seed lent r) out ≡ over (joined (tick (schedule s) k r (before (schedule s) (step c) k seed r))) out
  unfolding round_out
  round_puts_out r out from less w =
      rw (
        round_passes r out from less w,
        values_read r from (omega arith),
        ← card_holds_the_chain s given.scheduled k (step c) seed r from (omega arith),
      ) refl

  -- so the record is as it is to be before every round
  module _ (outs : ℕ → List ℕ) (wide : (r : ℕ) → width c ≤ length (outs r)) where
    n_rounds_leave : (n : ℕ) → suc n ≤ 2 ^ suc k → after function k s seed lent outs n ≡ record_at function k s seed lent (suc n)
    unfolding after
    n_rounds_leave zero upto = start_leaves
    n_rounds_leave (suc n) upto =
        ap (λ (b : List ℕ). round_card b (outs (suc n))) (n_rounds_leave n (omega arith))
        ∙ round_leaves (suc n) (outs (suc n)) (omega arith) (omega arith) (wide (suc n))

    pub after_holds : (r : ℕ) → 0 < r → r ≤ 2 ^ suc k → after function k s seed lent outs (r - 1) ≡ record_at function k s seed lent r
    after_holds r from upto =
        let e : suc (r - 1) ≡ r = omega arith in
        n_rounds_leave (r - 1) (omega arith) ∙ ap (record_at function k s seed lent) e
