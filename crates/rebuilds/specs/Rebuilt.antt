-- A record that a rebuild has written, and that rounds have moved on. A rebuild for round r writes the very bytes that a start and r - 1
-- rounds leave; so what is demanded of a started card (crates/card/specs/Demands.antt) holds of a rebuilt one from its round on: for
-- every known function, every k up to 20, every schedule, every seed of the function's width, every round from 1 to 2^(k+1), and
-- whatever record and out buffers are lent. Assumes nothing.
use Rattle.std.specs.Prelude.{◌≡◌, Ok, length}
use Rattle.std.proofs.Math.Path.{refl, ap}
use Rattle.std.proofs.Common.{sym, ◌∙◌, pow_pos}
use mathlib.Core.List.{List, [], ◌∷◌, map}
use Prim.Native.Nat.{ℕ, zero, suc, ◌+◌, ◌-◌, ◌/◌, ◌^◌, ◌≤◌, ◌<◌}
use native.Mathlib.Omega.{arith}
use borrow.Author.Tests.{eq-eqb, le-ltb}
use Rattle.lists.specs.Writing.{over}
use Rattle.oneway.specs.Step.{width, step}
use Rattle.oneway.specs.declared.Chain.{Chain}
use Rattle.pebbling.specs.Recursion.{schedule, positions, work, chain}
use Rattle.card.specs.Record.{head_at, slots_size, size, card_bytes}
use Rattle.card.specs.Refused.{room_for, rebuild_judged}
use Rattle.card.specs.Promises.{start_card, rebuild_must_say, rebuild_card, round_must_say, round_card, round_out}
use Rattle.card.specs.Sound.{rebuild_judged_lem}
use Rattle.card.specs.Run.{Given, after, record_at, start_leaves, round_leaves, after_holds, spent_says}
use Rattle.card.specs.Demands.{preparing_round_says, preparing_round_writes_nothing, paying_round_says, paying_round_pays, optimal_paying_round_is_short}

-- the record that a rebuild for a round and n rounds after it leave; the first of them is lent `outs 0`
unfoldable pub run_on : (function k s r : ℕ) (seed lent : List ℕ) (outs : ℕ → List ℕ) → ℕ → List ℕ
run_on function k s r seed lent outs zero = rebuild_card function k s r seed lent
run_on function k s r seed lent outs (suc n) = round_card (run_on function k s r seed lent outs n) (outs n)

module _ (function k s : ℕ) (seed lent : List ℕ) (given : Given function k s seed lent) where
  abbrev c : Chain
  c = record { function = function }

  -- ---- a rebuild

  rebuild_passes : (r : ℕ) → 0 < r → r ≤ 2 ^ suc k → rebuild_judged (head_at function k s r) seed lent ≡ Ok (head_at function k s r)
  unfolding room_for size slots_size
  rebuild_passes r from upto =
      rebuild_judged_lem (head_at function k s r) seed lent (record { known = given.known; small = given.small; schedule = given.scheduled }) from upto
      ∙ rw (eq-eqb (length seed) (width c) given.seeded, le-ltb (length lent) (size (head_at function k s 1)) given.long) refl

  -- it is done for every round from 1 to 2^(k+1)
  pub rebuild_is_done : (r : ℕ) → 0 < r → r ≤ 2 ^ suc k → rebuild_must_say function k s r seed lent ≡ 0 ∷ []
  unfolding rebuild_must_say
  rebuild_is_done r from upto = rw (rebuild_passes r from upto) refl

  -- it leaves the chain's elements at the positions of the recursion, in falling order from slot 0, zeros in the slots behind them, and
  -- what was lent behind its end
  pub rebuild_holds_its_positions : (r : ℕ) → 0 < r → r ≤ 2 ^ suc k
      → rebuild_card function k s r seed lent ≡ over (card_bytes (head_at function k s r) (map (chain (step c) seed) (positions (schedule s) k r 0))) lent
  unfolding rebuild_card
  rebuild_holds_its_positions r from upto = rw (rebuild_passes r from upto) refl

  -- these are the very bytes that a start and r - 1 rounds leave, whatever out buffers with room for a value the rounds were lent
  pub rebuild_is_the_run : (outs : ℕ → List ℕ) → ((r : ℕ) → width c ≤ length (outs r)) → (r : ℕ) → 0 < r → r ≤ 2 ^ suc k
      → rebuild_card function k s r seed lent ≡ after function k s seed lent outs (r - 1)
  rebuild_is_the_run outs wide r from upto =
      rebuild_holds_its_positions r from upto ∙ sym (after_holds function k s seed lent given outs wide r from upto)

  -- so a start is a rebuild for round 1
  pub start_is_a_rebuild : start_card function k s seed lent ≡ rebuild_card function k s 1 seed lent
  start_is_a_rebuild = start_leaves function k s seed lent given ∙ sym (rebuild_holds_its_positions 1 (omega arith) (omega (arith, pow_pos (suc k))))

  -- ---- a rebuild for round `first`, and rounds after it: n rounds on, round r comes next

  module _ (first : ℕ) (from : 0 < first) (outs : ℕ → List ℕ) (wide : (n : ℕ) → width c ≤ length (outs n)) where
    abbrev card : ℕ → List ℕ
    card = run_on function k s first seed lent outs

    holds : (n r : ℕ) → first + n ≡ r → r ≤ 2 ^ suc k → card n ≡ record_at function k s seed lent r
    unfolding run_on
    holds zero r e upto = let z : first ≡ r = omega arith in rw z (rebuild_holds_its_positions r (omega arith) upto)
    holds (suc n) r e upto =
        let q : suc (first + n) ≡ r = omega arith in
        ap (λ (b : List ℕ). round_card b (outs n)) (holds n (first + n) refl (omega arith))
        ∙ round_leaves function k s seed lent given (first + n) (outs n) (omega arith) (omega arith) (wide n)
        ∙ ap (record_at function k s seed lent) q

    -- as if it had been started, and had run with the buffer of this round
    as_run : (n r : ℕ) → first + n ≡ r → r ≤ 2 ^ suc k → card n ≡ after function k s seed lent (λ i. outs n) (r - 1)
    as_run n r e upto = holds n r e upto ∙ sym (after_holds function k s seed lent given (λ i. outs n) (λ i. wide n) r (omega arith) upto)

    -- before every later round the record holds the chain's elements at the positions of the recursion, and zeros elsewhere
    pub rebuilt_card_holds_its_positions : (n r : ℕ) → first + n ≡ r → r ≤ 2 ^ suc k
        → card n ≡ over (card_bytes (head_at function k s r) (map (chain (step c) seed) (positions (schedule s) k r 0))) lent
    rebuilt_card_holds_its_positions = holds

    -- a preparing round is quiet, says the recursion's hashes and leaves the out buffer alone
    pub rebuilt_preparing_round_says : (n r : ℕ) → first + n ≡ r → r < 2 ^ k → round_must_say (card n) (outs n) ≡ 0 ∷ 0 ∷ work (schedule s) k r ∷ []
    rebuilt_preparing_round_says n r e less =
        rw (as_run n r e (omega arith)) (preparing_round_says function k s seed lent given (λ i. outs n) (λ i. wide n) r (omega arith) less)

    pub rebuilt_preparing_round_writes_nothing : (n r : ℕ) → first + n ≡ r → r < 2 ^ k → round_out (card n) (outs n) ≡ outs n
    rebuilt_preparing_round_writes_nothing n r e less =
        rw (as_run n r e (omega arith)) (preparing_round_writes_nothing function k s seed lent given (λ i. outs n) (λ i. wide n) r (omega arith) less)

    -- a paying round with i rounds left after it says the tick at position i and the recursion's hashes, and puts out x_i
    pub rebuilt_paying_round_says : (n r i : ℕ) → first + n ≡ r → 2 ^ k ≤ r → r + suc i ≡ 2 ^ suc k
        → round_must_say (card n) (outs n) ≡ 0 ∷ 1 ∷ i ∷ work (schedule s) k r ∷ []
    rebuilt_paying_round_says n r i e h l =
        rw (as_run n r e (omega arith)) (paying_round_says function k s seed lent given (λ i. outs n) (λ i. wide n) r i h l)

    pub rebuilt_paying_round_pays : (n r i : ℕ) → first + n ≡ r → 2 ^ k ≤ r → r + suc i ≡ 2 ^ suc k
        → round_out (card n) (outs n) ≡ over (chain (step c) seed i) (outs n)
    rebuilt_paying_round_pays n r i e h l =
        rw (as_run n r e (omega arith)) (paying_round_pays function k s seed lent given (λ i. outs n) (λ i. wide n) r i h l)

    -- under the optimal schedule no paying round does more hashes than half of k, rounded up
    pub rebuilt_optimal_paying_round_is_short : s ≡ 3 → (n r i hashes : ℕ) → first + n ≡ r → 2 ^ k ≤ r → r + suc i ≡ 2 ^ suc k
        → round_must_say (card n) (outs n) ≡ 0 ∷ 1 ∷ i ∷ hashes ∷ [] → hashes ≤ (k + 1) / 2
    rebuilt_optimal_paying_round_is_short o n r i hashes e h l says =
        optimal_paying_round_is_short function k s seed lent given (λ i. outs n) (λ i. wide n) o r i hashes h l
        (sym (ap (λ (b : List ℕ). round_must_say b (outs n)) (as_run n r e (omega arith))) ∙ says)

    -- when all rounds are run, the next one is refused, whatever out buffer it is lent
    pub rebuilt_spent_card_says_6 : (n : ℕ) (out : List ℕ) → first + n ≡ 2 ^ suc k → round_must_say (card n) out ≡ 6 ∷ []
    rebuilt_spent_card_says_6 n out e =
        ap (λ (b : List ℕ). round_must_say b out) (holds n (2 ^ suc k) e (omega arith))
        ∙ spent_says function k s seed lent given (2 ^ suc k) out refl
