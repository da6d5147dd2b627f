-- A card of n ticks, for every n from 1 to 1,048,576: every round after `start_ticks` pays one, element n - 1 first and element 0 last,
-- and then the card says 6. It is the card of 2^k ticks, k the least with 2^k at least n, from the round on that has n rounds left
-- (crates/levels/specs/Levels.antt). For every known function, every schedule, every seed of the function's width, and whatever record
-- and out buffers are lent. Assumes nothing.
use Rattle.std.specs.Prelude.{◌≡◌, true, Ok, length}
use Rattle.std.proofs.Math.Path.{refl, sym, ap}
use Rattle.std.proofs.Common.{◌∙◌, arith}
use mathlib.Core.List.{List, [], ◌∷◌, map}
use Prim.Native.Nat.{ℕ, zero, suc, ◌+◌, ◌/◌, ◌^◌, ◌≤◌, ◌<◌}
use borrow.Author.Tests.{eq-eqb, le-ltb}
use Rattle.std.proofs.Math.Pow.{pow_pos, pow_mono}
use Rattle.levels.specs.Levels.{level, first_round, allowed_holds, level_small, first_round_pays, ticks_are_rounds_left}
use Rattle.lists.specs.Writing.{over}
use Rattle.oneway.specs.Step.{known, width, step}
use Rattle.oneway.specs.declared.Chain.{Chain}
use Rattle.pebbling.specs.Recursion.{schedule, positions, work, chain}
use Rattle.card.specs.Record.{head_at, slots_size, size, card_bytes}
use Rattle.card.specs.Refused.{room_for, start_ticks_judged, anchor_judged, anchor_ticks_judged}
use Rattle.card.specs.Promises.{rebuild_card, start_ticks_must_say, start_ticks_card, round_must_say, round_card, round_out, anchor_out, anchor_must_say, anchor_ticks_must_say, anchor_ticks_out}
use Rattle.card.specs.Run.{Given}
use Rattle.rebuilds.specs.Rebuilt.{run_on, rebuild_holds_its_positions, rebuilt_card_holds_its_positions, rebuilt_paying_round_says, rebuilt_paying_round_pays, rebuilt_optimal_paying_round_is_short, rebuilt_spent_card_says_6}

-- ---- definitions

-- a known function, a number of ticks and a schedule within their bounds, a seed of the function's width, and a lent record that is long
-- enough for a card of its level
pub record Sold (function n s : ℕ) (seed lent : List ℕ) : Type 0 where
  pub known : known function ≡ true
  pub some : 0 < n
  pub few : n ≤ 1048576
  pub scheduled : s ≤ 3
  pub seeded : length seed ≡ width (record { function = function })
  pub long : size (head_at function (level n) s 1) ≤ length lent

-- the record of a card of n ticks after m rounds; the first of them is lent `outs 0`
unfoldable pub sold_card : (function n s : ℕ) (seed lent : List ℕ) (outs : ℕ → List ℕ) → ℕ → List ℕ
sold_card function n s seed lent outs zero = start_ticks_card function n s seed lent
sold_card function n s seed lent outs (suc m) = round_card (sold_card function n s seed lent outs m) (outs m)

-- ---- the anchor, which takes no schedule and no card

module _ (function n : ℕ) (seed : List ℕ) (is_known : known function ≡ true) (some : 0 < n) (few : n ≤ 1048576) (seeded : length seed ≡ width (record { function = function })) where
  abbrev f : Chain
  f = record { function = function }

  passes : (out : List ℕ) → width f ≤ length out → anchor_ticks_judged f n seed out ≡ (Ok tt)
  unfolding anchor_ticks_judged
  passes out w =
      rw (is_known, allowed_holds n some few, eq-eqb (length seed) (width f) seeded, le-ltb (length out) (width f) w) refl

  pub anchor_ticks_is_done : (out : List ℕ) → width f ≤ length out → anchor_ticks_must_say f n seed out ≡ 0 ∷ []
  unfolding anchor_ticks_must_say
  anchor_ticks_is_done out w = rw (passes out w) refl

  -- it is x_n
  pub anchor_of_n_ticks : (out : List ℕ) → width f ≤ length out → anchor_ticks_out f n seed out ≡ over (chain (step f) seed n) out
  unfolding anchor_ticks_out
  anchor_of_n_ticks out w = rw (passes out w) refl

-- ---- the start

module _ (function n s : ℕ) (seed lent : List ℕ) (is : Sold function n s seed lent) where
  abbrev c : Chain
  c = record { function = function }

  abbrev k : ℕ
  k = level n

  pub given_of : Given function (level n) s seed lent
  given_of =
      record { known = is.known; small = level_small n is.few; scheduled = is.scheduled; seeded = is.seeded; long = is.long }

  start_passes : start_ticks_judged function n s seed lent ≡ Ok (head_at function k s (first_round n))
  unfolding start_ticks_judged room_for size slots_size
  start_passes =
      rw (
        is.known,
        le-ltb 3 s is.scheduled,
        allowed_holds n is.some is.few,
        eq-eqb (length seed) (width c) is.seeded,
        le-ltb (length lent) (size (head_at function k s 1)) is.long,
      ) refl

  pub start_ticks_is_done : start_ticks_must_say function n s seed lent ≡ 0 ∷ []
  unfolding start_ticks_must_say
  start_ticks_is_done = rw start_passes refl

  first : (2 ^ k ≤ first_round n) × (first_round n < 2 ^ suc k)
  first = first_round_pays n is.some is.few

  -- it leaves what a rebuild for that round leaves
  pub start_ticks_is_a_rebuild : start_ticks_card function n s seed lent ≡ rebuild_card function (level n) s (first_round n) seed lent
  unfolding start_ticks_card
  start_ticks_is_a_rebuild =
      (rw start_passes refl)
      ∙ sym (rebuild_holds_its_positions function k s seed lent given_of (first_round n) (omega (arith, first.0, pow_pos k)) (omega (arith, first.1)))

  -- ---- its rounds

  module _ (outs : ℕ → List ℕ) (wide : (m : ℕ) → width c ≤ length (outs m)) where
    abbrev card : ℕ → List ℕ
    card = sold_card function n s seed lent outs

    runs_on : (m : ℕ) → card m ≡ run_on function k s (first_round n) seed lent outs m
    unfolding sold_card run_on
    runs_on zero = start_ticks_is_a_rebuild
    runs_on (suc m) = ap (λ (b : List ℕ). round_card b (outs m)) (runs_on m)

    from : 0 < first_round n
    from = omega (arith, first.0, pow_pos k)

    left : first_round n + n ≡ 2 ^ suc k
    left = ticks_are_rounds_left n is.few

    -- after m rounds it holds the chain's elements at the positions of the recursion, in falling order, and zeros elsewhere
    pub sold_card_holds_its_positions : (m r : ℕ) → m ≤ n → first_round n + m ≡ r
        → card m ≡ over (card_bytes (head_at function (level n) s r) (map (chain (step c) seed) (positions (schedule s) (level n) r 0))) lent
    sold_card_holds_its_positions m r h e =
        runs_on m ∙ rebuilt_card_holds_its_positions function k s seed lent given_of (first_round n) from outs wide m r e (omega (arith, left))

    -- with i rounds left after it, a round says the tick at position i and the recursion's hashes, and puts out x_i: none is quiet
    pub sold_round_says : (m i : ℕ) → m + suc i ≡ n
        → round_must_say (card m) (outs m) ≡ 0 ∷ 1 ∷ i ∷ work (schedule s) (level n) (first_round n + m) ∷ []
    sold_round_says m i e =
        ap (λ (b : List ℕ). round_must_say b (outs m)) (runs_on m)
        ∙ rebuilt_paying_round_says function k s seed lent given_of (first_round n) from outs wide m (first_round n + m) i refl (omega (arith, first.0)) (omega (arith, left))

    pub sold_round_pays : (m i : ℕ) → m + suc i ≡ n → round_out (card m) (outs m) ≡ over (chain (step c) seed i) (outs m)
    sold_round_pays m i e =
        ap (λ (b : List ℕ). round_out b (outs m)) (runs_on m)
        ∙ rebuilt_paying_round_pays function k s seed lent given_of (first_round n) from outs wide m (first_round n + m) i refl (omega (arith, first.0)) (omega (arith, left))

    -- under the optimal schedule none does more hashes than half of k, rounded up
    pub sold_optimal_round_is_short : s ≡ 3 → (m i hashes : ℕ) → m + suc i ≡ n
        → round_must_say (card m) (outs m) ≡ 0 ∷ 1 ∷ i ∷ hashes ∷ [] → hashes ≤ (level n + 1) / 2
    sold_optimal_round_is_short o m i hashes e says =
        rebuilt_optimal_paying_round_is_short function k s seed lent given_of (first_round n) from outs wide o m (first_round n + m) i hashes refl (omega (arith, first.0)) (omega (arith, left))
        (sym (ap (λ (b : List ℕ). round_must_say b (outs m)) (runs_on m)) ∙ says)

    -- after n rounds the next one is refused, whatever out buffer it is lent
    pub sold_card_says_6 : (out : List ℕ) → round_must_say (card n) out ≡ 6 ∷ []
    sold_card_says_6 out =
        ap (λ (b : List ℕ). round_must_say b out) (runs_on n)
        ∙ rebuilt_spent_card_says_6 function k s seed lent given_of (first_round n) from outs wide n out left

-- for 2^k ticks `anchor_ticks` says and writes what `anchor` does, refusals included
module _ (c : Chain) (k : ℕ) (small : k ≤ 20) (seed out : List ℕ) where
  judged_same : anchor_ticks_judged c (2 ^ k) seed out ≡ anchor_judged c k seed out
  unfolding anchor_ticks_judged anchor_judged
  judged_same = rw (allowed_holds (2 ^ k) (pow_pos k) (omega (arith, pow_mono {i = k} {j = 20} small)), le-ltb 20 k small) refl

  pub anchor_ticks_of_a_power_says : anchor_ticks_must_say c (2 ^ k) seed out ≡ anchor_must_say c k seed out
  unfolding anchor_ticks_must_say anchor_must_say
  anchor_ticks_of_a_power_says = rw judged_same refl

  pub anchor_ticks_of_a_power : anchor_ticks_out c (2 ^ k) seed out ≡ anchor_out c k seed out
  unfolding anchor_ticks_out anchor_out
  anchor_ticks_of_a_power = rw judged_same refl
