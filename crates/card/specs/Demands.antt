-- What is demanded of a card, as plain statements about the right sides of the promises of start, round and anchor: for every known function,
-- every k up to 20, every schedule, every seed of the function's width, and whatever record and out buffers are lent (Run has `Given`
-- and `after`). A round r is a number from 1 on: it is lent the record `after .. (r - 1)`, which a start and r - 1 rounds leave, and the
-- out buffer `outs r`. Assumes nothing.
use Rattle.std.specs.Prelude.{◌≡◌, Bool, true, false, cond, eqb, ltb, length}
use Rattle.std.proofs.Math.Path.{refl, sym, ap}
use Rattle.std.proofs.Common.{◌∙◌, true≢false, arith}
use mathlib.Core.List.{List, [], ◌∷◌, map, append-nil}
use Prim.Native.Nat.{ℕ, suc, ◌+◌, ◌-◌, ◌/◌, ◌^◌, ◌≤◌, ◌<◌}
use Rattle.std.proofs.Math.Nat.{pow-succ'}
use borrow.Author.Tests.{eq-eqb, le-ltb, eqb-false}
use Rattle.std.proofs.Math.ListN.{take}
use Rattle.std.proofs.Math.Pow.{pow_pos}
use Rattle.std.proofs.Math.Seq.{take_at}
use Rattle.records.specs.Chains.{chain_length}
use Rattle.lists.specs.Values.{joined}
use Rattle.lists.specs.Writing.{over}
use Rattle.oneway.specs.Step.{width, step}
use Rattle.oneway.specs.declared.Chain.{Chain}
use Rattle.pebbling.specs.Demands.{preparing_rounds_are_quiet, paying_rounds_pay, card_is_quiet, card_pays, optimal_paying_rounds_are_short}
use Rattle.pebbling.specs.Recursion.{schedule, positions, put_out, work, tick, before, chain, slots}
use Rattle.refusals.specs.declared.Refusal.TheVariants.{WrongLength, Spent, NoRoom}
use Rattle.card.specs.declared.Head.{Head}
use Rattle.std.specs.Prelude.{Err, Ok}
use Rattle.card.specs.Record.{head_at, width_of, held_count, card_bytes}
use Rattle.card.specs.Refused.{anchor_judged, later, inspect_of, ready, round_judged}
use Rattle.card.specs.Promises.{start_must_say, start_card, tick_or_quiet, judged_round_says, round_must_say, round_out, anchor_out}
use Rattle.card.specs.Sound.{Sound, sound, held_later}
use Rattle.card.specs.Run.{Given, after, record_at, start_passes, spent_says, round_passes, round_puts_out, after_holds}

module _ (function k s : ℕ) (seed lent : List ℕ) (given : Given function k s seed lent) where
  abbrev c : Chain
  c = record { function = function }

  -- start is done, and leaves the seed in slot 0
  pub start_starts : start_must_say function k s seed lent ≡ 0 ∷ []
  unfolding start_must_say
  start_starts = rw (start_passes function k s seed lent given) refl

  pub start_holds_the_seed : start_card function k s seed lent ≡ over (card_bytes (head_at function k s 1) (seed ∷ [])) lent
  unfolding start_card
  start_holds_the_seed = rw (start_passes function k s seed lent given) refl

  module _ (outs : ℕ → List ℕ) (wide : (r : ℕ) → width c ≤ length (outs r)) where
    holds : (r : ℕ) → 0 < r → r ≤ 2 ^ suc k → after function k s seed lent outs (r - 1) ≡ record_at function k s seed lent r
    holds = after_holds function k s seed lent given outs wide

    passes : (r : ℕ) → 0 < r → r < 2 ^ suc k → round_judged (record_at function k s seed lent r) (outs r) ≡ Ok (head_at function k s r)
    passes r from less = round_passes function k s seed lent given r (outs r) from less (wide r)

    puts_out_lem : (r : ℕ) → 0 < r → r < 2 ^ suc k
        → round_out (after function k s seed lent outs (r - 1)) (outs r) ≡ over (joined (tick (schedule s) k r (before (schedule s) (step c) k seed r))) (outs r)
    puts_out_lem r from less =
        ap (λ (b : List ℕ). round_out b (outs r)) (holds r from (omega arith))
        ∙ round_puts_out function k s seed lent given r (outs r) from less (wide r)

    -- before round r the record holds the chain's elements at the positions of the recursion, in falling order from slot 0, zeros in
    -- the slots behind them, and what was lent behind its end
    pub card_holds_its_positions : (r : ℕ) → 0 < r → r ≤ 2 ^ suc k
        → after function k s seed lent outs (r - 1) ≡ over (card_bytes (head_at function k s r) (map (chain (step c) seed) (positions (schedule s) k r 0))) lent
    card_holds_its_positions = holds

    -- a preparing round is quiet, says the recursion's hashes and leaves the out buffer alone
    pub preparing_round_says : (r : ℕ) → 0 < r → r < 2 ^ k
        → round_must_say (after function k s seed lent outs (r - 1)) (outs r) ≡ 0 ∷ 0 ∷ work (schedule s) k r ∷ []
    unfolding round_must_say
    preparing_round_says r from less =
        rw (holds r from (omega arith), passes r from (omega arith), preparing_rounds_are_quiet k r less) refl

    pub preparing_round_writes_nothing : (r : ℕ) → 0 < r → r < 2 ^ k → round_out (after function k s seed lent outs (r - 1)) (outs r) ≡ outs r
    unfolding joined
    preparing_round_writes_nothing r from less =
        puts_out_lem r from (omega arith) ∙ rw (card_is_quiet s given.scheduled k (step c) seed r less) refl

    -- a paying round, from 2^k on, with i rounds left after it says the tick at position i and the recursion's hashes, and puts out x_i
    pub paying_round_says : (r i : ℕ) → 2 ^ k ≤ r → r + suc i ≡ 2 ^ suc k
        → round_must_say (after function k s seed lent outs (r - 1)) (outs r) ≡ 0 ∷ 1 ∷ i ∷ work (schedule s) k r ∷ []
    unfolding round_must_say
    paying_round_says r i h e =
        let from : 0 < r = omega (arith, pow_pos k) in
        rw (holds r from (omega arith), passes r from (omega arith), paying_rounds_pay k r i h e) refl

    pub paying_round_pays : (r i : ℕ) → 2 ^ k ≤ r → r + suc i ≡ 2 ^ suc k
        → round_out (after function k s seed lent outs (r - 1)) (outs r) ≡ over (chain (step c) seed i) (outs r)
    unfolding joined
    paying_round_pays r i h e =
        puts_out_lem r (omega (arith, pow_pos k)) (omega arith) ∙ rw (card_pays s given.scheduled k (step c) seed r i h e, append-nil) refl

    -- under the optimal schedule no paying round does more hashes than half of k, rounded up
    pub optimal_paying_round_is_short : s ≡ 3 → (r i hashes : ℕ) → 2 ^ k ≤ r → r + suc i ≡ 2 ^ suc k
        → round_must_say (after function k s seed lent outs (r - 1)) (outs r) ≡ 0 ∷ 1 ∷ i ∷ hashes ∷ [] → hashes ≤ (k + 1) / 2
    optimal_paying_round_is_short o r i hashes h e says =
        let said : 0 ∷ 1 ∷ i ∷ hashes ∷ [] ≡ 0 ∷ 1 ∷ i ∷ work (schedule s) k r ∷ [] = sym says ∙ paying_round_says r i h e in
        let same : hashes ≡ work (schedule s) k r = cc in
        let short : work (schedule 3) k r ≤ (k + 1) / 2 = optimal_paying_rounds_are_short k r h (omega arith) in
        rw (same, o) short

    -- when all rounds are run, the next one is refused, whatever out buffer it is lent
    pub spent_card_says_6 : (r : ℕ) (out : List ℕ) → r ≡ 2 ^ suc k → round_must_say (after function k s seed lent outs (r - 1)) out ≡ 6 ∷ []
    spent_card_says_6 r out e =
        ap (λ (b : List ℕ). round_must_say b out) (holds r (omega (arith, pow_pos (suc k))) (omega arith))
        ∙ spent_says function k s seed lent given r out e

  -- ---- anchor

  -- the anchor is x_(2^k)
  pub anchor_is_the_last : (out : List ℕ) → width c ≤ length out → anchor_out c k seed out ≡ over (chain (step c) seed (2 ^ k)) out
  unfolding anchor_out anchor_judged
  anchor_is_the_last out w =
      rw (given.known, le-ltb 20 k given.small, eq-eqb (length seed) (width c) given.seeded, le-ltb (length out) (width c) w) refl

  -- so one step from the first tick, which round 2^k puts out, gives it
  pub first_tick_leads_to_the_anchor : (outs : ℕ → List ℕ) → ((r : ℕ) → width c ≤ length (outs r)) → (out : List ℕ) → width c ≤ length out → (r : ℕ) → r ≡ 2 ^ k
      → step c (take (width c) (round_out (after function k s seed lent outs (r - 1)) (outs r))) ≡ take (width c) (anchor_out c k seed out)
  unfolding chain
  first_tick_leads_to_the_anchor outs wide out w r e =
      let i : ℕ = 2 ^ k - 1 in
      let next : suc i ≡ 2 ^ k = omega (arith, pow_pos k) in
      let tick : round_out (after function k s seed lent outs (r - 1)) (outs r) ≡ over (chain (step c) seed i) (outs r) =
      paying_round_pays outs wide r i (omega arith) (omega (arith, pow-succ' 2 k)) in
      let first : take (width c) (over (chain (step c) seed i) (outs r)) ≡ chain (step c) seed i =
      take_at (chain (step c) seed i) _ (width c) (chain_length c seed given.seeded i) in
      let last : take (width c) (over (chain (step c) seed (suc i)) out) ≡ chain (step c) seed (suc i) =
      take_at (chain (step c) seed (suc i)) _ (width c) (chain_length c seed given.seeded (suc i)) in
      ap (λ (b : List ℕ). step c (take (width c) b)) tick
      ∙ ap (step c) first
      ∙ sym (ap (take (width c)) (anchor_is_the_last out w ∙ ap (λ (m : ℕ). over (chain (step c) seed m) out) (sym next)) ∙ last)

-- ---- refusal 8

never_8 : (ps : List ℕ) (hashes : ℕ) → tick_or_quiet ps hashes ≡ 8 ∷ [] → ⊥
never_8 [] hashes e = let z : ◌≡◌ {A = ℕ} 0 8 = cc in omega arith
never_8 (p ∷ ps) hashes e = let z : ◌≡◌ {A = ℕ} 0 8 = cc in omega arith

-- it never comes from a record that passes inspection
pub no_card_says_8 : (card out : List ℕ) (head : Head) → inspect_of card ≡ Ok head → round_must_say card out ≡ 8 ∷ [] → ⊥
unfolding round_must_say round_judged ready
no_card_says_8 card out head e says =
    let ok : Sound card head = sound card head e in
    go (eqb head.round.0 (2 ^ suc head.k)) (ltb (length out) (width_of head)) (ltb (slots head.schedule head.k) (held_count (later head)))
    (λ n. le-ltb (slots head.schedule head.k) (held_count (later head)) (held_later head ok.numbered (less ok (eqb-false head.round.0 (2 ^ suc head.k) n))))
    (rw e at says)
  where
    less : Sound card head → (head.round.0 ≡ 2 ^ suc head.k → ⊥) → head.round.0 < 2 ^ suc head.k
    less ok n = omega (arith, ok.upto)

    go : (spent short full : Bool) → (spent ≡ false → full ≡ false)
        → judged_round_says (cond spent (Err Spent) (cond short (Err WrongLength) (cond full (Err NoRoom) (Ok head)))) ≡ 8 ∷ [] → ⊥
    go true short full f q = let z : ◌≡◌ {A = ℕ} 6 8 = cc in omega arith
    go false true full f q = let z : ◌≡◌ {A = ℕ} 4 8 = cc in omega arith
    go false false true f q = absurd (true≢false (f refl))
    go false false false f q = never_8 (put_out head.k head.round.0 0) (work (schedule head.schedule) head.k head.round.0) q
