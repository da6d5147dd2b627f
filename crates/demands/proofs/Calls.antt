-- A card that is begun by a start, by a rebuild for any of its rounds or by a start of n ticks, and then called in any order: rounds that are
-- run, rounds that are refused in between, and the record copied to other buffers, as firmware does that keeps two records and a flag. After
-- any list of such events the record is the one that the recursion gives for the round that comes next, over the buffer that was lent last.
-- So a further call says and writes what is demanded of that round (crates/card/specs/Demands.antt), and a refused round leaves the card as
-- if it had not been called. Assumes nothing.
use Rattle.std.specs.Prelude.{◌≡◌, refl, ◌⊎◌, take, drop}
use Rattle.std.proofs.Common.{sym, ◌∙◌, inl, inr, eq-or-lt_of_le, arith, le-leb, take_at}
use Rattle.std.proofs.Math.Path.{ap, subst}
use mathlib.Core.List.{List, [], ◌∷◌, ◌++◌, map}
use Prim.Native.Nat.{ℕ, suc, ◌+◌, ◌-◌, ◌/◌, ◌^◌, ◌≤◌, ◌<◌, min}
use Rattle.std.proofs.lemmas.Bool.{lt-leb}
use Rattle.std.proofs.Math.ListN.{length}
use Rattle.std.proofs.Math.Pow.{pow_pos}
use Rattle.levels.specs.Levels.{level, first_round, first_round_pays}
use Rattle.lists.specs.Writing.{over}
use Rattle.oneway.specs.Step.{width, step}
use Rattle.pebbling.specs.Len.{lt_or_le}
use Rattle.pebbling.specs.Recursion.{schedule, positions, work, chain}
use Rattle.refusals.specs.Numbers.{said_of}
use Rattle.refusals.specs.declared.Refusal.{Refusal}
use Rattle.refusals.specs.declared.Refusal.TheVariants.{WrongLength, Spent}
use Rattle.card.specs.Record.{head_at, slots_size, size, card_bytes}
use Rattle.card.specs.Promises.{rebuild_card, round_must_say, round_card, round_out}
use Rattle.card.specs.Kept.{chain_holding, card_length}
use Rattle.card.specs.Run.{Given, after, record_at, spent_says, short_says, start_leaves, round_leaves, after_holds}
use Rattle.card.specs.Demands.{preparing_round_says, preparing_round_writes_nothing, paying_round_says, paying_round_pays, optimal_paying_round_is_short}
use Rattle.rebuilds.specs.Rebuilt.{rebuild_holds_its_positions}
use Rattle.rebuilds.specs.Ticks.{start_ticks_is_a_rebuild}
use Rattle.demands.proofs.Unchanged.{round_says_refused_changes_nothing}
use Rattle.demands.specs.Calls.{FirstCall, started, rebuilt, sold, begins_at, OfLevel, start, rebuild, sale, Event, called, copied, lent_last, chain_of, counted, wide_calls, next_round, record_size, first_card, card_after, LongEnough, none, call, copy}

-- ---- a refused round, on any record

-- what the events leave, in two parts
after_both : (function k s : ℕ) (card : List ℕ) (first then : List Event)
    → card_after function k s card (first ++ then) ≡ card_after function k s (card_after function k s card first) then
unfolding card_after
after_both function k s card [] then = refl
after_both function k s card (called out ∷ first) then = after_both function k s (round_card card out) first then
after_both function k s card (copied to ∷ first) then = after_both function k s (over (take (record_size function k s) card) to) first then

-- whatever comes before and after it, it leaves the card as if it had not been called
pub refused_round_counts_for_nothing : (function k s : ℕ) (card : List ℕ) (first then : List Event) (out : List ℕ) (refusal : Refusal)
    → round_must_say (card_after function k s card first) out ≡ said_of refusal
    → card_after function k s card (first ++ (called out ∷ then)) ≡ card_after function k s card (first ++ then)
unfolding card_after
refused_round_counts_for_nothing function k s card first then out refusal says =
    let now = card_after function k s card first in
    after_both function k s card first (called out ∷ then)
    ∙ ap (λ (b : List ℕ). card_after function k s b then) (round_says_refused_changes_nothing refusal now out says).0
    ∙ sym (after_both function k s card first then)

-- ---- one event

module _ (function k s : ℕ) (seed lent : List ℕ) (given : Given function k s seed lent) where
  abbrev kept : ℕ → List ℕ
  kept = record_at function k s seed lent

  copy_leaves : (r : ℕ) (to : List ℕ) → 0 < r → r ≤ 2 ^ suc k → over (take (record_size function k s) (kept r)) to ≡ record_at function k s seed to r
  unfolding size slots_size
  copy_leaves r to from upto =
      let head = head_at function k s r in
      let vs = map (chain (step (chain_of function)) seed) (positions (schedule s) k r 0) in
      let own : length (card_bytes head vs) ≡ size head =
      card_length head vs (record { known = given.known; small = given.small; schedule = given.scheduled }) from upto
      (chain_holding head seed given.scheduled given.seeded) in
      ap (λ (b : List ℕ). over b to)
      (take_at (card_bytes head vs) (drop (length (card_bytes head vs)) lent) (record_size function k s) (omega (arith, own)))

  -- another buffer that is long enough does as well
  given_in : (to : List ℕ) → record_size function k s ≤ length to → Given function k s seed to
  given_in to room =
      record { known = given.known; small = given.small; scheduled = given.scheduled; seeded = given.seeded; long = omega arith }

  spent_leaves : (out : List ℕ) (r : ℕ) → r ≡ 2 ^ suc k → round_card (kept r) out ≡ kept r
  spent_leaves out r spent = (round_says_refused_changes_nothing Spent (kept r) out (spent_says function k s seed lent given r out spent)).0

  short_leaves : (out : List ℕ) (r : ℕ) → 0 < r → r < 2 ^ suc k → length out < width (chain_of function) → round_card (kept r) out ≡ kept r
  short_leaves out r from less short = (round_says_refused_changes_nothing WrongLength (kept r) out (short_says function k s seed lent given r out from less short)).0

-- ---- the first call, and a list of events

module _ (function k s : ℕ) (seed : List ℕ) where
  record Standing (card lent : List ℕ) (r : ℕ) : Type 0 where
    from : 0 < r
    upto : r ≤ 2 ^ suc k
    given : Given function k s seed lent
    holds : card ≡ record_at function k s seed lent r

  -- the first call leaves the record for its round
  begun : (lent : List ℕ) → Given function k s seed lent → (first : FirstCall) → OfLevel k first
      → Standing (first_card function k s seed lent first) lent (begins_at first)
  unfolding first_card begins_at
  begun lent given started start =
      record { from = omega arith; upto = omega (arith, pow_pos (suc k)); given = given; holds = start_leaves function k s seed lent given }
  begun lent given (rebuilt r) (rebuild from upto) =
      record { from = from; upto = upto; given = given; holds = rebuild_holds_its_positions function k s seed lent given r from upto }
  begun lent given (sold n) (sale some few is) =
      let round = first_round_pays n some few in
      let from : 0 < first_round n = omega (arith, round.0, pow_pos (level n)) in
      let upto : first_round n ≤ 2 ^ suc k = rw (← is) (omega (arith, round.1)) in
      record {
        from = from;
        upto = upto;
        given = given;
        holds =
            start_ticks_is_a_rebuild function n s seed lent
            (record { known = given.known; some = some; few = few; scheduled = given.scheduled; seeded = given.seeded; long = rw is given.long })
            ∙ ap (λ (j : ℕ). rebuild_card function j s (first_round n) seed lent) is
            ∙ rebuild_holds_its_positions function k s seed lent given (first_round n) from upto;
      }

  -- a call, and what it counts for whatever comes after it
  call_stands : (card lent : List ℕ) (r : ℕ) → Standing card lent r → (out : List ℕ)
      → (next : ℕ) × Standing (round_card card out) lent next
      × ((n : ℕ) → min (next + n) (2 ^ suc k) ≡ min (r + (counted function out + n)) (2 ^ suc k))
  unfolding counted
  call_stands card lent r now out = go (eq-or-lt_of_le now.upto) (lt_or_le (length out) (width (chain_of function)))
    where
      called_on : {b : List ℕ} → round_card (record_at function k s seed lent r) out ≡ b → round_card card out ≡ b
      called_on e = ap (λ (b : List ℕ). round_card b out) now.holds ∙ e

      stays : round_card (record_at function k s seed lent r) out ≡ record_at function k s seed lent r → Standing (round_card card out) lent r
      stays e = record { from = now.from; upto = now.upto; given = now.given; holds = called_on e }

      go : (r ≡ 2 ^ suc k) ⊎ (r < 2 ^ suc k) → (length out < width (chain_of function)) ⊎ (width (chain_of function) ≤ length out)
          → (next : ℕ) × Standing (round_card card out) lent next
          × ((n : ℕ) → min (next + n) (2 ^ suc k) ≡ min (r + (counted function out + n)) (2 ^ suc k))
      go (inl spent) room = (r, stays (spent_leaves function k s seed lent now.given out r spent), λ n. omega arith)
      go (inr less) (inl short) = (
        r,
        stays (short_leaves function k s seed lent now.given out r now.from less short),
        λ n. rw (lt-leb (width (chain_of function)) (length out) short) (omega arith),
      )
      go (inr less) (inr wide) = (
        suc r,
        record { from = omega arith; upto = less; given = now.given; holds = called_on (round_leaves function k s seed lent now.given r out now.from less wide) },
        λ n. rw (le-leb (width (chain_of function)) (length out) wide) (omega arith),
      )

  stands : (card lent : List ℕ) (r : ℕ) → Standing card lent r → (events : List Event) → LongEnough function k s events
      → Standing (card_after function k s card events) (lent_last lent events) (min (r + wide_calls function events) (2 ^ suc k))
  unfolding card_after lent_last wide_calls
  stands card lent r now [] none = let e : min (r + 0) (2 ^ suc k) ≡ r = omega (arith, now.upto) in rw e now
  stands card lent r now (called out ∷ events) (call long) =
      let next = call_stands card lent r now out in
      subst (λ (n : ℕ). Standing (card_after function k s (round_card card out) events) (lent_last lent events) n) (next.2 (wide_calls function events))
      (stands (round_card card out) lent next.0 next.1 events long)
  stands card lent r now (copied to ∷ events) (copy room long) =
      stands (over (take (record_size function k s) card) to) to r
      (record {
        from = now.from;
        upto = now.upto;
        given = given_in function k s seed lent now.given to room;
        holds =
            ap (λ (b : List ℕ). over (take (record_size function k s) b) to) now.holds
            ∙ copy_leaves function k s seed lent now.given r to now.from now.upto;
      })
      events
      long

-- ---- a card that is begun, and then any list of events

module _ (function k s : ℕ) (seed lent : List ℕ) (given : Given function k s seed lent) (first : FirstCall) (allowed : OfLevel k first)
    (events : List Event) (long : LongEnough function k s events) where
  -- the record that the first call and the events leave, the buffer that was lent last, and the round that comes next
  abbrev card : List ℕ
  card = card_after function k s (first_card function k s seed lent first) events

  abbrev last : List ℕ
  last = lent_last lent events

  abbrev r : ℕ
  r = next_round function k first events

  standing : Standing function k s seed card last r
  unfolding next_round
  standing =
      stands function k s seed (first_card function k s seed lent first) lent (begins_at first) (begun function k s seed lent given first allowed) events long

  pub next_is_a_round : (0 < r) × (r ≤ 2 ^ suc k)
  next_is_a_round = (standing.from, standing.upto)

  -- it holds the chain's elements at the positions of the recursion for round r, in falling order from slot 0, zeros in the slots behind them,
  -- and behind its end what was lent last
  pub card_holds_its_positions_whatever_was_called : card ≡ over (card_bytes (head_at function k s r) (map (chain (step (chain_of function)) seed) (positions (schedule s) k r 0))) last
  card_holds_its_positions_whatever_was_called = standing.holds

  -- so it is the record that a start in that buffer and r - 1 rounds leave
  pub card_is_as_if_only_rounds_were_run : (outs : ℕ → List ℕ) → ((n : ℕ) → width (chain_of function) ≤ length (outs n)) → card ≡ after function k s seed last outs (r - 1)
  card_is_as_if_only_rounds_were_run outs wide =
      standing.holds ∙ sym (after_holds function k s seed last standing.given outs wide r standing.from standing.upto)

  -- ---- what a further call says and writes

  -- a refusal that is said of round r's record is said here, and changes nothing
  refused_here : (refusal : Refusal) (out : List ℕ) → round_must_say (record_at function k s seed last r) out ≡ said_of refusal
      → (round_must_say card out ≡ said_of refusal) × (round_card card out ≡ card) × (round_out card out ≡ out)
  refused_here refusal out says =
      let here : round_must_say card out ≡ said_of refusal = ap (λ (b : List ℕ). round_must_say b out) standing.holds ∙ says in
      let same = round_says_refused_changes_nothing refusal card out here in
      (here, same.0, same.1)

  -- when all rounds are run it is refused with 6
  pub then_spent_says_6 : (out : List ℕ) → r ≡ 2 ^ suc k → (round_must_say card out ≡ 6 ∷ []) × (round_card card out ≡ card) × (round_out card out ≡ out)
  then_spent_says_6 out spent = refused_here Spent out (spent_says function k s seed last standing.given r out spent)

  -- otherwise with 4 where the out buffer is too short for a value
  pub then_short_says_4 : (out : List ℕ) → r < 2 ^ suc k → length out < width (chain_of function)
      → (round_must_say card out ≡ 4 ∷ []) × (round_card card out ≡ card) × (round_out card out ≡ out)
  then_short_says_4 out less short =
      refused_here WrongLength out (short_says function k s seed last standing.given r out standing.from less short)

  -- and otherwise round r is run
  module _ (out : List ℕ) (wide : width (chain_of function) ≤ length out) where
    as_run : card ≡ after function k s seed last (λ n. out) (r - 1)
    as_run = card_is_as_if_only_rounds_were_run (λ n. out) (λ n. wide)

    -- it leaves the record for round r + 1
    pub then_round_leaves : r < 2 ^ suc k
        → round_card card out ≡ over (card_bytes (head_at function k s (suc r)) (map (chain (step (chain_of function)) seed) (positions (schedule s) k (suc r) 0))) last
    then_round_leaves less =
        ap (λ (b : List ℕ). round_card b out) standing.holds ∙ round_leaves function k s seed last standing.given r out standing.from less wide

    -- a preparing round is quiet, says the recursion's hashes and leaves the out buffer alone
    pub then_preparing_round_is_quiet : r < 2 ^ k → (round_must_say card out ≡ 0 ∷ 0 ∷ work (schedule s) k r ∷ []) × (round_out card out ≡ out)
    then_preparing_round_is_quiet less =
        rw as_run (
          preparing_round_says function k s seed last standing.given (λ n. out) (λ n. wide) r standing.from less,
          preparing_round_writes_nothing function k s seed last standing.given (λ n. out) (λ n. wide) r standing.from less,
        )

    -- a paying round with i rounds left after it says the tick at position i and the recursion's hashes, and puts out x_i
    pub then_paying_round_pays : (i : ℕ) → 2 ^ k ≤ r → r + suc i ≡ 2 ^ suc k
        → (round_must_say card out ≡ 0 ∷ 1 ∷ i ∷ work (schedule s) k r ∷ []) × (round_out card out ≡ over (chain (step (chain_of function)) seed i) out)
    then_paying_round_pays i h e =
        rw as_run (
          paying_round_says function k s seed last standing.given (λ n. out) (λ n. wide) r i h e,
          paying_round_pays function k s seed last standing.given (λ n. out) (λ n. wide) r i h e,
        )

    -- under the optimal schedule no paying round does more hashes than half of k, rounded up
    pub then_optimal_paying_round_is_short : s ≡ 3 → (i hashes : ℕ) → 2 ^ k ≤ r → r + suc i ≡ 2 ^ suc k
        → round_must_say card out ≡ 0 ∷ 1 ∷ i ∷ hashes ∷ [] → hashes ≤ (k + 1) / 2
    then_optimal_paying_round_is_short o i hashes h e says =
        optimal_paying_round_is_short function k s seed last standing.given (λ n. out) (λ n. wide) o r i hashes h e
        (sym (ap (λ (b : List ℕ). round_must_say b out) as_run) ∙ says)
