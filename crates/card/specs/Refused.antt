-- What each call refuses, in the order of docs/RULES.md, "Numbers said at the counter". A refusal comes from the first test that holds; what
-- passes them all is a card's head. Assumes nothing.
use Rattle.std.specs.Prelude.{cond, ◌||◌, not, List, ℕ, suc, ◌^◌, eqb, ltb, length}
use Rattle.levels.specs.Levels.{allowed, level, first_round}
use Rattle.oneway.specs.Step.{known, width}
use Rattle.pebbling.specs.Recursion.{slots}
use Rattle.refusals.specs.Passing.{passing}
use Rattle.refusals.specs.declared.Refusal.TheVariants.{UnknownFunction, TooManyTicks, UnknownSchedule, WrongLength, BadRecord, Spent, NoRoom, BadTicks}
use Rattle.oneway.specs.declared.Chain.{Chain}
use Rattle.card.specs.declared.Head.{Head}
use Rattle.std.specs.Prelude.{Err, Ok, Result}
use Rattle.refusals.specs.declared.Refusal.{Refusal}
use Rattle.card.specs.Record.{head_at, width_of, held_count, size, head_of, free_slots, all_zero, laid_out}

-- function, k and schedule: 1, 2, 3
unfoldable pub numbers : Head → Result Head Refusal
numbers head =
    cond (not (known head.function)) (Err UnknownFunction)
    (cond (ltb 20 head.k) (Err TooManyTicks)
    (cond (ltb 3 head.schedule) (Err UnknownSchedule)
    (Ok head)))

-- the round, from 1 to 2^(k+1): 5
unfoldable pub in_range : Head → Result Head Refusal
in_range head =
    cond (eqb head.round.0 0) (Err BadRecord)
    (cond (ltb (2 ^ suc head.k) head.round.0) (Err BadRecord)
    (Ok head))

-- ---- start: 1, 2, 3, and 4 for the seed and the lent record; rebuild: 1, 2, 3, 5 for the round, and 4

unfoldable pub room_for : List ℕ → List ℕ → Head → Result Head Refusal
room_for seed card head =
    cond (not (eqb (length seed) (width_of head)) || ltb (length card) (size head)) (Err WrongLength) (Ok head)

unfoldable pub start_judged : Head → List ℕ → List ℕ → Result Head Refusal
start_judged head seed card = passing (numbers head) (room_for seed card)

unfoldable pub rebuild_judged : Head → List ℕ → List ℕ → Result Head Refusal
rebuild_judged head seed card = passing (numbers head) (λ h. passing (in_range h) (room_for seed card))

-- ---- start of a card of n ticks: 1, 3, 10, and 4

unfoldable pub start_ticks_judged : ℕ → ℕ → ℕ → List ℕ → List ℕ → Result Head Refusal
start_ticks_judged function n schedule seed card =
    cond (not (known function)) (Err UnknownFunction)
    (cond (ltb 3 schedule) (Err UnknownSchedule)
    (cond (not (allowed n)) (Err BadTicks)
    (room_for seed card (head_at function (level n) schedule (first_round n)))))

-- ---- anchor: 1, 2, and 4 for the seed and the out buffer; of a card of n ticks: 1, 10, and 4

abbrev pub room_for_value : Chain → List ℕ → List ℕ → Result (Unit {0}) Refusal
room_for_value chain seed out = cond (not (eqb (length seed) (width chain)) || ltb (length out) (width chain)) (Err WrongLength) (Ok tt)

unfoldable pub anchor_judged : Chain → ℕ → List ℕ → List ℕ → Result (Unit {0}) Refusal
anchor_judged chain k seed out =
    cond (not (known chain.function)) (Err UnknownFunction)
    (cond (ltb 20 k) (Err TooManyTicks)
    (room_for_value chain seed out))

unfoldable pub anchor_ticks_judged : Chain → ℕ → List ℕ → List ℕ → Result (Unit {0}) Refusal
anchor_ticks_judged chain n seed out =
    cond (not (known chain.function)) (Err UnknownFunction)
    (cond (not (allowed n)) (Err BadTicks)
    (room_for_value chain seed out))

-- ---- round

-- the head after the round
abbrev pub later : Head → Head
later head = record { function = head.function; schedule = head.schedule; k = head.k; round = record { 0 = suc head.round.0 } }

-- record shorter than its k asks 4; r or a non-zero free slot 5
unfoldable pub inspect_slots : List ℕ → Head → Result Head Refusal
inspect_slots card head =
    cond (ltb (length card) (size head)) (Err WrongLength)
    (passing (in_range head) (λ h. cond (all_zero (free_slots h card)) (Ok h) (Err BadRecord)))

-- a card's record up to its free slots: fewer than 16 bytes 4; mark or zero bytes 5; 1; 2; 3; and on
unfoldable pub inspect_of : List ℕ → Result Head Refusal
inspect_of card =
    cond (ltb (length card) 16) (Err WrongLength)
    (cond (laid_out card) (passing (numbers (head_of card)) (inspect_slots card))
    (Err BadRecord))

-- all rounds are run 6; out buffer 4; more values after the round than slots 8
unfoldable pub ready : List ℕ → Head → Result Head Refusal
ready out head =
    cond (eqb head.round.0 (2 ^ suc head.k)) (Err Spent)
    (cond (ltb (length out) (width_of head)) (Err WrongLength)
    (cond (ltb (slots head.schedule head.k) (held_count (later head))) (Err NoRoom)
    (Ok head)))

unfoldable pub round_judged : List ℕ → List ℕ → Result Head Refusal
round_judged card out = passing (inspect_of card) (ready out)
