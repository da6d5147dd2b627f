-- What each call refuses, in the order of docs/RULES.md, "Numbers said at the counter". A refusal comes from the first test that holds;
-- what passes them all is a post's head. Assumes nothing.
use Rattle.std.specs.Prelude.{Bool, cond, ◌&&◌, ◌||◌, not, List, ℕ, ◌^◌, eqb, ltb, length}
use Rattle.lists.specs.Same.{same}
use Rattle.oneway.specs.Step.{known}
use Rattle.refusals.specs.Passing.{passing}
use Rattle.refusals.specs.declared.Refusal.TheVariants.{UnknownFunction, TooManyTicks, WrongLength, BadRecord, Spent, BadGap}
use Rattle.post.specs.declared.Head.{Head}
use Rattle.std.specs.Prelude.{Err, Ok, Result}
use Rattle.refusals.specs.declared.Refusal.{Refusal}
use Rattle.post.specs.Record.{size, width_of, marked, head_of, anchor_of, held_value}

-- function and k: 1, 2
unfoldable pub numbers : Head → Result Head Refusal
numbers head =
    cond (not (known head.function)) (Err UnknownFunction)
    (cond (ltb 20 head.k) (Err TooManyTicks)
    (Ok head))

-- ---- enrol: 1, 2, and 4 for the anchor and the lent record

unfoldable pub room_for : List ℕ → List ℕ → Head → Result Head Refusal
room_for anchor post head =
    cond (not (eqb (length anchor) (width_of head)) || ltb (length post) size) (Err WrongLength) (Ok head)

unfoldable pub enrol_judged : Head → List ℕ → List ℕ → Result Head Refusal
enrol_judged head anchor post = passing (numbers head) (room_for anchor post)

-- ---- offer

-- more paid than 2^k 5; with 0 paid a value held that is not the anchor 5
unfoldable pub inspect_paid : List ℕ → Head → Result Head Refusal
inspect_paid post head =
    cond (ltb (2 ^ head.k) head.paid) (Err BadRecord)
    (cond (eqb head.paid 0 && not (same (held_value head post) (anchor_of head post))) (Err BadRecord)
    (Ok head))

-- a post's record: shorter than 40 bytes 4; mark 5; 1; 2; and on
unfoldable pub inspect_of : List ℕ → Result Head Refusal
inspect_of post =
    cond (ltb (length post) size) (Err WrongLength)
    (cond (marked post) (passing (numbers (head_of post)) (inspect_paid post))
    (Err BadRecord))

-- G is outside 1 to 64
unfoldable pub gap_strange : ℕ → Bool
gap_strange gap = eqb gap 0 || ltb 64 gap

-- G 7; 2^k paid 6; value length 4
unfoldable pub ready : List ℕ → ℕ → Head → Result Head Refusal
ready value gap head =
    cond (gap_strange gap) (Err BadGap)
    (cond (eqb head.paid (2 ^ head.k)) (Err Spent)
    (cond (not (eqb (length value) (width_of head))) (Err WrongLength)
    (Ok head)))

unfoldable pub offer_judged : List ℕ → List ℕ → ℕ → Result Head Refusal
offer_judged post value gap = passing (inspect_of post) (ready value gap)

-- ---- settle: 1, 2, 4 for the anchor and the last value, 5 for more paid than 2^k

unfoldable pub settle_ready : List ℕ → List ℕ → Head → Result Head Refusal
settle_ready anchor last head =
    cond (not (eqb (length anchor) (width_of head)) || not (eqb (length last) (width_of head))) (Err WrongLength)
    (cond (ltb (2 ^ head.k) head.paid) (Err BadRecord)
    (Ok head))

unfoldable pub settle_judged : Head → List ℕ → List ℕ → Result Head Refusal
settle_judged head anchor last = passing (numbers head) (settle_ready anchor last)
