-- What the functions beneath the calls ask, besides that the head's numbers are known, and what they promise. Assumes nothing.
use Rattle.std.specs.Prelude.{◌≡◌, List, ℕ, suc, ◌*◌, ◌^◌, ◌≤◌, ◌<◌, length}
use Rattle.lists.specs.Values.{values, joined}
use Rattle.lists.specs.Writing.{over}
use Rattle.oneway.specs.declared.Chain.{Chain}
use Rattle.pebbling.specs.Falling.{Falling}
use Rattle.pebbling.specs.Recursion.{put_out, tick, schedule as hashes_of}
use Rattle.refill.specs.Refill.{elements}
use Rattle.card.specs.declared.Head.{Head}
use Rattle.std.specs.Prelude.{Ok, Result}
use Rattle.refusals.specs.declared.Refusal.{Refusal}
use Rattle.card.specs.declared.Outcome.{Outcome}
use Rattle.card.specs.Record.{chain_of, width_of, held_count, slots_size, size}
use Rattle.card.specs.Refused.{room_for, room_for_value, ready}
use Rattle.card.specs.Promises.{answer_says, judged_says, judged_card, judged_element, round_answer_says, tick_or_quiet, judged_round_says, judged_round_card, judged_round_out}
use Rattle.card.specs.Sound.{Sound}

-- the values of the head's chain at some positions
abbrev pub elements_at : List ℕ → List ℕ → Head → List (List ℕ)
elements_at held seed head = elements (chain_of head) seed held

-- positions that fall and have room in the head's slots
pub record Beginning (head : Head) (held : List ℕ) : Type 0 where
  pub top : ℕ
  pub falls : Falling top 0 held
  pub few : width_of head * length held ≤ slots_size head

-- and a seed and a record for it
pub record Layable (head : Head) (held seed card : List ℕ) : Type 0 where
  pub beginning : Beginning head held
  pub seeded : length seed ≡ width_of head
  pub long : size head ≤ length card

-- the rest of a start or rebuild, once its numbers are checked
pub record Begun (head : Head) (held seed card : List ℕ) (answer : Result (Unit {0}) Refusal) (card' : List ℕ) : Type 0 where
  pub says : answer_says answer ≡ judged_says (room_for seed card head)
  pub leaves : card' ≡ judged_card (elements_at held seed) card (room_for seed card head)

-- the rest of an anchor
pub record ElementPut (c : Chain) (n : ℕ) (seed out : List ℕ) (answer : Result (Unit {0}) Refusal) (out' : List ℕ) : Type 0 where
  pub says : answer_says answer ≡ answer_says (room_for_value c seed out)
  pub writes : out' ≡ judged_element c n seed out (room_for_value c seed out)

-- a round that is to be run: all that is refused before it is out of the way
pub record Running (head : Head) (card out : List ℕ) : Type 0 where
  pub sound : Sound card head
  pub before : head.round.0 < 2 ^ suc head.k
  pub wide : width_of head ≤ length out

-- the rest of a round, once its record has passed inspection
pub record Turned (head : Head) (card out : List ℕ) (answer : Result Outcome Refusal) (card' out' : List ℕ) : Type 0 where
  pub says : round_answer_says answer ≡ judged_round_says (ready out head)
  pub leaves : card' ≡ judged_round_card card (ready out head)
  pub writes : out' ≡ judged_round_out card out (ready out head)

-- what a round answers and puts out, by the slots before it
pub record Payable (head : Head) (slots out : List ℕ) : Type 0 where
  pub before : head.round.0 < 2 ^ suc head.k
  pub first : width_of head ≤ length slots
  pub wide : width_of head ≤ length out

pub record Paid (head : Head) (hashes : ℕ) (slots out : List ℕ) (outcome : Outcome) (out' : List ℕ) : Type 0 where
  pub says : round_answer_says (Ok outcome) ≡ tick_or_quiet (put_out head.k head.round.0 0) hashes
  pub writes : out' ≡ over (joined (tick (hashes_of head.schedule) head.k head.round.0 (values (width_of head) (held_count head) slots))) out
