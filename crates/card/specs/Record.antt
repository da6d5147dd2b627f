-- The card record: docs/RULES.md, "Records". `card_bytes` is what a record holds, and `head_of`, `held_values` and `free_slots` are what is
-- read from one. Everything goes by the width of the chain's values. Assumes nothing.
use Rattle.std.specs.Prelude.{Bool, true, ◌&&◌, List, [], ◌∷◌, ◌++◌, ℕ, ◌+◌, ◌-◌, ◌*◌, eqb, length, take, drop, get_or, replicate}
use Rattle.oneway.specs.Step.{width, little_endian}
use Rattle.records.specs.Numbers.{number}
use Rattle.oneway.specs.declared.Chain.{Chain}
use Rattle.pebbling.specs.Recursion.{schedule, positions, slots}
use Rattle.lists.specs.Values.{values, joined}
use Rattle.card.specs.declared.Head.{Head}

-- ---- heads

-- a card of a function, a schedule and k, before its round r
abbrev pub head_at : ℕ → ℕ → ℕ → ℕ → Head
head_at function k s r = record { function = function; schedule = s; k = k; round = record { 0 = r } }

-- ---- what a head says of its record

abbrev pub chain_of : Head → Chain
chain_of head = record { function = head.function }

abbrev pub width_of : Head → ℕ
width_of head = width (chain_of head)

-- the values held before the head's round: a matter of k, schedule and r, never of what the slots hold
unfoldable pub held_count : Head → ℕ
held_count head = length (positions (schedule head.schedule) head.k head.round.0 0)

-- the bytes of the values held, of all slots, and of the record, whose slots begin at byte 16
unfoldable pub held_size : Head → ℕ
held_size head = width_of head * held_count head

unfoldable pub slots_size : Head → ℕ
slots_size head = width_of head * slots head.schedule head.k

unfoldable pub size : Head → ℕ
size head = 16 + slots_size head

-- ---- what a record holds

-- bytes 0 and 1
abbrev pub mark : List ℕ
mark = 0xB7 ∷ 0x01 ∷ []

-- bytes 0 to 15: the mark; function, schedule and k; three zeros; the next round, low byte first; four zeros
unfoldable pub head_bytes : Head → List ℕ
head_bytes head =
    mark ++ (head.function ∷ head.schedule ∷ head.k ∷ replicate 3 0) ++ (little_endian 4 head.round.0 ++ replicate 4 0)

-- values from slot 0 on; the remaining slots are zero
unfoldable pub filled : Head → List (List ℕ) → List ℕ
filled head vs = joined vs ++ replicate (slots_size head - length (joined vs)) 0

unfoldable pub card_bytes : Head → List (List ℕ) → List ℕ
card_bytes head vs = head_bytes head ++ filled head vs

-- ---- what is read from a record

unfoldable pub head_of : List ℕ → Head
head_of card =
    record {
      function = get_or card 2 0;
      schedule = get_or card 3 0;
      k = get_or card 4 0;
      round = record { 0 = number (take 4 (drop 8 card)) };
    }

-- the values held, whatever they are, and the bytes of the slots behind them
unfoldable pub held_values : Head → List ℕ → List (List ℕ)
held_values head card = values (width_of head) (held_count head) (drop 16 card)

unfoldable pub free_slots : Head → List ℕ → List ℕ
free_slots head card = take (size head - (16 + held_size head)) (drop (16 + held_size head) card)

unfoldable pub all_zero : List ℕ → Bool
all_zero [] = true
all_zero (x ∷ xs) = eqb x 0 && all_zero xs

-- the mark, and the bytes that are always zero
unfoldable pub laid_out : List ℕ → Bool
laid_out card =
    eqb (get_or card 0 0) (get_or mark 0 0) && eqb (get_or card 1 0) (get_or mark 1 0) && (all_zero (take 3 (drop 5 card)) && all_zero (take 4 (drop 12 card)))
