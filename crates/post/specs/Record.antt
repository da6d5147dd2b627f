-- The post record: docs/RULES.md, "Records". `post_bytes` is what a record holds, and `head_of`, `anchor_of` and `held_value` are what is read
-- from one. The anchor and the value held go by the width of the chain's values. Assumes nothing.
use Rattle.std.specs.Prelude.{Bool, ◌&&◌, List, [], ◌∷◌, ◌++◌, ℕ, ◌+◌, eqb, take, drop, get_or}
use Rattle.oneway.specs.Step.{width, little_endian}
use Rattle.records.specs.Numbers.{number}
use Rattle.oneway.specs.declared.Chain.{Chain}
use Rattle.post.specs.declared.Head.{Head}

-- the bytes of a record
abbrev pub size : ℕ
size = 40

abbrev pub chain_of : Head → Chain
chain_of head = record { function = head.function }

abbrev pub width_of : Head → ℕ
width_of head = width (chain_of head)

-- ---- what a record holds

-- bytes 0 and 1
abbrev pub mark : List ℕ
mark = 0xB7 ∷ 0x02 ∷ []

-- bytes 0 to 7: the mark; function and k; the ticks paid, low byte first
unfoldable pub head_bytes : Head → List ℕ
head_bytes head = mark ++ (head.function ∷ head.k ∷ little_endian 4 head.paid)

-- behind them the anchor and the value held
unfoldable pub post_bytes : Head → List ℕ → List ℕ → List ℕ
post_bytes head anchor held = head_bytes head ++ (anchor ++ held)

-- ---- what is read from a record

unfoldable pub marked : List ℕ → Bool
marked post = eqb (get_or post 0 0) (get_or mark 0 0) && eqb (get_or post 1 0) (get_or mark 1 0)

unfoldable pub head_of : List ℕ → Head
head_of post = record { function = get_or post 2 0; k = get_or post 3 0; paid = number (take 4 (drop 4 post)) }

unfoldable pub anchor_of : Head → List ℕ → List ℕ
anchor_of head post = take (width_of head) (drop 8 post)

unfoldable pub held_value : Head → List ℕ → List ℕ
held_value head post = take (width_of head) (drop (8 + width_of head) post)
