-- What the listing program writes, for every input: docs/RULES.md, "Listing program". Assumes nothing.
use Rattle.std.specs.Prelude.{◌≡◌, Bool, true, false, cond, ◌&&◌, ◌||◌, List, [], ◌∷◌, ◌++◌, ℕ, zero, suc, ◌-◌, ◌/◌, ◌%◌, ◌^◌, ◌≤◌, eqb, leb, length}
use Rattle.std.proofs.Common.{sym, ◌∙◌}
use Rattle.lists.specs.Writing.{over}
use Rattle.pebbling.specs.Recursion.{total, schedule, positions, work, put_out}
use Rattle.printing.specs.Names.{bytes, name_of}
use Rattle.listing.specs.Text.{decimal}

-- ---- marks

abbrev pub line_feed : ℕ
line_feed = 10

abbrev pub space : ℕ
space = 32

abbrev pub comma : ℕ
comma = 44

-- ---- the line that is read

-- the line for schedule s and k: the name, one space, k in decimal
unfoldable pub line_for : ℕ → ℕ → List ℕ
line_for s k = name_of s ++ (space ∷ decimal k)

-- whether the input is that line, with LF or the end behind it; what comes after LF is not looked at
unfoldable pub reads : List ℕ → List ℕ → Bool
reads [] [] = true
reads [] (b ∷ bs) = eqb b line_feed
reads (c ∷ cs) [] = false
reads (c ∷ cs) (b ∷ bs) = eqb c b && reads cs bs

-- ---- how much of the input has to be read

-- whether the line has ended: LF is among the bytes
unfoldable pub ended : List ℕ → Bool
ended [] = false
ended (b ∷ bs) = eqb b line_feed || ended bs

-- whether these bytes decide, whatever comes behind them: there are eleven, one more than any line that can be read has, or the line has ended
unfoldable pub decides : List ℕ → Bool
decides input = leb 11 (length input) || ended input

-- ---- the listing

-- a number and the mark behind it
unfoldable pub field : ℕ → ℕ → List ℕ
field n mark = decimal n ++ (mark ∷ [])

-- the mark behind a position when n more follow
unfoldable pub mark_before : ℕ → ℕ
mark_before n = cond (eqb n 0) space comma

-- positions, joined by commas, and a space behind the last
unfoldable pub position_list : List ℕ → List ℕ
position_list [] = []
position_list (p ∷ ps) = field p (mark_before (length ps)) ++ position_list ps

-- the position put out, or "-"
unfoldable pub put_out_field : List ℕ → List ℕ
put_out_field [] = bytes "-\n"
put_out_field (p ∷ ps) = field p line_feed

-- a round: its number, its hashes, how many values are held before it, their positions
unfoldable pub held_fields : ℕ → ℕ → List ℕ → List ℕ
held_fields r hashes held = field r space ++ (field hashes space ++ (field (length held) space ++ position_list held))

-- and the position put out
unfoldable pub line_of : ℕ → ℕ → List ℕ → List ℕ → List ℕ
line_of r hashes held out = held_fields r hashes held ++ put_out_field out

unfoldable pub round_line : ℕ → ℕ → ℕ → List ℕ
round_line s k r = line_of r (work (schedule s) k r) (positions (schedule s) k r 0) (put_out k r 0)

-- rounds 1 to n
unfoldable pub round_lines : ℕ → ℕ → ℕ → List ℕ
round_lines s k zero = []
round_lines s k (suc n) = round_lines s k n ++ round_line s k (suc n)

unfoldable pub head_line : ℕ → ℕ → List ℕ
head_line s k = bytes "pebbles " ++ (line_for s k ++ (line_feed ∷ []))

unfoldable pub total_line : ℕ → List ℕ
total_line hashes = bytes "total " ++ field hashes line_feed

-- the whole listing: all hashes of rounds 1 to 2^(k+1) - 1 stand in the last line
unfoldable pub listing_of : ℕ → ℕ → List ℕ
listing_of s k = head_line s k ++ (round_lines s k (2 ^ suc k - 1) ++ total_line (total (work (schedule s) k) (2 ^ suc k - 1)))

-- ---- what is written: the lines that can be read are 44, schedules 0 to 3 with k from 0 to 10 each; line i has schedule i / 11 and k = i % 11

unfoldable pub listed_by : ℕ → List ℕ → List ℕ
listed_by zero input = bytes "refused\n"
listed_by (suc i) input = cond (reads (line_for (i / 11) (i % 11)) input) (listing_of (i / 11) (i % 11)) (listed_by i input)

unfoldable pub listed : List ℕ → List ℕ
listed input = listed_by 44 input

-- ---- the promise of the call: how many bytes are written to the front of the lent text; those behind them stay. They fit

pub record Listing (input text : List ℕ) (count : ℕ) (text' : List ℕ) : Type 0 where
  pub says : count ≡ length (listed input)
  pub leaves : text' ≡ over (listed input) text
  pub within : count ≤ length text'

-- two outcomes that both keep the promise are the same
pub listing_leaves_no_choice : (input text : List ℕ) (a b : ℕ) (text₁ text₂ : List ℕ)
    → Listing input text a text₁ → Listing input text b text₂ → (a ≡ b) × (text₁ ≡ text₂)
listing_leaves_no_choice input text a b text₁ text₂ p q = (p.says ∙ sym q.says, p.leaves ∙ sym q.leaves)
