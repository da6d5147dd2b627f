-- The example of docs/RULES.md, that each line that can be read gets its listing, lines that cannot be read, and what decides: by computing.
-- Assumes nothing.
use Rattle.std.specs.Prelude.{◌≡◌, refl, true, false, ℕ, zero, suc, ◌/◌, ◌%◌}
use mathlib.Core.List.{List, [], ◌∷◌, ◌++◌, map, flat_map}
use Prim.Native.String.{String}
use Rattle.pebbling.specs.Len.{len, len_in}
use Rattle.pebbling.specs.Recursion.{
  total,
  optimal,
  schedule,
  done,
  place,
  held,
  itself_or,
  children,
  running,
  preparing,
  puts_out,
  holds,
  does,
  put_out,
  positions,
  work,
}
use Rattle.printing.specs.Names.{bytes, name_of}
use Rattle.listing.specs.Text.{decimal, decimal_in}
use Rattle.listing.specs.Listing.{
  line_feed,
  line_for,
  reads,
  ended,
  decides,
  field,
  mark_before,
  position_list,
  put_out_field,
  held_fields,
  line_of,
  round_line,
  round_lines,
  head_line,
  total_line,
  listing_of,
  listed_by,
  listed,
}

-- ---- docs/RULES.md, "Listing program"

pub optimal_2 : listed (bytes "optimal 2\n") ≡ bytes "pebbles optimal 2\n1 0 1 0 -\n2 1 1 0 -\n3 2 2 1,0 -\n4 0 3 3,2,0 3\n5 1 2 2,0 2\n6 0 2 1,0 1\n7 0 1 0 0\ntotal 4\n"
unfolding bytes decimal decimal_in name_of line_for reads field mark_before position_list put_out_field held_fields line_of round_line round_lines head_line total_line listing_of listed_by listed len len_in total optimal schedule done place held itself_or children running preparing puts_out holds does put_out positions work flat_map
optimal_2 = refl

-- ---- the 44 lines, each before LF and whatever follows, and each alone

abbrev up_to : ℕ → List ℕ
up_to zero = []
up_to (suc n) = n ∷ up_to n

abbrev asked : ℕ → List ℕ
asked i = line_for (i / 11) (i % 11)

abbrev answer : ℕ → List ℕ
answer i = listing_of (i / 11) (i % 11)

pub every_line : (rest : List ℕ) → map (λ (i : ℕ). listed (asked i ++ (line_feed ∷ rest))) (up_to 44) ≡ map answer (up_to 44)
unfolding bytes decimal decimal_in name_of line_for reads listed_by listed
every_line rest = refl

pub every_line_alone : map (λ (i : ℕ). listed (asked i)) (up_to 44) ≡ map answer (up_to 44)
unfolding bytes decimal decimal_in name_of line_for reads listed_by listed
every_line_alone = refl

-- ---- what cannot be read

abbrev unreadable : List String
unreadable =
    ""
    ∷ "\n"
    ∷ "optimal"
    ∷ "optimal "
    ∷ "optimal  2"
    ∷ "optimal\t2"
    ∷ "optimal -1"
    ∷ "optimal 02"
    ∷ "optimal 11"
    ∷ "optimal 10x"
    ∷ "optimal 2 "
    ∷ "optimal 2\r\n"
    ∷ "optimal 2\0"
    ∷ " optimal 2"
    ∷ "Optimal 2"
    ∷ "speed-3 1"
    ∷ "\noptimal 2"
    ∷ []

pub refused : map (λ (s : String). listed (bytes s)) unreadable ≡ map (λ (s : String). bytes "refused\n") unreadable
unfolding bytes decimal decimal_in name_of line_for reads listed_by listed
refused = refl

-- ---- what decides: LF or an eleventh byte; the longest line that can be read has ten and may still go on

pub line_feed_decides : map (λ (s : String). decides (bytes s)) ("\n" ∷ "optimal 2\n" ∷ "optimal 2\nrushing 3" ∷ []) ≡ true ∷ true ∷ true ∷ []
unfolding bytes ended decides
line_feed_decides = refl

pub eleven_decide : map (λ (s : String). decides (bytes s)) ("" ∷ "optimal 1" ∷ "optimal 10" ∷ "optimal 100" ∷ []) ≡ false ∷ false ∷ false ∷ true ∷ []
unfolding bytes ended decides
eleven_decide = refl
