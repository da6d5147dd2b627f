-- What the functions beneath `listing` promise: the piece that each puts on its page, and the hashes that it tells of. Assumes nothing.
use Rattle.std.specs.Prelude.{◌≡◌, List, [], ◌∷◌, ℕ, suc, ◌^◌, ◌≤◌, ◌<◌, replicate}
use Rattle.card.specs.Run.{record_at}
use Rattle.std.specs.Prelude.{Err, Ok, Result}
use Rattle.refusals.specs.declared.Refusal.{Refusal}
use Rattle.card.specs.declared.Outcome.{Outcome}
use Rattle.card.specs.declared.Outcome.TheVariants.{Quiet, Tick}
use Rattle.lists.specs.Written.{Written}
use Rattle.listing.specs.declared.text.Page.{Page}
use Rattle.listing.specs.Listing.{line_of}

-- a piece is written at the page's place, and the page's text is still the one that was lent
pub record Put (piece : List ℕ) (page page' : Page) : Type 0 where
  pub wrote : Written piece page.at page.text.now page'.at page'.text.now
  pub lent : page'.text.ghost_name ≡ page.text.ghost_name

-- ---- a round's line by its answer; a refused round has none

unfoldable pub answer_line : ℕ → List ℕ → Result Outcome Refusal → List ℕ
answer_line r held (Ok (Quiet hashes)) = line_of r hashes held []
answer_line r held (Ok (Tick position hashes)) = line_of r hashes held (position ∷ [])
answer_line r held (Err why) = []

unfoldable pub answer_hashes : Result Outcome Refusal → ℕ
answer_hashes (Ok (Quiet hashes)) = hashes
answer_hashes (Ok (Tick position hashes)) = hashes
answer_hashes (Err why) = 0

-- ---- the card that is run: function 0, a seed of zeros, in a record lent as zeros

-- a round that can be listed
pub record Round (s k r : ℕ) : Type 0 where
  pub scheduled : s ≤ 3
  pub small : k ≤ 10
  pub from : 0 < r
  pub upto : r < 2 ^ suc k

-- the record before round r
abbrev pub card_before : ℕ → ℕ → ℕ → List ℕ
card_before s k r = record_at 0 k s (replicate 16 0) (replicate 304 0) r
