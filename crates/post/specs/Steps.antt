-- What the functions beneath the calls promise. Assumes nothing.
use Rattle.std.specs.Prelude.{◌≡◌, List, ℕ}
use Rattle.post.specs.declared.Head.{Head}
use Rattle.std.specs.Prelude.{Result}
use Rattle.refusals.specs.declared.Refusal.{Refusal}
use Rattle.post.specs.Promises.{search_finds, found_says, found_post, offer_answer_says}

-- the rest of an offer that reaches the search
pub record Searched (head : Head) (post value : List ℕ) (gap : ℕ) (answer : Result ℕ Refusal) (post' : List ℕ) : Type 0 where
  pub says : offer_answer_says answer ≡ found_says (search_finds post value gap head)
  pub leaves : post' ≡ found_post head post value (search_finds post value gap head)
