-- The hashes of one pebbler on slots. Its values stand one behind another, the newest first, and grow towards the front. A hash is two moves: where the
-- newest value is finished it is written once more in front of itself, and then f is applied to the foremost in place. Assumes nothing.
use Rattle.std.specs.Prelude.{◌≡◌, Bool, cond, List, [], ◌∷◌, ℕ, suc, ◌+◌, ◌*◌, ◌^◌, ◌≤◌, ◌<◌, length, drop}
use Rattle.lists.specs.Values.{values}
use Rattle.pebbling.specs.Recursion.{held, finished, hashes}

-- how many values P_k holds after h hashes
abbrev pub many : ℕ → ℕ → ℕ
many k h = length (held k h 0)

-- the newest value once more, where it is finished
unfoldable pub again : {A : Type 0} → Bool → List A → List A
again b [] = []
again b (y ∷ ys) = cond b (y ∷ y ∷ ys) (y ∷ ys)

-- before hash h + 1 of P_k, whose values stand from `at` on, with room in front of them
pub record Opening (w k h at : ℕ) (new : List ℕ) : Type 0 where
  pub small : k ≤ 20
  pub more : suc h < 2 ^ k
  pub space : w * many k (suc h) ≤ at + w * many k h
  pub inside : at + w * many k h ≤ length new

-- the value to be hashed stands at `to`, and nothing behind the values is touched
pub record Opened (w k h at : ℕ) (new : List ℕ) (to : ℕ) (new' : List ℕ) : Type 0 where
  pub place : to + w * many k (suc h) ≡ at + w * many k h
  pub holds : values w (many k (suc h)) (drop to new') ≡ again (finished k h) (values w (many k h) (drop at new))
  pub stays : drop (at + w * many k h) new' ≡ drop (at + w * many k h) new

-- n hashes after h others, with just the room in front that they fill
pub record Hashing (w k h n at : ℕ) (new : List ℕ) : Type 0 where
  pub small : k ≤ 20
  pub more : h + n < 2 ^ k
  pub space : at + w * many k h ≡ w * many k (h + n)
  pub inside : w * many k (h + n) ≤ length new

-- f is applied m times, and the values stand from the front
pub record Hashed (w : ℕ) (f : List ℕ → List ℕ) (k h n at : ℕ) (new : List ℕ) (m : ℕ) (new' : List ℕ) : Type 0 where
  pub applied : m ≡ n
  pub holds : values w (many k (h + n)) new' ≡ hashes f k h n (values w (many k h) (drop at new))
  pub stays : drop (w * many k (h + n)) new' ≡ drop (w * many k (h + n)) new
