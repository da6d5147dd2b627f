-- A post's record with bytes behind it: what offers leave. What holds is in proofs/PostBehind.antt. Assumes nothing.
use Rattle.std.specs.Prelude.{ℕ}
use mathlib.Core.List.{List, [], ◌∷◌}
use Rattle.post.specs.Promises.{offer_post}

-- ---- definitions

-- what offers leave, one after another, each a value and a gap limit
unfoldable pub offers : List ℕ → List (List ℕ × ℕ) → List ℕ
offers post [] = post
offers post (offer ∷ more) = offers (offer_post post offer.0 offer.1) more
