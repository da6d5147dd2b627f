-- Bytes behind a post's record, after any number of offers, and two buffers that begin with the same record. Assumes nothing.
use Rattle.std.specs.Prelude.{◌≡◌, ℕ, ◌≤◌}
use Rattle.std.proofs.Math.Path.{refl, ap}
use Rattle.std.proofs.Common.{sym, ◌∙◌, arith}
use mathlib.Core.List.{List, [], ◌∷◌, ◌++◌}
use Rattle.std.proofs.Math.ListN.{length}
use Rattle.post.specs.Record.{size}
use Rattle.post.specs.Promises.{offer_must_say, offer_post}
use Rattle.demands.specs.PostBehind.{offers}
use Rattle.demands.proofs.PostBehind.{offer_says_the_same, offer_leaves_the_same, offer_keeps_the_length}

-- so any number of offers leaves the bytes behind the record as they are, and the record as if they were not there
pub offers_leave_the_same : (own rest : List ℕ) (os : List (List ℕ × ℕ)) → size ≤ length own → offers (own ++ rest) os ≡ offers own os ++ rest
unfolding offers
offers_leave_the_same own rest [] whole = refl
offers_leave_the_same own rest (offer ∷ more) whole =
    ap (λ (b : List ℕ). offers b more) (offer_leaves_the_same own rest whole offer.0 offer.1)
    ∙ offers_leave_the_same (offer_post own offer.0 offer.1) rest more (omega (arith, offer_keeps_the_length own rest whole offer.0 offer.1))

-- two buffers that begin with the same record get the same answer
pub same_record_same_answer : (own rest₁ rest₂ value : List ℕ) (gap : ℕ) → size ≤ length own
    → offer_must_say (own ++ rest₁) value gap ≡ offer_must_say (own ++ rest₂) value gap
same_record_same_answer own rest₁ rest₂ value gap whole =
    offer_says_the_same own rest₁ whole value gap ∙ sym (offer_says_the_same own rest₂ whole value gap)
