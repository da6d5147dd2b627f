-- Tests one behind the other, on one record and on another. Assumes nothing.
use Rattle.std.specs.Prelude.{◌≡◌, refl, Result, Ok, Err}
use Rattle.refusals.specs.Passing.{passing}

-- where the next tests judge alike what has passed the first, they come to the same
pub passing_same : {T U E : Type 0} (seen : Result T E) (next₁ next₂ : T → Result U E)
    → ((value : T) → seen ≡ Ok value → next₁ value ≡ next₂ value) → passing seen next₁ ≡ passing seen next₂
passing_same (Err x) next₁ next₂ same = refl
passing_same (Ok value) next₁ next₂ same = same value refl
