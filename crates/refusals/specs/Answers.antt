-- What is said of the answer of a call that may refuse: a refusal's number alone, or 0 and what there is to say of the value. Assumes nothing.
use Rattle.std.specs.Prelude.{◌≡◌, refl, List, [], ◌∷◌, ℕ, drop, Result, Ok, Err}
use Rattle.std.proofs.Common.{sym, ap}
use Rattle.refusals.specs.declared.Refusal.{Refusal}
use Rattle.refusals.specs.Numbers.{said_of, said_tells, not_refused}

abbrev pub says_by : {T : Type 0} → (T → List ℕ) → Result T Refusal → List ℕ
says_by value_says (Ok value) = 0 ∷ value_says value
says_by value_says (Err refusal) = said_of refusal

-- where from what is said of a value one can tell the value, one can tell the answer from what is said of it
pub told_by : {T : Type 0} (value_says : T → List ℕ) → ((a b : T) → value_says a ≡ value_says b → a ≡ b)
    → (a b : Result T Refusal) → says_by value_says a ≡ says_by value_says b → a ≡ b
told_by value_says told (Ok a) (Ok b) e = ap Ok (told a b (ap (drop 1) e))
told_by value_says told (Ok a) (Err y) e = absurd (not_refused y (value_says a) (sym e))
told_by value_says told (Err x) (Ok b) e = absurd (not_refused x (value_says b) e)
told_by value_says told (Err x) (Err y) e = ap Err (said_tells x y e)

-- ---- of a call that has nothing more to say than that it is done

abbrev pub done_says : Result (Unit {0}) Refusal → List ℕ
done_says = says_by (λ none. [])

pub done_told : (a b : Result (Unit {0}) Refusal) → done_says a ≡ done_says b → a ≡ b
done_told = told_by (λ none. []) (λ a b e. refl)
