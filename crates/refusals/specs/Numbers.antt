-- The table of docs/RULES.md, "Numbers said at the counter": each refusal by its meaning, and its number. Assumes nothing.
use Rattle.std.specs.Prelude.{◌≡◌, refl, false, List, [], ◌∷◌, ℕ, eqb, get_or}
use Rattle.std.proofs.Common.{sym, ap, ◌∙◌, true≢false, eq-eqb}
use Rattle.refusals.specs.declared.Refusal.{Refusal}
use Rattle.refusals.specs.declared.Refusal.TheVariants.{
  UnknownFunction,
  TooManyTicks,
  UnknownSchedule,
  WrongLength,
  BadRecord,
  Spent,
  BadGap,
  NoRoom,
  NotTaken,
  BadTicks,
}

abbrev pub number_of : Refusal → ℕ
number_of UnknownFunction = 1
number_of TooManyTicks = 2
number_of UnknownSchedule = 3
number_of WrongLength = 4
number_of BadRecord = 5
number_of Spent = 6
number_of BadGap = 7
number_of NoRoom = 8
number_of NotTaken = 9
number_of BadTicks = 10

-- all that the counter says: the number alone. A refusal that comes to carry a value beside its number says it here
abbrev pub said_of : Refusal → List ℕ
said_of refusal = number_of refusal ∷ []

-- 0 is no refusal's number: it is what an answer that is none begins with
pub number_not_0 : (refusal : Refusal) → eqb (number_of refusal) 0 ≡ false
number_not_0 UnknownFunction = refl
number_not_0 TooManyTicks = refl
number_not_0 UnknownSchedule = refl
number_not_0 WrongLength = refl
number_not_0 BadRecord = refl
number_not_0 Spent = refl
number_not_0 BadGap = refl
number_not_0 NoRoom = refl
number_not_0 NotTaken = refl
number_not_0 BadTicks = refl

-- so what begins with 0 is no refusal
pub not_refused : (refusal : Refusal) (rest : List ℕ) → said_of refusal ≡ 0 ∷ rest → ⊥
not_refused refusal rest e = let z : number_of refusal ≡ 0 = cc in true≢false (sym (eq-eqb (number_of refusal) 0 z) ∙ number_not_0 refusal)

-- which refusal it is that the counter says so of
heard : List ℕ → Refusal
heard said =
    get_or (BadTicks ∷ UnknownFunction ∷ TooManyTicks ∷ UnknownSchedule ∷ WrongLength ∷ BadRecord ∷ Spent ∷ BadGap ∷ NoRoom ∷ NotTaken ∷ [])
    (get_or said 0 0)
    BadTicks

heard_said : (refusal : Refusal) → heard (said_of refusal) ≡ refusal
unfolding heard
heard_said UnknownFunction = refl
heard_said TooManyTicks = refl
heard_said UnknownSchedule = refl
heard_said WrongLength = refl
heard_said BadRecord = refl
heard_said Spent = refl
heard_said BadGap = refl
heard_said NoRoom = refl
heard_said NotTaken = refl
heard_said BadTicks = refl

-- no two refusals are said alike: from what is said one can tell the refusal
pub said_tells : (a b : Refusal) → said_of a ≡ said_of b → a ≡ b
said_tells a b e = sym (heard_said a) ∙ ap heard e ∙ heard_said b
