-- The position list: what it says and what it leaves in the list, for every number that may come in and a list of any length. Assumes nothing.
use Rattle.std.specs.Prelude.{◌≡◌, cond, List, [], ◌∷◌, ℕ, suc, ◌^◌, ltb, eqb, length, get_or}
use Rattle.std.proofs.Common.{sym, ap, ◌∙◌}
use Rattle.lists.specs.Writing.{over}
use Rattle.refusals.specs.Answers.{says_by, told_by}
use Rattle.std.specs.Prelude.{Result}
use Rattle.refusals.specs.declared.Refusal.{Refusal}
use Rattle.pebbling.specs.declared.Listed.{Listed}
use Rattle.pebbling.specs.Recursion.{schedule, positions, work}

abbrev pub listed_says : Listed → List ℕ
listed_says listed = listed.count ∷ listed.hashes ∷ []

-- an answer in the counter's numbers (docs/RULES.md): a refusal's number alone; otherwise 0, how many positions there are, and the hashes of the round
abbrev pub positions_answer_says : Result Listed Refusal → List ℕ
positions_answer_says = says_by listed_says

-- refusals 2, 3, 5 and 4 in this order; r is from 1 to 2^(k+1)
unfoldable pub positions_must_say : ℕ → ℕ → ℕ → List ℕ → List ℕ
positions_must_say k s r list =
    cond (ltb 20 k) (2 ∷ [])
    (cond (ltb 3 s) (3 ∷ [])
    (cond (eqb r 0) (5 ∷ [])
    (cond (ltb (2 ^ suc k) r) (5 ∷ [])
    (cond (ltb (length list) (length (positions (schedule s) k r 0))) (4 ∷ [])
    (0 ∷ length (positions (schedule s) k r 0) ∷ work (schedule s) k r ∷ [])))))

-- without a refusal the positions stand in front, and the entries behind them stay; a refusal changes nothing
unfoldable pub positions_list : ℕ → ℕ → ℕ → List ℕ → List ℕ
positions_list k s r list = cond (eqb (get_or (positions_must_say k s r list) 0 0) 0) (over (positions (schedule s) k r 0) list) list

-- the promise of the call: one answer and one content of the list
pub record Positioned (k s r : ℕ) (list : List ℕ) (answer : Result Listed Refusal) (list' : List ℕ) : Type 0 where
  pub says : positions_answer_says answer ≡ positions_must_say k s r list
  pub leaves : list' ≡ positions_list k s r list

abbrev listed : ℕ → ℕ → Listed
listed count hashes = record { count = count; hashes = hashes }

listed_told : (a b : Listed) → listed_says a ≡ listed_says b → a ≡ b
listed_told a b e =
    let count : a.count ≡ b.count = cc in
    let hashes : a.hashes ≡ b.hashes = cc in
    ap (λ (n : ℕ). listed n a.hashes) count ∙ ap (listed b.count) hashes

-- no two answers say the same, so that from what is said one can tell the answer
pub positions_told : (a b : Result Listed Refusal) → positions_answer_says a ≡ positions_answer_says b → a ≡ b
positions_told = told_by listed_says listed_told

-- two outcomes that both keep the promise are the same
pub positions_unique : (k s r : ℕ) (list : List ℕ) (a b : Result Listed Refusal) (la lb : List ℕ)
    → Positioned k s r list a la
    → Positioned k s r list b lb
    → (a ≡ b) × (la ≡ lb)
positions_unique k s r list a b la lb p q = (positions_told a b (p.says ∙ sym q.says), p.leaves ∙ sym q.leaves)
