-- The word that an exported call answers: the call's own answer in 64 bits. Assumes nothing.
use Rattle.std.specs.Prelude.{◌≡◌, Bool, true, false, Result, Ok, Err, ℕ, ◌+◌, ◌*◌, ◌/◌, ◌%◌, ◌^◌, ◌<◌}
use Rattle.std.proofs.Common.{arith}
use Rattle.refusals.specs.Numbers.{number_of}
use Rattle.refusals.specs.declared.Refusal.{Refusal}
use Rattle.card.specs.declared.Outcome.{Outcome}
use Rattle.card.specs.declared.Outcome.TheVariants.{Quiet, Tick}
use Rattle.pebbling.specs.declared.Listed.{Listed}

-- bits 0-7 the refusal's number, 8-15 the kind, 16-39 the first number, 40-63 the second
abbrev pub packed : ℕ → ℕ → ℕ → ℕ → ℕ
packed number kind first second = number + kind * 2 ^ 8 + first * 2 ^ 16 + second * 2 ^ 40

abbrev pub refused_word : Refusal → ℕ
refused_word refusal = packed (number_of refusal) 0 0 0

-- a refusal's word, or the one that is said of the value
abbrev pub word_by : {T : Type 0} → (T → ℕ) → Result T Refusal → ℕ
word_by value_word (Ok value) = value_word value
word_by value_word (Err refusal) = refused_word refusal

-- start, rebuild, anchor, and start and anchor of n ticks
abbrev pub done_word : Result (Unit {0}) Refusal → ℕ
done_word = word_by (λ none. packed 0 0 0 0)

abbrev pub outcome_word : Outcome → ℕ
outcome_word (Quiet hashes) = packed 0 0 0 hashes
outcome_word (Tick position hashes) = packed 0 1 position hashes

abbrev pub round_word : Result Outcome Refusal → ℕ
round_word = word_by outcome_word

abbrev pub positions_word : Result Listed Refusal → ℕ
positions_word = word_by (λ listed. packed 0 0 listed.count listed.hashes)

abbrev pub enrol_word : Result (Unit {0}) Refusal → ℕ
enrol_word = done_word

abbrev pub offer_word : Result ℕ Refusal → ℕ
offer_word = word_by (λ ticks. packed 0 1 ticks 0)

abbrev pub settled_word : Bool → ℕ
settled_word true = packed 0 1 0 0
settled_word false = packed 0 0 0 0

abbrev pub settle_word : Result Bool Refusal → ℕ
settle_word = word_by settled_word

-- ---- what an exported call promises: some answer keeps the promise of the call itself, and the word is that answer's

pub record Exported {A : Type 0} (worded : A → ℕ) (Keeps : A → Type 0) (word : ℕ) : Type 0 where
  pub answer : A
  pub kept : Keeps answer
  pub is : word ≡ worded answer

-- ---- nothing is lost in the word: each part reads back, where it has its bits

module _ (number kind first second : ℕ) (n : number < 2 ^ 8) (m : kind < 2 ^ 8) (a : first < 2 ^ 24) (b : second < 2 ^ 24) where
  abbrev word : ℕ
  word = packed number kind first second

  pub word_holds_the_number : word % 2 ^ 8 ≡ number
  word_holds_the_number = omega (arith, n)

  pub word_holds_the_kind : word / 2 ^ 8 % 2 ^ 8 ≡ kind
  word_holds_the_kind = omega (arith, n, m)

  pub word_holds_the_first : word / 2 ^ 16 % 2 ^ 24 ≡ first
  word_holds_the_first = omega (arith, n, m, a)

  pub word_holds_the_second : word / 2 ^ 40 ≡ second
  word_holds_the_second = omega (arith, n, m, a)

  pub word_has_64_bits : word < 2 ^ 64
  word_has_64_bits = omega (arith, n, m, a, b)
