-- Each exported call leaves one word and one content of each lent buffer, since the call itself leaves one answer. Assumes nothing.
use Rattle.std.specs.Prelude.{◌≡◌, List, ℕ}
use Rattle.std.proofs.Common.{sym, ap, ◌∙◌}
use Rattle.oneway.specs.declared.Chain.{Chain}
use Rattle.pebbling.specs.PositionList.{Positioned, positions_unique}
use Rattle.card.specs.Promises.{Started, Rebuilt, StartedTicks, Rounded, Anchored, AnchoredTicks, start_leaves_no_choice, rebuild_leaves_no_choice, start_ticks_leaves_no_choice, round_leaves_no_choice, anchor_leaves_no_choice, anchor_ticks_leaves_no_choice}
use Rattle.post.specs.Promises.{Enrolled, Offered, Settled, enrol_leaves_no_choice, offer_leaves_no_choice, settle_leaves_no_choice}
use Rattle.perchmellow.specs.Word.{Exported, done_word, round_word, positions_word, enrol_word, offer_word, settle_word}

-- one answer has one word
one_word : {A : Type 0} (worded : A → ℕ) (K L : A → Type 0) (v w : ℕ) → (p : Exported worded K v) (q : Exported worded L w) → p.answer ≡ q.answer → v ≡ w
one_word worded K L v w p q e = p.is ∙ ap worded e ∙ sym q.is

-- so a call that is lent one buffer to write, and leaves one answer and one content of it, leaves one word and that content
one_outcome : {A : Type 0} (worded : A → ℕ) (Keeps : A → List ℕ → Type 0)
    → ((a b : A) (x y : List ℕ) → Keeps a x → Keeps b y → (a ≡ b) × (x ≡ y))
    → (v w : ℕ) (x y : List ℕ) → Exported worded (λ a. Keeps a x) v → Exported worded (λ a. Keeps a y) w → (v ≡ w) × (x ≡ y)
one_outcome worded Keeps law v w x y p q =
    let same = law p.answer q.answer x y p.kept q.kept in
    (one_word worded _ _ v w p q same.0, same.1)

module _ (function k schedule : ℕ) (seed card : List ℕ) where
  pub start_word_leaves_no_choice : (v w : ℕ) (card₁ card₂ : List ℕ)
      → Exported done_word (λ a. Started function k schedule seed card a card₁) v
      → Exported done_word (λ a. Started function k schedule seed card a card₂) w
      → (v ≡ w) × (card₁ ≡ card₂)
  start_word_leaves_no_choice = one_outcome done_word (Started function k schedule seed card) (start_leaves_no_choice function k schedule seed card)

module _ (function k schedule r : ℕ) (seed card : List ℕ) where
  pub rebuild_word_leaves_no_choice : (v w : ℕ) (card₁ card₂ : List ℕ)
      → Exported done_word (λ a. Rebuilt function k schedule r seed card a card₁) v
      → Exported done_word (λ a. Rebuilt function k schedule r seed card a card₂) w
      → (v ≡ w) × (card₁ ≡ card₂)
  rebuild_word_leaves_no_choice = one_outcome done_word (Rebuilt function k schedule r seed card) (rebuild_leaves_no_choice function k schedule r seed card)

module _ (function n schedule : ℕ) (seed card : List ℕ) where
  pub start_ticks_word_leaves_no_choice : (v w : ℕ) (card₁ card₂ : List ℕ)
      → Exported done_word (λ a. StartedTicks function n schedule seed card a card₁) v
      → Exported done_word (λ a. StartedTicks function n schedule seed card a card₂) w
      → (v ≡ w) × (card₁ ≡ card₂)
  start_ticks_word_leaves_no_choice = one_outcome done_word (StartedTicks function n schedule seed card) (start_ticks_leaves_no_choice function n schedule seed card)

module _ (card out : List ℕ) where
  pub round_word_leaves_no_choice : (v w : ℕ) (card₁ card₂ out₁ out₂ : List ℕ)
      → Exported round_word (λ a. Rounded card out a card₁ out₁) v
      → Exported round_word (λ a. Rounded card out a card₂ out₂) w
      → (v ≡ w) × (card₁ ≡ card₂) × (out₁ ≡ out₂)
  round_word_leaves_no_choice v w card₁ card₂ out₁ out₂ p q =
      let same = round_leaves_no_choice card out _ _ card₁ card₂ out₁ out₂ p.kept q.kept in
      (one_word round_word _ _ v w p q same.0, same.1, same.2)

module _ (k schedule round : ℕ) (list : List ℕ) where
  pub positions_word_leaves_no_choice : (v w : ℕ) (list₁ list₂ : List ℕ)
      → Exported positions_word (λ a. Positioned k schedule round list a list₁) v
      → Exported positions_word (λ a. Positioned k schedule round list a list₂) w
      → (v ≡ w) × (list₁ ≡ list₂)
  positions_word_leaves_no_choice = one_outcome positions_word (Positioned k schedule round list) (positions_unique k schedule round list)

module _ (c : Chain) (k : ℕ) (seed out : List ℕ) where
  pub anchor_word_leaves_no_choice : (v w : ℕ) (out₁ out₂ : List ℕ)
      → Exported done_word (λ a. Anchored c k seed out a out₁) v
      → Exported done_word (λ a. Anchored c k seed out a out₂) w
      → (v ≡ w) × (out₁ ≡ out₂)
  anchor_word_leaves_no_choice = one_outcome done_word (Anchored c k seed out) (anchor_leaves_no_choice c k seed out)

module _ (c : Chain) (n : ℕ) (seed out : List ℕ) where
  pub anchor_ticks_word_leaves_no_choice : (v w : ℕ) (out₁ out₂ : List ℕ)
      → Exported done_word (λ a. AnchoredTicks c n seed out a out₁) v
      → Exported done_word (λ a. AnchoredTicks c n seed out a out₂) w
      → (v ≡ w) × (out₁ ≡ out₂)
  anchor_ticks_word_leaves_no_choice = one_outcome done_word (AnchoredTicks c n seed out) (anchor_ticks_leaves_no_choice c n seed out)

module _ (function k : ℕ) (anchor post : List ℕ) where
  pub enrol_word_leaves_no_choice : (v w : ℕ) (post₁ post₂ : List ℕ)
      → Exported enrol_word (λ a. Enrolled function k anchor post a post₁) v
      → Exported enrol_word (λ a. Enrolled function k anchor post a post₂) w
      → (v ≡ w) × (post₁ ≡ post₂)
  enrol_word_leaves_no_choice = one_outcome enrol_word (Enrolled function k anchor post) (enrol_leaves_no_choice function k anchor post)

module _ (post value : List ℕ) (gap : ℕ) where
  pub offer_word_leaves_no_choice : (v w : ℕ) (post₁ post₂ : List ℕ)
      → Exported offer_word (λ a. Offered post value gap a post₁) v
      → Exported offer_word (λ a. Offered post value gap a post₂) w
      → (v ≡ w) × (post₁ ≡ post₂)
  offer_word_leaves_no_choice = one_outcome offer_word (Offered post value gap) (offer_leaves_no_choice post value gap)

module _ (function k : ℕ) (anchor last : List ℕ) (paid : ℕ) where
  pub settle_word_leaves_no_choice : (v w : ℕ)
      → Exported settle_word (Settled function k anchor last paid) v
      → Exported settle_word (Settled function k anchor last paid) w
      → v ≡ w
  settle_word_leaves_no_choice v w p q =
      one_word settle_word _ _ v w p q (settle_leaves_no_choice function k anchor last paid _ _ p.kept q.kept)
