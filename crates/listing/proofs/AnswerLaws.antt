-- A round's line by its answer: a quiet round's ends in "-", and a tick's in its position. Assumes nothing.
use mathlib.Core.Path.{◌≡◌, refl}
use mathlib.Core.List.{List, [], ◌∷◌, ◌++◌}
use Prim.Native.Nat.{ℕ, ◌+◌, ◌≤◌}
use native.Mathlib.Omega.{arith}
use lib.ListN.{length}
use Rattle.card.specs.Promises.{round_answer_says, tick_or_quiet}
use Rattle.std.specs.Prelude.{Err, Ok, Result}
use Rattle.refusals.specs.declared.Refusal.{Refusal}
use Rattle.card.specs.declared.Outcome.{Outcome}
use Rattle.card.specs.declared.Outcome.TheVariants.{Quiet, Tick}
use Rattle.printing.specs.Names.{bytes}
use Rattle.listing.specs.Listing.{line_feed, field, put_out_field, held_fields, line_of}
use Rattle.listing.specs.declared.text.Page.{Page}
use Rattle.listing.specs.Steps.{Put, answer_line, answer_hashes}
use Rattle.listing.proofs.PageLaws.{first_room, next_room, put_both}

module _ (r : ℕ) (held : List ℕ) (a : Result Outcome Refusal) where
  -- ---- how the line ends

  -- after the fields that every line has
  pub record Ends (hashes : ℕ) (last : List ℕ) : Type 0 where
    pub line : answer_line r held a ≡ held_fields r hashes held ++ last
    pub counts : answer_hashes a ≡ hashes

  pub quiet_ends : (o : Outcome) (hashes : ℕ) → a ≡ Ok o → o ≡ Quiet hashes → Ends hashes (bytes "-\n")
  unfolding answer_line answer_hashes line_of put_out_field
  quiet_ends o hashes e q = record { line = rw (e, q) refl; counts = rw (e, q) refl }

  pub tick_ends : (o : Outcome) (position hashes : ℕ) → a ≡ Ok o → o ≡ Tick position hashes → Ends hashes (field position line_feed)
  unfolding answer_line answer_hashes line_of put_out_field
  tick_ends o position hashes e q = record { line = rw (e, q) refl; counts = rw (e, q) refl }

  -- a refused round has no line
  pub refused_says : (why : Refusal) → a ≡ Err why → (answer_line r held a ≡ []) × (answer_hashes a ≡ 0)
  unfolding answer_line answer_hashes
  refused_says why e = (rw e refl, rw e refl)

  -- ---- the line in its two parts

  module _ (hashes : ℕ) (last : List ℕ) (e : Ends hashes last) (p : Page) where
    module _ (room : p.at + length (answer_line r held a) ≤ length p.text.now) where
      pub held_fits : p.at + length (held_fields r hashes held) ≤ length p.text.now
      held_fits = first_room (held_fields r hashes held) last p (rw e.line at room)

      pub last_fits : (q : Page) → Put (held_fields r hashes held) p q → q.at + length last ≤ length q.text.now
      last_fits q w = next_room (held_fields r hashes held) last p q w (rw e.line at room)

    pub answer_says : (q r' : Page) → Put (held_fields r hashes held) p q → Put last q r' → Put (answer_line r held a) p r'
    answer_says q r' w v = rw e.line (put_both (held_fields r hashes held) last p q w r' v)

-- ---- what a round says tells its line

pub line_told : (r : ℕ) (held : List ℕ) (a : Result Outcome Refusal) (out : List ℕ) (hashes : ℕ) → round_answer_says a ≡ tick_or_quiet out hashes
    → (answer_line r held a ≡ line_of r hashes held out) × (answer_hashes a ≡ hashes)
unfolding answer_line answer_hashes line_of put_out_field
line_told r held (Ok (Quiet h)) [] hashes e = let q : h ≡ hashes = cc in (rw q refl, q)
line_told r held (Ok (Quiet h)) (p ∷ ps) hashes e = let z : ◌≡◌ {A = ℕ} 0 1 = cc in absurd (omega arith)
line_told r held (Ok (Tick p h)) [] hashes e = let z : ◌≡◌ {A = ℕ} 0 1 = cc in absurd (omega arith)
line_told r held (Ok (Tick p h)) (q ∷ qs) hashes e = let i : h ≡ hashes = cc in let j : p ≡ q = cc in (rw (i, j) refl, i)
line_told r held (Err why) [] hashes e = let z : ◌≡◌ {A = ℕ} 0 1 = cc in absurd (omega arith)
line_told r held (Err why) (p ∷ ps) hashes e = let z : ◌≡◌ {A = ℕ} 0 1 = cc in absurd (omega arith)
