-- A list that stands in front of others: what is read of it and written over its front does not depend on what comes behind. Assumes nothing.
use Rattle.std.specs.Prelude.{◌≡◌, List, ◌++◌, ℕ, ◌+◌, ◌≤◌, ltb, length, take, drop}
use Rattle.std.proofs.Common.{sym, ap, ◌∙◌, append_assoc, arith, length-append, length-drop}
use borrow.Author.Tests.{le-ltb}
use Rattle.std.proofs.lemmas.List.{take-append-le, drop-append-le}
use Rattle.lists.specs.Writing.{over}

module _ (own rest : List ℕ) where
  pub longer : (n : ℕ) → n ≤ length own → n ≤ length (own ++ rest)
  longer n h = omega (arith, length-append own rest)

  -- neither is too short for n entries
  pub short_same : (n : ℕ) → n ≤ length own → ltb (length (own ++ rest)) n ≡ ltb (length own) n
  short_same n h = le-ltb (length (own ++ rest)) n (longer n h) ∙ sym (le-ltb (length own) n h)

  -- n entries from m on
  pub part_front : (n m : ℕ) → m + n ≤ length own → take n (drop m (own ++ rest)) ≡ take n (drop m own)
  part_front n m h =
      ap (take n) (drop-append-le m own rest (omega arith))
      ∙ take-append-le n (drop m own) rest (simp length-drop (omega arith))

  pub over-front : (x : List ℕ) → length x ≤ length own → over x (own ++ rest) ≡ over x own ++ rest
  over-front x h =
      ap (λ (l : List ℕ). x ++ l) (drop-append-le (length x) own rest h) ∙ sym (append_assoc x (drop (length x) own) rest)
