-- A record that was written is read back: the head, the anchor and the value held. Assumes nothing.
use Rattle.std.specs.Prelude.{◌≡◌, ℕ, ◌^◌, ◌≤◌, ◌<◌, length}
use Rattle.std.proofs.Math.Path.{refl}
use Rattle.std.proofs.Math.Bool.{true}
use mathlib.Core.List.{List, ◌++◌, append_assoc}
use Rattle.std.proofs.Common.{eq-zero-or-pos, arith, ⊎_elim, pow_mono, take_at}
use borrow.Author.Tests.{le-ltb, eq-eqb, ne_eqb}
use Rattle.std.proofs.Math.ListN.{drop, length-append}
use Rattle.std.proofs.Math.Seq.{drop_at, drop-drop}
use Rattle.lists.specs.Same.{same, same_refl}
use Rattle.records.specs.Numbers.{number_read}
use Rattle.lists.specs.Writing.{over, over_length}
use Rattle.oneway.specs.Laws.{width_small}
use Rattle.post.specs.declared.Head.{Head}
use Rattle.std.specs.Prelude.{Ok}
use Rattle.post.specs.Record.{size, chain_of, width_of, head_bytes, post_bytes, marked, head_of, anchor_of, held_value}
use Rattle.post.specs.Refused.{numbers, inspect_paid, inspect_of}
use Rattle.post.specs.Sound.{Numbered}

-- ---- numbers

-- what is paid fits its four bytes
pub paid_fits : (k paid : ℕ) → k ≤ 20 → paid ≤ 2 ^ k → paid < 256 ^ 4
paid_fits k paid s h = let p : 2 ^ k ≤ 2 ^ 20 = pow_mono s in omega (arith, p)

-- ---- a written record

-- a head, and an anchor and a value of its width, in a record with room for them
pub record Writable (head : Head) (anchor held post : List ℕ) : Type 0 where
  pub small : head.paid < 256 ^ 4
  pub anchored : length anchor ≡ width_of head
  pub wide : length held ≡ width_of head
  pub long : size ≤ length post

module _ (head : Head) (anchor held post : List ℕ) (w : Writable head anchor held post) where
  abbrev pub written : List ℕ
  written = over (post_bytes head anchor held) post

  pub written_length : length written ≡ length post
  unfolding post_bytes head_bytes
  written_length =
      over_length (post_bytes head anchor held) post
      (omega (arith, length-append anchor held, w.anchored, w.wide, w.long, width_small (chain_of head)))

  pub written_marked : marked written ≡ true
  unfolding post_bytes head_bytes marked
  written_marked = refl

  pub written_head : head_of written ≡ head
  unfolding post_bytes head_bytes head_of
  written_head = rw (number_read 4 head.paid w.small) refl

  behind_head : drop 8 written ≡ anchor ++ (held ++ drop (length (post_bytes head anchor held)) post)
  unfolding post_bytes head_bytes
  behind_head = append_assoc anchor held (drop (length (post_bytes head anchor held)) post)

  pub written_anchor : anchor_of head written ≡ anchor
  unfolding anchor_of
  written_anchor = rw behind_head (take_at anchor (held ++ drop (length (post_bytes head anchor held)) post) (width_of head) w.anchored)

  pub written_held : held_value head written ≡ held
  unfolding held_value
  written_held =
      let rest = drop (length (post_bytes head anchor held)) post in
      rw (← drop-drop (width_of head) 8 written, behind_head, drop_at anchor (held ++ rest) (width_of head) w.anchored)
      (take_at held rest (width_of head) w.wide)

  -- it passes inspection
  module _ (n : Numbered head) (within : head.paid ≤ 2 ^ head.k) (begins : head.paid ≡ 0 → held ≡ anchor) where
    numbers_pass : numbers head ≡ Ok head
    unfolding numbers
    numbers_pass = rw (n.known, le-ltb 20 head.k n.small) refl

    paid_pass : inspect_paid written head ≡ Ok head
    unfolding inspect_paid
    paid_pass =
        rw (le-ltb (2 ^ head.k) head.paid within, written_held, written_anchor)
        (⊎_elim
        (λ z. let e : same held anchor ≡ true = rw (begins z) (same_refl anchor) in rw (eq-eqb head.paid 0 z, e) refl)
        (λ z. rw (ne_eqb head.paid 0 (λ e. omega arith)) refl)
        (eq-zero-or-pos head.paid))

    pub written_passes : inspect_of written ≡ Ok head
    unfolding inspect_of
    written_passes =
        rw (le-ltb (length written) size (omega (arith, written_length, w.long)), written_marked, written_head, numbers_pass) paid_pass
