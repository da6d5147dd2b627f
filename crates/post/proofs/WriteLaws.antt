-- What the code that writes records comes to, over plain lists and numbers. Assumes nothing.
use mathlib.Core.Path.{◌≡◌, refl, sym, ap, ◌∙◌}
use mathlib.Core.List.{List, ◌++◌, append_assoc}
use Prim.Native.Nat.{ℕ, ◌+◌, ◌-◌, ◌≤◌}
use native.Mathlib.Omega.{arith}
use borrow.Rule.Slice.PartMut.{put_mid}
use lib.ListN.{length, take, drop, length-append, length-drop}
use lib.Seq.{take_at, drop_at, drop-drop, length-take-le, take-append-add, drop-append-add}
use Rattle.lists.specs.Parts.{part_tail, put_tail, drop_put}
use Rattle.lists.specs.Writing.{over, over_length}
use Rattle.oneway.specs.Laws.{width_small}
use Rattle.post.specs.declared.Head.{Head}
use Rattle.post.specs.Record.{chain_of, width_of, head_bytes, post_bytes, anchor_of}
use Rattle.post.specs.Sound.{Enrollable}

-- ---- put

-- the anchor and the value held stand within a record of 40 bytes
pub fields_within : (head : Head) (w : ℕ) → w ≡ width_of head → 8 + w + w ≤ 40
fields_within head w wide = omega (arith, wide, width_small (chain_of head))

pub head_length : (head : Head) → length (head_bytes head) ≡ 8
unfolding head_bytes
head_length head = refl

module _ (head : Head) (held post : List ℕ) (wide_held : length held ≡ width_of head) (long : 40 ≤ length post) (bytes mid : List ℕ) (e : bytes ≡ head_bytes head) (m : mid ≡ over bytes post)
    (w : ℕ) (wide : w ≡ width_of head) where
  mid_is : mid ≡ head_bytes head ++ drop 8 post
  mid_is = m ∙ rw (e, head_length head) refl

  pub mid_length : length mid ≡ length post
  mid_length = ap length m ∙ over_length bytes post (omega (arith, ap length e, head_length head, long))

  -- there is room for the value behind the anchor
  pub held_room : 8 + w + length held ≤ length mid
  held_room = omega (arith, fields_within head w wide, mid_length, long, wide_held)

  pub put_both : (y : List ℕ) → y ≡ over held (take (length mid - (8 + w)) (drop (8 + w) mid))
      → put_mid (8 + w) (length mid - (8 + w)) mid y ≡ over (post_bytes head (anchor_of head post) held) post
  unfolding post_bytes anchor_of
  put_both y q =
      let hb = head_bytes head in
      let l : length hb ≡ 8 = head_length head in
      let rest = drop 8 post in
      let a : take (8 + w) mid ≡ hb ++ take w rest =
      rw mid_is (ap (λ (n : ℕ). take (n + w) (hb ++ rest)) (sym l) ∙ take-append-add hb rest w) in
      let d : drop (8 + w) mid ≡ drop w rest =
      rw mid_is (ap (λ (n : ℕ). drop (n + w) (hb ++ rest)) (sym l) ∙ drop-append-add hb rest w) in
      let h : length held ≡ w = wide_held ∙ sym wide in
      let n : length (take w rest) ≡ w = length-take-le w rest (omega (arith, length-drop 8 post, fields_within head w wide, long)) in
      let s : length (hb ++ (take w rest ++ held)) ≡ 8 + (w + w) =
      length-append hb (take w rest ++ held) ∙ omega (arith, length-append (take w rest) held, l, n, h) in
      let t : drop w (drop w rest) ≡ drop (8 + (w + w)) post = drop-drop w w rest ∙ drop-drop (w + w) 8 post in
      put_tail (8 + w) mid y (omega (arith, held_room))
      ∙ rw (a, q, part_tail (8 + w) mid, d, h, ← wide, s, t)
      (append_assoc hb (take w rest) (held ++ drop (8 + (w + w)) post)
      ∙ sym (append_assoc hb (take w rest ++ held) (drop (8 + (w + w)) post)
      ∙ ap (λ (r : List ℕ). hb ++ r) (append_assoc (take w rest) held (drop (8 + (w + w)) post))))

-- ---- lay

module _ (head : Head) (anchor post : List ℕ) (ok : Enrollable anchor post head) where
  pub anchor_fits : 8 + length anchor ≤ length post
  anchor_fits = omega (arith, ok.anchored, ok.long, width_small (chain_of head))

  module _ (mid y : List ℕ) (m : mid ≡ put_mid 8 (length post - 8) post y) (q : y ≡ over anchor (take (length post - 8) (drop 8 post))) where
    y_is : y ≡ anchor ++ drop (8 + length anchor) post
    y_is = q ∙ rw (part_tail 8 post, drop-drop (length anchor) 8 post) refl

    mid_tail : mid ≡ take 8 post ++ y
    mid_tail = m ∙ put_tail 8 post y (omega (arith, anchor_fits))

    behind : drop 8 mid ≡ anchor ++ drop (8 + length anchor) post
    behind = rw mid_tail (drop_put 8 post y (omega (arith, anchor_fits)) ∙ y_is)

    pub laid : over (post_bytes head (anchor_of head mid) anchor) mid ≡ over (post_bytes head anchor anchor) post
    unfolding post_bytes head_bytes anchor_of
    laid =
        let w = width_of head in
        let a : take w (drop 8 mid) ≡ anchor = rw behind (take_at anchor (drop (8 + length anchor) post) w ok.anchored) in
        let n : length (post_bytes head anchor anchor) ≡ 8 + (w + w) = omega (arith, length-append anchor anchor, ok.anchored) in
        let s : 8 + w + w ≡ 8 + (w + w) = omega arith in
        let d : drop (8 + (w + w)) mid ≡ drop (8 + (w + w)) post =
        sym (drop-drop (w + w) 8 mid) ∙ sym (drop-drop w w (drop 8 mid))
        ∙ rw (behind, drop_at anchor (drop (8 + length anchor) post) w ok.anchored, ok.anchored)
        (drop-drop w (8 + w) post ∙ rw s refl) in
        ap (λ (l : List ℕ). over (post_bytes head l anchor) mid) a
        ∙ ap (λ (l : List ℕ). post_bytes head anchor anchor ++ l)
        (ap (λ (i : ℕ). drop i mid) n ∙ d ∙ ap (λ (i : ℕ). drop i post) (sym n))
