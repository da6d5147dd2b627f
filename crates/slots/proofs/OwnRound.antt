-- P_k itself on slots, up to its round 2^k: what `prepare` and `put_out` come to over plain lists. Assumes nothing.
use mathlib.Core.Path.{◌≡◌, refl, sym, ap, ◌∙◌}
use mathlib.Core.List.{List, ◌++◌}
use Prim.Native.Nat.{ℕ, suc, ◌+◌, ◌-◌, ◌*◌, ◌^◌, ◌≤◌, ◌<◌}
use native.Mathlib.Nat.{mul-le-mul_left, add-zero}
use native.Mathlib.Omega.{arith}
use lib.ListN.{length, take, drop, length-drop}
use lib.Seq.{drop-drop}
use borrow.Rule.Slice.PartMut.{put_mid, same_len_mid}
use Rattle.lists.specs.Parts.{part_tail, put_tail, drop_put, drop_past}
use Rattle.lists.specs.Values.{values, values_length}
use Rattle.lists.specs.Writing.{over}
use Rattle.oneway.specs.declared.Chain.{Chain}
use Rattle.oneway.specs.Step.{width, step}
use Rattle.pebbling.specs.ChainRound.{children_begin}
use Rattle.pebbling.specs.HashesDone.{fair, done_all, done_suc, done_fits}
use Rattle.pebbling.specs.OnePebbler.{places_length, held_all}
use Rattle.pebbling.specs.Promises.{Done, Holds}
use Rattle.pebbling.specs.Recursion.{schedule, done, hashes, positions}
use Rattle.pebbling.specs.SideBySide.{positions_itself, positions_children, work_prepare, work_out}
use Rattle.pebbling.specs.Turns.{round_prepare, round_out_lem}
use Rattle.slots.specs.Hashing.{many, Hashing, Hashed}
use Rattle.slots.specs.Moves.{Moves, Advancing, Advanced}
use Rattle.slots.proofs.Copying.{copied_holds, copied_stays}
use Rattle.slots.proofs.Growing.{many_grows}
use Rattle.slots.proofs.Moving.{moves_same}

-- ---- a preparing round

-- what the code has worked out: the width, the hashes done before the round and in it, and how many values are held before it
pub record Preparing (chain : Chain) (s k r : ℕ) (old new : List ℕ) (w h n x : ℕ) : Type 0 where
  pub asked : Advancing chain s k r old new
  pub early : r < 2 ^ k
  pub wide : w ≡ width chain
  pub past : Done (schedule s) k r h
  pub does : n ≡ schedule s k r
  pub holds : Holds k h x

module _ {chain : Chain} {s k r : ℕ} {old new : List ℕ} {w h n x : ℕ} (p : Preparing chain s k r old new w h n x) where
  pub prepare_fits : h + n < 2 ^ k
  prepare_fits = omega (arith, done_fits (schedule s) (fair s p.asked.schedule) k r p.asked.from p.early, p.past.is, p.does)

  now_held : length (positions (schedule s) k r 0) ≡ many k h
  now_held = ap length (positions_itself (schedule s) k r 0 (omega (arith, p.early))) ∙ ap (many k) (sym p.past.is)

  then_held : length (positions (schedule s) k (suc r) 0) ≡ many k (h + n)
  then_held =
      let e : done (schedule s) k (suc r) ≡ h + n = done_suc (schedule s) k r p.asked.from ∙ omega (arith, p.past.is, p.does) in
      ap length (positions_itself (schedule s) k (suc r) 0 p.early) ∙ ap (many k) e

  -- the round by what the pebbler holds itself
  prepares : {rd wr m : ℕ} {new' : List ℕ} → Moves w (many k h) (many k (h + n)) n (hashes (step chain) k h n) old new rd wr m new'
      → Advanced chain s k r old new rd wr m new'
  prepares moves =
      let a : ℕ = length (positions (schedule s) k r 0) in
      let l : length (values (width chain) a old) ≡ many k (done (schedule s) k r) = values_length (width chain) a old ∙ now_held ∙ ap (many k) p.past.is in
      moves_same now_held then_held (work_prepare (schedule s) k r p.early ∙ sym p.does)
      (round_prepare (schedule s) (step chain) k r (values (width chain) a old) p.early l ∙ rw (p.past.is, p.does) refl) (rw p.wide at moves)

  reads : x * w ≡ w * many k h
  reads = ap (λ (z : ℕ). z * w) p.holds.is ∙ omega arith

  pub prepare_enough : x * w ≤ length old
  prepare_enough = omega (arith, reads, rw (← p.wide, now_held) at p.asked.enough)

  -- without a hash
  module _ (none : n ≡ 0) where
    pub idle_room : x * w ≤ length new
    idle_room =
        let e : many k (h + n) ≡ many k h = rw (none, add-zero h) refl in
        omega (arith, reads, rw (← p.wide, then_held, e) at p.asked.room)

    pub idle_moves : {new' : List ℕ} → new' ≡ over (take (x * w) old) new → Advanced chain s k r old new (x * w) (x * w) 0 new'
    unfolding hashes
    idle_moves {new'} f =
        prepares
        (rw (none, add-zero h) (record {
          reads = reads;
          writes = reads;
          works = refl;
          holds = copied_holds w (many k h) (x * w) old new new' reads prepare_enough f;
          stays = copied_stays w (many k h) (x * w) old new new' reads prepare_enough f;
        }))

  -- with hashes: how many values are held after the round is worked out too
  module _ {y : ℕ} (o : Holds k (h + n) y) where
    writes : y * w ≡ w * many k (h + n)
    writes = ap (λ (z : ℕ). z * w) o.is ∙ omega arith

    pub prepare_grows : x * w ≤ y * w
    prepare_grows = omega (arith, reads, writes, mul-le-mul_left w (many_grows k h n prepare_fits))

    pub prepare_room : y * w ≤ length new
    prepare_room = omega (arith, writes, rw (← p.wide, then_held) at p.asked.room)

    -- where the old values are copied to, behind the room for those that the round begins
    abbrev at : ℕ
    at = y * w - x * w

    pub prepare_asks : (back : List ℕ) → length back ≡ length (take (length new - at) (drop at new)) → Hashing (width chain) k h n at (put_mid at (length new - at) new back)
    prepare_asks back f =
        rw (← p.wide) (record {
          small = p.asked.small;
          more = prepare_fits;
          space = omega (arith, reads, writes, prepare_grows);
          inside = omega (arith, writes, prepare_room, same_len_mid at (length new - at) new back f);
        })

    pub prepare_moves : {m : ℕ} {new' : List ℕ} (back : List ℕ) → back ≡ over (take (x * w) old) (take (length new - at) (drop at new))
        → Hashed (width chain) (step chain) k h n at (put_mid at (length new - at) new back) m new' → Advanced chain s k r old new (x * w) (y * w) m new'
    prepare_moves back f hashed =
        let g = rw (← p.wide) at hashed in
        prepares (record { reads = reads; writes = writes; works = g.applied; holds = g.holds ∙ ap (hashes (step chain) k h n) cut; stays = g.stays ∙ rest })
      where
        tail : List ℕ
        tail = take (length new - at) (drop at new)

        fits : at ≤ length new
        fits = omega (arith, prepare_room)

        whole : put_mid at (length new - at) new back ≡ take at new ++ back
        whole = put_tail at new back fits

        cut : values w (many k h) (drop at (put_mid at (length new - at) new back)) ≡ values w (many k h) old
        cut = rw (whole, drop_put at new back fits) (copied_holds w (many k h) (x * w) old tail back reads prepare_enough f)

        behind : drop (x * w) back ≡ drop (x * w) tail
        behind = rw (← reads) at (copied_stays w (many k h) (x * w) old tail back reads prepare_enough f)

        rest : drop (w * many k (h + n)) (put_mid at (length new - at) new back) ≡ drop (w * many k (h + n)) new
        rest =
            let e : w * many k (h + n) ≡ at + x * w = omega (arith, writes, prepare_grows) in
            rw (e, whole) (drop_past at (x * w) new back fits ∙ behind ∙ ap (drop (x * w)) (part_tail at new) ∙ drop-drop (x * w) at new)

-- ---- round 2^k

module _ (chain : Chain) (k : ℕ) (old new : List ℕ) {w : ℕ} (we : w ≡ width chain) (enough : width chain * suc k ≤ length old) (room : width chain * k ≤ length new) where
  pub put_out_fits : (w + k * w ≤ length old) × (k * w ≤ length new)
  put_out_fits = (omega (arith, rw (← we) at enough), omega (arith, rw (← we) at room))

  pub put_out_moves : {new' : List ℕ} → new' ≡ over (take (w + k * w - w) (drop w old)) new
      → Moves (width chain) (suc k) k 0 (drop 1) old new (w + k * w) (k * w) 0 new'
  unfolding values
  put_out_moves {new'} f =
      let u : w + k * w - w ≡ k * w = omega arith in
      let size : k * w ≡ w * k = omega arith in
      let l : k * w ≤ length (drop w old) = simp length-drop (omega (arith, put_out_fits)) in
      let g = rw u at f in
      rw (← we) (record {
        reads = omega arith;
        writes = size;
        works = refl;
        holds = copied_holds w k (k * w) (drop w old) new new' size l g;
        stays = copied_stays w k (k * w) (drop w old) new new' size l g;
      })

module _ {chain : Chain} {s k r : ℕ} {old new : List ℕ} (asked : Advancing chain s k r old new) (last : r ≡ 2 ^ k) where
  now_held_last : length (positions (schedule s) k r 0) ≡ suc k
  now_held_last =
      rw (positions_itself (schedule s) k r 0 (omega arith), done_all (schedule s) (fair s asked.schedule) k r last, held_all k 0) (places_length k 0 (suc k) 0)

  then_held_last : length (positions (schedule s) k (suc r) 0) ≡ k
  then_held_last =
      let d : suc r - 2 ^ k ≡ 1 = omega arith in
      rw (positions_children (schedule s) k (suc r) 0 (omega arith), d, children_begin (schedule s) k 0) (places_length k 1 k 0)

  pub out_asks : (k ≤ 20) × (width chain * suc k ≤ length old) × (width chain * k ≤ length new)
  out_asks = (asked.small, rw now_held_last at asked.enough, rw then_held_last at asked.room)

  pub out_moves : {rd wr m : ℕ} {new' : List ℕ} → Moves (width chain) (suc k) k 0 (drop 1) old new rd wr m new' → Advanced chain s k r old new rd wr m new'
  out_moves moves =
      let a : ℕ = length (positions (schedule s) k r 0) in
      let l : length (values (width chain) a old) ≡ many k (done (schedule s) k r) =
      values_length (width chain) a old ∙ ap length (positions_itself (schedule s) k r 0 (omega arith)) in
      moves_same now_held_last then_held_last (work_out (schedule s) k r last) (round_out_lem (schedule s) (step chain) k r (values (width chain) a old) last l) moves
