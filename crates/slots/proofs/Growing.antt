-- The hashes of one pebbler on slots: what `open` and `hash` come to over plain lists. Whether a value is finished is read off the counts of values held,
-- which grow by one just there. Assumes nothing.
use mathlib.Core.Path.{◌≡◌, refl, sym, ap, ◌∙◌}
use mathlib.Core.Bool.{Bool, true, false, cond}
use mathlib.Core.List.{List, [], ◌∷◌, ◌++◌, append_assoc}
use Prim.Native.Nat.{ℕ, zero, suc, ◌+◌, ◌-◌, ◌*◌, ◌^◌, ◌≤◌, ◌<◌}
use native.Mathlib.Nat.{mul-le-mul_left, add-zero, add-suc}
use native.Mathlib.Numerals.{add-one}
use native.Mathlib.Omega.{arith}
use lib.ListN.{length, take, drop, length-take, length-drop}
use lib.Seq.{take_at, drop_at, drop-drop}
use borrow.Rule.Slice.PartMut.{put_mid}
use Rattle.std.specs.List.{copy_within}
use Rattle.lists.specs.Parts.{put_part, drop_put, drop_past, drop_over, put_length}
use Rattle.lists.specs.Values.{values, on_first, values_first}
use Rattle.pebbling.specs.OnePebbler.{held_begin, held_on, hashes_last}
use Rattle.pebbling.specs.Promises.{Holds}
use Rattle.pebbling.specs.Recursion.{finished, hash, hashes}
use Rattle.pebbling.specs.SideBySide.{held_some}
use Rattle.slots.specs.Hashing.{many, again, Opening, Opened, Hashing, Hashed}

-- ---- counts

-- one more is held just where the newest was finished
begun : (k h : ℕ) → suc h < 2 ^ k → many k h < many k (suc h) → finished k h ≡ true
begun k h b l = go (finished k h) refl
  where
    go : (f : Bool) → finished k h ≡ f → f ≡ true
    go true e = refl
    go false e = absurd (omega (arith, held_on k h 0 0 b e))

on : (k h : ℕ) → suc h < 2 ^ k → many k (suc h) ≤ many k h → finished k h ≡ false
on k h b l = go (finished k h) refl
  where
    go : (f : Bool) → finished k h ≡ f → f ≡ false
    go true e = absurd (omega (arith, held_begin k h 0 0 b e))
    go false e = refl

many_next : (k h : ℕ) → suc h < 2 ^ k → many k h ≤ many k (suc h)
many_next k h b = go (finished k h) refl
  where
    go : (f : Bool) → finished k h ≡ f → many k h ≤ many k (suc h)
    go true e = omega (arith, held_begin k h 0 0 b e)
    go false e = omega (arith, held_on k h 0 0 b e)

pub many_grows : (k h n : ℕ) → h + n < 2 ^ k → many k h ≤ many k (h + n)
many_grows k h zero b = rw (add-zero h) (omega arith)
many_grows k h (suc n) b = rw (add-suc h n) (omega (arith, many_grows k h n (omega arith), many_next k (h + n) (omega arith)))

-- ---- a hash in two moves

hash_parts : {A : Type 0} (f : A → A) (k h : ℕ) (ys : List A) → hash f k h ys ≡ on_first f (again (finished k h) ys)
unfolding hash on_first again
hash_parts f k h [] = refl
hash_parts f k h (y ∷ ys) = go (finished k h)
  where
    go : (b : Bool) → cond b (f y ∷ y ∷ ys) (f y ∷ ys) ≡ on_first f (cond b (y ∷ y ∷ ys) (y ∷ ys))
    go true = refl
    go false = refl

again_not : (b : Bool) (ys : List (List ℕ)) → b ≡ false → again b ys ≡ ys
unfolding again
again_not b [] e = refl
again_not b (y ∷ ys) e = rw e refl

again_first : (b : Bool) (w n : ℕ) (bytes : List ℕ) → b ≡ true → 0 < n → w ≤ length bytes → values w (suc n) (take w bytes ++ bytes) ≡ again b (values w n bytes)
unfolding again values
again_first b w zero bytes e p l = absurd (omega arith)
again_first b w (suc n) bytes e p l =
    let q : length (take w bytes) ≡ w = simp length-take (omega arith) in
    rw (e, take_at (take w bytes) bytes w q, drop_at (take w bytes) bytes w q) refl

-- ---- open

module _ {w k h at : ℕ} {new : List ℕ} (asked : Opening w k h at new) {before after : ℕ} (x : Holds k h before) (y : Holds k (h + 1) after) where
  next : after ≡ many k (suc h)
  next = y.is ∙ ap (many k) (add-one h)

  module _ (l : before < after) where
    closed : finished k h ≡ true
    closed = begun k h asked.more (omega (arith, x.is, next))

    grown : many k (suc h) ≡ suc (many k h)
    grown = held_begin k h 0 0 asked.more closed

    pub open_space : w ≤ at
    open_space = omega (arith, rw grown at asked.space)

    pub open_begins : {new' : List ℕ} → new' ≡ copy_within new at (at + w) (at - w) → Opened w k h at new (at - w) new'
    open_begins {new'} e =
        let more : w * 1 ≤ w * many k h = mul-le-mul_left w (held_some k h 0) in
        let l : w ≤ at = open_space in
        let inside : at + w * many k h ≤ length new = asked.inside in
        let u : at + w - at ≡ w = omega arith in
        let v : at - w + w ≡ at = omega arith in
        let i : w ≤ length (drop at new) = simp length-drop (omega arith) in
        let j : length (take w (drop at new)) ≡ w = simp length-take (omega arith) in
        let f : new' ≡ take (at - w) new ++ (take w (drop at new) ++ drop at new) =
        e ∙ rw (u, v) (append_assoc (take (at - w) new) (take w (drop at new)) (drop at new)) in
        let s : at + w * many k h ≡ at - w + (w + w * many k h) = omega arith in
        let d : drop (w + w * many k h) (take w (drop at new) ++ drop at new) ≡ drop (w * many k h) (drop at new) =
        rw j at (drop_over (w * many k h) (take w (drop at new)) (drop at new)) in
        rw f (record {
          place = rw grown (omega arith);
          holds =
              rw (grown, drop_put (at - w) new (take w (drop at new) ++ drop at new) (omega arith))
              (again_first (finished k h) w (many k h) (drop at new) closed (held_some k h 0) i);
          stays =
              ap (λ (n : ℕ). drop n (take (at - w) new ++ (take w (drop at new) ++ drop at new))) s
              ∙ drop_past (at - w) (w + w * many k h) new (take w (drop at new) ++ drop at new) (omega arith)
              ∙ d ∙ drop-drop (w * many k h) at new;
        })

  pub open_goes_on : after ≤ before → Opened w k h at new at new
  open_goes_on l =
      let f : finished k h ≡ false = on k h asked.more (omega (arith, x.is, next)) in
      let g : many k (suc h) ≡ many k h = held_on k h 0 0 asked.more f in
      record { place = rw g refl; holds = rw g (sym (again_not (finished k h) (values w (many k h) (drop at new)) f)); stays = refl }

-- ---- hash

-- the loop's invariant: `applied` hashes are done, and the newest value stands at `newest`
pub record HashedSoFar (w : ℕ) (f : List ℕ → List ℕ) (k h n at : ℕ) (start new : List ℕ) (newest applied : ℕ) : Type 0 where
  pub within : applied ≤ n
  pub sized : length new ≡ length start
  pub place : newest + w * many k (h + applied) ≡ w * many k (h + n)
  pub holds : values w (many k (h + applied)) (drop newest new) ≡ hashes f k h applied (values w (many k h) (drop at start))
  pub stays : drop (w * many k (h + n)) new ≡ drop (w * many k (h + n)) start

module _ {w : ℕ} {f : List ℕ → List ℕ} {k h n at : ℕ} {start : List ℕ} (asked : Hashing w k h n at start) where
  pub hash_none : HashedSoFar w f k h n at start start at 0
  unfolding hashes
  hash_none = record { within = omega arith; sized = refl; place = rw (add-zero h) asked.space; holds = rw (add-zero h) refl; stays = refl }

  module _ {new : List ℕ} {newest applied : ℕ} (far : HashedSoFar w f k h n at start new newest applied) where
    pub hash_all : n ≤ applied → Hashed w f k h n at start applied new
    hash_all l =
        let e : applied ≡ n = omega (arith, far.within) in
        let z : newest ≡ 0 = omega (arith, far.place, ap (λ (x : ℕ). w * many k (h + x)) e) in
        record { applied = e; holds = rw (e, z) at far.holds; stays = far.stays }

    module _ (l : applied < n) where
      pub hash_opens : Opening w k (h + applied) newest new
      hash_opens =
          let u : suc (h + applied) + (n - suc applied) ≡ h + n = omega arith in
          let g : many k (suc (h + applied)) ≤ many k (h + n) = rw u at (many_grows k (suc (h + applied)) (n - suc applied) (omega (arith, asked.more))) in
          record {
            small = asked.small;
            more = omega (arith, asked.more);
            space = omega (arith, mul-le-mul_left w g, far.place);
            inside = omega (arith, far.place, far.sized, asked.inside);
          }

      module _ {to : ℕ} {opened : List ℕ} (room : Opened w k (h + applied) newest new to opened) (kept : length opened ≡ length new) where
        -- the part that f is applied to
        pub hash_lent : to + w ≤ length opened
        hash_lent = omega (arith, room.place, hash_opens.inside, mul-le-mul_left w (held_some k (suc (h + applied)) 0))

        pub hash_next : {y : List ℕ} → length y ≡ w → y ≡ f (take (to + w - to) (drop to opened))
            → HashedSoFar w f k h n at start (put_mid to (to + w - to) opened y) to (applied + 1)
        hash_next {y} m e =
            let more : w * 1 ≤ w * many k (suc (h + applied)) = mul-le-mul_left w (held_some k (suc (h + applied)) 0) in
            let u : to + w - to ≡ w = omega arith in
            let v : h + (applied + 1) ≡ suc (h + applied) = omega arith in
            let p : put_mid to (to + w - to) opened y ≡ take to opened ++ (y ++ drop (to + w) opened) = put_part to (to + w) opened y (omega arith) in
            let q : drop (to + w) opened ≡ drop w (drop to opened) = sym (drop-drop w to opened) in
            let z : y ≡ f (take w (drop to opened)) = e ∙ ap (λ (x : ℕ). f (take x (drop to opened))) u in
            let rest : ℕ = w * many k (suc (h + applied)) - w in
            let s : w * many k (h + n) ≡ to + (w + rest) = omega (arith, room.place, far.place) in
            let d : drop (w + rest) (y ++ drop (to + w) opened) ≡ drop rest (drop (to + w) opened) = rw m at (drop_over rest y (drop (to + w) opened)) in
            let t : to + w + rest ≡ newest + w * many k (h + applied) = omega (arith, room.place) in
            let ys : List (List ℕ) = values w (many k h) (drop at start) in
            rw p (record {
              within = omega arith;
              sized = put_length to (to + w) opened y (omega arith) hash_lent (omega arith) ∙ kept ∙ far.sized;
              place = rw v (room.place ∙ far.place);
              holds =
                  rw (v, drop_put to opened (y ++ drop (to + w) opened) (omega (arith, hash_lent)), q)
                  (values_first w (many k (suc (h + applied))) f y (drop to opened) (held_some k (suc (h + applied)) 0) m z
                  ∙ ap (on_first f) (room.holds ∙ ap (again (finished k (h + applied))) far.holds)
                  ∙ sym (hash_parts f k (h + applied) (hashes f k h applied ys))
                  ∙ sym (hashes_last f k h applied ys)
                  ∙ ap (λ (x : ℕ). hashes f k h x ys) (sym (add-one applied)));
              stays =
                  ap (λ (x : ℕ). drop x (take to opened ++ (y ++ drop (to + w) opened))) s
                  ∙ drop_past to (w + rest) opened (y ++ drop (to + w) opened) (omega (arith, hash_lent))
                  ∙ d ∙ drop-drop rest (to + w) opened
                  ∙ ap (λ (x : ℕ). drop x opened) t
                  ∙ room.stays ∙ ap (λ (x : ℕ). drop x new) far.place ∙ far.stays;
            })
