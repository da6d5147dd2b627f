-- Two laws of moves on slots: a move may be stated under other counts, and two moves one behind the other are one. Assumes nothing.
use mathlib.Core.Path.{◌≡◌, refl, sym, ap, ◌∙◌}
use mathlib.Core.List.{List, ◌++◌}
use Prim.Native.Nat.{ℕ, ◌+◌, ◌-◌, ◌*◌, ◌≤◌}
use native.Mathlib.Omega.{arith}
use lib.ListN.{length, take, drop}
use lib.Seq.{drop-drop, length-take-le}
use borrow.Rule.Slice.PartMut.{put_mid}
use Rattle.lists.specs.Parts.{part_tail, put_tail, drop_put, drop_past}
use Rattle.lists.specs.Values.{values, values_add, values_take_first, values_drop_first, values_front, values_take}
use Rattle.slots.specs.Moves.{Moves}

-- the same move under other counts
pub moves_same : {w a a' b b' hs hs' : ℕ} {g g' : List (List ℕ) → List (List ℕ)} {old new : List ℕ} {rd wr h : ℕ} {new' : List ℕ}
    → a' ≡ a → b' ≡ b → hs' ≡ hs → g' (values w a' old) ≡ g (values w a' old)
    → Moves w a b hs g old new rd wr h new' → Moves w a' b' hs' g' old new rd wr h new'
moves_same {w} {g = g} {old = old} p q r e m =
    rw (q, r) (record {
      reads = m.reads ∙ ap (λ (x : ℕ). w * x) (sym p);
      writes = m.writes;
      works = m.works;
      holds = m.holds ∙ sym (e ∙ ap (λ (x : ℕ). g (values w x old)) p);
      stays = m.stays;
    })

-- a second move behind the first
module _ {w a b hs : ℕ} {g : List (List ℕ) → List (List ℕ)} {old new : List ℕ} {rd wr h : ℕ} {mid : List ℕ} (m : Moves w a b hs g old new rd wr h mid) (room : wr ≤ length mid) where
  pub moves_both : {a' b' hs' : ℕ} {g' : List (List ℕ) → List (List ℕ)} {rd' wr' h' : ℕ} {y : List ℕ}
      → Moves w a' b' hs' g' (take (length old - rd) (drop rd old)) (take (length mid - wr) (drop wr mid)) rd' wr' h' y
      → Moves w (a + a') (b + b') (hs + hs') (λ ys. g (take a ys) ++ g' (drop a ys)) old new (rd + rd') (wr + wr') (h + h') (put_mid wr (length mid - wr) mid y)
  moves_both {a'} {b'} {hs'} {g'} {rd'} {wr'} {h'} {y} m' =
      rw (put_tail wr mid y room) (record {
        reads = omega (arith, m.reads, m'.reads);
        writes = omega (arith, m.writes, m'.writes);
        works = omega (arith, m.works, m'.works);
        holds =
            values_add w b b' all
            ∙ rw (first, behind, m'.holds, rest, values_take_first w a a' old, values_drop_first w a a' old) refl;
        stays =
            ap (λ (x : ℕ). drop x all) past
            ∙ drop_past wr (w * b') mid y room
            ∙ m'.stays
            ∙ ap (drop (w * b')) (part_tail wr mid ∙ ap (λ (x : ℕ). drop x mid) m.writes ∙ m.stays)
            ∙ drop-drop (w * b') (w * b) new
            ∙ ap (λ (x : ℕ). drop x new) sum;
      })
    where
      all : List ℕ
      all = take wr mid ++ y

      past : w * (b + b') ≡ wr + w * b'
      past = omega (arith, m.writes)

      sum : w * b + w * b' ≡ w * (b + b')
      sum = omega arith

      behind : drop (w * b) all ≡ y
      behind = ap (λ (x : ℕ). drop x all) (sym m.writes) ∙ drop_put wr mid y room

      rest : take (length old - rd) (drop rd old) ≡ drop (w * a) old
      rest = part_tail rd old ∙ ap (λ (x : ℕ). drop x old) m.reads

      first : values w b all ≡ g (values w a old)
      first =
          values_front w b (take wr mid) y (omega (arith, length-take-le wr mid room, m.writes))
          ∙ values_take w b wr mid (omega (arith, m.writes)) ∙ m.holds
