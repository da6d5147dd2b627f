-- What a copy of values leaves. Assumes nothing.
use mathlib.Core.Path.{◌≡◌, ap, ◌∙◌}
use mathlib.Core.List.{List, ◌++◌}
use Prim.Native.Nat.{ℕ, ◌*◌, ◌≤◌}
use native.Mathlib.Omega.{arith}
use lib.ListN.{length, take, drop}
use lib.Seq.{drop_at, length-take-le}
use Rattle.lists.specs.Values.{values, values_front, values_take}
use Rattle.lists.specs.Writing.{over}

module _ (w n m : ℕ) (from old new : List ℕ) (size : m ≡ w * n) (enough : m ≤ length from) (e : new ≡ over (take m from) old) where
  copied : new ≡ take m from ++ drop m old
  copied = e ∙ ap (λ (x : ℕ). take m from ++ drop x old) (length-take-le m from enough)

  pub copied_holds : values w n new ≡ values w n from
  copied_holds =
      ap (values w n) copied
      ∙ values_front w n (take m from) (drop m old) (omega (arith, length-take-le m from enough))
      ∙ values_take w n m from (omega arith)

  pub copied_stays : drop (w * n) new ≡ drop (w * n) old
  copied_stays =
      rw (← size) (ap (drop m) copied ∙ drop_at (take m from) (drop m old) m (length-take-le m from enough))
