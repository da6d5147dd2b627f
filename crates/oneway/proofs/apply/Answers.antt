-- `oneway::apply` meets its contract: the value is taken out, hashed and put back. Assumes nothing.
use mathlib.Core.Path.{◌≡◌, ap, ◌∙◌}
use Rattle.oneway.specs.Step.{width, digest, step_by}
use Rattle.oneway.proofs.Laws.{step_0, step_1}
use Rattle.oneway.proofs.apply.Goals.{then-chain-eq0, else-chain-eq0}
use Rattle.oneway.proofs.apply.Goals as goal

pub unwrap-v-requires : goal.unwrap-v-requires
unfolding width
unwrap-v-requires c = c.as_array.ensures.variant.1 c.requires.whole_value

pub returns : goal.returns
unfolding step_by
returns c =
    let r = c.args in
    let m = rw c.unwrap-v.ensures at c.as_array.ensures.cases in
    let e : c.unwrap-v.result.now ≡ r.value.now = m.same in
    c.copy_from_slice.ensures.after
    ∙ elim c.if-chain-eq0.branch [
      | then-chain-eq0 w ↦ step_0 r.chain r.value.now w.if-chain-eq0.true (w.next-is ∙ w.md5_of-next.ensures ∙ ap digest e)
      | else-chain-eq0 w ↦
          step_1 r.chain r.value.now c.requires.known_function w.if-chain-eq0.false (w.next-is ∙ w.aes_of-next.ensures ∙ ap (step_by 1) e)
    ]
