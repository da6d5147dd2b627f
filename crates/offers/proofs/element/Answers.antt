-- `offers::element` meets its contract: the value keeps its 16 bytes, and no width is over 16. Assumes nothing.
use Rattle.std.proofs.Common.{sym, ◌∙◌, arith}
use Rattle.std.proofs.lemmas.List.{length-take-le}
use Rattle.oneway.specs.Laws.{width_small}
use Rattle.oneway.specs.Step.{known}
use Rattle.offers.proofs.element.Goals as goal

pub slice_bounds-value-end : goal.slice_bounds-value-end
slice_bounds-value-end c = omega (arith, width_small (record { function = 0 }))

pub slice_bounds-walk-end : goal.slice_bounds-walk-end
slice_bounds-walk-end c = sym (length-take-le c.width-w.result _ (omega (arith, width_small (record { function = 0 }))))

pub walk-requires : goal.walk-requires
unfolding known
walk-requires c = record {
  known_function = tt;
  whole_value = length-take-le c.width-w.result _ (omega (arith, width_small (record { function = 0 }))) ∙ c.width-w.ensures;
}
