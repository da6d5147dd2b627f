-- `card::rebuild` meets its contract: the position list makes the tests of k, schedule and round, and gives the positions that are held.
-- Assumes nothing.
use Rattle.std.proofs.Common.{refl, sym, ◌∙◌}
use Rattle.std.proofs.lemmas.Result.{err_from_is_err_and}
use lib.Seq.{length-take-le}
use Rattle.card.proofs.StartLaws.{rebuilt_refused, list_within, rebuilt_numbered, rebuilt_begins, rebuilt_begun}
use Rattle.card.proofs.rebuild.Goals as goal

pub slice_bounds-held-end : goal.slice_bounds-held-end
slice_bounds-held-end c =
    list_within c.args.function _ _ _ (sym c.known.ensures ∙ c.if-not-known.false) _ refl _ _ _ c.in_ok-listed.ensures

pub slice_bounds-begin-end : goal.slice_bounds-begin-end
slice_bounds-begin-end c =
    sym (length-take-le _ _ (list_within c.args.function _ _ _ (sym c.known.ensures ∙ c.if-not-known.false) _ refl _ _ _ c.in_ok-listed.ensures))

pub invariant_of-begin : goal.invariant_of-begin
invariant_of-begin c =
    record { numbered = rebuilt_numbered _ _ _ _ (sym c.known.ensures ∙ c.if-not-known.false) _ refl _ _ _ c.in_ok-listed.ensures }

pub begin-requires : goal.begin-requires
begin-requires c =
    rebuilt_begins _ _ _ _ (sym c.known.ensures ∙ c.if-not-known.false) _ refl _ _ _ c.in_ok-listed.ensures _

pub returns-in_err-listed : goal.returns-in_err-listed
returns-in_err-listed c =
    let p = err_from_is_err_and c.from_residual.result c.from_residual.ensures.1 in
    rw (p.1, p.2)
    (rebuilt_refused _ _ _ _ (sym c.known.ensures ∙ c.if-not-known.false) _ refl _ _ _ _ c.in_err-listed.ensures)

pub returns : goal.returns
returns c =
    rebuilt_begun _ _ _ _ (sym c.known.ensures ∙ c.if-not-known.false) _ refl _ _ _ c.in_ok-listed.ensures _ _ _ _ c.begin.ensures
