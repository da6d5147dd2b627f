-- `listing::asks` meets its contract: a line that asks has ten bytes at most. Assumes nothing.
use mathlib.Core.Path.{refl, sym, ap, ◌∙◌}
use mathlib.Core.List.{List}
use Prim.Native.Nat.{ℕ}
use native.Mathlib.Omega.{arith}
use Rattle.std.proofs.Common.{rules}
use lib.Seq.{length-take-le}
use Rattle.listing.specs.Listing.{reads}
use Rattle.listing.specs.Lines.{asked_short}
use Rattle.listing.proofs.PageLaws.{page_within, page_taken}
use Rattle.listing.proofs.asks.Goals as goal

pub put_asked-requires : goal.put_asked-requires
put_asked-requires c = omega (arith, asked_short c.args.schedule c.args.k c.requires.1)

pub slice_bounds-line-end : goal.slice_bounds-line-end
slice_bounds-line-end c =
    page_within _ _ c.put_asked.new.page c.put_asked.ensures _ (search rules) (omega (arith, asked_short c.args.schedule c.args.k c.requires.1))

pub slice_bounds-reads-end : goal.slice_bounds-reads-end
slice_bounds-reads-end c =
    sym (length-take-le _ _ (page_within _ _ c.put_asked.new.page c.put_asked.ensures _ (search rules) (omega (arith, asked_short c.args.schedule c.args.k c.requires.1))))

pub returns : goal.returns
returns c =
    c.reads.ensures
    ∙ ap (λ (l : List ℕ). reads l c.args.input.now) (page_taken _ _ c.put_asked.new.page c.put_asked.ensures _ (search rules) (omega (arith, asked_short c.args.schedule c.args.k c.requires.1)) refl)
