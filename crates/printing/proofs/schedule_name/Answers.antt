-- `printing::schedule_name` meets its contract: what is not 0, 1 or 2 is optimal. Assumes nothing.
use mathlib.Core.Path.{refl}
use native.Mathlib.Omega.{arith}
use Rattle.printing.specs.Names.{bytes, name_of}
use Rattle.printing.proofs.NameLaws.{last_name}
use Rattle.printing.proofs.schedule_name.Goals as goal

pub returns-in-0 : goal.returns-in-0
unfolding bytes name_of
returns-in-0 c = rw c.in-0.is refl

pub returns-in-1 : goal.returns-in-1
unfolding bytes name_of
returns-in-1 c = rw c.in-1.is refl

pub returns-in-2 : goal.returns-in-2
unfolding bytes name_of
returns-in-2 c = rw c.in-2.is refl

pub returns-in_default : goal.returns-in_default
unfolding bytes
returns-in_default c = last_name _ (λ e. omega arith) (λ e. omega arith) (λ e. omega arith)
