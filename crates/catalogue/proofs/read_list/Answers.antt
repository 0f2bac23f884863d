-- `read_list` meets its contract.
use borrow.Author.Rules.{rules}
use mathlib.Core.Path.{refl}
use Rattle.catalogue.proofs.Names.{input_nothing, input_more}
use Rattle.catalogue.proofs.read_list.Goals as goal

pub loop-turns-init : goal.loop-turns-init
loop-turns-init c = (refl, input_nothing _ c.nothing_kept-kept.ensures)

pub loop-turns-preserved : goal.loop-turns-preserved
loop-turns-preserved c =
    (search rules, input_more c.loop-turns.invariant.1 c.keep_some-t.ensures)

pub returns-after-loop-turns : goal.returns-after-loop-turns
returns-after-loop-turns c = c.loop-turns.invariant.1

pub returns-then-not-t : goal.returns-then-not-t
returns-then-not-t c =
    input_more c.loop-turns.invariant.1 c.keep_some-t.ensures
