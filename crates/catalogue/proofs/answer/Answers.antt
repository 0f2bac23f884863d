-- `answer` meets its contract.
use Rattle.catalogue.proofs.Names.{prints_many, prints_figures}
use Rattle.catalogue.proofs.answer.Goals as goal

pub returns-then-count_names-gt1000 : goal.returns-then-count_names-gt1000
returns-then-count_names-gt1000 c =
    prints_many c.requires c.count_names.ensures c.if-count_names-gt1000.true
    (rw c.from.ensures at c.put_refused.ensures)

pub returns : goal.returns
returns c =
    prints_figures c.requires c.count_names.ensures c.if-count_names-gt1000.false
    c.tally_names-t.ensures c.put_figures.ensures
