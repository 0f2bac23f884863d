-- `put_assumptions` meets its contract. The invariant: what is left, with what is done, makes the whole.
use Rattle.text_put.proofs.Pieces.{in_word, sets_begin, sets_next, sets_end}
use Rattle.text_put.proofs.put_assumptions.Goals as goal

pub loop-j-init : goal.loop-j-init
loop-j-init c = sets_begin

pub loop-j-preserved : goal.loop-j-preserved
loop-j-preserved c =
    let sets = c.args.q.assumptions in
    sets_next c.loop-j.invariant _ c.loop-j-test.true (in_word sets c.loop-j.j) c.put_item-to.ensures

pub returns : goal.returns
returns c =
    sets_end c.loop-j.invariant c.put_byte-to.ensures c.loop-j-test.false c.put_byte.ensures
