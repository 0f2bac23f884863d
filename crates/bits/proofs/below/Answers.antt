-- `below`: both widths of the shift are the set of the states below n.
use Rattle.std.proofs.Common.{◌∙◌, sym, ap, arith}
use lib.Dec.{ltb}
use Rattle.bits.proofs.Membership.{has_below, has_below_word, shl_one_pos}
use Rattle.bits.proofs.below.Goals as goal

pub returns-then-n-eq64 : goal.returns-then-n-eq64
returns-then-n-eq64 c s = has_below 64 s ∙ ap (ltb s) (sym c.if-n-eq64.true)

pub overflow_sub-result : goal.overflow_sub-result
overflow_sub-result c = shl_one_pos 64 c.args.n (omega arith)

pub returns : goal.returns
returns c s = has_below_word 64 c.args.n s (omega arith)
