-- `put_small` meets its contract.
use mathlib.Core.Path.{sym}
use native.Mathlib.Omega.{arith}
use Rattle.text_grammar.proofs.Number.{decimal_one, decimal_step}
use Rattle.text_put.proofs.Buffer.{puts_then, puts_as}
use Rattle.text_put.proofs.put_small.Goals as goal

pub returns-then-v-lt10 : goal.returns-then-v-lt10
returns-then-v-lt10 c =
    puts_as (sym (decimal_one _ c.if-v-lt10.true)) c.put_digit.ensures

pub returns : goal.returns
returns c =
    puts_as (sym (decimal_step _ (omega (arith, c.if-v-lt100.false)))) (puts_then c.put_pair-m.ensures c.put_digit-2.ensures)
