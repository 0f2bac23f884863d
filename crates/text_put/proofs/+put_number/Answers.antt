-- `put_number` meets its contract.
use mathlib.Core.Path.{sym}
use native.Mathlib.Omega.{arith}
use Rattle.text_grammar.proofs.Number.{decimal_step}
use Rattle.text_put.proofs.Buffer.{puts_then, puts_as}
use Rattle.text_put.proofs.+put_number.Goals as goal

pub returns : goal.returns
returns t c =
    puts_as (sym (decimal_step _ (omega (arith, c.if-v-lt1000.false)))) (puts_then c.put_number-m.ensures c.put_digit.ensures)
