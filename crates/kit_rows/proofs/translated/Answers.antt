-- `translated`: none stays none, else the command takes the mode's place.
use native.Mathlib.Omega.{arith}
use Rattle.kit_rows.proofs.Search.{lowest_small, translated_none, translated_some}
use Rattle.kit_rows.proofs.translated.Goals as goal

pub returns-then-e-eq-NONE : goal.returns-then-e-eq-NONE
returns-then-e-eq-NONE c = translated_none _ _ c.if-e-eq-NONE.true

pub overflow_mul-result : goal.overflow_mul-result
overflow_mul-result c = omega (arith, c.counter.ensures)

pub overflow_add-result : goal.overflow_add-result
overflow_add-result c = omega (arith, c.counter.ensures, lowest_small _ _ _ _ c.lowest_command-u.ensures)

pub overflow_cast-result : goal.overflow_cast-result
overflow_cast-result c = omega (arith, c.counter.ensures, lowest_small _ _ _ _ c.lowest_command-u.ensures)

pub returns : goal.returns
returns c =
    translated_some _ _ _ _ c.if-e-eq-NONE.false c.state.ensures c.lowest_command-u.ensures c.counter.ensures
