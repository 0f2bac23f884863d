-- `put_states` meets its contract. The invariant: what is left, with what is done, makes the whole.
use mathlib.Core.Path.{refl}
use native.Mathlib.Omega.{arith}
use Rattle.text_put.proofs.Pieces.{states_none, states_take, states_last}
use Rattle.text_put.proofs.Buffer.{remains_as, remains_all, remains_step, remains_none, puts_length}
use Rattle.text_put.proofs.put_states.Goals as goal

pub loop-s-init : goal.loop-s-init
loop-s-init c =
    (remains_as (remains_all _ _ _) (states_none _ _ _), c.requires.1, c.requires.0, refl, refl)

pub row_of-x-requires : goal.row_of-x-requires
row_of-x-requires c =
    omega (arith, c.loop-s.invariant, c.loop-s-test.true)

pub flag-f-requires : goal.flag-f-requires
flag-f-requires c =
    omega (arith, c.loop-s.invariant, c.loop-s-test.true)

pub loop-s-preserved : goal.loop-s-preserved
loop-s-preserved c = (
  remains_step _ _ c.loop-s.invariant.0
      (states_take _ _ _ c.args.h _ _ c.loop-s-test.true c.flag-f.ensures c.row_of-x.ensures.1)
      c.put_state-to.ensures,
  c.loop-s.invariant.1,
  c.loop-s.invariant.2,
  refl,
  refl,
)

pub shape_of-buffer : goal.shape_of-buffer
shape_of-buffer c = puts_length (remains_none (remains_as c.loop-s.invariant.0 (states_last _ _ _ _ c.loop-s-test.false)))

pub returns : goal.returns
returns c = (remains_none (remains_as c.loop-s.invariant.0 (states_last _ _ _ _ c.loop-s-test.false)))
