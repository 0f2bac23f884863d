-- `put_requirements` meets its contract. The invariant: what is left, with what is done, makes the whole.
use mathlib.Core.Path.{refl}
use native.Mathlib.Omega.{arith}
use Rattle.text_put.proofs.Pieces.{requirements_none, requirements_take, requirements_last, requirement_past}
use Rattle.text_put.proofs.Buffer.{remains_as, remains_all, remains_step, remains_none, puts_length}
use Rattle.text_put.proofs.put_requirements.Goals as goal

pub loop-r-init : goal.loop-r-init
loop-r-init c = (remains_as (remains_all _ _ _) (requirements_none _ _), c.requires, refl, c.requires.k)

pub offset_bounds-g-r : goal.offset_bounds-g-r
offset_bounds-g-r c = omega (arith, c.loop-r.invariant.3, c.loop-r-test.true)

pub bounds-g-r : goal.bounds-g-r
bounds-g-r c = omega (arith, c.loop-r.invariant.3, c.loop-r-test.true)

pub put_requirement-to-requires : goal.put_requirement-to-requires
put_requirement-to-requires c =
    c.loop-r.invariant.1.sets c.loop-r.r c.loop-r-test.true

pub loop-r-preserved : goal.loop-r-preserved
loop-r-preserved c = (
  remains_step _ _ c.loop-r.invariant.0 (requirements_take _ _ c.args.g.requirements _ c.loop-r-test.true
      (requirement_past c.args.g.requirements c.loop-r.r)) c.put_requirement-to.ensures,
  c.loop-r.invariant.1,
  refl,
  c.loop-r.invariant.3,
)

pub shape_of-buffer : goal.shape_of-buffer
shape_of-buffer c = puts_length (remains_none (remains_as c.loop-r.invariant.0 (requirements_last _ _ _ c.loop-r-test.false)))

pub returns : goal.returns
returns c = (remains_none (remains_as c.loop-r.invariant.0 (requirements_last _ _ _ c.loop-r-test.false)))
