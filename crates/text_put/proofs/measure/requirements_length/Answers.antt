-- `requirements_length` goes through the requirements.
use Prim.Native.Nat.{◌≤◌}
use mathlib.Core.Path.{refl}
use native.Mathlib.Omega.{arith}
use Rattle.game.specs.Access.{requirement_at}
use Rattle.text_put.specs.Put.{Few}
use Rattle.text_put.proofs.Lengths.{requirements_all, requirements_next, requirements_end}
use Rattle.text_put.proofs.Bounds.{requirement_few}
use Rattle.text_put.proofs.measure.requirements_length.Goals as goal

pub loop-r-init : goal.loop-r-init
loop-r-init c = (omega arith, c.requires.k, refl, c.requires, omega arith, requirements_all _ _)

pub offset_bounds-g-r : goal.offset_bounds-g-r
offset_bounds-g-r c = omega (arith, c.loop-r.invariant.1, c.loop-r-test.true)

pub bounds-g-r : goal.bounds-g-r
bounds-g-r c = omega (arith, c.loop-r.invariant.1, c.loop-r-test.true)

pub requirement_length-to-requires : goal.requirement_length-to-requires
requirement_length-to-requires c =
    let few : Few (requirement_at c.args.g c.loop-r.r) = c.loop-r.invariant.3.sets c.loop-r.r c.loop-r-test.true in
    few

pub overflow_add-to : goal.overflow_add-to
overflow_add-to c =
    let few : Few (requirement_at c.args.g c.loop-r.r) = c.loop-r.invariant.3.sets c.loop-r.r c.loop-r-test.true in
    let short : c.requirement_length-to.result ≤ 4140 = requirement_few _ c.requirement_length-to.ensures (few) in
    omega (arith, c.loop-r.invariant.4, c.loop-r.invariant.1, c.loop-r-test.true, short)

pub loop-r-preserved : goal.loop-r-preserved
loop-r-preserved c =
    let few : Few (requirement_at c.args.g c.loop-r.r) = c.loop-r.invariant.3.sets c.loop-r.r c.loop-r-test.true in
    let short : c.requirement_length-to.result ≤ 4140 = requirement_few _ c.requirement_length-to.ensures (few) in
    let v = c.loop-r.invariant in (
      omega (arith, c.loop-r-test.true),
      v.1,
      v.2,
      v.3,
      omega (arith, v.4, short),
      omega (
        arith,
        v.5,
        requirements_next _ c.loop-r.r c.args.g.requirements _ c.loop-r-test.true c.requirement_length-to.ensures,
      ),
    )

pub returns : goal.returns
returns c =
    omega (arith, c.loop-r.invariant.5, requirements_end _ c.loop-r.r c.args.g.requirements c.loop-r-test.false)
