-- `is_due`.
use Prim.Native.Nat.{◌≤◌}
use lib.ListN.{get_or}
use native.Mathlib.Omega.{arith}
use Rattle.game.specs.Access.{no_requirement}
use Rattle.finite.proofs.Loops.{all_start, all_turn, all_stop, all_end, failed, passed}
use Rattle.sets.specs.Words.{bits_of}
use Rattle.joined_component.specs.Component.{due_at, due_on}
use Rattle.joined_component.proofs.is_due.Goals as goal

pub loop-j-init : goal.loop-j-init
loop-j-init c = (omega arith, all_start _)

pub offset_bounds-q-j : goal.offset_bounds-q-j
offset_bounds-q-j c =
    let few : (get_or c.args.g.requirements c.args.r no_requirement).assumed ≤ 4 = (c.requires.0.fits.requirement c.args.r (omega (arith, c.requires.0.fits.few))).few_assumed in
    omega (arith, few)

pub bounds-q-j : goal.bounds-q-j
bounds-q-j c =
    let few : (get_or c.args.g.requirements c.args.r no_requirement).assumed ≤ 4 = (c.requires.0.fits.requirement c.args.r (omega (arith, c.requires.0.fits.few))).few_assumed in
    omega (arith, few)

pub returns-then-not-meets : goal.returns-then-not-meets
unfolding due_on due_at
returns-then-not-meets c =
    let a = c.args in
    all_stop _ c.loop-j.j (due_at (get_or a.g.requirements a.r no_requirement) (bits_of a.x.0)) (omega arith) (failed c.meets.ensures
    c.if-not-meets.true-raw)

pub loop-j-preserved : goal.loop-j-preserved
unfolding due_at
loop-j-preserved c =
    let a = c.args in (
      omega arith,
      all_turn c.loop-j.j (due_at (get_or a.g.requirements a.r no_requirement) (bits_of a.x.0)) c.loop-j.invariant.1 (passed
          c.meets.ensures c.if-not-meets.false-raw),
    )

pub returns : goal.returns
unfolding due_on
returns c = all_end _ c.loop-j.j _ (omega arith) (omega arith) c.loop-j.invariant.1
