-- `name_firsts` names each input that is the smallest of its component for the inputs of that component.
use Prim.Native.Nat.{◌<◌}
use mathlib.Core.Path.{refl, sym, ◌∙◌}
use native.Mathlib.Omega.{arith}
use Rattle.game.proofs.Laws.{accepted_fits}
use Rattle.graph_ranks.proofs.Walk.{moves_narrow}
use Rattle.compact_checks.proofs.Game.{firsts_none, firsts_leader, firsts_other, firsts_end}
use Rattle.compact_checks.proofs.name_firsts.Goals as goal
use Rattle.compact_checks.proofs.name_firsts.Goals.{then-member, else-member}

pub crossings-places-requires : goal.crossings-places-requires
crossings-places-requires c = c.requires.0

pub loop-j-init : goal.loop-j-init
loop-j-init c =
    (omega arith, refl, firsts_none _ _ _ c.requires.3 _ c.requires.4)

pub member-requires : goal.member-requires
member-requires c =
    omega (arith, c.loop-j-test.true, c.loop-j.invariant.1, (accepted_fits _ c.requires.0).input.most)

pub component-c-requires : goal.component-c-requires
component-c-requires c =
    (moves_narrow _ c.requires.0, (accepted_fits _ c.requires.0).input.most, omega (arith, c.loop-j-test.true, c.loop-j.invariant.1), c.crossings-places.ensures)

pub overflow_cast-j : goal.overflow_cast-j
overflow_cast-j c =
    omega (arith, c.loop-j-test.true, c.loop-j.invariant.1, (accepted_fits _ c.requires.0).input.most)

pub mark-requires : goal.mark-requires
mark-requires c =
    (c.requires.2, omega (arith, c.requires.3, (accepted_fits _ c.requires.0).input.most), c.loop-j.invariant.2.long)

pub loop-j-smaller : goal.loop-j-smaller
loop-j-smaller c = omega (arith, c.loop-j-test.true)

pub loop-j-preserved : goal.loop-j-preserved
loop-j-preserved c =
    let l = c.loop-j in
    let b = c.loop-j-test.true in
    let k : l.j < c.args.g.input.states = omega (arith, b, l.invariant.1) in (
      omega (arith, b),
      l.invariant.1,
      elim c.if-member.branch [
        | then-member w ↦ rw w.firsts-is (firsts_leader _ _ _ c.requires.3 l.j k c.requires.1 (sym c.member.ensures ∙ w.if-member.true)
            (w.component-c.ensures c.args.g c.requires.0 refl refl) l.invariant.2 w.mark.ensures)
        | else-member w ↦ rw w.firsts-is (firsts_other _ _ _ c.requires.3 l.j k c.requires.1 (sym c.member.ensures ∙ w.if-member.false) l.invariant.2)
      ],
    )

pub returns : goal.returns
returns c =
    let l = c.loop-j in
    firsts_end _ _ _ c.requires.3 l.j (omega (arith, c.loop-j-test.false, l.invariant.1)) l.invariant.2
