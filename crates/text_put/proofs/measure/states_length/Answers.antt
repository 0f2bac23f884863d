-- `states_length` goes through the states.
use Prim.Native.Nat.{ℕ, ◌≤◌}
use mathlib.Core.List.{List}
use mathlib.Core.Path.{sym, ◌∙◌, ap}
use native.Mathlib.Omega.{arith}
use lib.ListN.{get_or}
use Rattle.text_put.proofs.Lengths.{states_all, states_next, states_end}
use Rattle.text_put.proofs.Bounds.{state_few}
use Rattle.text_put.proofs.measure.states_length.Goals as goal

pub loop-s-init : goal.loop-s-init
loop-s-init c = (omega arith, c.requires.1, c.requires.0, omega arith, λ h e. states_all _ _ h)

pub row_of-requires : goal.row_of-requires
row_of-requires c = omega (arith, c.loop-s.invariant.1, c.loop-s-test.true)

pub state_length-to-requires : goal.state_length-to-requires
state_length-to-requires c =
    (c.loop-s.invariant.2, omega (arith, c.loop-s.invariant.1, c.loop-s-test.true))

pub overflow_add-to : goal.overflow_add-to
overflow_add-to c =
    let short : c.state_length-to.result ≤ 537 = state_few _ _ _ c.state_length-to.ensures (omega (arith, c.loop-s.invariant.1, c.loop-s-test.true)) in
    omega (arith, c.loop-s.invariant.3, c.loop-s.invariant.1, c.loop-s-test.true, short)

pub loop-s-preserved : goal.loop-s-preserved
loop-s-preserved c =
    let short : c.state_length-to.result ≤ 537 = state_few _ _ _ c.state_length-to.ensures (omega (arith, c.loop-s.invariant.1, c.loop-s-test.true)) in
    let v = c.loop-s.invariant in (
      omega (arith, c.loop-s-test.true),
      v.1,
      v.2,
      omega (arith, v.3, short),
      λ h e. omega (
        arith,
        v.4 h e,
        states_next _ _ _ h _ _ c.loop-s-test.true (c.row_of.ensures.1 ∙ ap (λ (l : List ℕ). get_or l c.loop-s.s 0) (sym e))
            c.state_length-to.ensures,
      ),
    )

pub returns : goal.returns
returns c =
    λ h e. omega (arith, c.loop-s.invariant.4 h e, states_end c.args.w c.args.n c.loop-s.s h c.loop-s-test.false)
