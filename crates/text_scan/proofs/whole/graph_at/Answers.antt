-- `graph_at` meets its contract. The invariant: what is left, with what is done, makes the whole.
use mathlib.Core.Path.{refl, sym, ◌∙◌, ap}
use native.Mathlib.Omega.{arith}
use lib.ListN.{replicate}
use Rattle.sets.specs.Words.{capacity, sets_in, words_of}
use Rattle.sets.proofs.Rows.{set_is, words_none, sets_words, rows_put}
use Rattle.text_pieces.proofs.Outcomes.{found_fault, fault_found, handed_on}
use Rattle.text_scan.proofs.WholeSteps.{moves_state, graph_got, states_begin, states_fault, states_turn, states_end}
use Rattle.text_scan.proofs.whole.graph_at.Goals as goal

pub loop-t-init : goal.loop-t-init
loop-t-init c =
    let none = ap sets_in words_none ∙ sets_words (replicate capacity 0) in (
      states_begin _ _ _ _ _ _ c.empty-initial.ensures.1 none,
      c.requires.1,
      c.requires.0,
      set_is _ (omega (arith, c.empty-initial.type_inv)),
      ap words_of none ∙ sym words_none,
      refl,
    )

pub returns-in_err-q : goal.returns-in_err-q
returns-in_err-q c =
    handed_on c.from_residual.ensures.1
    (found_fault _ (states_fault _ _ _ _ _ _ _ _ c.loop-t.invariant.0 c.loop-t-test.true _ (fault_found _ _ c.in_err-q.ensures)))

pub loop-t-preserved : goal.loop-t-preserved
loop-t-preserved c =
    let put = c.put_of.ensures in
    let rows = rows_put _ _ _ _ c.loop-t.invariant.4 put.0 in (
      states_turn _ _ _ _ _ _ _ _ c.loop-t.invariant.0 c.loop-t-test.true _ _ _ _ _
          (moves_state _ c.in_ok-q.ensures) c.marked-initial.ensures.0 rows.0,
      c.loop-t.invariant.1,
      c.loop-t.invariant.2,
      c.marked-initial.ensures.1,
      rows.1,
      put.1 ∙ c.loop-t.invariant.5,
    )

pub returns : goal.returns
returns c =
    graph_got c.loop-t.invariant.3 c.loop-t.invariant.4 (states_end _ _ _ _ _ _ _ _ c.loop-t.invariant.0 c.loop-t-test.false)
