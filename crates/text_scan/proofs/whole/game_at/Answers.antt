-- `game_at` meets its contract.
use mathlib.Core.Path.{sym, ◌∙◌, ap}
use native.Mathlib.Omega.{arith}
use Rattle.text_scan.specs.Scan.{game_of}
use Rattle.text_pieces.proofs.Outcomes.{found_fault, fault_found, handed_on}
use Rattle.text_scan.proofs.WholeSteps.{got_graph, counts_header, header_range, game_no_header, game_no_input, game_on_lem}
use Rattle.text_scan.proofs.whole.game_at.Goals as goal

pub returns-in_err-h : goal.returns-in_err-h
returns-in_err-h c = handed_on c.from_residual.ensures.1 (found_fault _ (game_no_header _ _ _ (fault_found _ _ c.in_err-h.ensures)))

pub graph_at-requires : goal.graph_at-requires
graph_at-requires c = (omega arith, (header_range _ _ _ _ _ _ (counts_header _ c.in_ok-h.ensures)).0)

pub returns-in_err-a : goal.returns-in_err-a
returns-in_err-a c =
    handed_on c.from_residual-in_err-a.ensures.1
    (found_fault _ (game_no_input _ _ _ _ _ _ (counts_header _ c.in_ok-h.ensures) _ (fault_found _ _ c.in_err-a.ensures)))

pub outputs_at-requires : goal.outputs_at-requires
outputs_at-requires c = let range = header_range _ _ _ _ _ _ (counts_header _ c.in_ok-h.ensures) in (range.1, range.2)

pub returns : goal.returns
returns c =
    let read = got_graph _ c.in_ok-a.ensures in
    c.outputs_at.ensures ∙ sym (ap game_of (game_on_lem _ _ _ _ _ _ (counts_header _ c.in_ok-h.ensures) _ _ _ read.0 read.1))
