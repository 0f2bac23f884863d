-- `game_length` meets its contract.
use Prim.Native.Nat.{◌+◌, ◌≤◌}
use mathlib.Core.Path.{◌≡◌, refl}
use native.Mathlib.Omega.{arith}
use lib.ListN.{length}
use Rattle.text_shape.specs.Text.{plain, header_line, state_lines, requirement_lines}
use Rattle.text_put.proofs.Pieces.{game_length}
use Rattle.text_put.proofs.Bounds.{game_short}
use Rattle.text_put.proofs.measure.game_length.Goals as goal

pub overflow_add-lines : goal.overflow_add-lines
unfolding plain
overflow_add-lines c =
    let lines : (c.states_length.result ≡ length (state_lines 1 c.args.g.input.states 0 (plain c.args.g.input))) × (c.states_length-2.result ≡ length (state_lines 2 c.args.g.output.states 0 (plain c.args.g.output))) = (c.states_length.ensures (plain c.args.g.input) refl, c.states_length-2.ensures (plain c.args.g.output) refl) in
    let bound : length (header_line c.args.g.input.states c.args.g.output.states c.args.g.k) + (length (state_lines 1 c.args.g.input.states 0 (plain c.args.g.input)) + (length (state_lines 2 c.args.g.output.states 0 (plain c.args.g.output)) + length (requirement_lines c.args.g.k 0 c.args.g.requirements))) ≤ 170618 = omega (arith, game_length c.args.g, game_short c.args.g c.requires) in
    omega (arith, lines, bound)

pub overflow_add-result : goal.overflow_add-result
unfolding plain
overflow_add-result c =
    let lines : (c.states_length.result ≡ length (state_lines 1 c.args.g.input.states 0 (plain c.args.g.input))) × (c.states_length-2.result ≡ length (state_lines 2 c.args.g.output.states 0 (plain c.args.g.output))) = (c.states_length.ensures (plain c.args.g.input) refl, c.states_length-2.ensures (plain c.args.g.output) refl) in
    let bound : length (header_line c.args.g.input.states c.args.g.output.states c.args.g.k) + (length (state_lines 1 c.args.g.input.states 0 (plain c.args.g.input)) + (length (state_lines 2 c.args.g.output.states 0 (plain c.args.g.output)) + length (requirement_lines c.args.g.k 0 c.args.g.requirements))) ≤ 170618 = omega (arith, game_length c.args.g, game_short c.args.g c.requires) in
    omega (arith, lines, c.header_length.ensures, bound)

pub overflow_add-result-2 : goal.overflow_add-result-2
unfolding plain
overflow_add-result-2 c =
    let lines : (c.states_length.result ≡ length (state_lines 1 c.args.g.input.states 0 (plain c.args.g.input))) × (c.states_length-2.result ≡ length (state_lines 2 c.args.g.output.states 0 (plain c.args.g.output))) = (c.states_length.ensures (plain c.args.g.input) refl, c.states_length-2.ensures (plain c.args.g.output) refl) in
    let bound : length (header_line c.args.g.input.states c.args.g.output.states c.args.g.k) + (length (state_lines 1 c.args.g.input.states 0 (plain c.args.g.input)) + (length (state_lines 2 c.args.g.output.states 0 (plain c.args.g.output)) + length (requirement_lines c.args.g.k 0 c.args.g.requirements))) ≤ 170618 = omega (arith, game_length c.args.g, game_short c.args.g c.requires) in
    omega (arith, lines, c.header_length.ensures, c.requirements_length.ensures, bound)

pub returns : goal.returns
unfolding plain
returns c =
    let lines : (c.states_length.result ≡ length (state_lines 1 c.args.g.input.states 0 (plain c.args.g.input))) × (c.states_length-2.result ≡ length (state_lines 2 c.args.g.output.states 0 (plain c.args.g.output))) = (c.states_length.ensures (plain c.args.g.input) refl, c.states_length-2.ensures (plain c.args.g.output) refl) in
    omega (arith, lines, c.header_length.ensures, c.requirements_length.ensures, game_length c.args.g)
