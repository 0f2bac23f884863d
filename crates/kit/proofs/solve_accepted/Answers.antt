-- `solve_accepted` tests the rooms.
use native.Mathlib.Omega.{arith}
use Rattle.game.proofs.Laws.{accepted_fits}
use Rattle.kit.proofs.Answers.{kit_scratch_short, kit_controller_short, kit_room_short}
use Rattle.kit.proofs.Lengths.{both_small}
use Rattle.kit.proofs.Handing.{game_accepted, words_of, length_of_lem, counters_of}
use Rattle.kit.proofs.solve_accepted.Goals as goal

pub game_of-g-requires : goal.game_of-g-requires
game_of-g-requires c = both_small _ c.requires

pub length-requires : goal.length-requires
length-requires c =
    let F = accepted_fits _ (game_accepted _ _ c.requires c.game_of-g.ensures) in
    (F.input.most, F.output.most)

pub returns-then-scratch-length : goal.returns-then-scratch-length
returns-then-scratch-length c =
    kit_scratch_short _ _ _ _ _ c.requires
    (omega (arith, words_of _ _ _ c.game_of-g.ensures c.length.ensures, c.if-scratch-length.true))

pub controller_length-requires : goal.controller_length-requires
controller_length-requires c =
    game_accepted _ _ c.requires c.game_of-g.ensures

pub returns-then-controller-controller_length : goal.returns-then-controller-controller_length
returns-then-controller-controller_length c =
    kit_controller_short _ _ _ _ _ c.requires
    (omega (arith, words_of _ _ _ c.game_of-g.ensures c.length.ensures, c.if-scratch-length.false))
    (omega (arith, c.if-controller-controller_length.true, length_of_lem _ _ _ c.game_of-g.ensures c.controller_length.ensures))

pub controller_counters-requires : goal.controller_counters-requires
controller_counters-requires c =
    game_accepted _ _ c.requires c.game_of-g.ensures

pub table_length-t-requires : goal.table_length-t-requires
table_length-t-requires c =
    (c.requires, counters_of _ _ _ c.game_of-g.ensures c.controller_counters.ensures)

pub returns-then-room-t : goal.returns-then-room-t
returns-then-room-t c =
    kit_room_short _ _ _ _ _ c.requires
    (omega (arith, words_of _ _ _ c.game_of-g.ensures c.length.ensures, c.if-scratch-length.false))
    (omega (arith, c.if-controller-controller_length.false, length_of_lem _ _ _ c.game_of-g.ensures c.controller_length.ensures))
    (omega (arith, c.if-room-t.true, c.table_length-t.ensures))

pub solve_fitting-requires : goal.solve_fitting-requires
solve_fitting-requires c =
    record {
      accepted = c.requires;
      game = c.game_of-g.ensures;
      table = c.table_length-t.ensures;
      scratch = omega (arith, words_of _ _ _ c.game_of-g.ensures c.length.ensures, c.if-scratch-length.false);
      controller = omega (arith, c.if-controller-controller_length.false, length_of_lem _ _ _ c.game_of-g.ensures c.controller_length.ensures);
      room = omega (arith, c.if-room-t.false, c.table_length-t.ensures);
    }

pub returns : goal.returns
returns c =
    c.solve_fitting.ensures
