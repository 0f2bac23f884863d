-- `accept_kit` by its tests in order.
use mathlib.Core.Path.{◌∙◌, ap}
use Rattle.finite.proofs.Loops.{failed, passed}
use Rattle.game.specs.Acceptance.{acceptance}
use Rattle.kit_drives.proofs.Acceptance.{refused_1, refused_17, refused_18, kit_game, kit_small, kit_accepts}
use Rattle.kit_checks.proofs.accept_kit.Goals as goal

pub returns-then-not-modes_fit : goal.returns-then-not-modes_fit
returns-then-not-modes_fit c = kit_accepts _ (refused_1 _ (failed c.modes_fit.ensures c.if-not-modes_fit.true-raw))

pub returns-then-not-commands_fit : goal.returns-then-not-commands_fit
returns-then-not-commands_fit c =
    kit_accepts _ (refused_17 _ (passed c.modes_fit.ensures c.if-not-modes_fit.false-raw) (failed c.commands_fit.ensures c.if-not-commands_fit.true-raw))

pub returns-then-not-entries_fit : goal.returns-then-not-entries_fit
returns-then-not-entries_fit c =
    kit_accepts _
    (refused_18 _ (passed c.modes_fit.ensures c.if-not-modes_fit.false-raw) (passed c.commands_fit.ensures c.if-not-commands_fit.false-raw)
    (failed c.entries_fit.ensures c.if-not-entries_fit.true-raw))

pub game_of-requires : goal.game_of-requires
game_of-requires c =
    kit_small c.args.k (passed c.modes_fit.ensures c.if-not-modes_fit.false-raw) (passed c.commands_fit.ensures c.if-not-commands_fit.false-raw)

pub returns : goal.returns
returns c =
    kit_accepts _
    (c.accept.ensures.answer ∙ ap acceptance c.game_of.ensures
    ∙ kit_game _ (passed c.modes_fit.ensures c.if-not-modes_fit.false-raw) (passed c.commands_fit.ensures c.if-not-commands_fit.false-raw)
    (passed c.entries_fit.ensures c.if-not-entries_fit.false-raw))
