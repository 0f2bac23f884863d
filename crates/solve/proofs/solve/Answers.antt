-- `solve` meets its contract: the print of the part that is handed over is the game's.
use native.Mathlib.Omega.{arith}
use mathlib.Core.Path.{sym}
use Rattle.solve.proofs.Printed.{part_short, prints_system, prints_environment, prints_refused}
use Rattle.solve.proofs.solve.Goals as goal

pub returns-then-refusal-ne0 : goal.returns-then-refusal-ne0
returns-then-refusal-ne0 c =
    prints_refused (omega arith) (sym c.empty_room-controller.ensures) (sym c.empty_room-panel.ensures) c.solve-table.ensures
    c.requires c.if-refusal-ne0.true c.put_refused.ensures

pub put_system-requires : goal.put_system-requires
put_system-requires c = (
  c.requires,
  part_short _ _ _ c.solve-table.ensures (omega (arith, c.empty_room-controller.ensures)) (omega (arith, c.empty_room-panel.ensures)),
)

pub returns-then-system_wins : goal.returns-then-system_wins
returns-then-system_wins c =
    prints_system (omega arith) (sym c.empty_room-controller.ensures) (sym c.empty_room-panel.ensures) c.solve-table.ensures
    c.requires c.if-refusal-ne0.false c.if-system_wins.true c.put_system.ensures

pub put_panel-requires : goal.put_panel-requires
put_panel-requires c = (
  c.requires,
  part_short _ _ _ c.solve-table.ensures (omega (arith, c.empty_room-controller.ensures)) (omega (arith, c.empty_room-panel.ensures)),
)

pub returns : goal.returns
returns c =
    prints_environment (omega arith) (sym c.empty_room-controller.ensures) (sym c.empty_room-panel.ensures) c.solve-table.ensures
    c.requires c.if-refusal-ne0.false c.if-system_wins.false c.put_panel.ensures
