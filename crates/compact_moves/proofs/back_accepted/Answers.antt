-- `back_accepted`: 23, 22, 9.
use mathlib.Core.Path.{◌∙◌, sym}
use native.Mathlib.Omega.{arith}
use native.Mathlib.Nat.{le_of_eq}
use Rattle.finite.proofs.Loops.{failed, passed}
use Rattle.compact_moves.proofs.Answers.{back_length, back_ranks, back_room_lem, back_made}
use Rattle.compact_moves.proofs.Written.{controller_long, ranks_in}
use Rattle.compact_moves.proofs.back_accepted.Goals as goal

pub returns-then-table-compact_length : goal.returns-then-table-compact_length
returns-then-table-compact_length c =
    back_length _ _ c.requires _ (λ e. c.if-table-compact_length.true (e ∙ sym c.compact_length.ensures))

pub ranks_fit-requires : goal.ranks_fit-requires
ranks_fit-requires c =
    (c.requires, ranks_in _ _ (le_of_eq (sym (c.if-table-compact_length.false ∙ c.compact_length.ensures))))

pub returns-then-not-ranks_fit : goal.returns-then-not-ranks_fit
returns-then-not-ranks_fit c =
    back_ranks _ _ c.requires _ (c.if-table-compact_length.false ∙ c.compact_length.ensures) (failed c.ranks_fit.ensures c.if-not-ranks_fit.true-raw)

pub returns-then-room-n : goal.returns-then-room-n
returns-then-room-n c =
    back_room_lem _ _ c.requires _ (c.if-table-compact_length.false ∙ c.compact_length.ensures) (passed c.ranks_fit.ensures c.if-not-ranks_fit.false-raw)
    (omega (arith, c.if-room-n.true, controller_long _ c.controller_length-n.ensures))

pub write_full-requires : goal.write_full-requires
write_full-requires c = (
  c.requires,
  c.component_count-components.ensures,
  c.if-table-compact_length.false ∙ c.compact_length.ensures,
  passed c.ranks_fit.ensures c.if-not-ranks_fit.false-raw,
  omega (arith, c.if-room-n.false, controller_long _ c.controller_length-n.ensures),
)

pub returns : goal.returns
returns c =
    back_made _ _ c.requires _ (c.if-table-compact_length.false ∙ c.compact_length.ensures) (passed c.ranks_fit.ensures c.if-not-ranks_fit.false-raw) _
    (controller_long _ c.controller_length-n.ensures) (omega (arith, c.if-room-n.false, controller_long _ c.controller_length-n.ensures))
    c.write_full.ensures
