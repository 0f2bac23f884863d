-- `start_entry` is the lowest input that is refused, or none.
use native.Mathlib.Omega.{arith}
use mathlib.Core.Path.{◌∙◌}
use Rattle.table_entries.proofs.Packed.{none_entry_lem}
use Rattle.environment_table.proofs.Reading.{refused_within, unanswered_both}
use Rattle.environment_table.proofs.Known.{shaped, initial_within, start_found, start_none, unanswered_of}
use Rattle.environment_plain.proofs.start_entry.Goals as goal

pub refused-x-requires : goal.refused-x-requires
refused-x-requires c = let p = c.requires in (shaped _ _ _ p, initial_within _ _ _ p c.out_initial.ensures)

pub unanswered-j-requires : goal.unanswered-j-requires
unanswered-j-requires c =
    ((shaped _ _ _ c.requires).inputs, refused_within _ _ c.refused-x.ensures)

pub pack-requires : goal.pack-requires
pack-requires c =
    omega (arith, c.if-j-n.true, (shaped _ _ _ c.requires).inputs)

pub returns-then-j-n : goal.returns-then-j-n
returns-then-j-n c =
    c.pack.ensures
    ∙ start_found _ _ _ c.requires _ (unanswered_of _ _ _ _ c.in_initial.ensures c.out_initial.ensures
    (c.unanswered-j.ensures ∙ unanswered_both _ _ _ _ _ _ c.refused-x.ensures)) c.if-j-n.true

pub returns : goal.returns
returns c =
    none_entry_lem
    ∙ start_none _ _ _ c.requires _ (unanswered_of _ _ _ _ c.in_initial.ensures c.out_initial.ensures
    (c.unanswered-j.ensures ∙ unanswered_both _ _ _ _ _ _ c.refused-x.ensures)) c.if-j-n.false
