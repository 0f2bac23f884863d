-- `none_row`: the won outputs.
use native.Mathlib.Omega.{arith}
use Rattle.theory.specs.Entries.{none_entry}
use Rattle.table_entries.proofs.Packed.{none_entry_lem}
use Rattle.environment_table.proofs.Laid.{laid_fits}
use Rattle.environment_table.proofs.Known.{shaped, none_entries, none_filled}
use Rattle.environment_plain.proofs.none_row.Goals as goal

pub won_outputs-won-requires : goal.won_outputs-won-requires
won_outputs-won-requires c =
    let p = c.requires in
    let h = shaped _ _ _ p.0 in
    (h.inputs, h.outputs, p.2, h.long)

pub below-requires : goal.below-requires
below-requires c = omega (arith, c.requires.1.few)

pub write-requires : goal.write-requires
write-requires c =
    let p = c.requires in
    let Z = c.layout_of-z.ensures in
    let entries = none_entries _ _ _ p.0 _ p.2 _ c.won_outputs-won.ensures _ _ none_entry _ Z c.below.ensures (omega arith) in
    (laid_fits _ _ _ _ p.1 Z, omega (arith, p.2, Z.states), entries)

pub returns : goal.returns
returns c =
    let p = c.requires in
    none_filled _ _ _ p.0 _ p.2 _ c.won_outputs-won.ensures _ _ _ _ _ none_entry_lem p.1 c.layout_of-z.ensures c.below.ensures
    c.write.ensures
