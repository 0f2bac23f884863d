-- `position_entry` meets its contract.
use mathlib.Core.Path.{◌∙◌, ap}
use Rattle.explain_all.specs.Entry.{told_entry, ground_entry}
use Rattle.explain_all.proofs.Entries.{name_small}
use Rattle.explain_all.proofs.position_entry.Goals as goal

pub entry-requires : goal.entry-requires
entry-requires c =
    let A = c.requires in
    rw c.find.ensures (name_small _ A.ready.fits _ _ A.input A.output)

pub returns : goal.returns
unfolding ground_entry
returns c = c.entry.ensures ∙ ap told_entry c.find.ensures
