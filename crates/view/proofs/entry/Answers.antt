-- `entry` reads inside the slice, and is none past it.
use mathlib.Core.Path.{sym}
use lib.ListN.{get_or-eq_default}
use Rattle.finite.proofs.Lists.{any_default}
use Rattle.theory.specs.Entries.{none_entry}
use Rattle.view.proofs.entry.Goals as goal

pub returns-then-k-rows : goal.returns-then-k-rows
returns-then-k-rows c = any_default c.args.rows.now c.args.k 0 none_entry c.if-k-rows.true

pub returns : goal.returns
returns c = sym (get_or-eq_default c.args.rows.now none_entry c.if-k-rows.false)
