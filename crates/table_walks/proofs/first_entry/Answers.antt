-- `first_entry` by its test.
use mathlib.Core.Path.{sym, ◌∙◌}
use Rattle.table_walks.proofs.Stamping.{first_hit, first_miss}
use Rattle.table_walks.proofs.first_entry.Goals as goal

pub returns-then-member : goal.returns-then-member
returns-then-member c = c.pack.ensures ∙ first_hit _ _ (sym c.member.ensures ∙ c.if-member.true)

pub returns : goal.returns
returns c = c.pack-2.ensures ∙ first_miss _ _ (sym c.member.ensures ∙ c.if-member.false)
