-- `grow`.
use native.Mathlib.Nat.{zero-add}
use Rattle.joined_reach.proofs.Rows.{grown_still, grown_more}
use borrow.Author.Rules.{rules}
use Rattle.joined_reach.proofs.grow.Goals as goal

pub returns-then-is_subset : goal.returns-then-is_subset
returns-then-is_subset c = grown_still _ _ _ _ (search rules) (simp zero-add at c.is_subset.ensures) c.if-is_subset.true

pub returns : goal.returns
returns c =
    rw zero-add
    (grown_more _ _ _ _ _ _ (search rules) (simp zero-add at c.is_subset.ensures) c.if-is_subset.false
    (simp zero-add at c.union.ensures) c.insert.ensures)
