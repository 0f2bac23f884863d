-- `first_failing` goes through the tests in order.
use borrow.Author.Tests.{not-true, not-false}
use Rattle.game.proofs.Steps.{first_stop, first_next, first_none}
use mathlib.Core.Path.{refl}
use Rattle.acceptance.proofs.first_failing.Goals as goal

pub returns-then-not-counts : goal.returns-then-not-counts
returns-then-not-counts c = first_stop _ _ (not-true _ c.if-not-counts.true-raw)

pub returns-then-not-states : goal.returns-then-not-states
returns-then-not-states c =
    first_next _ _ _ (not-false _ c.if-not-counts.false-raw)
    (first_stop _ _ (not-true _ c.if-not-states.true-raw))

pub returns-then-not-initials : goal.returns-then-not-initials
returns-then-not-initials c =
    first_next _ _ _ (not-false _ c.if-not-counts.false-raw)
    (first_next _ _ _ (not-false _ c.if-not-states.false-raw)
    (first_stop _ _ (not-true _ c.if-not-initials.true-raw)))

pub returns-then-not-few : goal.returns-then-not-few
returns-then-not-few c =
    first_next _ _ _ (not-false _ c.if-not-counts.false-raw)
    (first_next _ _ _ (not-false _ c.if-not-states.false-raw)
    (first_next _ _ _ (not-false _ c.if-not-initials.false-raw)
    (first_stop _ _ (not-true _ c.if-not-few.true-raw))))

pub returns-then-not-lengths : goal.returns-then-not-lengths
returns-then-not-lengths c =
    first_next _ _ _ (not-false _ c.if-not-counts.false-raw)
    (first_next _ _ _ (not-false _ c.if-not-states.false-raw)
    (first_next _ _ _ (not-false _ c.if-not-initials.false-raw)
    (first_next _ _ _ (not-false _ c.if-not-few.false-raw)
    (first_stop _ _ (not-true _ c.if-not-lengths.true-raw)))))

pub returns-then-not-sets : goal.returns-then-not-sets
returns-then-not-sets c =
    first_next _ _ _ (not-false _ c.if-not-counts.false-raw)
    (first_next _ _ _ (not-false _ c.if-not-states.false-raw)
    (first_next _ _ _ (not-false _ c.if-not-initials.false-raw)
    (first_next _ _ _ (not-false _ c.if-not-few.false-raw)
    (first_next _ _ _ (not-false _ c.if-not-lengths.false-raw)
    (first_stop _ _ (not-true _ c.if-not-sets.true-raw))))))

pub returns : goal.returns
returns c =
    first_next _ _ _ (not-false _ c.if-not-counts.false-raw)
    (first_next _ _ _ (not-false _ c.if-not-states.false-raw)
    (first_next _ _ _ (not-false _ c.if-not-initials.false-raw)
    (first_next _ _ _ (not-false _ c.if-not-few.false-raw)
    (first_next _ _ _ (not-false _ c.if-not-lengths.false-raw)
    (first_next _ _ _ (not-false _ c.if-not-sets.false-raw)
    first_none)))))
