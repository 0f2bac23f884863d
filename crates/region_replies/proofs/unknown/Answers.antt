-- `unknown` by its tests.
use mathlib.Core.Path.{sym, ◌∙◌, ap}
use borrow.Author.Tests.{eqb-true}
use Rattle.finite.proofs.Truth.{clash}
use Prim.Native.Nat.{ℕ}
use Rattle.bits.specs.Member.{has}
use Rattle.bits.proofs.Membership.{has_zero_lem}
use Rattle.sets.proofs.Rows.{some}
use Rattle.region_replies.proofs.Answers.{known_all, known_same}
use Rattle.region_replies.proofs.unknown.Goals as goal

pub returns-then-is_empty : goal.returns-then-is_empty
returns-then-is_empty c = (λ o h. h, λ rows H. known_all rows _ _)

pub returns-then-same : goal.returns-then-same
returns-then-same c =
    let ne = some _ c.is_empty.ensures c.if-is_empty.false in
    let same = eqb-true _ _ (sym c.same.ensures ∙ c.if-same.true) in
    (λ o h. clash h (ap (λ (v : ℕ). has v o) c.empty.ensures.1 ∙ has_zero_lem o), λ rows H. known_same rows _ _ _ _ H ne same)

pub returns : goal.returns
returns c = (λ o h. h, λ rows H. known_all rows _ _)
