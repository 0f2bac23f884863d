-- `settle_position`.
use mathlib.Core.Path.{◌∙◌}
use Rattle.finite.proofs.Loops.{failed, passed}
use Rattle.joined_reach.proofs.Words.{belongs_has}
use Rattle.joined.proofs.Steps.{advanced_not}
use Rattle.joined.proofs.settle_position.Goals as goal

pub settle_component-requires : goal.settle_component-requires
settle_component-requires c =
    let p = c.requires in
    let unknown = belongs_has _ 96 _ _ _ p.3 ∙ failed c.member.ensures c.if-not-member.true-raw in
    (p.0, p.1, p.2, p.3, p.4, p.5, unknown, p.6, p.7)

pub returns-else-not-member : goal.returns-else-not-member
returns-else-not-member c =
    advanced_not _ _ _ _ _ c.requires.2 (belongs_has _ 96 _ _ _ c.requires.3 ∙ passed c.member.ensures c.if-not-member.false-raw)
