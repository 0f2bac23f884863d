-- `spared`, by its test.
use mathlib.Core.Path.{sym, ◌∙◌}
use Rattle.sets.specs.Words.{bits_of}
use Rattle.graph_components.proofs.Steps.{spared_whole, spared_less}
use Rattle.graph_components.proofs.spared.Goals as goal

pub returns-then-member : goal.returns-then-member
returns-then-member c =
    let a = c.args in
    λ t. spared_whole (bits_of a.x) (bits_of a.other) a.s t (sym c.member.ensures ∙ c.if-member.true)

pub returns : goal.returns
returns c =
    let a = c.args in
    λ t. spared_less (bits_of a.x) (bits_of a.other) a.s t (sym c.member.ensures ∙ c.if-member.false) (c.difference.ensures t)
