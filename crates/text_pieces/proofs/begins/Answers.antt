-- `begins` meets its contract.
use mathlib.Core.Path.{sym, ◌∙◌}
use Rattle.text_grammar.proofs.Number.{begins_inside, begins_zero, begins_ten, begins_hundred}
use Rattle.text_pieces.proofs.begins.Goals as goal

pub returns-then-inside : goal.returns-then-inside
returns-then-inside c = sym (begins_inside _ _ _ (sym c.inside.ensures ∙ c.if-inside.true))

pub returns-then-v-eq0 : goal.returns-then-v-eq0
returns-then-v-eq0 c = sym (begins_zero _ _ _ c.if-v-eq0.true (sym c.inside.ensures ∙ c.if-inside.false))

pub returns-then-meets : goal.returns-then-meets
returns-then-meets c = sym (begins_ten _ _ _ c.if-v-eq0.false (sym c.meets.ensures ∙ c.if-meets.true))

pub returns : goal.returns
returns c =
    c.meets-2.ensures ∙ sym (begins_hundred _ _ _ (sym c.inside.ensures ∙
    c.if-inside.false) c.if-v-eq0.false (sym c.meets.ensures ∙ c.if-meets.false))
