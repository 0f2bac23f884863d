-- `outside` meets its contract.
use Rattle.finite.proofs.Loops.{and_stop}
use Rattle.finite.proofs.Truth.{and_intro, and_false_right}
use borrow.Author.Tests.{eq-eqb, ne_eqb}
use mathlib.Core.Bool.{not}
use lib.Dec.{eqb}
use mathlib.Core.Path.{sym, ◌∙◌, ap}
use Rattle.checker_pairs.proofs.outside.Goals as goal

pub returns-then-reached-ne1 : goal.returns-then-reached-ne1
returns-then-reached-ne1 c = and_stop _ (ne_eqb _ 1 c.if-reached-ne1.true)

pub returns-then-member : goal.returns-then-member
returns-then-member c =
    sym (and_false_right (eqb c.args.reached 1) (ap not (sym c.member.ensures ∙ c.if-member.true)))

pub returns : goal.returns
returns c =
    sym (and_intro (eq-eqb _ 1 c.if-reached-ne1.false) (ap not (sym c.member.ensures ∙ c.if-member.false)))
