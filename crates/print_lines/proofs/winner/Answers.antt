-- `winner` meets its contract.
use mathlib.Core.Path.{sym, ap}
use Rattle.print_lines.specs.Line.{winner_word}
use Rattle.print_lines.proofs.winner.Goals as goal

pub returns-then-system : goal.returns-then-system
unfolding winner_word
returns-then-system c = sym (ap winner_word c.if-system.true)

pub returns : goal.returns
unfolding winner_word
returns c = sym (ap winner_word c.if-system.false)
