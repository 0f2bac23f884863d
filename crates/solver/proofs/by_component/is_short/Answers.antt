-- `is_short`: there are no more components than inputs.
use mathlib.Core.Path.{sym}
use native.Mathlib.Omega.{arith}
use borrow.Author.Tests.{le-ltb}
use Rattle.game.proofs.Laws.{accepted_fits}
use Rattle.play.specs.Play.{separated_of}
use Rattle.compact.specs.Compact.{compact_length}
use Rattle.solver.proofs.Compact.{full_most, compact_most}
use Rattle.solver.proofs.by_component.is_short.Goals as goal

pub overflow_add-most : goal.overflow_add-most
overflow_add-most c =
    omega (arith, c.controller_length_of.ensures, full_most _ c.requires.0, (accepted_fits _ c.requires.0).input.most)

pub returns-then-most-long : goal.returns-then-most-long
returns-then-most-long c =
    sym
    (le-ltb c.args.long (compact_length (separated_of c.args.g))
    (omega (arith, c.controller_length_of.ensures, compact_most c.args.g, c.if-most-long.true)))
