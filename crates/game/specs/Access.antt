-- The parts of a game, by number. A place past the end of a list reads as empty.
--
--   no_input, no_output  == the empty set of each sort
--   no_requirement      == a requirement with no sets
--   requirement_at g r  == requirement number r
--   assumption_at g r j == input set number j of requirement r ("input sets" of document 01)
--   guarantee_at g r j  == output set number j of requirement r
--   in_moves g i        == the input states that input i moves to
--   out_moves g o       == the output states that output o moves to
--   in_initial g        == the initial input states
--   out_initial g       == the initial output states
use Rattle.std.specs.Prelude.{ℕ, [], get_or}
use Rattle.sets.specs.Words.{no_states, set_at}
use Rattle.game.specs.declared.InState.{InState}
use Rattle.game.specs.declared.OutState.{OutState}
use Rattle.game.specs.declared.InSet.{InSet}
use Rattle.game.specs.declared.OutSet.{OutSet}
use Rattle.game.specs.declared.Requirement.{Requirement}
use Rattle.game.specs.declared.Game.{Game}

abbrev pub no_input : InSet
no_input = record { 0 = no_states }

abbrev pub no_output : OutSet
no_output = record { 0 = no_states }

abbrev pub no_requirement : Requirement
no_requirement = record { assumptions = []; assumed = 0; guarantees = []; guaranteed = 0 }

abbrev pub requirement_at : Game → ℕ → Requirement
requirement_at g r = get_or g.requirements r no_requirement

abbrev pub assumption_at : Game → ℕ → ℕ → InSet
assumption_at g r j = get_or (requirement_at g r).assumptions j no_input

abbrev pub guarantee_at : Game → ℕ → ℕ → OutSet
guarantee_at g r j = get_or (requirement_at g r).guarantees j no_output

abbrev pub in_moves : Game → InState → InSet
in_moves g i = record { 0 = set_at g.input.moves i.0 }

abbrev pub out_moves : Game → OutState → OutSet
out_moves g o = record { 0 = set_at g.output.moves o.0 }

abbrev pub in_initial : Game → InSet
in_initial g = record { 0 = g.input.initial }

abbrev pub out_initial : Game → OutSet
out_initial g = record { 0 = g.output.initial }
