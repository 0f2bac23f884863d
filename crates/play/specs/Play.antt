-- The arena that a game's records stand for.
--
--   graph_of g          == the graph, its sets told by their members
--   requirement_of q    == the sets in use
--   requirements_of g   == the k requirements
--   separated_of g      == the two graphs and the requirements
use Rattle.std.specs.Prelude.{List, get_or}
use Rattle.sets.specs.Words.{bits_of, sets_in}
use Rattle.finite.specs.Tabulate.{tabulate}
use Rattle.bits.specs.Member.{has}
use Rattle.graphs.specs.Graph.{Graph}
use Rattle.arena.specs.Arena.{Requirement, Separated}
use Rattle.game.specs.declared.Graph.{Graph as GraphRecord}
use Rattle.game.specs.declared.Requirement.{Requirement as RequirementRecord}
use Rattle.game.specs.declared.Game.{Game}
use Rattle.game.specs.Access.{no_input, no_output, requirement_at}

-- SPEC 1.6
unfoldable pub graph_of : GraphRecord → Graph
graph_of g = record { states = g.states; initial = has (bits_of g.initial); moves = λ s. has (get_or (sets_in g.moves) s 0) }

unfoldable pub requirement_of : RequirementRecord → Requirement
requirement_of q = record {
  assumptions = tabulate q.assumed (λ j. has (bits_of (get_or q.assumptions j no_input).0));
  guarantees = tabulate q.guaranteed (λ j. has (bits_of (get_or q.guarantees j no_output).0));
}

-- SPEC 1.6
unfoldable pub requirements_of : Game → List Requirement
requirements_of g = tabulate g.k (λ r. requirement_of (requirement_at g r))

-- "The input graph (old drive) and the output graph (new drive)"; "There are k requirements, 0 to 8." (SPEC 1.1, 1.3)
unfoldable pub separated_of : Game → Separated
separated_of g = record { input = graph_of g.input; output = graph_of g.output; requirements = requirements_of g }
