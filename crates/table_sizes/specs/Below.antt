-- The sets of one side, guarantees or assumptions, in file order: told of both sides at once.
--
--   Side                             == what a side takes of a requirement: its sets, how many are in use, and set number j
--   guarantee_side, assumption_side    == the two sides
--   sets_below s g r                  == the sets of the first r requirements
--   all_sets s g                      == the sets of all requirements
use Rattle.std.specs.Prelude.{ℕ, Bool, List, get_or}
use Rattle.finite.specs.Tabulate.{tabulate}
use Rattle.sets.specs.declared.Set.{Set}
use Rattle.arena.specs.Arena.{Requirement}
use Rattle.game.specs.declared.Requirement.{Requirement as RequirementRecord}
use Rattle.game.specs.declared.Game.{Game}
use Rattle.game.specs.Access.{no_input, no_output, requirement_at}
use Rattle.play.specs.Play.{requirement_of, separated_of}
use Rattle.theory.specs.Choice.{sets_of}

pub record Side : Type 0 where
  pub sets : Requirement → List (ℕ → Bool)
  pub count : RequirementRecord → ℕ
  pub set : RequirementRecord → ℕ → Set

unfoldable pub guarantee_side : Side
guarantee_side = record { sets = λ q. q.guarantees; count = λ q. q.guaranteed; set = λ q j. (get_or q.guarantees j no_output).0 }

unfoldable pub assumption_side : Side
assumption_side = record { sets = λ q. q.assumptions; count = λ q. q.assumed; set = λ q j. (get_or q.assumptions j no_input).0 }

unfoldable pub sets_below : Side → Game → ℕ → List (ℕ → Bool)
sets_below s g r = sets_of s.sets (tabulate r (λ k. requirement_of (requirement_at g k)))

unfoldable pub all_sets : Side → Game → List (ℕ → Bool)
all_sets s g = sets_of s.sets (separated_of g).requirements
