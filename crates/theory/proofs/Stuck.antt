-- States without a move (M-102): what the rules say there, each sentence of the request from the definitions.
--
--   stuck_won           : a position with the input stuck is won, whatever the output
--   stuck_lost          : one with the output stuck and the input not is not won
--   row_ended           : with the input stuck the environment's row is none
--   row_unopposed       : with the output stuck and the input not it is the lowest move, and h stays
--   controller_none     : with the output stuck the controller's row is none
use Prim.Native.Nat.{ℕ, ◌<◌}
use mathlib.Core.Path.{◌≡◌, refl, ◌∙◌}
use mathlib.Core.Bool.{true, false}
use Rattle.finite.specs.Bounded.{least}
use Rattle.finite.proofs.Truth.{clash, false_of}
use Rattle.graphs.specs.Graph.{Graph, edge, stuck}
use Rattle.graphs.specs.Component.{nontrivial}
use Rattle.graphs.proofs.Graph.{stuck_none, stuck_moves}
use Rattle.graphs.proofs.Component.{nontrivial_move}
use Rattle.arena.specs.Arena.{Separated}
use Rattle.arena.specs.Table.{none, gives}
use Rattle.theory.specs.Region.{region}
use Rattle.theory.specs.Choice.{controller_row, environment_row}
use Rattle.theory.proofs.Region.{answers_stuck, replies_intro, region_replies}
use Rattle.theory.proofs.Delay.{reply}
use Rattle.theory.proofs.EnvironmentRow.{row_stuck}

stuck_trivial : (G : Graph) (s : ℕ) → stuck G s ≡ true → nontrivial G s ≡ false
stuck_trivial G s h = false_of (nontrivial G s) (λ n. let v = nontrivial_move G s n in clash v.1 (stuck_none G s v.0 h))

module _ (S : Separated) where
  -- "A play that stops for want of an input move is won"
  stuck_won : (i o : ℕ) → i < S.input.states → o < S.output.states → stuck S.input i ≡ true → region S i o ≡ true
  stuck_won i o a b h =
      region_replies S i o a b (stuck_trivial S.input i h)
      ∙ replies_intro S (region S) i o (λ j e. clash e (stuck_none S.input i j h))

  -- "and one that stops for want of an output move is lost"
  stuck_lost : (i o : ℕ) → stuck S.output o ≡ true → stuck S.input i ≡ false → region S i o ≡ false
  stuck_lost i o h n =
      let v = stuck_moves S.input i n in
      false_of (region S i o) (λ w. clash (reply S i o v.0 w v.1) (answers_stuck S (region S) v.0 o h))

  -- "In a position with the input stuck the panel row is none."
  pub row_ended : (i h o : ℕ) → i < S.input.states → o < S.output.states → stuck S.input i ≡ true → environment_row S i h o ≡ none
  unfolding environment_row
  row_ended i h o a b t = rw (stuck_won i o a b t, environment_row) refl

  -- "Where the output is stuck and the input is not, the panel row is the lowest move and h stays."
  pub row_unopposed : (i h o : ℕ) → stuck S.output o ≡ true → stuck S.input i ≡ false
      → environment_row S i h o ≡ gives h (least S.input.states (edge S.input i))
  row_unopposed i h o t n = row_stuck S i h o (stuck_lost i o t n) t

  -- "A controller's step is none where no reply is left"
  pub controller_none : (o g j : ℕ) → stuck S.output o ≡ true → controller_row S o g j ≡ none
  unfolding controller_row
  controller_none o g j h = rw (answers_stuck S (region S) j o h, controller_row) refl
