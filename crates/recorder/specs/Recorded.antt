-- Two recordings of one run against a controller's table.
--
--   step_judged a os n k  == what step n shows: the player's answer a there beside the recorded outputs os from that step on; where they are the same
--                           k tells of what follows, from the position come to
--   ended os n           == what step n shows where the inputs have ended
--   answer_at g l n p i   == the player's answer to input i at step n, being at p
--   recorded g l is os n p    == the reply from step n on, the player being at p: is and os are what is left of the recordings
--   compared g l is os   == the reply
--   fault_number g l is os n p    == the player's number where the reply from step n on is a fault, 0 otherwise
--   recorder_number r     == the number of the reply r, 0 for none
--   Compares g l is os r == r is the reply, and its number the first of 1 to 7 and 16, or else the player's
use Rattle.std.specs.Prelude.{ℕ, zero, suc, true, false, List, [], ◌∷◌, ◌++◌, ◌≡◌, eqb, drop}
use Rattle.game.specs.Refusals.{number}
use Rattle.game.specs.declared.InState.{InState}
use Rattle.game.specs.declared.Game.{Game}
use Rattle.game.specs.Acceptance.{acceptance}
use Rattle.game.specs.Numbers.{first_of, game_tests}
use Rattle.player_place.specs.declared.Position.{Position}
use Rattle.player_place.specs.Played.{Played}
use Rattle.player.specs.Player.{fitting, beginning, stepping}
use Rattle.recorder.specs.Compared.{Compared}
use Rattle.recorder.specs.declared.Comparison.TheVariants.{Agree, Differ, Ended, Fault}
use Rattle.std.specs.declared.result.Result.TheVariants.{Ok, Err}
use Rattle.game.specs.declared.Refusal.TheVariants.{OtherTable}

-- before the start

abbrev pub nowhere : Position
nowhere = record { input = record { 0 = 0 }; output = record { 0 = 0 }; counter = 0 }

abbrev pub input_of : ℕ → InState
input_of i = record { 0 = i }

-- "the first step where the outputs differ, or the first step where one recording has ended and the other has not"; "A fault goes before a difference or
-- an ending at its step." (SPEC 10.4)
unfoldable pub step_judged : Played → List ℕ → ℕ → (Position → Compared) → Compared
step_judged (Err r) os n k = Ok (Fault n r)
step_judged (Ok p) [] n k = Ok (Ended n)
step_judged (Ok p) (o ∷ os) n k = elim (eqb p.output.0 o) [ true ↦ k p | false ↦ Ok (Differ n) ]

-- where the inputs have ended at step n, os being what is left of the outputs (SPEC 10.4)
unfoldable pub ended : List ℕ → ℕ → Compared
ended [] n = Ok Agree
ended (o ∷ os) n = Ok (Ended n)

-- "Steps count from 0, the start": there the player begins, and p is not read (SPEC 10.4)
unfoldable pub answer_at : Game → List ℕ → ℕ → Position → InState → Played
answer_at g l zero p i = beginning g l i
answer_at g l (suc n) p i = stepping g l p i

unfoldable pub recorded : Game → List ℕ → List ℕ → List ℕ → ℕ → Position → Compared
recorded g l [] os n p = ended os n
recorded g l (i ∷ is) os n p = step_judged (answer_at g l n p (input_of i)) os n (recorded g l is (drop 1 os) (suc n))

-- "1 to 7 and 16 are tried before" (SPEC 10.4)
unfoldable pub compared : Game → List ℕ → List ℕ → List ℕ → Compared
compared g l is os =
    elim (acceptance g) [
      | Ok u ↦ elim (fitting g l) [ true ↦ recorded g l is os 0 nowhere | false ↦ Err OtherTable ]
      | Err r ↦ Err r
    ]

-- "A bad input or row found earlier is reported by the player's number with its step." (SPEC 10.4)
unfoldable pub fault_by : Played → List ℕ → (Position → ℕ) → ℕ
fault_by (Err r) os k = number r
fault_by (Ok p) [] k = 0
fault_by (Ok p) (o ∷ os) k = elim (eqb p.output.0 o) [ true ↦ k p | false ↦ 0 ]

unfoldable pub fault_number : Game → List ℕ → List ℕ → List ℕ → ℕ → Position → ℕ
fault_number g l [] os n p = 0
fault_number g l (i ∷ is) os n p = fault_by (answer_at g l n p (input_of i)) os (fault_number g l is (drop 1 os) (suc n))

abbrev pub recorder_number : Compared → ℕ
recorder_number (Ok Agree) = 0
recorder_number (Ok (Differ n)) = 0
recorder_number (Ok (Ended n)) = 0
recorder_number (Ok (Fault n r)) = number r
recorder_number (Err r) = number r

-- a fault comes after the tests that are tried before (SPEC 9.1, 10.4)
pub record Compares (g : Game) (l is os : List ℕ) (r : Compared) : Type 0 where
  pub answer : r ≡ compared g l is os
  pub number : recorder_number r ≡ first_of (game_tests g ++ (16, fitting g l) ∷ (fault_number g l is os 0 nowhere, false) ∷ [])
