-- Tables of both sides.
--
--   Answer               == none, or a memory value and a state
--   Names M ok a m s     == the answer a gives memory m, one of M values, and a state s that is allowed
--   Some M ok a          == the answer is not none
--   ControllerTable, EnvironmentTable
use Rattle.std.specs.Prelude.{ℕ, ◌<◌, ◌≡◌, Bool, true}

-- SPEC 2.2
pub data Answer : Type 0 where
  none : Answer
  gives : (memory state : ℕ) → Answer

-- "A start that names no initial state, a step that names no move, or either that names no memory value of its table, counts as none": an answer
-- counts where it names one of the M memory values and a state that is allowed there. (SPEC 2.2)
pub record Names (M : ℕ) (allowed : ℕ → Bool) (a : Answer) (m s : ℕ) : Type 0 where
  pub is : a ≡ gives m s
  pub memory : m < M
  pub state : allowed s ≡ true

-- an answer that is not none
pub record Some (M : ℕ) (allowed : ℕ → Bool) (a : Answer) : Type 0 where
  pub memory : ℕ
  pub state : ℕ
  pub names : Names M allowed a memory state

-- "It has finitely many memory values; a start gives memory and initial output for each initial input; a step gives memory and output move from
-- memory, output and new input." "A table is either of these, except that a start or step may be none." (SPEC 2.2)
pub record ControllerTable : Type 0 where
  pub memories : ℕ
  pub start : (input : ℕ) → Answer
  pub step : (memory output newInput : ℕ) → Answer

-- "A panel table, also with finitely many memory values, has one start, giving memory and an initial input; its step gives memory and input move
-- from memory, input and output." (SPEC 2.3)
pub record EnvironmentTable : Type 0 where
  pub memories : ℕ
  pub start : Answer
  pub step : (memory input output : ℕ) → Answer
