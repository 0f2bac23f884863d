-- What is read of the sets l in scratch with n inputs and m outputs.
--
--   Shaped k n m                       == k sets hold what is kept for n inputs and m outputs
--   open_at l n m inner from set j      == j is an input of `from` with which none does
--   unanswered_at l n m inner from set  == the lowest such input; n where there is none
--   refused_at l n m inner set j        == no output of the set makes a won position with j
--   lost_at l n inner o j               == (j, o) is not won
--   TrivialInputs n inner x                     == x are the inputs in trivial components: those that are not in the set inner
--   unwalked g i o                     == the component of i is trivial, or the output o has no move
--   pushed_at y n trivials i                == i is one of n inputs where the set y is empty, else one of the set trivials
--   Pushed g x o                       == x are the inputs i with unwalked g i o
--   plain g i o                        == (i, o) is won, or unwalked
use Rattle.std.specs.Prelude.{ℕ, ◌≤◌, ◌≡◌, Bool, true, false, ◌&&◌, ◌||◌, not, List, eqb, ltb}
use Rattle.finite.specs.Bounded.{least}
use Rattle.bits.specs.Member.{has}
use Rattle.graphs.specs.Graph.{stuck}
use Rattle.graphs.specs.Component.{nontrivial}
use Rattle.game.specs.declared.Game.{Game}
use Rattle.play.specs.Play.{separated_of}
use Rattle.theory.specs.Region.{region}
use Rattle.sets.specs.Words.{capacity}
use Rattle.scratch.specs.Scratch.{scratch_sets}
use Rattle.scratch.specs.Stored.{won_at, some_won_at}

pub record Shaped (k n m : ℕ) : Type 0 where
  pub inputs : n ≤ capacity
  pub outputs : m ≤ capacity
  pub long : scratch_sets n m ≤ k

unfoldable pub refused_at : List ℕ → ℕ → ℕ → ℕ → ℕ → ℕ → Bool
refused_at l n m inner set j = not (some_won_at l n m inner j set)

unfoldable pub open_at : List ℕ → ℕ → ℕ → ℕ → ℕ → ℕ → ℕ → Bool
open_at l n m inner from set j = has from j && not (some_won_at l n m inner j set)

unfoldable pub unanswered_at : List ℕ → ℕ → ℕ → ℕ → ℕ → ℕ → ℕ
unanswered_at l n m inner from set = least n (open_at l n m inner from set)

unfoldable pub lost_at : List ℕ → ℕ → ℕ → ℕ → ℕ → Bool
lost_at l n inner o j = not (won_at l n inner j o)

-- "i's component not stayable" (SPEC 6.5)
pub record TrivialInputs (n inner x : ℕ) : Type 0 where
  pub each : (i : ℕ) → has x i ≡ (ltb i n && not (has inner i))

-- "i's component not stayable"; "Where the output is stuck and the input is not" (M-102): such a row is the lowest move to an input that no move of o
-- answers (SPEC 6.4, 6.5)
unfoldable pub unwalked : Game → ℕ → ℕ → Bool
unwalked g i o = not (nontrivial (separated_of g).input i) || stuck (separated_of g).output o

unfoldable pub pushed_at : ℕ → ℕ → ℕ → ℕ → Bool
pushed_at y n trivials i = elim (eqb y 0) [ true ↦ ltb i n | false ↦ has trivials i ]

pub record Pushed (g : Game) (x o : ℕ) : Type 0 where
  pub each : (i : ℕ) → has x i ≡ (ltb i g.input.states && unwalked g i o)

unfoldable pub plain : Game → ℕ → ℕ → Bool
plain g i o = region (separated_of g) i o || unwalked g i o
