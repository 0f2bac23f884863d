-- Ranks in a list of entries.
--
--   Put n c v l m        == from l to m the value v was written at n + t for each t of c
--   ranked n c v l       == the list l has the value v at n + t for each t of c
--   RanksWritten g l m   == from l to m the rank of each input's component was written, behind as many starts as there are inputs
use Rattle.std.specs.Prelude.{ℕ, ◌+◌, ◌≤◌, ◌<◌, ◌≡◌, Bool, true, not, ◌||◌, List, ◌≢◌, eqb, length, get_or}
use Rattle.finite.specs.Bounded.{all}
use Rattle.bits.specs.Member.{has}
use Rattle.sets.specs.Words.{capacity}
use Rattle.theory.specs.Entries.{none_entry}
use Rattle.game.specs.declared.Game.{Game}
use Rattle.play.specs.Play.{separated_of}
use Rattle.compact.specs.Rank.{rank_of}

pub record Put (n c v : ℕ) (l m : List ℕ) : Type 0 where
  pub long : length m ≡ length l
  pub inside : (t : ℕ) → has c t ≡ true → get_or m (n + t) 0 ≡ v
  pub outside : (k : ℕ) → ((t : ℕ) → has c t ≡ true → k ≢ n + t) → get_or m k 0 ≡ get_or l k 0

unfoldable pub ranked : ℕ → ℕ → ℕ → List ℕ → Bool
ranked n c v l = all capacity (λ t. not (has c t) || eqb (get_or l (n + t) none_entry) v)

-- "starts as before, then the component's rank for each input" (SPEC 11.1)
pub record RanksWritten (g : Game) (l m : List ℕ) : Type 0 where
  pub long : length m ≡ length l
  pub rank : (t : ℕ) → t < g.input.states → get_or m (g.input.states + t) 0 ≡ rank_of (separated_of g) t
  pub front : (k : ℕ) → k < g.input.states → get_or m k 0 ≡ get_or l k 0
  pub rest : (k : ℕ) → g.input.states + g.input.states ≤ k → get_or m k 0 ≡ get_or l k 0
