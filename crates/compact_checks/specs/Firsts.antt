-- The smallest inputs of the components, and the test by them.
--
--   Firsts g part n F    == number k of F is the smallest input of the component of the input part + k, for n inputs
--   Named S part n j F   == so it is of those whose component's smallest input is below j
--   AsFirst S T R part   == each entry of an input below part is that of its component's smallest input, in each of R row numbers
use Rattle.std.specs.Prelude.{ℕ, ◌+◌, ◌*◌, ◌<◌, ◌≡◌, List, length, get_or}
use Rattle.graphs.specs.Component.{number}
use Rattle.arena.specs.Arena.{Separated}
use Rattle.game.specs.declared.Game.{Game}
use Rattle.play.specs.Play.{separated_of}
use Rattle.compact_checks.specs.Parts.{part_size}

pub record Named (S : Separated) (part n j : ℕ) (F : List ℕ) : Type 0 where
  pub long : length F ≡ part_size
  pub name : (k : ℕ) → k < n → number S.input (part + k) < j → get_or F k 0 ≡ number S.input (part + k)

pub record Firsts (g : Game) (part n : ℕ) (F : List ℕ) : Type 0 where
  pub long : length F ≡ part_size
  pub name : (k : ℕ) → k < n → get_or F k 0 ≡ number (separated_of g).input (part + k)

pub record AsFirst (S : Separated) (T : List ℕ) (R part : ℕ) : Type 0 where
  pub entry : (x j : ℕ) → x < R → j < S.input.states → j < part
      → get_or T (S.input.states + x * S.input.states + j) 0 ≡ get_or T (S.input.states + x * S.input.states + number S.input j) 0
