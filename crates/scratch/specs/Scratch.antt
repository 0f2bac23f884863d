-- The length of scratch, for every call that takes scratch and names no length, and what is kept of it.
--
--   scratch_sets n m     == how many sets are kept for n inputs and m outputs
--   scratch_length g     == how many words the game g asks for
--   most_scratch         == how many words no game asks for more than
--   Kept g s t          == scratch t is as long as s, and past the words that g asks for it is the same
use Rattle.std.specs.Prelude.{ℕ, ◌+◌, ◌*◌, ◌≡◌, List, length, drop}
use Rattle.sets.specs.Words.{capacity, words_for}
use Rattle.game.specs.declared.Game.{Game}

abbrev pub scratch_sets : ℕ → ℕ → ℕ
scratch_sets n m = 2 * n + m

-- "The solver and the map must give the same verdicts, maps and tables with scratch of 2 × inputs + outputs words" (document 02, M-103) (SPEC 7.5)
abbrev pub scratch_length : Game → ℕ
scratch_length g = words_for (scratch_sets g.input.states g.output.states)

abbrev pub most_scratch : ℕ
most_scratch = words_for (scratch_sets capacity capacity)

pub record Kept (g : Game) (s t : List ℕ) : Type 0 where
  pub long : length t ≡ length s
  pub rest : drop (scratch_length g) t ≡ drop (scratch_length g) s
