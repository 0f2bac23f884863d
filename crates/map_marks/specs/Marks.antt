-- A map of won positions: one set of outputs for each input.
--
--   map_row g i            == the set of the outputs that are won with i
--   MapFilled g m m'      == the words m' are m with the map in front
use Rattle.std.specs.Prelude.{ℕ, ◌≡◌, List, ◌++◌, drop}
use Rattle.finite.specs.Tabulate.{tabulate}
use Rattle.bits.specs.Member.{pack}
use Rattle.sets.specs.Words.{sets_in, words_for}
use Rattle.game.specs.declared.Game.{Game}
use Rattle.play.specs.Play.{separated_of}
use Rattle.theory.specs.Region.{region}

-- "The won map writes one 64-bit set of outputs for each input", of two words by M-105 (SPEC 4.5)
unfoldable pub map_row : Game → ℕ → ℕ
map_row g i = pack g.output.states (region (separated_of g) i)

pub record MapFilled (g : Game) (m m' : List ℕ) : Type 0 where
  -- of the sets that the words hold
  pub sets : sets_in m' ≡ tabulate g.input.states (map_row g) ++ drop g.input.states (sets_in m)
  -- "later words of its room stay unchanged" (SPEC 7.6)
  pub later : drop (words_for g.input.states) m' ≡ drop (words_for g.input.states) m
