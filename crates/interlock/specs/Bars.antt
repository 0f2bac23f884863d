-- Bars, lent beside the game: "Bars are lent beside the game, one set of outputs an input" (document 02, M-113). b are the words lent.
--
--   bars b                == the pairs that are barred; past the list's end nothing is
--   barrable g i          == the outputs below this number may be barred with i
--   bars_inside g b        == every barred pair is one of the graphs
--   some_barred b          == some pair is barred
--   one_requirement g b    == no pair is barred, or the game has one requirement
--   only g                == that requirement
--   marked g b            == the pairs that the map marks
--   system_wins g b        == whether the system wins
--   barred_row g b i       == the set of the outputs that are marked with i
--   opens_row g x i        == i is not initial, or some initial output belongs to x
--   RegionFilled g l m m' == the words m' are m with the first sets of l in front, one for each input
--   BarredFilled g b m m' == the words m' are m with the map in front
use Rattle.std.specs.Prelude.{ℕ, ◌≡◌, Bool, true, false, ◌||◌, not, List, ◌++◌, eqb, ltb, length, get_or, drop}
use Rattle.finite.specs.Bounded.{all, any}
use Rattle.finite.specs.Tabulate.{tabulate}
use Rattle.bits.specs.Member.{has, within, sets_meet, pack}
use Rattle.sets.specs.Words.{capacity, bits_of, sets_in, words_for}
use Rattle.theory.specs.Region.{region, verdict}
use Rattle.game.specs.declared.Game.{Game}
use Rattle.play.specs.Play.{separated_of}
use Rattle.barred.specs.Arena.{Pairs}
use Rattle.barred.specs.Region.{barred_region, barred_verdict}
use Rattle.barred_region.specs.Region.{only, bar_of}

-- "Some output modes are barred while the panel is in certain input modes." (SPEC 15.1)
abbrev pub bars : List ℕ → Pairs
bars b = bar_of (sets_in b)

unfoldable pub barrable : Game → ℕ → ℕ
barrable g i = elim (ltb i g.input.states) [ true ↦ g.output.states | false ↦ 0 ]

-- "29 a barred pair outside the graphs", of all words that are lent, also past the inputs (SPEC 15.3)
unfoldable pub bars_inside : Game → List ℕ → Bool
bars_inside g b = all (length (sets_in b)) (λ i. within (get_or (sets_in b) i 0) (barrable g i))

unfoldable pub some_barred : List ℕ → Bool
some_barred b = any (length (sets_in b)) (λ i. not (eqb (get_or (sets_in b) i 0) 0))

-- "28 k other than 1 with a barred pair" (SPEC 15.3)
unfoldable pub one_requirement : Game → List ℕ → Bool
one_requirement g b = not (some_barred b) || eqb g.k 1

-- "Without barred pairs the map equals the one we have." (SPEC 15.2)
unfoldable pub marked : Game → List ℕ → Pairs
marked g b = elim (some_barred b) [ true ↦ barred_region (separated_of g) (bars b) (only g) | false ↦ region (separated_of g) ]

-- SPEC 15.2
unfoldable pub system_wins : Game → List ℕ → Bool
system_wins g b = elim (some_barred b) [ true ↦ barred_verdict (separated_of g) (bars b) (only g) | false ↦ verdict (separated_of g) ]

unfoldable pub barred_row : Game → List ℕ → ℕ → ℕ
barred_row g b i = pack g.output.states (marked g b i)

unfoldable pub opens_row : Game → ℕ → ℕ → Bool
opens_row g x i = not (has (bits_of g.input.initial) i) || sets_meet capacity (bits_of g.output.initial) x

pub record RegionFilled (g : Game) (l m m' : List ℕ) : Type 0 where
  pub sets : sets_in m' ≡ tabulate g.input.states (λ i. get_or l i 0) ++ drop g.input.states (sets_in m)
  pub later : drop (words_for g.input.states) m' ≡ drop (words_for g.input.states) m

pub record BarredFilled (g : Game) (b m m' : List ℕ) : Type 0 where
  -- of the sets that the words hold
  pub sets : sets_in m' ≡ tabulate g.input.states (barred_row g b) ++ drop g.input.states (sets_in m)
  -- "later words of its room stay unchanged" (SPEC 7.6)
  pub later : drop (words_for g.input.states) m' ≡ drop (words_for g.input.states) m
