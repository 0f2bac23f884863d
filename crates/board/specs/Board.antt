-- A game laid out in words, the board: its rows, the sets of its requirements, its initial sets and its counts, each at a place of its own. Its sizes are not
-- among them: they go by value.
--
--   board_words           == how many words it takes
--   assumption_place r j, guarantee_place r j  == the number of the set that input set j and output set j of requirement r are
--   requirement_word r    == the word at which the sets of requirement r begin, sixteen words
--   in_initial_place, out_initial_place  == the numbers of the sets that the initial sets are
--   assumed_place r, guaranteed_place r  == the words that tell how many input and output sets of requirement r are in use
--   in_rows b, out_rows b  == the rows of the input and of the output graph
--   requirement_on b r    == requirement r
--   game_on z b           == the game of the sizes z that is laid out on b
--   sizes_of g            == the sizes of g
--   RowsPut at l b c     == the board c is b with the words l from word `at` on
--   SetPut s x b c       == the board c is b with x as set number s
--   SetsPut r n q b c    == the board c is b with the first n input and output sets of q as those of requirement r
--   RequirementPut r q b c == the board c is b with q as requirement r
use Rattle.std.specs.Prelude.{ℕ, ◌+◌, ◌*◌, ◌≤◌, ◌<◌, ◌≡◌, List, ◌≢◌, length, get_or, take, drop}
use Rattle.finite.specs.Tabulate.{tabulate}
use Rattle.sets.specs.declared.Set.{Set}
use Rattle.sets.specs.Words.{row_words, set_at}
use Rattle.game.specs.declared.Requirement.{Requirement}
use Rattle.game.specs.declared.Game.{Game}
use Rattle.game.specs.Access.{no_input, no_output}
use Rattle.board.specs.declared.Sizes.{Sizes}

abbrev pub board_words : ℕ
board_words = 660

-- the rows of the inputs are the first 128 sets, those of the outputs the next, and the sets of requirements follow, eight for each
abbrev pub assumption_place : ℕ → ℕ → ℕ
assumption_place r j = 256 + 8 * r + j

abbrev pub guarantee_place : ℕ → ℕ → ℕ
guarantee_place r j = 260 + 8 * r + j

abbrev pub requirement_word : ℕ → ℕ
requirement_word r = 512 + 16 * r

abbrev pub in_initial_place : ℕ
in_initial_place = 320

abbrev pub out_initial_place : ℕ
out_initial_place = 321

abbrev pub assumed_place : ℕ → ℕ
assumed_place r = 644 + r

abbrev pub guaranteed_place : ℕ → ℕ
guaranteed_place r = 652 + r

unfoldable pub in_rows : List ℕ → List ℕ
in_rows b = take row_words b

unfoldable pub out_rows : List ℕ → List ℕ
out_rows b = take row_words (drop row_words b)

unfoldable pub requirement_on : List ℕ → ℕ → Requirement
requirement_on b r = record {
  assumptions = tabulate 4 (λ j. record { 0 = set_at b (assumption_place r j) });
  assumed = get_or b (assumed_place r) 0;
  guarantees = tabulate 4 (λ j. record { 0 = set_at b (guarantee_place r j) });
  guaranteed = get_or b (guaranteed_place r) 0;
}

abbrev pub game_on : Sizes → List ℕ → Game
game_on z b = record {
  input = record { states = z.inputs; initial = set_at b in_initial_place; moves = in_rows b };
  output = record { states = z.outputs; initial = set_at b out_initial_place; moves = out_rows b };
  k = z.requirements;
  requirements = tabulate 8 (requirement_on b);
}

abbrev pub sizes_of : Game → Sizes
sizes_of g = record { inputs = g.input.states; outputs = g.output.states; requirements = g.k }

pub record RowsPut (at : ℕ) (l b c : List ℕ) : Type 0 where
  pub long : length c ≡ length b
  pub here : (i : ℕ) → i < row_words → get_or c (at + i) 0 ≡ get_or l i 0
  pub before : (t : ℕ) → t < at → get_or c t 0 ≡ get_or b t 0
  pub after : (t : ℕ) → at + row_words ≤ t → get_or c t 0 ≡ get_or b t 0

pub record SetPut (s : ℕ) (x : Set) (b c : List ℕ) : Type 0 where
  pub long : length c ≡ length b
  pub here : set_at c s ≡ x
  pub others : (t : ℕ) → t ≢ 2 * s → t ≢ 2 * s + 1 → get_or c t 0 ≡ get_or b t 0

pub record SetsPut (r n : ℕ) (q : Requirement) (b c : List ℕ) : Type 0 where
  pub long : length c ≡ length b
  pub ins : (j : ℕ) → j < n → set_at c (assumption_place r j) ≡ (get_or q.assumptions j no_input).0
  pub outs : (j : ℕ) → j < n → set_at c (guarantee_place r j) ≡ (get_or q.guarantees j no_output).0
  pub before : (t : ℕ) → t < requirement_word r → get_or c t 0 ≡ get_or b t 0
  pub after : (t : ℕ) → requirement_word r + 16 ≤ t → get_or c t 0 ≡ get_or b t 0

pub record RequirementPut (r : ℕ) (q : Requirement) (b c : List ℕ) : Type 0 where
  pub long : length c ≡ length b
  pub here : requirement_on c r ≡ q
  pub before : (t : ℕ) → t < requirement_word r → get_or c t 0 ≡ get_or b t 0
  pub after : (t : ℕ) → requirement_word r + 16 ≤ t → t ≢ assumed_place r → t ≢ guaranteed_place r → get_or c t 0 ≡ get_or b t 0
