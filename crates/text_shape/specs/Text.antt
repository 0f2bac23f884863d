-- The text of a game ("The file" of document 01), and the games that have one.
--
--   words                   == the fixed words: game, in, out, if; wins, start, step, refused, system, environment
--   word n                  == the nth of them
--   items gap ws            == the items ws with one blank between two, and one before the first where gap holds
--   bracket ws              == the items ws in brackets
--   line ws                 == the same, and byte 10
--   members n lo x          == the members of the set x among the n states from lo on, rising
--   set_text x               == the text of a set of moves or of a requirement
--   cells n j xs            == n sets of xs from place j on
--   sets_text n xs           == the text of a list: the first n sets of xs
--   header_line i o k        == (game I O K)
--   state_line w s f x       == (in S F (moves)) or (out S F (moves)), by the word w
--   plain h                 == the graph h with its sets as numbers
--   record_of h              == the record of such a graph
--   state_lines w n s h      == the lines of the n states of the graph h from s on
--   in_words xs, out_words xs == the sets xs as numbers
--   in_sets xs, out_sets xs   == the sets with the numbers xs
--   requirement_line q       == (if (sets) (sets))
--   requirement_lines n r qs == the lines of n requirements of qs from r on
--   game_text g              == the text of the game g
--   ShapedPlain h           == h is within the shape's limits, and empty past them
--   ShapedGraph h           == so is the record h, and its words are those of its sets
--   ShapedSets n xs         == n of the sets xs are in use, and the others are empty
--   ShapedRequirement q     == q is within them
--   empty_requirement        == a requirement with no sets
--   empty_game               == a game without states
--   Shaped g                == g is within them: the games that have a text
use Rattle.std.specs.Prelude.{ℕ, zero, suc, ◌≤◌, Bool, true, false, List, [], ◌∷◌, ◌++◌, map, ◌≡◌, length, get_or, replicate}
use Rattle.sets.specs.Words.{capacity, row_words, bits_of, set_of, sets_in, words_of, no_states}
use Rattle.finite.specs.Bounded.{one}
use Rattle.bits.specs.Member.{has, within}
use Rattle.text_grammar.specs.Number.{decimal}
use Rattle.game.specs.declared.Graph.{Graph}
use Rattle.game.specs.declared.InSet.{InSet}
use Rattle.game.specs.declared.OutSet.{OutSet}
use Rattle.game.specs.declared.Requirement.{Requirement}
use Rattle.game.specs.declared.Game.{Game}
use Rattle.text_grammar.specs.Marks.{blank, newline, open_bracket, close_bracket}

-- "Fixed words are game, in, out, if; in answers wins, start, step, refused, system, environment." (SPEC 8.1, 8.3)
unfoldable pub words : List (List ℕ)
words =
    (103 ∷ 97 ∷ 109 ∷ 101 ∷ [])
    ∷ (105 ∷ 110 ∷ [])
    ∷ (111 ∷ 117 ∷ 116 ∷ [])
    ∷ (105 ∷ 102 ∷ [])
    ∷ (119 ∷ 105 ∷ 110 ∷ 115 ∷ [])
    ∷ (115 ∷ 116 ∷ 97 ∷ 114 ∷ 116 ∷ [])
    ∷ (115 ∷ 116 ∷ 101 ∷ 112 ∷ [])
    ∷ (114 ∷ 101 ∷ 102 ∷ 117 ∷ 115 ∷ 101 ∷ 100 ∷ [])
    ∷ (115 ∷ 121 ∷ 115 ∷ 116 ∷ 101 ∷ 109 ∷ [])
    ∷ (101 ∷ 110 ∷ 118 ∷ 105 ∷ 114 ∷ 111 ∷ 110 ∷ 109 ∷ 101 ∷ 110 ∷ 116 ∷ [])
    ∷ []

unfoldable pub word : ℕ → List ℕ
word n = get_or words n []

-- "one blank separates items, none elsewhere" (SPEC 8.1)
unfoldable pub gap_text : Bool → List ℕ
gap_text true = blank ∷ []
gap_text false = []

unfoldable pub items : Bool → List (List ℕ) → List ℕ
items gap [] = []
items gap (w ∷ ws) = gap_text gap ++ (w ++ items true ws)

unfoldable pub bracket : List (List ℕ) → List ℕ
bracket ws = open_bracket ∷ (items false ws ++ close_bracket ∷ [])

-- "Every line ends in byte 10." (SPEC 8.1)
unfoldable pub line : List (List ℕ) → List ℕ
line ws = bracket ws ++ newline ∷ []

-- "Moves and sets hold strictly rising numbers 0 to 63."; "Numbers in files run to 127, counts to 128." (M-105) (SPEC 8.1)
unfoldable pub members : ℕ → ℕ → ℕ → List ℕ
members zero lo x = []
members (suc n) lo x = elim (has x lo) [ true ↦ lo ∷ members n (suc lo) x | false ↦ members n (suc lo) x ]

unfoldable pub set_text : ℕ → List ℕ
set_text x = bracket (map decimal (members capacity 0 x))

-- "(if (sets) (sets)), 0 to 4 sets a list" (SPEC 8.1)
unfoldable pub cells : ℕ → ℕ → List ℕ → List ℕ
cells zero j xs = []
cells (suc n) j xs = get_or xs j 0 ∷ cells n (suc j) xs

unfoldable pub sets_text : ℕ → List ℕ → List ℕ
sets_text n xs = bracket (map set_text (cells n 0 xs))

-- "(game I O K)" (SPEC 8.1)
unfoldable pub header_line : ℕ → ℕ → ℕ → List ℕ
header_line i o k = line (word 0 ∷ decimal i ∷ decimal o ∷ decimal k ∷ [])

-- "I lines (in S F (moves)), S counting from 0, F 1 if initial, else 0; O such lines with out" (SPEC 8.1)
unfoldable pub state_line : ℕ → ℕ → ℕ → ℕ → List ℕ
state_line w s f x = line (word w ∷ decimal s ∷ decimal f ∷ set_text x ∷ [])

pub record PlainGraph : Type 0 where
  pub states : ℕ
  pub initial : ℕ
  pub moves : List ℕ

unfoldable pub plain : Graph → PlainGraph
plain h = record { states = h.states; initial = bits_of h.initial; moves = sets_in h.moves }

unfoldable pub record_of : PlainGraph → Graph
record_of h = record { states = h.states; initial = set_of h.initial; moves = words_of h.moves }

unfoldable pub state_lines : ℕ → ℕ → ℕ → PlainGraph → List ℕ
state_lines w zero s h = []
state_lines w (suc n) s h = state_line w s (one (has h.initial s)) (get_or h.moves s 0) ++ state_lines w n (suc s) h

abbrev pub in_words : List InSet → List ℕ
in_words xs = map (λ (x : InSet). bits_of x.0) xs

abbrev pub out_words : List OutSet → List ℕ
out_words xs = map (λ (x : OutSet). bits_of x.0) xs

abbrev pub in_sets : List ℕ → List InSet
in_sets xs = map (λ (x : ℕ). record { 0 = set_of x }) xs

abbrev pub out_sets : List ℕ → List OutSet
out_sets xs = map (λ (x : ℕ). record { 0 = set_of x }) xs

-- SPEC 8.1
unfoldable pub requirement_line : Requirement → List ℕ
requirement_line q =
    line (word 3 ∷ sets_text q.assumed (in_words q.assumptions) ∷ sets_text q.guaranteed (out_words q.guarantees) ∷ [])

unfoldable pub empty_requirement : Requirement
empty_requirement =
    record {
      assumptions = replicate 4 (record { 0 = no_states });
      assumed = 0;
      guarantees = replicate 4 (record { 0 = no_states });
      guaranteed = 0;
    }

unfoldable pub requirement_lines : ℕ → ℕ → List Requirement → List ℕ
requirement_lines zero r qs = []
requirement_lines (suc n) r qs = requirement_line (get_or qs r empty_requirement) ++ requirement_lines n (suc r) qs

-- "Lines in order: (game I O K) ..; I lines ..; O such lines with out; K lines .." (SPEC 8.1)
unfoldable pub game_text : Game → List ℕ
game_text g =
    header_line g.input.states g.output.states g.k
    ++ (state_lines 1 g.input.states 0 (plain g.input)
    ++ (state_lines 2 g.output.states 0 (plain g.output)
    ++ requirement_lines g.k 0 g.requirements))

-- "with I and O 1 to 64", to 128 by M-105; "Rows past the count are empty." (SPEC 8.1)
pub record ShapedPlain (h : PlainGraph) : Type 0 where
  pub some : 1 ≤ h.states
  pub most : h.states ≤ capacity
  pub initial : within h.initial h.states ≡ true
  pub rows : length h.moves ≡ capacity
  pub row : (s : ℕ) → within (get_or h.moves s 0) capacity ≡ true
  pub unused : (s : ℕ) → h.states ≤ s → get_or h.moves s 0 ≡ 0

pub record ShapedGraph (h : Graph) : Type 0 where
  pub limits : ShapedPlain (plain h)
  pub words : record_of (plain h) ≡ h

-- "Unused sets are empty" (SPEC 1.6, 8.1)
pub record ShapedSets (n : ℕ) (xs : List ℕ) : Type 0 where
  pub most : n ≤ 4
  pub all : length xs ≡ 4
  pub each : (i : ℕ) → within (get_or xs i 0) capacity ≡ true
  pub unused : (i : ℕ) → n ≤ i → get_or xs i 0 ≡ 0

pub record ShapedRequirement (q : Requirement) : Type 0 where
  pub assumptions : ShapedSets q.assumed (in_words q.assumptions)
  pub guarantees : ShapedSets q.guaranteed (out_words q.guarantees)
  pub in_words_lem : in_sets (in_words q.assumptions) ≡ q.assumptions
  pub out_words_lem : out_sets (out_words q.guarantees) ≡ q.guarantees

unfoldable pub empty_game : Game
empty_game =
    record {
      input = record { states = 0; initial = no_states; moves = replicate row_words 0 };
      output = record { states = 0; initial = no_states; moves = replicate row_words 0 };
      k = 0;
      requirements = replicate 8 empty_requirement;
    }

-- "K 0 to 8"; "unused requirements have both lengths 0" (SPEC 8.1)
pub record Shaped (g : Game) : Type 0 where
  pub input : ShapedGraph g.input
  pub output : ShapedGraph g.output
  pub most : g.k ≤ 8
  pub all : length g.requirements ≡ 8
  pub requirement : (r : ℕ) → ShapedRequirement (get_or g.requirements r empty_requirement)
  pub unused : (r : ℕ) → g.k ≤ r → get_or g.requirements r empty_requirement ≡ empty_requirement
