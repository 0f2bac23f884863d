-- The shape of a game's text, as a format: what may come at each byte.
--
--   insert x v              == the set x with the state v
--   more_members n lo x      == behind a member of x: a blank and a member from lo on, or the closing bracket
--   members_format           == behind the opening bracket: the closing one, or the members
--   set_format               == (moves) or one of (sets)
--   push a x                == the list of sets a with x behind
--   more_sets n a            == behind a set of a: a blank and one of at most n more, or the closing bracket
--   sets_format              == (sets)
--   opening w               == the opening bracket, the word w and a blank
--   num_then lo hi b         == a number in lo..hi and the byte b
--   outputs_format i         == the header's line behind the count of inputs
--   header_format            == (game I O K)
--   row_format               == a state's line behind its number
--   state_format w s         == (in S F (moves)) of the state s, or out, by the word w
--   mark x s f              == the set x, with the state s where f is 1
--   store h s q             == the graph h with the line q of state s
--   states_format w n s h    == such lines of the n states from s on, stored in h
--   guarantees_format a      == a requirement's line behind its first list
--   requirement_format       == (if (sets) (sets))
--   requirements_format n r qs == n such lines, stored in qs from r on
--   empty_graph n            == a graph of n states without moves
--   requirement a b         == the requirement with the lists a and b
--   output_format a o k      == the text behind the input graph a
--   game_format              == the whole text
use Rattle.std.specs.Prelude.{ℕ, zero, suc, ◌^◌, true, false, List, [], ◌∷◌, ◌++◌, eqb, leb, replicate, set}
use Rattle.std.specs.Int.Bits.{bit_or}
use Rattle.sets.specs.Words.{capacity, highest}
use Rattle.text_grammar.specs.Format.{Format, bind, lit, alt, chars}
use Rattle.text_grammar.specs.Format.Format.{done}
use Rattle.text_grammar.specs.Number.{num}
use Rattle.game.specs.declared.Graph.{Graph}
use Rattle.game.specs.declared.Requirement.{Requirement}
use Rattle.game.specs.declared.Game.{Game}
use Rattle.text_shape.specs.Text.{word, PlainGraph, record_of, in_sets, out_sets, empty_requirement}
use Rattle.text_grammar.specs.Marks.{blank, newline, open_bracket, close_bracket}

unfoldable pub insert : ℕ → ℕ → ℕ
insert x v = bit_or x (2 ^ v)

unfoldable pub more_members : ℕ → ℕ → ℕ → Format ℕ
more_members zero lo x = lit close_bracket (done x)
more_members (suc n) lo x =
    elim (leb lo highest) [
      | true ↦ alt close_bracket (done x) (lit blank (num lo highest (λ v. more_members n (suc v) (insert x v))))
      | false ↦ lit close_bracket (done x)
    ]

unfoldable pub members_format : Format ℕ
members_format = alt close_bracket (done 0) (num 0 highest (λ v. more_members highest (suc v) (insert 0 v)))

unfoldable pub set_format : Format ℕ
set_format = lit open_bracket members_format

pub record Sets : Type 0 where
  pub words : List ℕ
  pub count : ℕ

unfoldable pub no_sets : Sets
no_sets = record { words = replicate 4 0; count = 0 }

unfoldable pub push : Sets → ℕ → Sets
push a x = record { words = set a.words a.count x; count = suc a.count }

unfoldable pub more_sets : ℕ → Sets → Format Sets
more_sets zero a = lit close_bracket (done a)
more_sets (suc n) a = alt close_bracket (done a) (lit blank (bind set_format (λ x. more_sets n (push a x))))

unfoldable pub sets_format : Format Sets
sets_format = lit open_bracket (alt close_bracket (done no_sets) (bind set_format (λ x. more_sets 3 (push no_sets x))))

unfoldable pub opening : ℕ → List ℕ
opening w = open_bracket ∷ (word w ++ blank ∷ [])

unfoldable pub num_then : ℕ → ℕ → ℕ → Format ℕ
num_then lo hi b = num lo hi (λ v. lit b (done v))

pub record Header : Type 0 where
  pub inputs : ℕ
  pub outputs : ℕ
  pub k : ℕ

unfoldable pub outputs_format : ℕ → Format Header
outputs_format i =
    bind (num_then 1 capacity 32) (λ o.
    bind (num_then 0 8 41) (λ k.
    lit newline (done (record { inputs = i; outputs = o; k = k }))))

unfoldable pub header_format : Format Header
header_format = bind (chars (opening 0)) (λ _. bind (num_then 1 capacity 32) (λ i. outputs_format i))

pub record StateRow : Type 0 where
  pub initial : ℕ
  pub moves : ℕ

unfoldable pub row_format : Format StateRow
row_format =
    bind (num_then 0 1 32) (λ f.
    bind set_format (λ x.
    bind (chars (close_bracket ∷ newline ∷ [])) (λ _. done (record { initial = f; moves = x }))))

unfoldable pub state_format : ℕ → ℕ → Format StateRow
state_format w s = bind (chars (opening w)) (λ _. bind (num_then s s 32) (λ _. row_format))

unfoldable pub mark : ℕ → ℕ → ℕ → ℕ
mark x s f = elim (eqb f 1) [ true ↦ insert x s | false ↦ x ]

unfoldable pub store : PlainGraph → ℕ → StateRow → PlainGraph
store h s q = record { states = h.states; initial = mark h.initial s q.initial; moves = set h.moves s q.moves }

unfoldable pub states_format : ℕ → ℕ → ℕ → PlainGraph → Format PlainGraph
states_format w zero s h = done h
states_format w (suc n) s h = bind (state_format w s) (λ q. states_format w n (suc s) (store h s q))

unfoldable pub empty_graph : ℕ → PlainGraph
empty_graph n = record { states = n; initial = 0; moves = replicate capacity 0 }

unfoldable pub requirement : Sets → Sets → Requirement
requirement a b =
    record { assumptions = in_sets a.words; assumed = a.count; guarantees = out_sets b.words; guaranteed = b.count }

unfoldable pub guarantees_format : Sets → Format Requirement
guarantees_format a =
    bind (chars (blank ∷ [])) (λ _.
    bind sets_format (λ b.
    bind (chars (close_bracket ∷ newline ∷ [])) (λ _. done (requirement a b))))

unfoldable pub requirement_format : Format Requirement
requirement_format = bind (chars (opening 3)) (λ _. bind sets_format (λ a. guarantees_format a))

unfoldable pub requirements_format : ℕ → ℕ → List Requirement → Format (List Requirement)
requirements_format zero r qs = done qs
requirements_format (suc n) r qs = bind requirement_format (λ q. requirements_format n (suc r) (set qs r q))

unfoldable pub output_format : Graph → ℕ → ℕ → Format Game
output_format a o k =
    bind (states_format 2 o 0 (empty_graph o)) (λ b.
    bind (requirements_format k 0 (replicate 8 empty_requirement)) (λ qs.
    done (record { input = a; output = record_of b; k = k; requirements = qs })))

unfoldable pub game_format : Format Game
game_format =
    bind header_format (λ h.
    bind (states_format 1 h.inputs 0 (empty_graph h.inputs)) (λ a. output_format (record_of a) h.outputs h.k))
