-- The texts of the game format are the texts of the games within the shape's limits.
use Prim.Native.Nat.{ℕ, ◌+◌}
use native.Mathlib.Omega.{arith}
use mathlib.Core.List.{List, [], ◌++◌, append-nil}
use mathlib.Core.Path.{◌≡◌, refl, sym, ◌∙◌, ap, subst}
use lib.ListN.{replicate}
use Rattle.sets.proofs.Rows.{bits_of_lem, sets_words}
use Rattle.text_grammar.specs.Format.{Format, TextOf, Live, bind}
use Rattle.text_grammar.specs.Format.Format.{done}
use Rattle.text_grammar.proofs.Format.{bind_text, bind_parts, bind_live, done_text, done_parts, done_live}
use Rattle.game.specs.declared.Graph.{Graph}
use Rattle.game.specs.declared.Requirement.{Requirement}
use Rattle.game.specs.declared.Game.{Game}
use Rattle.text_shape.specs.Text.{
  PlainGraph,
  plain,
  record_of,
  header_line,
  state_lines,
  requirement_lines,
  game_text,
  Shaped,
  ShapedPlain,
  ShapedGraph,
  empty_requirement,
}
use Rattle.text_shape.specs.Shape.{Header, header_format, states_format, empty_graph, requirements_format, output_format, game_format}
use Rattle.text_shape.proofs.LineTexts.{header_sound, header_complete, header_live, in_bytes, out_bytes}
use Rattle.text_shape.proofs.Graphs.{graph_sound, graph_complete, states_live, requirements_sound, requirements_complete, requirements_live}

-- a graph with its sets as numbers, as a record and back
pub plain_record : (h : PlainGraph) → plain (record_of h) ≡ h
unfolding plain record_of
plain_record h = λ i. record { states = h.states; initial = bits_of_lem h.initial i; moves = sets_words h.moves i }

record_shaped : (h : PlainGraph) → ShapedPlain h → ShapedGraph (record_of h)
record_shaped h S = record { limits = rw (plain_record h) S; words = ap record_of (plain_record h) }

whole : Graph → Graph → ℕ → List Requirement → Game
whole a b k qs = record { input = a; output = b; k = k; requirements = qs }

game_end : Header → Graph → Graph → Format Game
game_end h a b = bind (requirements_format h.k 0 (replicate 8 empty_requirement)) (λ qs. done (whole a b h.k qs))

game_output : Header → Graph → Format Game
game_output h a = bind (states_format 2 h.outputs 0 (empty_graph h.outputs)) (λ b. game_end h a (record_of b))

game_input : Header → Format Game
game_input h = bind (states_format 1 h.inputs 0 (empty_graph h.inputs)) (λ a. game_output h (record_of a))

game_is : game_format ≡ bind header_format (λ h. game_input h)
unfolding game_format output_format game_input game_output game_end whole
game_is = refl

pub game_sound : (t : List ℕ) (g : Game) → TextOf game_format t g → Shaped g × (t ≡ game_text g)
unfolding game_input game_output game_end whole game_text record_of
game_sound t g p =
    let H = bind_parts header_format (λ h. game_input h) t g (rw game_is at p) in
    let h = H.value in
    let hp = header_sound H.front h H.is_front in
    let A = bind_parts (states_format 1 h.inputs 0 (empty_graph h.inputs)) (λ a. game_output h (record_of a)) H.back g H.is_back in
    let a = A.value in
    let ap' = graph_sound 1 h.inputs A.front a hp.some_inputs hp.most_inputs A.is_front in
    let B = bind_parts (states_format 2 h.outputs 0 (empty_graph h.outputs)) (λ b. game_end h (record_of a) (record_of b)) A.back g A.is_back in
    let b = B.value in
    let bp = graph_sound 2 h.outputs B.front b hp.some_outputs hp.most_outputs B.is_front in
    let made : List Requirement → Game = λ qs. whole (record_of a) (record_of b) h.k qs in
    let Q = bind_parts (requirements_format h.k 0 (replicate 8 empty_requirement)) (λ qs. done (made qs)) B.back g B.is_back in
    let qs = Q.value in
    let qp = requirements_sound h.k Q.front qs hp.most_k Q.is_front in
    let D = done_parts (made qs) Q.back g Q.is_back in
    let all : t ≡ header_line a.states b.states h.k ++
    (state_lines 1 a.states 0 a ++ (state_lines 2 b.states 0 b ++ requirement_lines h.k 0 qs)) =
    H.whole ∙ ap (λ (l : List ℕ). l ++ H.back) hp.text
    ∙ ap (λ (n : ℕ). header_line n h.outputs h.k ++ H.back) (sym ap'.1)
    ∙ ap (λ (n : ℕ). header_line a.states n h.k ++ H.back) (sym bp.1)
    ∙ ap (λ (l : List ℕ). header_line a.states b.states h.k ++ l)
    (A.whole ∙ ap (λ (l : List ℕ). l ++ A.back) (ap'.2 ∙ ap (λ (n : ℕ). state_lines 1 n 0 a) (sym ap'.1))
    ∙ ap (λ (l : List ℕ). state_lines 1 a.states 0 a ++ l)
    (B.whole ∙ ap (λ (l : List ℕ). l ++ B.back) (bp.2 ∙ ap (λ (n : ℕ). state_lines 2 n 0 b) (sym bp.1))
    ∙ ap (λ (l : List ℕ). state_lines 2 b.states 0 b ++ l)
    (Q.whole ∙ ap (λ (l : List ℕ). Q.front ++ l) D.0 ∙ append-nil Q.front ∙ qp.text))) in
    let text : game_text (made qs) ≡ header_line a.states b.states h.k ++
    (state_lines 1 a.states 0 a ++ (state_lines 2 b.states 0 b ++ requirement_lines h.k 0 qs)) =
    λ i. header_line a.states b.states h.k ++
    (state_lines 1 a.states 0 (plain_record a i) ++ (state_lines 2 b.states 0 (plain_record b i) ++ requirement_lines h.k 0 qs)) in
    subst (λ (x : Game). Shaped x × (t ≡ game_text x)) (sym D.1) (
      record {
        input = record_shaped a ap'.0;
        output = record_shaped b bp.0;
        most = hp.most_k;
        all = qp.all;
        requirement = qp.each;
        unused = qp.unused;
      },
      all ∙ sym text,
    )

header_of_lem : Game → Header
header_of_lem g = record { inputs = g.input.states; outputs = g.output.states; k = g.k }

-- the game made of the numbers of its sets is the game
again : (g : Game) → Shaped g → whole (record_of (plain g.input)) (record_of (plain g.output)) g.k g.requirements ≡ g
unfolding whole
again g S = λ i. record { input = S.input.words i; output = S.output.words i; k = g.k; requirements = g.requirements }

pub game_complete : (g : Game) → Shaped g → TextOf game_format (game_text g) g
unfolding game_input game_output game_end whole header_of_lem game_text plain
game_complete g S =
    let h = header_of_lem g in
    let a = plain g.input in
    let b = plain g.output in
    let made = whole (record_of a) (record_of b) g.k g.requirements in
    let q = bind_text (requirements_format g.k 0 (replicate 8 empty_requirement)) (λ qs. done (whole (record_of a) (record_of b) g.k qs))
    (requirement_lines g.k 0 g.requirements) [] g.requirements made
    (requirements_complete g.k g.requirements S.most S.all S.requirement S.unused) (done_text made) in
    let q' : TextOf (game_end h (record_of a) (record_of b)) (requirement_lines g.k 0 g.requirements) made =
    subst (λ (l : List ℕ). TextOf (game_end h (record_of a) (record_of b)) l made) (append-nil (requirement_lines g.k 0 g.requirements)) q in
    let ob = bind_text (states_format 2 h.outputs 0 (empty_graph h.outputs)) (λ y. game_end h (record_of a) (record_of y))
    (state_lines 2 g.output.states 0 b) (requirement_lines g.k 0 g.requirements) b made (graph_complete 2 b S.output.limits) q' in
    let oa = bind_text (states_format 1 h.inputs 0 (empty_graph h.inputs)) (λ x. game_output h (record_of x))
    (state_lines 1 g.input.states 0 a) _ a made (graph_complete 1 a S.input.limits) ob in
    let all = bind_text header_format (λ h. game_input h) (header_line g.input.states g.output.states g.k) _ h made
    (header_complete h S.input.limits.some S.input.limits.most S.output.limits.some S.output.limits.most S.most) oa in
    rw game_is (subst (λ (x : Game). TextOf (bind header_format (λ h. game_input h)) (game_text g) x) (again g S) all)

pub game_live : Live game_format
unfolding game_input game_output game_end
game_live =
    rw game_is
    (bind_live header_format (λ h. game_input h) header_live
    (λ t h p.
    let H = header_sound t h p in
    let i = H.most_inputs in
    let o = H.most_outputs in
    bind_live (states_format 1 h.inputs 0 (empty_graph h.inputs)) (λ a. game_output h (record_of a))
    (states_live 1 h.inputs 0 (empty_graph h.inputs) (omega arith) in_bytes)
    (λ t a p. bind_live (states_format 2 h.outputs 0 (empty_graph h.outputs)) (λ b. game_end h (record_of a) (record_of b))
    (states_live 2 h.outputs 0 (empty_graph h.outputs) (omega arith) out_bytes)
    (λ t b p. bind_live (requirements_format h.k 0 (replicate 8 empty_requirement)) (λ qs. done (whole (record_of a) (record_of b) h.k qs))
    (requirements_live h.k 0 (replicate 8 empty_requirement))
    (λ t qs p. done_live (whole (record_of a) (record_of b) h.k qs))))))
