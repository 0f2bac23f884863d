-- The lines of graphs and requirements, one at a time, and the whole text.
use Prim.Native.Nat.{ℕ, zero, suc, ◌+◌, ◌-◌, ◌≤◌, ◌<◌}
use native.Mathlib.Omega.{arith}
use native.Mathlib.Numerals.{add-one}
use mathlib.Core.List.{List}
use mathlib.Core.Path.{◌≡◌, sym, ◌∙◌, ap}
use lib.ListN.{set, replicate}
use Rattle.std.specs.Prelude.{Ok}
use Rattle.sets.specs.declared.Set.{Set}
use Rattle.sets.specs.Words.{capacity, row_words, bits_of, set_of, sets_in, words_of, no_states}
use Rattle.sets.proofs.Rows.{bits_of_lem, no_states_lem, words_none}
use Rattle.text_grammar.specs.Format.{Run, run, bind}
use Rattle.text_grammar.specs.Format.Run.{got, fault}
use Rattle.text_grammar.proofs.Format.{run_got, run_done}
use Rattle.game.specs.declared.Graph.{Graph}
use Rattle.game.specs.declared.Requirement.{Requirement}
use Rattle.text_shape.specs.Text.{PlainGraph, plain, record_of, empty_requirement}
use Rattle.text_shape.specs.Shape.{
  mark,
  store,
  Header,
  header_format,
  StateRow,
  state_format,
  states_format,
  empty_graph,
  requirement_format,
  requirements_format,
  output_format,
  game_format,
}
use Rattle.text_lines.specs.Lines.{counts_of, header_of, row_of, state_of}
use Rattle.text_lines.specs.declared.Header.{Header as HeaderScan}
use Rattle.text_lines.specs.declared.Row.{Row}
use Rattle.text_scan.specs.Scan.{graph_of}
use Rattle.text_pieces.specs.declared.Found.{Found}
use Rattle.text_pieces.proofs.Outcomes.{found_got, got_found}
use Rattle.text_pieces.proofs.Steps.{bind_got, bind_fault}
use Rattle.text_shape.proofs.LineTexts.{header_sound}
use Rattle.text_shape.proofs.Shape.{plain_record}

-- the record of a graph without states
pub empty_record : record_of (empty_graph 0) ≡ record { states = 0; initial = no_states; moves = replicate row_words 0 }
unfolding record_of empty_graph
empty_record = λ i. record { states = 0; initial = no_states_lem i; moves = sym words_none i }

-- a state that is read
pub moves_state : (x : Run StateRow) {n : Found Row} → Ok n ≡ state_of x → x ≡ got (record { initial = n.value.initial; moves = bits_of n.value.moves }) n.end
moves_state x {n} h =
    let g = got_found row_of x h in
    let flag : g.0.initial ≡ n.value.initial = ap (λ (y : Row). y.initial) g.2 in
    let bits : g.0.moves ≡ bits_of n.value.moves = sym (bits_of_lem g.0.moves) ∙ ap (λ (y : Row). bits_of y.moves) g.2 in
    g.1 ∙ (λ i. got (record { initial = flag i; moves = bits i }) n.end)

-- a graph with the numbers of its sets
pub graph_got : {x : Run PlainGraph} {n : ℕ} {m : Set} {ms : List ℕ} {j : ℕ} → set_of (bits_of m) ≡ m → words_of (sets_in ms) ≡ ms
    → x ≡ got (record { states = n; initial = bits_of m; moves = sets_in ms }) j
    → Ok (record { value = record { states = n; initial = m; moves = ms }; end = j }) ≡ graph_of x
unfolding record_of
graph_got {n = n} {j = j} p q e =
    (λ i. Ok (record { value = record { states = n; initial = sym p i; moves = sym q i }; end = j })) ∙ found_got record_of e

-- a graph that is read: its lines, and that it is the record of the numbers of its sets
pub got_graph : (x : Run PlainGraph) {r : Found Graph} → Ok r ≡ graph_of x
    → (x ≡ got (plain r.value) r.end) × (record_of (plain r.value) ≡ r.value)
got_graph x {r} h =
    let g = got_found record_of x h in
    let numbers : g.0 ≡ plain r.value = sym (plain_record g.0) ∙ ap plain g.2 in
    (g.1 ∙ ap (λ (y : PlainGraph). got y r.end) numbers, ap record_of (sym numbers) ∙ g.2)

-- one state
module _ (x : Run PlainGraph) (v n t m : ℕ) (ms : List ℕ) (w : ℕ → ℕ) (at : ℕ)
    (e : x ≡ run (states_format v (n - t) t (record { states = n; initial = m; moves = ms })) w at) where
  states_open : t < n → x ≡ run (bind (state_format v t) (λ q. states_format v (n - t - 1) (suc t)
      (store (record { states = n; initial = m; moves = ms }) t q))) w at
  unfolding states_format
  states_open l = go (n - t) (omega arith) e
    where
      less : (k : ℕ) → k ≡ suc k - 1
      less k = omega arith

      go : (k : ℕ) → 0 < k → x ≡ run (states_format v k t (record { states = n; initial = m; moves = ms })) w at
          → x ≡ run (bind (state_format v t) (λ q. states_format v (k - 1) (suc t) (store (record { states = n; initial = m; moves = ms }) t q))) w at
      go zero p f = absurd (omega arith)
      go (suc k) p f = f ∙ ap (λ (i : ℕ). run (bind (state_format v t)
          (λ q. states_format v i (suc t) (store (record { states = n; initial = m; moves = ms }) t q))) w at) (less k)

  pub states_fault : t < n → (p : ℕ) → run (state_format v t) w at ≡ fault p → x ≡ fault p
  states_fault l p f = states_open l ∙ bind_fault (state_format v t) _ w at p f

  pub states_turn : t < n → (f y j m' : ℕ) (ms' : List ℕ) → run (state_format v t) w at ≡ got (record { initial = f; moves = y }) j → m' ≡ mark m t f
      → ms' ≡ set ms t y
      → x ≡ run (states_format v (n - (t + 1)) (t + 1) (record { states = n; initial = m'; moves = ms' })) w j
  unfolding store
  states_turn l f y j m' ms' g h k =
      let fewer : n - t - 1 ≡ n - (t + 1) = omega arith in
      states_open l ∙ bind_got (state_format v t) _ w at (record { initial = f; moves = y }) j g
      ∙ ap (λ (i : ℕ). run (states_format v i (suc t) (record { states = n; initial = mark m t f; moves = set ms t y })) w j) fewer
      ∙ ap (λ (i : ℕ). run (states_format v (n - (t + 1)) i (record { states = n; initial = mark m t f; moves = set ms t y })) w j) (sym (add-one t))
      ∙ (λ i. run (states_format v (n - (t + 1)) (t + 1) (record { states = n; initial = sym h i; moves = sym k i })) w j)

  pub states_end : n ≤ t → x ≡ got (record { states = n; initial = m; moves = ms }) at
  unfolding states_format
  states_end l = go (n - t) (omega arith) e
    where
      go : (k : ℕ) → k ≡ 0 → x ≡ run (states_format v k t (record { states = n; initial = m; moves = ms })) w at
          → x ≡ got (record { states = n; initial = m; moves = ms }) at
      go zero z f = f ∙ run_done _ w at
      go (suc k) z f = absurd (omega arith)

pub states_begin : (v n m : ℕ) (ms : List ℕ) (w : ℕ → ℕ) (i : ℕ) → m ≡ 0 → ms ≡ replicate capacity 0
    → run (states_format v n 0 (empty_graph n)) w i ≡ run (states_format v (n - 0) 0 (record { states = n; initial = m; moves = ms })) w i
unfolding empty_graph
states_begin v n m ms w i o h =
    let all : n ≡ n - 0 = omega arith in
    ap (λ (k : ℕ). run (states_format v k 0 (record { states = n; initial = 0; moves = replicate capacity 0 })) w i) all
    ∙ (λ k. run (states_format v (n - 0) 0 (record { states = n; initial = sym o k; moves = sym h k })) w i)

-- one requirement
module _ (x : Run (List Requirement)) (n t : ℕ) (qs : List Requirement) (w : ℕ → ℕ) (at : ℕ) (e : x ≡ run (requirements_format (n - t) t qs) w at) where
  requirements_open : t < n → x ≡ run (bind requirement_format (λ q. requirements_format (n - t - 1) (suc t) (set qs t q))) w at
  unfolding requirements_format
  requirements_open l = go (n - t) (omega arith) e
    where
      less : (k : ℕ) → k ≡ suc k - 1
      less k = omega arith

      go : (k : ℕ) → 0 < k → x ≡ run (requirements_format k t qs) w at
          → x ≡ run (bind requirement_format (λ q. requirements_format (k - 1) (suc t) (set qs t q))) w at
      go zero p f = absurd (omega arith)
      go (suc k) p f = f ∙ ap (λ (i : ℕ). run (bind requirement_format (λ q. requirements_format i (suc t) (set qs t q))) w at) (less k)

  pub requirements_bad : t < n → (p : ℕ) → run requirement_format w at ≡ fault p → x ≡ fault p
  requirements_bad l p f = requirements_open l ∙ bind_fault requirement_format _ w at p f

  pub requirements_turn : t < n → (q : Requirement) (j : ℕ) → run requirement_format w at ≡ got q j
      → x ≡ run (requirements_format (n - (t + 1)) (t + 1) (set qs t q)) w j
  requirements_turn l q j g =
      let fewer : n - t - 1 ≡ n - (t + 1) = omega arith in
      requirements_open l ∙ bind_got requirement_format _ w at q j g
      ∙ ap (λ (i : ℕ). run (requirements_format i (suc t) (set qs t q)) w j) fewer
      ∙ ap (λ (i : ℕ). run (requirements_format (n - (t + 1)) i (set qs t q)) w j) (sym (add-one t))

  pub requirements_end : n ≤ t → x ≡ got qs at
  unfolding requirements_format
  requirements_end l = go (n - t) (omega arith) e
    where
      go : (k : ℕ) → k ≡ 0 → x ≡ run (requirements_format k t qs) w at → x ≡ got qs at
      go zero z f = f ∙ run_done qs w at
      go (suc k) z f = absurd (omega arith)

pub requirements_begin : (n : ℕ) (qs : List Requirement) (w : ℕ → ℕ) (i : ℕ) → qs ≡ replicate 8 empty_requirement
    → run (requirements_format n 0 (replicate 8 empty_requirement)) w i ≡ run (requirements_format (n - 0) 0 qs) w i
requirements_begin n qs w i h =
    let all : n ≡ n - 0 = omega arith in
    ap (λ (k : ℕ). run (requirements_format k 0 (replicate 8 empty_requirement)) w i) all ∙ ap
    (λ (l : List Requirement). run (requirements_format (n - 0) 0 l) w i) (sym h)

-- the whole text
pub counts_header : (x : Run Header) {n : Found HeaderScan} → Ok n ≡ header_of x
    → x ≡ got (record { inputs = n.value.inputs; outputs = n.value.outputs; k = n.value.k }) n.end
counts_header x {n} h =
    let g = got_found counts_of x h in
    g.1 ∙ ap (λ (y : HeaderScan). got (record { inputs = y.inputs; outputs = y.outputs; k = y.k }) n.end) g.2

pub header_range : (w : ℕ → ℕ) (i a o k j : ℕ) → run header_format w i ≡ got (record { inputs = a; outputs = o; k = k }) j
    → (a ≤ capacity) × (o ≤ capacity) × (k ≤ 8)
header_range w i a o k j h =
    let F = run_got header_format w i h in
    let H = header_sound F.text (record { inputs = a; outputs = o; k = k }) F.is_text in
    (H.most_inputs, H.most_outputs, H.most_k)

module _ (a : Graph) (o k : ℕ) (w : ℕ → ℕ) (i : ℕ) where
  pub output_none : (p : ℕ) → run (states_format 2 o 0 (empty_graph o)) w i ≡ fault p → run (output_format a o k) w i ≡ fault p
  unfolding output_format
  output_none p e = bind_fault (states_format 2 o 0 (empty_graph o)) _ w i p e

  module _ (b : PlainGraph) (j : ℕ) (e : run (states_format 2 o 0 (empty_graph o)) w i ≡ got b j) where
    pub output_bad : (p : ℕ) → run (requirements_format k 0 (replicate 8 empty_requirement)) w j ≡ fault p → run (output_format a o k) w i ≡ fault p
    unfolding output_format
    output_bad p f = bind_got (states_format 2 o 0 (empty_graph o)) _ w i b j e ∙ bind_fault (requirements_format k 0 (replicate 8 empty_requirement)) _ w j p f

    pub output_got : (h : Graph) → record_of b ≡ h → (qs : List Requirement) (m : ℕ)
        → run (requirements_format k 0 (replicate 8 empty_requirement)) w j ≡ got qs m
        → run (output_format a o k) w i ≡ got (record { input = a; output = h; k = k; requirements = qs }) m
    unfolding output_format
    output_got h r qs m f =
        bind_got (states_format 2 o 0 (empty_graph o)) _ w i b j e ∙ bind_got (requirements_format k 0 (replicate 8 empty_requirement)) _ w j qs m f
        ∙ run_done (record { input = a; output = record_of b; k = k; requirements = qs }) w m
        ∙ ap (λ (y : Graph). got (record { input = a; output = y; k = k; requirements = qs }) m) r

module _ (w : ℕ → ℕ) (i : ℕ) where
  pub game_no_header : (p : ℕ) → run header_format w i ≡ fault p → run game_format w i ≡ fault p
  unfolding game_format
  game_no_header p e = bind_fault header_format _ w i p e

  module _ (a o k j : ℕ) (e : run header_format w i ≡ got (record { inputs = a; outputs = o; k = k }) j) where
    pub game_no_input : (p : ℕ) → run (states_format 1 a 0 (empty_graph a)) w j ≡ fault p → run game_format w i ≡ fault p
    unfolding game_format
    game_no_input p f =
        bind_got header_format _ w i (record { inputs = a; outputs = o; k = k }) j e ∙ bind_fault (states_format 1 a 0 (empty_graph a)) _ w j p f

    pub game_on_lem : (b : PlainGraph) (m : ℕ) (h : Graph) → run (states_format 1 a 0 (empty_graph a)) w j ≡ got b m → record_of b ≡ h
        → run game_format w i ≡ run (output_format h o k) w m
    unfolding game_format
    game_on_lem b m h f r =
        bind_got header_format _ w i (record { inputs = a; outputs = o; k = k }) j e ∙ bind_got (states_format 1 a 0 (empty_graph a)) _ w j b m f
        ∙ ap (λ (y : Graph). run (output_format y o k) w m) r
