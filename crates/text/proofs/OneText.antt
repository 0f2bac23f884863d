-- One text for each game: the laws that specs/OneText.antt states.
use Prim.Native.Nat.{ℕ, suc, ◌≤◌, ◌<◌}
use native.Mathlib.Omega.{arith}
use mathlib.Core.Bool.{true}
use mathlib.Core.List.{List, [], ◌∷◌}
use mathlib.Core.Path.{◌≡◌, refl, sym, ◌∙◌, ap, subst}
use lib.Dec.{ltb, leb}
use lib.ListN.{length, get_or, replicate, length-map, get_or-eq_default}
use lib.Seq.{ext_get_or}
use borrow.Author.Tests.{ltb-true, ltb-false, leb-true, leb-false}
use Rattle.sets.specs.declared.Set.{Set}
use Rattle.sets.specs.Words.{capacity, bits_of, set_of, sets_in, WordsFit, no_states}
use Rattle.sets.proofs.Rows.{no_states_lem, set_is, sets_all, words_sets}
use Rattle.bits.specs.Member.{has, within}
use Rattle.bits.proofs.Membership.{has_within, zero_within}
use Rattle.text_grammar.specs.Format.{Run}
use Rattle.text_grammar.specs.Format.Run.{got, fault}
use Rattle.text_grammar.specs.Place.{reading}
use Rattle.text_grammar.proofs.Format.{by_cases}
use Rattle.finite.proofs.Lists.{any_default}
use Rattle.text_grammar.proofs.Place.{one_value, read_got, read_fault_none}
use Rattle.game.specs.Access.{no_input, no_output, no_requirement, requirement_at}
use Rattle.game.specs.Acceptance.{accepted, acceptance}
use Rattle.game.specs.declared.InSet.{InSet}
use Rattle.game.specs.declared.OutSet.{OutSet}
use Rattle.game.specs.declared.Graph.{Graph}
use Rattle.game.specs.declared.Requirement.{Requirement}
use Rattle.game.specs.declared.Game.{Game}
use Rattle.game.specs.Acceptance.{Acceptance}
use Rattle.game.proofs.Laws.{GraphFits, RequirementFits, accepted_fits}
use Rattle.text_shape.specs.Text.{plain, record_of, game_text, in_words, out_words, in_sets, out_sets}
use Rattle.text_shape.specs.Text.{ShapedGraph, ShapedSets, ShapedRequirement, Shaped, empty_requirement}
use Rattle.text_shape.specs.Shape.{game_format}
use Rattle.text_shape.proofs.Graphs.{empty_shaped}
use Rattle.text_shape.proofs.Shape.{game_sound, game_complete, game_live}
use Rattle.text_put.proofs.Pieces.{in_word, out_word}
use Rattle.text.specs.Read.{Reads, judged_by, judged}
use Rattle.text.specs.OneText.{IsText, OneText}
use Rattle.text.specs.declared.Unread.{Unread}
use Rattle.text.specs.Reading.{Reading}
use Rattle.text.proofs.Reader.{text_of, judged_as, judged_accepted}
use Rattle.text.proofs.Arrays.{GraphArrays, RequirementArrays, Arrays}
use Rattle.std.specs.declared.result.Result.TheVariants.{Ok, Err}

-- two games within the shape's limits with one text are one game

one_game : (g h : Game) → Shaped g → Shaped h → game_text g ≡ game_text h → g ≡ h
one_game g h S T e = one_value game_format (game_text g) g h (game_complete g S) (text_of (game_text g) h T e)

-- an accepted game is within the shape's limits
graph_shaped : (g : Graph) → GraphFits g → GraphArrays g → ShapedGraph g
unfolding plain record_of
graph_shaped g F A =
    let most = F.most in
    let l = A.rows in
    record {
      limits = record {
        some = F.some;
        most = F.most;
        initial = has_within (bits_of g.initial) g.states F.initial_below;
        rows = sets_all g.moves l;
        row = λ s. by_cases (ltb s g.states)
            (λ b. has_within (get_or (sets_in g.moves) s 0) capacity (λ j h. let m = F.row_below s j (ltb-true s g.states b) h in omega arith))
            (λ b. ap (λ (x : ℕ). within x capacity) (past s (ltb-false s g.states b)) ∙ zero_within capacity);
        unused = past;
      };
      words = λ i. record { states = g.states; initial = set_is g.initial A.initial.0 i; moves = words_sets g.moves l A.words i };
    }
  where
    past : (s : ℕ) → g.states ≤ s → get_or (sets_in g.moves) s 0 ≡ 0
    past s h =
        by_cases (ltb s capacity)
        (λ b. F.row_past s h (ltb-true s capacity b))
        (λ b. let m = ltb-false s capacity b in get_or-eq_default (sets_in g.moves) 0 (omega (arith, sets_all g.moves A.rows)))

sets_shaped : (n a : ℕ) (ws : List ℕ) → a ≤ capacity → n ≤ 4 → length ws ≡ 4 → ((j s : ℕ) → j < n → has (get_or ws j 0) s ≡ true → s < a)
    → ((j : ℕ) → n ≤ j → j < 4 → get_or ws j 0 ≡ 0) → ShapedSets n ws
sets_shaped n a ws m h l below past =
    record {
      most = h;
      all = l;
      each = λ j. by_cases (ltb j n)
          (λ b. has_within (get_or ws j 0) capacity (λ s t. let q = below j s (ltb-true j n b) t in omega arith))
          (λ b. ap (λ (x : ℕ). within x capacity) (rest j (ltb-false j n b)) ∙ zero_within capacity);
      unused = rest;
    }
  where
    rest : (j : ℕ) → n ≤ j → get_or ws j 0 ≡ 0
    rest j h =
        by_cases (ltb j 4)
        (λ b. past j h (ltb-true j 4 b))
        (λ b. let q = ltb-false j 4 b in get_or-eq_default ws 0 (omega arith))

in_all : (xs : List InSet) → ((j : ℕ) → WordsFit (get_or xs j no_input).0) → in_sets (in_words xs) ≡ xs
in_all [] h = refl
in_all (x ∷ xs) h = λ i. record { 0 = set_is x.0 (h 0).0 i } ∷ in_all xs (λ j. h (suc j)) i

out_all : (xs : List OutSet) → ((j : ℕ) → WordsFit (get_or xs j no_output).0) → out_sets (out_words xs) ≡ xs
out_all [] h = refl
out_all (x ∷ xs) h = λ i. record { 0 = set_is x.0 (h 0).0 i } ∷ out_all xs (λ j. h (suc j)) i

no_set : (x : Set) → WordsFit x → bits_of x ≡ 0 → x ≡ no_states
no_set x w h = sym (set_is x w.0) ∙ ap set_of h ∙ no_states_lem

requirement_shaped : (q : Requirement) (a b : ℕ) → a ≤ capacity → b ≤ capacity → RequirementFits q a b → RequirementArrays q → ShapedRequirement q
requirement_shaped q a b la lb F W =
    record {
      assumptions =
          sets_shaped q.assumed a (in_words q.assumptions) la F.few_assumed (length-map q.assumptions (λ (x : InSet). bits_of x.0) ∙ W.assumptions)
          (λ j s l h. F.assumption_below j s l (ap (λ (x : ℕ). has x s) (in_word q.assumptions j) ∙ h))
          (λ j l h. sym (in_word q.assumptions j) ∙ F.assumption_past j l h);
      guarantees =
          sets_shaped q.guaranteed b (out_words q.guarantees) lb F.few_guaranteed
          (length-map q.guarantees (λ (x : OutSet). bits_of x.0) ∙ W.guarantees)
          (λ j s l h. F.guarantee_below j s l (ap (λ (x : ℕ). has x s) (out_word q.guarantees j) ∙ h))
          (λ j l h. sym (out_word q.guarantees j) ∙ F.guarantee_past j l h);
      in_words_lem = in_all q.assumptions W.in_sets_lem;
      out_words_lem = out_all q.guarantees W.out_sets_lem;
    }

-- a requirement without sets
unused_empty : (q : Requirement) (a b : ℕ) → RequirementFits q a b → RequirementArrays q → q.assumed ≡ 0 → q.guaranteed ≡ 0 → q ≡ empty_requirement
unfolding empty_requirement
unused_empty q a b F W e f =
    let m = W.assumptions in
    let n = W.guarantees in
    let ins : q.assumptions ≡ replicate 4 no_input =
    ext_get_or no_input q.assumptions (replicate 4 no_input) m
    (λ j l. no_input_lem (get_or q.assumptions j no_input) (W.in_sets_lem j) (F.assumption_past j (omega arith) (omega arith))
    ∙ sym (four_ins j (omega arith))) in
    let outs : q.guarantees ≡ replicate 4 no_output =
    ext_get_or no_output q.guarantees (replicate 4 no_output) n
    (λ j l. no_output_lem (get_or q.guarantees j no_output) (W.out_sets_lem j) (F.guarantee_past j (omega arith) (omega arith))
    ∙ sym (four_outs j (omega arith))) in
    λ i. record { assumptions = ins i; assumed = e i; guarantees = outs i; guaranteed = f i }
  where
    no_input_lem : (x : InSet) → WordsFit x.0 → bits_of x.0 ≡ 0 → x ≡ no_input
    no_input_lem x w h = λ i. record { 0 = no_set x.0 w h i }

    no_output_lem : (x : OutSet) → WordsFit x.0 → bits_of x.0 ≡ 0 → x ≡ no_output
    no_output_lem x w h = λ i. record { 0 = no_set x.0 w h i }

    four_ins : (j : ℕ) → j < 4 → get_or (replicate 4 no_input) j no_input ≡ no_input
    four_ins j h = lib.ListN.get_or-replicate 4 j no_input no_input h

    four_outs : (j : ℕ) → j < 4 → get_or (replicate 4 no_output) j no_output ≡ no_output
    four_outs j h = lib.ListN.get_or-replicate 4 j no_output no_output h

pub accepted_shaped : (g : Game) → acceptance g ≡ accepted → Arrays g → Shaped g
accepted_shaped g h A =
    let F = accepted_fits g h in
    record {
      input = graph_shaped g.input F.input A.input;
      output = graph_shaped g.output F.output A.output;
      most = F.few;
      all = A.requirements;
      requirement = λ r. by_cases (ltb r 8)
          (λ b. let l = ltb-true r 8 b in
          rw (same r l) (requirement_shaped (requirement_at g r) g.input.states g.output.states F.input.most F.output.most
          (F.requirement r l) (A.requirement r l)))
          (λ b. rw (past r (ltb-false r 8 b)) empty_shaped);
      unused = λ r u. by_cases (ltb r 8)
          (λ b. let l = ltb-true r 8 b in
          same r l
          ∙ unused_empty (requirement_at g r) g.input.states g.output.states (F.requirement r l) (A.requirement r l)
          (F.unused r u l).0 (F.unused r u l).1)
          (λ b. past r (ltb-false r 8 b));
    }
  where
    same : (r : ℕ) → r < 8 → get_or g.requirements r empty_requirement ≡ requirement_at g r
    same r l = let m = A.requirements in any_default g.requirements r empty_requirement no_requirement (omega arith)

    past : (r : ℕ) → 8 ≤ r → get_or g.requirements r empty_requirement ≡ empty_requirement
    past r l = let m = A.requirements in get_or-eq_default g.requirements empty_requirement (omega arith)

-- the text of an accepted game that a file can hold is read as that game
pub read_written : (g : Game) (r : Reading) → acceptance g ≡ accepted → Shaped g → length (game_text g) ≤ 40960 → Reads (game_text g) r → r ≡ Ok g
read_written g r h S l R = R.text l g S refl ∙ judged_accepted g h

-- a game is no refusal
is_read : {A : Type 0} {g : Game} {u : Unread} → ◌≡◌ {A = Reading} (Ok g) (Err u) → A
is_read h = let z : ◌≡◌ {A = ℕ} 0 1 = cc in absurd (omega arith)

-- what is read as a game is that game's text, byte for byte
judged_read : (s : List ℕ) (g h : Game) (a : Acceptance) → acceptance h ≡ a → Shaped h → s ≡ game_text h → Ok g ≡ judged h → IsText s g
unfolding judged_by
judged_read s g h (Ok u) e S t f =
    let read : Ok g ≡ Ok h = f ∙ judged_accepted h e in
    let same : h ≡ g = cc in
    subst (IsText s) same (record { accepted = e; shaped = S; text = t })
judged_read s g h (Err r) e S t f = is_read (f ∙ judged_as h e)

pub written_read : (s : List ℕ) (g : Game) → Reads s (Ok g) → IsText s g
written_read s g R =
    by_cases (leb (length s) 40960)
    (λ b. short (leb-true (length s) 40960 b) (reading game_format s) refl)
    (λ b. is_read (R.long (leb-false (length s) 40960 b)))
  where
    short : length s ≤ 40960 → (x : Run Game) → reading game_format s ≡ x → IsText s g
    short l (got h j) e =
        let q = game_sound s h (read_got game_format game_live s e) in
        judged_read s g h (acceptance h) refl q.0 q.1 (R.text l h q.0 q.1)
    short l (fault p) e = is_read (R.place l (λ h S t. read_fault_none game_format game_live s e h (text_of s h S t))).2

pub one_text_holds : OneText
one_text_holds = record {
  one_game = one_game;
  read_back = read_written;
  too_long = λ g r h l R. R.long l;
  only_texts = written_read;
  one_text = λ s t g Q R. (written_read s g Q).text ∙ sym (written_read t g R).text;
}
