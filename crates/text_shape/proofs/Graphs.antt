-- The lines of a graph's states, and those of the requirements.
use Prim.Native.Nat.{ℕ, zero, suc, ◌+◌, ◌≤◌, ◌<◌}
use native.Mathlib.Omega.{arith}
use mathlib.Core.Bool.{Bool, true, false}
use mathlib.Core.List.{List, [], ◌++◌}
use mathlib.Core.Path.{◌≡◌, refl, sym, ◌∙◌, ap, subst}
use lib.Arith.{lt_of_le-ne}
use lib.Dec.{eqb, leb}
use lib.ListN.{length, get_or, set, length-set, replicate, length-replicate}
use borrow.Author.Tests.{eqb-true, eqb-false, eq-eqb, ne_eqb, leb-true, leb-false}
use Rattle.finite.proofs.Bounded.{one_le}
use Rattle.finite.specs.Bounded.{one}
use Rattle.finite.proofs.Truth.{false_of, clash}
use Rattle.bits.specs.Member.{has, within}
use Rattle.bits.proofs.Membership.{has_zero_lem, ext, zero_within, within_has, has_within}
use Rattle.sets.specs.Words.{capacity, no_states}
use Rattle.sets.proofs.Rows.{no_bits, no_states_lem}
use Rattle.text_grammar.specs.Format.{Format, TextOf, Live, Bytes}
use Rattle.text_grammar.specs.Format.Format.{done}
use Rattle.text_grammar.proofs.Format.{by_cases, bind_text, bind_parts, bind_live, done_text, done_parts, done_live}
use Rattle.game.specs.declared.Requirement.{Requirement}
use Rattle.text_shape.specs.Text.{
  PlainGraph,
  in_words,
  out_words,
  in_sets,
  out_sets,
  state_line,
  state_lines,
  requirement_line,
  requirement_lines,
  ShapedPlain,
  ShapedSets,
  ShapedRequirement,
  empty_requirement,
}
use Rattle.text_shape.specs.Shape.{opening, insert, StateRow, state_format, mark, store, states_format, empty_graph, requirement_format, requirements_format}
use Rattle.text_shape.proofs.Members.{insert_same, insert_other}
use Rattle.text_shape.proofs.Fill.{Upto, Blank, blank_replicate, blank_step, fill_none, fill_step, fill_back, fill_end}
use Rattle.text_shape.proofs.LineTexts.{StateParts, state_sound, state_complete, state_live, requirement_sound, requirement_complete, requirement_live}

-- one initial state
pub mark_on : (x s f : ℕ) → f ≡ 1 → mark x s f ≡ insert x s
unfolding mark
mark_on x s f h = rw (eq-eqb f 1 h, mark)

pub mark_off : (x s f : ℕ) → (f ≡ 1 → ⊥) → mark x s f ≡ x
unfolding mark
mark_off x s f h = rw (ne_eqb f 1 h, mark)

mark_other : (x s f i : ℕ) → (i ≡ s → ⊥) → has (mark x s f) i ≡ has x i
mark_other x s f i h =
    by_cases (eqb f 1)
    (λ b. rw (mark_on x s f (eqb-true f 1 b)) (insert_other x s i h))
    (λ b. rw (mark_off x s f (eqb-false f 1 b)))

mark_same : (x s f : ℕ) → f ≤ 1 → has x s ≡ false → one (has (mark x s f) s) ≡ f
unfolding one
mark_same x s f l h =
    by_cases (eqb f 1)
    (λ b. rw (mark_on x s f (eqb-true f 1 b), insert_same x s) (sym (eqb-true f 1 b)))
    (λ b. let ne = eqb-false f 1 b in rw (mark_off x s f ne, h) (zero_of ne))
  where
    zero_of : (f ≡ 1 → ⊥) → 0 ≡ f
    zero_of ne = let less : f < 1 = lt_of_le-ne l ne in omega arith

-- a graph under way: the states below s are stored
record OpenGraph (s : ℕ) (h : PlainGraph) : Type 0 where
  cells : length h.moves ≡ capacity
  blank : Blank 0 s h.moves
  fresh : (i : ℕ) → s ≤ i → has h.initial i ≡ false

open_store : (s : ℕ) (h : PlainGraph) (q : StateRow) → OpenGraph s h → OpenGraph (suc s) (store h s q)
unfolding store
open_store s h q O =
    record {
      cells = length-set h.moves s q.moves ∙ O.cells;
      blank = blank_step 0 s h.moves q.moves O.blank;
      fresh = λ i l. mark_other h.initial s q.initial i (λ (e : i ≡ s). omega arith) ∙ O.fresh i (omega arith);
    }

-- g is h with n more states, whose lines are t
record Grown (w n s : ℕ) (h : PlainGraph) (t : List ℕ) (g : PlainGraph) : Type 0 where
  count : g.states ≡ h.states
  fill : Upto 0 s h.moves g.moves
  initial : (i : ℕ) → i < s → has g.initial i ≡ has h.initial i
  blank : Blank 0 (s + n) g.moves
  fresh : (i : ℕ) → s + n ≤ i → has g.initial i ≡ false
  rows : (i : ℕ) → s ≤ i → within (get_or g.moves i 0) capacity ≡ true
  text : t ≡ state_lines w n s g

grown_none : (w s : ℕ) (h : PlainGraph) → OpenGraph s h → Grown w 0 s h [] h
unfolding state_lines
grown_none w s h O =
    record {
      count = refl;
      fill = record { same_length = refl; below = λ i l. refl };
      initial = λ i l. refl;
      blank = λ i l. O.blank i (omega arith);
      fresh = λ i l. O.fresh i (omega arith);
      rows = λ i l. ap (λ (x : ℕ). within x capacity) (O.blank i l) ∙ zero_within capacity;
      text = refl;
    }

grown_step : (w n s : ℕ) (h : PlainGraph) (q : StateRow) (t u : List ℕ) (g : PlainGraph) → s < capacity → OpenGraph s h → StateParts w s t q
    → Grown w n (suc s) (store h s q) u g
    → Grown w (suc n) s h (t ++ u) g
unfolding store state_lines
grown_step w n s h q t u g l O S G =
    let c = O.cells in
    let back = fill_back 0 s h.moves g.moves q.moves (omega arith) G.fill in
    let flag : one (has g.initial s) ≡ q.initial =
    ap one (G.initial s (omega arith)) ∙ mark_same h.initial s q.initial S.flag (O.fresh s (omega arith)) in
    record {
      count = G.count;
      fill = back.0;
      initial = λ i m. G.initial i (omega arith) ∙ mark_other h.initial s q.initial i (λ (e : i ≡ s). omega arith);
      blank = λ i m. G.blank i (omega arith);
      fresh = λ i m. G.fresh i (omega arith);
      rows = λ i m. by_cases (eqb i s)
          (λ b. ap (λ (j : ℕ). within (get_or g.moves j 0) capacity) (eqb-true i s b) ∙ ap (λ (x : ℕ). within x capacity) back.1 ∙ S.moves)
          (λ b. let ne = eqb-false i s b in G.rows i (lt_of_le-ne m (λ e. ne (sym e))));
      text =
          ap (λ (l : List ℕ). l ++ u) S.text ∙ ap (λ (l : List ℕ). state_line w s q.initial q.moves ++ l) G.text
          ∙ sym (ap (λ (f : ℕ). state_line w s f (get_or g.moves s 0) ++ state_lines w n (suc s) g) flag
          ∙ ap (λ (x : ℕ). state_line w s q.initial x ++ state_lines w n (suc s) g) back.1);
    }

states_sound : (w n s : ℕ) (h : PlainGraph) (t : List ℕ) (g : PlainGraph) → s + n ≤ capacity → OpenGraph s h
    → TextOf (states_format w n s h) t g → Grown w n s h t g
unfolding states_format
states_sound w zero s h t g l O p =
    let d = done_parts h t g p in
    subst (λ (x : PlainGraph). Grown w 0 s h t x) (sym d.1) (subst (λ (x : List ℕ). Grown w 0 s h x h) (sym d.0) (grown_none w s h O))
states_sound w (suc n) s h t g l O p =
    let P = bind_parts (state_format w s) (λ q. states_format w n (suc s) (store h s q)) t g p in
    let S = state_sound w s P.front P.value P.is_front in
    let G = states_sound w n (suc s) (store h s P.value) P.back g (omega arith) (open_store s h P.value O) P.is_back in
    subst (λ (x : List ℕ). Grown w (suc n) s h x g) (sym P.whole) (grown_step w n s h P.value P.front P.back g (omega arith) O S G)

empty_open : (n : ℕ) → OpenGraph 0 (empty_graph n)
unfolding empty_graph
empty_open n = record { cells = refl; blank = blank_replicate 0 0 capacity; fresh = λ i l. has_zero_lem i }

pub graph_sound : (w n : ℕ) (t : List ℕ) (g : PlainGraph) → 1 ≤ n → n ≤ capacity → TextOf (states_format w n 0 (empty_graph n)) t g
    → ShapedPlain g × (g.states ≡ n) × (t ≡ state_lines w n 0 g)
unfolding empty_graph
graph_sound w n t g p q h =
    let G = states_sound w n 0 (empty_graph n) t g (omega arith) (empty_open n) h in
    let c : g.states ≡ n = G.count in (
      record {
        some = omega arith;
        most = omega arith;
        initial = has_within g.initial g.states (λ s e. by_cases (leb n s)
            (λ b. clash e (G.fresh s (let l = leb-true n s b in omega arith)))
            (λ b. let l = leb-false n s b in omega arith));
        rows = sym G.fill.same_length ∙ refl;
        row = λ s. G.rows s (omega arith);
        unused = λ s l. G.blank s (omega arith);
      },
      c,
      G.text,
    )

-- what is left of g behind h
record GraphRest (s : ℕ) (h g : PlainGraph) : Type 0 where
  count : h.states ≡ g.states
  fill : Upto 0 s h.moves g.moves
  initial : (i : ℕ) → i < s → has h.initial i ≡ has g.initial i

-- the line of state s of g
row_of : PlainGraph → ℕ → StateRow
row_of g s = record { initial = one (has g.initial s); moves = get_or g.moves s 0 }

mark_one : (x s i : ℕ) (b : Bool) → i ≡ s → has x i ≡ false → has (mark x s (one b)) i ≡ b
unfolding one
mark_one x s i true e h = ap (λ (y : ℕ). has y i) (mark_on x s 1 refl) ∙ ap (has (insert x s)) e ∙ insert_same x s
mark_one x s i false e h = ap (λ (y : ℕ). has y i) (mark_off x s 0 (λ (z : 0 ≡ 1). omega arith)) ∙ h

rest_store : (s : ℕ) (h g : PlainGraph) → s < capacity → OpenGraph s h → GraphRest s h g → GraphRest (suc s) (store h s (row_of g s)) g
unfolding store row_of
rest_store s h g l O R =
    let c = O.cells in
    record {
      count = R.count;
      fill = fill_step 0 s h.moves g.moves (get_or g.moves s 0) (omega arith) refl R.fill;
      initial = λ i m. by_cases (eqb i s)
          (λ b. let e = eqb-true i s b in mark_one h.initial s i (has g.initial s) e (O.fresh i (omega arith)) ∙ ap (has g.initial) (sym e))
          (λ b. let ne = eqb-false i s b in mark_other h.initial s (one (has g.initial s)) i ne ∙ R.initial i (lt_of_le-ne (omega arith) ne));
    }

graph_end : (s : ℕ) (h g : PlainGraph) → s ≡ g.states → OpenGraph s h → ShapedPlain g → GraphRest s h g → h ≡ g
graph_end s h g e O S R =
    let starts : h.initial ≡ g.initial =
    ext h.initial g.initial (λ i. by_cases (leb s i)
    (λ b. let l = leb-true s i b in
    O.fresh i l ∙ sym (false_of (has g.initial i) (λ t. let m = within_has g.initial g.states i S.initial t in absurd (omega arith))))
    (λ b. R.initial i (leb-false s i b))) in
    let moves = fill_end 0 s h.moves g.moves R.fill O.blank (λ i l. S.unused i (omega arith)) in
    λ i. record { states = R.count i; initial = starts i; moves = moves i }

states_complete : (w n s : ℕ) (h g : PlainGraph) → s + n ≡ g.states → OpenGraph s h → ShapedPlain g → GraphRest s h g
    → TextOf (states_format w n s h) (state_lines w n s g) g
unfolding states_format state_lines row_of
states_complete w zero s h g e O S R = subst (λ (x : PlainGraph). TextOf (done h) [] x) (graph_end s h g (omega arith) O S R) (done_text h)
states_complete w (suc n) s h g e O S R =
    let q = row_of g s in
    let m = S.most in
    bind_text (state_format w s) (λ r. states_format w n (suc s) (store h s r)) (state_line w s q.initial q.moves) (state_lines w n (suc s) g) q g
    (state_complete w s q (omega arith) (one_le (has g.initial s)) (S.row s))
    (states_complete w n (suc s) (store h s q) g (omega arith) (open_store s h q O) S (rest_store s h g (omega arith) O R))

pub graph_complete : (w : ℕ) (g : PlainGraph) → ShapedPlain g → TextOf (states_format w g.states 0 (empty_graph g.states)) (state_lines w g.states 0 g) g
unfolding empty_graph
graph_complete w g S =
    states_complete w g.states 0 (empty_graph g.states) g (omega arith) (empty_open g.states) S
    (record { count = refl; fill = fill_none 0 capacity g.moves S.rows; initial = λ i l. absurd (omega arith) })

pub states_live : (w n s : ℕ) (h : PlainGraph) → s + n ≤ 1000 → Bytes (opening w) → Live (states_format w n s h)
unfolding states_format
states_live w zero s h l b = done_live h
states_live w (suc n) s h l b =
    bind_live (state_format w s) (λ q. states_format w n (suc s) (store h s q)) (state_live w s (omega arith) b)
    (λ t q p. states_live w n (suc s) (store h s q) (omega arith) b)

-- requirements
empty_sets : ShapedSets 0 (replicate 4 0)
empty_sets =
    record {
      most = omega arith;
      all = refl;
      each = λ i. ap (λ (x : ℕ). within x capacity) (blank_replicate 0 0 4 i (omega arith)) ∙ zero_within capacity;
      unused = blank_replicate 0 0 4;
    }

pub empty_shaped : ShapedRequirement empty_requirement
unfolding empty_requirement
empty_shaped =
    record {
      assumptions = subst (ShapedSets 0) (sym ins) empty_sets;
      guarantees = subst (ShapedSets 0) (sym outs) empty_sets;
      in_words_lem = ap in_sets ins ∙ (λ i. replicate 4 (record { 0 = no_states_lem i }));
      out_words_lem = ap out_sets outs ∙ (λ i. replicate 4 (record { 0 = no_states_lem i }));
    }
  where
    ins : in_words (replicate 4 (record { 0 = no_states })) ≡ replicate 4 0
    ins = λ i. replicate 4 (no_bits i)

    outs : out_words (replicate 4 (record { 0 = no_states })) ≡ replicate 4 0
    outs = λ i. replicate 4 (no_bits i)

record OpenList (r : ℕ) (qs : List Requirement) : Type 0 where
  cells : length qs ≡ 8
  blank : Blank empty_requirement r qs

open_put : (r : ℕ) (qs : List Requirement) (q : Requirement) → OpenList r qs → OpenList (suc r) (set qs r q)
open_put r qs q O = record { cells = length-set qs r q ∙ O.cells; blank = blank_step empty_requirement r qs q O.blank }

record GrownList (n r : ℕ) (qs : List Requirement) (t : List ℕ) (ps : List Requirement) : Type 0 where
  fill : Upto empty_requirement r qs ps
  blank : Blank empty_requirement (r + n) ps
  each : (i : ℕ) → r ≤ i → ShapedRequirement (get_or ps i empty_requirement)
  text : t ≡ requirement_lines n r ps

grown_list_none : (r : ℕ) (qs : List Requirement) → OpenList r qs → GrownList 0 r qs [] qs
unfolding requirement_lines
grown_list_none r qs O =
    record {
      fill = record { same_length = refl; below = λ i l. refl };
      blank = λ i l. O.blank i (omega arith);
      each = λ i l. rw (O.blank i l) empty_shaped;
      text = refl;
    }

grown_list_step : (n r : ℕ) (qs : List Requirement) (q : Requirement) (t u : List ℕ) (ps : List Requirement) → r < 8 → OpenList r qs
    → ShapedRequirement q → t ≡ requirement_line q → GrownList n (suc r) (set qs r q) u ps → GrownList (suc n) r qs (t ++ u) ps
unfolding requirement_lines
grown_list_step n r qs q t u ps l O S e G =
    let c = O.cells in
    let back = fill_back empty_requirement r qs ps q (omega arith) G.fill in
    let same = back.0.same_length in
    record {
      fill = back.0;
      blank = λ i m. G.blank i (omega arith);
      each = λ i m. by_cases (eqb i r)
          (λ b. rw (eqb-true i r b) (rw back.1 S))
          (λ b. let ne = eqb-false i r b in G.each i (lt_of_le-ne m (λ f. ne (sym f))));
      text =
          ap (λ (x : List ℕ). x ++ u) e ∙ ap (λ (x : List ℕ). requirement_line q ++ x) G.text
          ∙ sym (ap (λ (p : Requirement). requirement_line p ++ requirement_lines n (suc r) ps) back.1);
    }

requirements_grow : (n r : ℕ) (qs : List Requirement) (t : List ℕ) (ps : List Requirement) → r + n ≤ 8 → OpenList r qs
    → TextOf (requirements_format n r qs) t ps → GrownList n r qs t ps
unfolding requirements_format
requirements_grow zero r qs t ps l O p =
    let d = done_parts qs t ps p in
    subst (λ (x : List Requirement). GrownList 0 r qs t x) (sym d.1) (subst (λ (x : List ℕ). GrownList 0 r qs x qs) (sym d.0) (grown_list_none r qs O))
requirements_grow (suc n) r qs t ps l O p =
    let P = bind_parts requirement_format (λ q. requirements_format n (suc r) (set qs r q)) t ps p in
    let S = requirement_sound P.front P.value P.is_front in
    let G = requirements_grow n (suc r) (set qs r P.value) P.back ps (omega arith) (open_put r qs P.value O) P.is_back in
    subst (λ (x : List ℕ). GrownList (suc n) r qs x ps) (sym P.whole)
    (grown_list_step n r qs P.value P.front P.back ps (omega arith) O S.0 S.1 G)

none_open : OpenList 0 (replicate 8 empty_requirement)
none_open = record { cells = length-replicate 8 empty_requirement; blank = blank_replicate empty_requirement 0 8 }

pub record RequirementsParts (n : ℕ) (t : List ℕ) (ps : List Requirement) : Type 0 where
  pub all : length ps ≡ 8
  pub each : (i : ℕ) → ShapedRequirement (get_or ps i empty_requirement)
  pub unused : (i : ℕ) → n ≤ i → get_or ps i empty_requirement ≡ empty_requirement
  pub text : t ≡ requirement_lines n 0 ps

pub requirements_sound : (n : ℕ) (t : List ℕ) (ps : List Requirement) → n ≤ 8 → TextOf (requirements_format n 0 (replicate 8 empty_requirement)) t ps
    → RequirementsParts n t ps
requirements_sound n t ps l h =
    let G = requirements_grow n 0 (replicate 8 empty_requirement) t ps (omega arith) none_open h in
    record {
      all = sym G.fill.same_length ∙ length-replicate 8 empty_requirement;
      each = λ i. G.each i (omega arith);
      unused = λ i m. G.blank i (omega arith);
      text = G.text;
    }

requirements_build : (n k r : ℕ) (qs ps : List Requirement) → r + n ≡ k → k ≤ 8 → OpenList r qs → Upto empty_requirement r qs ps
    → ((i : ℕ) → ShapedRequirement (get_or ps i empty_requirement)) → Blank empty_requirement k ps
    → TextOf (requirements_format n r qs) (requirement_lines n r ps) ps
unfolding requirements_format requirement_lines
requirements_build zero k r qs ps e l O u S B =
    subst (λ (x : List Requirement). TextOf (done qs) [] x) (fill_end empty_requirement r qs ps u O.blank (λ i m. B i (omega arith))) (done_text qs)
requirements_build (suc n) k r qs ps e l O u S B =
    let q = get_or ps r empty_requirement in
    let c = O.cells in
    let s = u.same_length in
    (bind_text requirement_format (λ q. requirements_format n (suc r) (set qs r q)) (requirement_line q) (requirement_lines n (suc r) ps) q ps
    (requirement_complete q (S r))
    (requirements_build n k (suc r) (set qs r q) ps (omega arith) l (open_put r qs q O) (fill_step empty_requirement r qs ps q (omega arith) refl u) S B))

pub requirements_complete : (n : ℕ) (ps : List Requirement) → n ≤ 8 → length ps ≡ 8 → ((i : ℕ) → ShapedRequirement (get_or ps i empty_requirement))
    → ((i : ℕ) → n ≤ i → get_or ps i empty_requirement ≡ empty_requirement)
    → TextOf (requirements_format n 0 (replicate 8 empty_requirement)) (requirement_lines n 0 ps) ps
requirements_complete n ps l e S B =
    requirements_build n n 0 (replicate 8 empty_requirement) ps (omega arith) l none_open (fill_none empty_requirement 8 ps e) S B

pub requirements_live : (n r : ℕ) (qs : List Requirement) → Live (requirements_format n r qs)
unfolding requirements_format
requirements_live zero r qs = done_live qs
requirements_live (suc n) r qs =
    bind_live requirement_format (λ q. requirements_format n (suc r) (set qs r q)) requirement_live (λ t q p. requirements_live n (suc r) (set qs r q))
