-- Ways out of a component in sets.
--
--   lost_at_lem, lost_all, exit_at, exits_at_lem : the loops and tests
--   leaves_within      : what the moves out of the component enter are inputs
--   whole-*            : the states of the component
--   leaving-*          : what it is that the component has a way out
--   row_way, way_leads : the rows outside the gates
--   Words              == what is worked out for the component c, whose number is k and whose moves out enter x, and output o
--   no_gates, some_gates, gates_has, gates_within : the gates
--   row_gate           : the rows of gates
use Prim.Native.Nat.{ℕ, ◌<◌}
use mathlib.Core.Path.{◌≡◌, refl, sym, ◌∙◌, ap, ap₂, subst, subst₂, fun_ext}
use mathlib.Core.Bool.{Bool, true, false, ◌&&◌, not}
use mathlib.Core.List.{List}
use mathlib.Core.Logic.{◌≢◌}
use native.Mathlib.Omega.{arith}
use lib.ListN.{get_or}
use Rattle.finite.specs.Bounded.{any, least}
use Rattle.finite.proofs.Truth.{clash, and_intro, and_left, and_right, and_false_left, and_false_right, not_true, same_test, false_of}
use Rattle.finite.proofs.Bounded.{any_intro, any_elim, any_none, least_member, least_before, least_found, least_unique}
use Rattle.bits.specs.Member.{has, pack, within, both, sets_meet}
use Rattle.bits.proofs.Membership.{has_zero_lem, has_pack_below, has_within, pack_below, pack_holds}
use Rattle.bits.proofs.Compare.{meets_intro, meets_elim, nonzero_member}
use Rattle.sets.specs.Words.{capacity, sets_in}
use Rattle.graphs.specs.Graph.{stuck}
use Rattle.graphs.specs.Component.{joined, number, nontrivial}
use Rattle.graphs.specs.Way.{toward}
use Rattle.graphs.proofs.Graph.{edge_to}
use Rattle.graphs.proofs.Component.{joined_to, joined_self, joined_same, number_same, nontrivial_same}
use Rattle.graphs.proofs.Way.{Leads}
use Rattle.graph_ways.specs.Kept.{kept}
use Rattle.game.specs.declared.Game.{Game}
use Rattle.play.specs.Play.{graph_of, separated_of}
use Rattle.arena.specs.Table.{gives}
use Rattle.theory.specs.Region.{region}
use Rattle.theory.specs.Tour.{inside}
use Rattle.theory.specs.Choice.{lost, way_out, gate, outward, escapes, environment_row}
use Rattle.theory.proofs.Delay.{region_same}
use Rattle.theory.proofs.EnvironmentRow.{lost_edge, lost_apart, lost_region, gate_joined, gate_out, gate_intro, escapes_same}
use Rattle.theory.proofs.EnvironmentRow.{row_lost, pushing_nontrivial, pressing_escapes, outward_here, outward_on, gate_leads}
use Rattle.table_goals.proofs.Tours.{inside_kept, comp_has}
use Rattle.graph_components.specs.Component.{enters}
use Rattle.scratch.specs.Stored.{won_at}
use Rattle.environment_table.specs.Table.{Known}
use Rattle.environment_table.specs.Reading.{lost_at}
use Rattle.environment_table.specs.Pressing.{Whole, Leaves, lost_in, exits_at, pressed_at, leaving_at, touring_at}
use Rattle.environment_table.proofs.Known.{known_won, input_edge}

-- the loops and tests

pub lost_at_lem : (l : List ℕ) (n inner o j : ℕ) {b : Bool} → b ≡ won_at l n inner j o → not b ≡ lost_at l n inner o j
unfolding lost_at
lost_at_lem l n inner o j e = ap not e

pub lost_all : (l : List ℕ) (n inner x o : ℕ) {y : ℕ} → y ≡ pack n (λ j. has x j && lost_at l n inner o j) → y ≡ pack n (lost_in l n inner x o)
unfolding lost_in
lost_all l n inner x o e = e

pub exit_at : (moves : List ℕ) (out k row : ℕ) {b : Bool} → row ≡ get_or moves k 0 → b ≡ sets_meet capacity row out → b ≡ sets_meet capacity (get_or moves k 0) out
exit_at moves out k row q e = e ∙ ap (λ (x : ℕ). sets_meet capacity x out) q

pub exits_at_lem : (moves : List ℕ) (c out n : ℕ) {y : ℕ} → y ≡ pack n (λ k. has c k && sets_meet capacity (get_or moves k 0) out) → y ≡ pack n (exits_at moves c out)
unfolding exits_at
exits_at_lem moves c out n e = e

-- the component as a set

module _ (g : Game) (c k : ℕ) (W : Whole g c k) where
  pub whole_has : has c ≡ joined (graph_of g.input) k
  unfolding graph_of
  whole_has = comp_has (graph_of g.input) k (sets_in g.input.moves) c (λ s t a b. refl) W.word

  pub whole_number : (a : ℕ) → joined (graph_of g.input) k a ≡ true → number (graph_of g.input) a ≡ k
  whole_number a j = sym (number_same (graph_of g.input) k a j) ∙ W.first

  pub whole_core : (a : ℕ) → joined (graph_of g.input) k a ≡ true → nontrivial (graph_of g.input) a ≡ true
  whole_core a j = sym (nontrivial_same (graph_of g.input) k a j) ∙ W.is_nontrivial

  pub whole_in : (a : ℕ) → has c a ≡ true → joined (graph_of g.input) k a ≡ true
  whole_in a e = ap (λ (p : ℕ → Bool). p a) (sym whole_has) ∙ e

  pub whole_of : (a : ℕ) → joined (graph_of g.input) k a ≡ true → has c a ≡ true
  whole_of a e = ap (λ (p : ℕ → Bool). p a) whole_has ∙ e

-- the inputs that moves out of the component enter are inputs
pub leaves_within : (g : Game) (s : List ℕ) (inner : ℕ) → Known g s inner → (c x : ℕ) → Leaves g c x → within x g.input.states ≡ true
unfolding enters separated_of graph_of
leaves_within g s inner K c x L = has_within x g.input.states below
  where
    below : (t : ℕ) → has x t ≡ true → t < g.input.states
    below t e =
        let v =
        any_elim g.input.states (λ k. has c k && has (get_or (sets_in g.input.moves) k 0) t)
        (and_left (enters (sets_in g.input.moves) c g.input.states t) (not (has c t)) (sym (L.entered t) ∙ e))
        in
        edge_to (graph_of g.input) v.0 t
        (sym (input_edge g s inner K v.0 t v.1) ∙ and_right (has c v.0) (has (get_or (sets_in g.input.moves) v.0 0) t) v.2)

-- an output with which the component has a way out

module _ (g : Game) (k b : ℕ) where
  pub leaving_intro : region (separated_of g) k b ≡ false → stuck (separated_of g).output b ≡ false → escapes (separated_of g) k b ≡ true → leaving_at g k b ≡ true
  unfolding leaving_at pressed_at
  leaving_intro r f e = and_intro (and_intro (ap not r) (ap not f)) e

  pub leaving_out : leaving_at g k b ≡ true → escapes (separated_of g) k b ≡ true
  unfolding leaving_at
  leaving_out v = and_right (pressed_at g k b) (escapes (separated_of g) k b) v

  leaving_pressed : leaving_at g k b ≡ true → (not (region (separated_of g) k b) && not (stuck (separated_of g).output b)) ≡ true
  unfolding leaving_at pressed_at
  leaving_pressed v = and_left (pressed_at g k b) (escapes (separated_of g) k b) v

  pub leaving_lost : leaving_at g k b ≡ true → region (separated_of g) k b ≡ false
  leaving_lost v =
      not_true (region (separated_of g) k b) (and_left (not (region (separated_of g) k b)) (not (stuck (separated_of g).output b)) (leaving_pressed v))

  pub leaving_free : leaving_at g k b ≡ true → stuck (separated_of g).output b ≡ false
  leaving_free v =
      not_true (stuck (separated_of g).output b)
      (and_right (not (region (separated_of g) k b)) (not (stuck (separated_of g).output b)) (leaving_pressed v))

  pub touring_not : pressed_at g k b ≡ false → touring_at g k b ≡ false
  unfolding touring_at
  touring_not e = and_false_left (not (escapes (separated_of g) k b)) e

  pub pressed_won : region (separated_of g) k b ≡ true → pressed_at g k b ≡ false
  unfolding pressed_at
  pressed_won e = and_false_left (not (stuck (separated_of g).output b)) (ap not e)

  pub pressed_stuck : stuck (separated_of g).output b ≡ true → pressed_at g k b ≡ false
  unfolding pressed_at
  pressed_stuck e = and_false_right (not (region (separated_of g) k b)) (ap not e)

  pub touring_out : escapes (separated_of g) k b ≡ true → touring_at g k b ≡ false
  unfolding touring_at
  touring_out e = and_false_right (pressed_at g k b) (ap not e)

  pub touring_intro : region (separated_of g) k b ≡ false → stuck (separated_of g).output b ≡ false → escapes (separated_of g) k b ≡ false
      → touring_at g k b ≡ true
  unfolding touring_at pressed_at
  touring_intro r f e = and_intro (and_intro (ap not r) (ap not f)) (ap not e)

module _ (g : Game) (c k : ℕ) (W : Whole g c k) (b : ℕ) (lb : b < g.output.states) (v : leaving_at g k b ≡ true) (a : ℕ) (e : has c a ≡ true) where
  there : joined (graph_of g.input) k a ≡ true
  there = whole_in g c k W a e

  escaping : escapes (separated_of g) a b ≡ true
  unfolding separated_of graph_of
  escaping = sym (escapes_same (separated_of g) k a b b there (joined_self (graph_of g.output) b lb)) ∙ leaving_out g k b v

  row_is : (h : ℕ) → environment_row (separated_of g) a h b ≡ outward (separated_of g) a h b
  unfolding separated_of graph_of
  row_is h =
      row_lost (separated_of g) a h b
      (sym (region_same (separated_of g) k a b b there (joined_self (graph_of g.output) b lb)) ∙ leaving_lost g k b v) (leaving_free g k b v)
      ∙ pushing_nontrivial (separated_of g) a h b (whole_core g c k W a there)
      ∙ pressing_escapes (separated_of g) a h b escaping

  -- the way to the gates, these being the set x
  module _ (x : ℕ) (q : has x ≡ gate (separated_of g) b k) where
    pub way_leads : Leads g.input.states (kept (sets_in g.input.moves) c) (has x) a
    unfolding separated_of graph_of
    way_leads =
        subst₂ (λ (r : ℕ → ℕ → Bool) (p : ℕ → Bool). Leads g.input.states r p a)
        (sym (inside_kept (graph_of g.input) k (sets_in g.input.moves) c (λ s t i j. refl) W.word)) (sym q)
        (subst (λ (y : ℕ). Leads g.input.states (inside (graph_of g.input) y) (gate (separated_of g) b y) a) (whole_number g c k W a there)
        (gate_leads (separated_of g) a b (joined_to (graph_of g.input) k a there) (whole_core g c k W a there) escaping))

    pub row_way : (h : ℕ) → has x a ≡ false
        → environment_row (separated_of g) a h b ≡ gives h (toward g.input.states (kept (sets_in g.input.moves) c) (has x) a)
    unfolding separated_of graph_of
    row_way h o =
        row_is h
        ∙ outward_on (separated_of g) a h b
        (false_of (way_out (separated_of g) b a) (λ w. clash (ap (λ (p : ℕ → Bool). p a) q ∙ gate_intro (separated_of g) b k a there w) o))
        ∙ ap (λ (y : ℕ). gives h (toward g.input.states (inside (graph_of g.input) y) (gate (separated_of g) b y) a)) (whole_number g c k W a there)
        ∙ ap₂ (λ (r : ℕ → ℕ → Bool) (p : ℕ → Bool). gives h (toward g.input.states r p a))
        (sym (inside_kept (graph_of g.input) k (sets_in g.input.moves) c (λ s t i j. refl) W.word)) (sym q)

-- what is worked out for an output: of what the moves out of the component enter, all that is lost with it; the gates to that
pub record Words (g : Game) (s : List ℕ) (inner c x o out gates : ℕ) : Type 0 where
  pub lost : out ≡ pack g.input.states (lost_in (sets_in s) g.input.states inner x o)
  pub gate : gates ≡ pack g.input.states (exits_at (sets_in g.input.moves) c out)

module _ (g : Game) (s : List ℕ) (inner : ℕ) (K : Known g s inner) (c k : ℕ) (W : Whole g c k) (x : ℕ) (L : Leaves g c x) (o : ℕ) (lo : o < g.output.states)
    (free : stuck (separated_of g).output o ≡ false) (out gates : ℕ) (D : Words g s inner c x o out gates) where
  out_below : (t : ℕ) → has out t ≡ true → t < g.input.states
  out_below t e =
      pack_below g.input.states (lost_in (sets_in s) g.input.states inner x o) t (ap (λ (y : ℕ). has y t) (sym D.lost) ∙ e)

  out_at : (t : ℕ) → t < g.input.states → has out t ≡ (has x t && not (region (separated_of g) t o))
  unfolding lost_in lost_at
  out_at t b =
      ap (λ (y : ℕ). has y t) D.lost
      ∙ has_pack_below g.input.states (lost_in (sets_in s) g.input.states inner x o) t b
      ∙ ap (λ (y : Bool). has x t && not y) (known_won g s inner K t o b lo)

  out_both : (t : ℕ) → has out t ≡ true → (has x t && not (region (separated_of g) t o)) ≡ true
  out_both t e = sym (out_at t (out_below t e)) ∙ e

  out_lost : (t : ℕ) → has out t ≡ true → region (separated_of g) t o ≡ false
  out_lost t e =
      not_true (region (separated_of g) t o) (and_right (has x t) (not (region (separated_of g) t o)) (out_both t e))

  out_apart : (t : ℕ) → has out t ≡ true → joined (graph_of g.input) k t ≡ false
  out_apart t e =
      ap (λ (p : ℕ → Bool). p t) (sym (whole_has g c k W))
      ∙ not_true (has c t)
      (and_right (enters (sets_in g.input.moves) c g.input.states t) (not (has c t))
      (sym (L.entered t) ∙ and_left (has x t) (not (region (separated_of g) t o)) (out_both t e)))

  out_intro : (a t : ℕ) → joined (graph_of g.input) k a ≡ true → a < g.input.states
      → has (get_or (sets_in g.input.moves) a 0) t ≡ true → t < g.input.states
      → region (separated_of g) t o ≡ false → joined (graph_of g.input) k t ≡ false → has out t ≡ true
  unfolding enters
  out_intro a t i la m b e j =
      out_at t b
      ∙ and_intro
      (L.entered t
      ∙ and_intro (any_intro g.input.states (λ y. has c y && has (get_or (sets_in g.input.moves) y 0) t) a la (and_intro (whole_of g c k W a i) m))
      (ap not (ap (λ (p : ℕ → Bool). p t) (whole_has g c k W) ∙ j)))
      (ap not e)

  -- a lost move of a state of the component is a move into `out`

  module _ (a : ℕ) (j : joined (graph_of g.input) k a ≡ true) where
    lost_move : (t : ℕ) → lost (separated_of g) o a t ≡ true → has (get_or (sets_in g.input.moves) a 0) t ≡ true
    unfolding separated_of graph_of
    lost_move t e =
        input_edge g s inner K a t (joined_to (graph_of g.input) k a j) ∙ lost_edge (separated_of g) o a t e

    lost_out : (t : ℕ) → lost (separated_of g) o a t ≡ true → has out t ≡ true
    unfolding separated_of graph_of
    lost_out t e =
        out_intro a t j (joined_to (graph_of g.input) k a j) (lost_move t e) (edge_to (graph_of g.input) a t (lost_edge (separated_of g) o a t e))
        (lost_region (separated_of g) o a t e)
        (joined_same (graph_of g.input) k a t j ∙ lost_apart (separated_of g) o a t e)

    into_lost : (t : ℕ) → has (get_or (sets_in g.input.moves) a 0) t ≡ true → has out t ≡ true → lost (separated_of g) o a t ≡ true
    unfolding lost separated_of graph_of
    into_lost t m e =
        and_intro (sym (input_edge g s inner K a t (joined_to (graph_of g.input) k a j)) ∙ m)
        (and_intro (ap not (sym (joined_same (graph_of g.input) k a t j) ∙ out_apart t e)) (ap not (out_lost t e)))

    way_meets : way_out (separated_of g) o a ≡ sets_meet capacity (get_or (sets_in g.input.moves) a 0) out
    unfolding way_out separated_of graph_of
    way_meets = same_test (way_out (separated_of g) o a) (sets_meet capacity (get_or (sets_in g.input.moves) a 0) out) there back
      where
        there : way_out (separated_of g) o a ≡ true → sets_meet capacity (get_or (sets_in g.input.moves) a 0) out ≡ true
        there e =
            let v = any_elim g.input.states (lost (separated_of g) o a) e in
            meets_intro capacity (get_or (sets_in g.input.moves) a 0) out v.0 (omega (arith, v.1, K.ready.fits.input.most))
            (lost_move v.0 v.2) (lost_out v.0 v.2)

        back : sets_meet capacity (get_or (sets_in g.input.moves) a 0) out ≡ true → way_out (separated_of g) o a ≡ true
        back e =
            let v = meets_elim capacity (get_or (sets_in g.input.moves) a 0) out e in
            any_intro g.input.states (lost (separated_of g) o a) v.0 (out_below v.0 v.3) (into_lost v.0 v.2 v.3)

    -- the lowest of them
    lowest_lost : way_out (separated_of g) o a ≡ true
        → least g.input.states (lost (separated_of g) o a) ≡ least capacity (both (get_or (sets_in g.input.moves) a 0) out)
    unfolding way_out both separated_of graph_of
    lowest_lost e =
        sym
        (least_unique capacity (both row out) first (omega (arith, below, K.ready.fits.input.most))
        (and_intro (lost_move first member) (lost_out first member))
        (λ j b. false_of (both row out j)
        (λ m.
        clash (into_lost j (and_left (has row j) (has out j) m) (and_right (has row j) (has out j) m))
        (least_before g.input.states (lost (separated_of g) o a) j b))))
      where
        row : ℕ
        row = get_or (sets_in g.input.moves) a 0

        first : ℕ
        first = least g.input.states (lost (separated_of g) o a)

        below : first < g.input.states
        below = least_found g.input.states (lost (separated_of g) o a) e

        member : lost (separated_of g) o a first ≡ true
        member = least_member g.input.states (lost (separated_of g) o a) below

  -- the gates

  gates_to : (t : ℕ) → has gates t ≡ true → gate (separated_of g) o k t ≡ true
  unfolding exits_at separated_of graph_of
  gates_to t e =
      let both : (has c t && sets_meet capacity (get_or (sets_in g.input.moves) t 0) out) ≡ true =
      pack_holds g.input.states (exits_at (sets_in g.input.moves) c out) t
      (ap (λ (y : ℕ). has y t) (sym D.gate) ∙ e) in
      let j = whole_in g c k W t (and_left (has c t) (sets_meet capacity (get_or (sets_in g.input.moves) t 0) out) both) in
      gate_intro (separated_of g) o k t j (way_meets t j ∙ and_right (has c t) (sets_meet capacity (get_or (sets_in g.input.moves) t 0) out) both)

  gates_of : (t : ℕ) → gate (separated_of g) o k t ≡ true → has gates t ≡ true
  unfolding exits_at separated_of graph_of
  gates_of t e =
      let j = gate_joined (separated_of g) o k t e in
      ap (λ (y : ℕ). has y t) D.gate
      ∙ has_pack_below g.input.states (exits_at (sets_in g.input.moves) c out) t (joined_to (graph_of g.input) k t j)
      ∙ and_intro (whole_of g c k W t j) (sym (way_meets t j) ∙ gate_out (separated_of g) o k t e)

  pub gates_has : has gates ≡ gate (separated_of g) o k
  gates_has = fun_ext (λ t. same_test (has gates t) (gate (separated_of g) o k t) (gates_to t) (gates_of t))

  gate_below : (t : ℕ) → gate (separated_of g) o k t ≡ true → t < g.input.states
  unfolding separated_of graph_of
  gate_below t e = joined_to (graph_of g.input) k t (gate_joined (separated_of g) o k t e)

  pub gates_within : within gates g.input.states ≡ true
  gates_within = has_within gates g.input.states (λ t e. gate_below t (gates_to t e))

  escapes_any : escapes (separated_of g) k o ≡ any g.input.states (gate (separated_of g) o k)
  unfolding escapes separated_of graph_of
  escapes_any = ap (λ (x : ℕ). any g.input.states (gate (separated_of g) o x)) W.first

  pub no_gates : gates ≡ 0 → escapes (separated_of g) k o ≡ false
  no_gates e =
      escapes_any
      ∙ any_none g.input.states (gate (separated_of g) o k)
      (λ t b. false_of (gate (separated_of g) o k t) (λ m. clash (gates_of t m) (ap (λ (x : ℕ). has x t) e ∙ has_zero_lem t)))

  pub some_gates : gates ≢ 0 → escapes (separated_of g) k o ≡ true
  some_gates e =
      let m = nonzero_member gates e in
      let t = gates_to m.0 m.1 in
      escapes_any ∙ any_intro g.input.states (gate (separated_of g) o k) m.0 (gate_below m.0 t) t

  -- the rows of gates
  pub row_gate : (a h : ℕ) → leaving_at g k o ≡ true → has gates a ≡ true
      → environment_row (separated_of g) a h o ≡ gives h (least capacity (both (get_or (sets_in g.input.moves) a 0) out))
  unfolding separated_of graph_of
  row_gate a h v e =
      let t = gates_to a e in
      let j = gate_joined (separated_of g) o k a t in
      let w = gate_out (separated_of g) o k a t in
      row_is g c k W o lo v a (whole_of g c k W a j) h ∙ outward_here (separated_of g) a h o w ∙ ap (gives h) (lowest_lost a j w)
