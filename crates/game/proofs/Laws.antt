-- What acceptance says of a game, for the crates above: they need none of its tests.
use mathlib.Core.Path.{◌≡◌, sym, ap, ◌∙◌}
use mathlib.Core.Logic.{◌≢◌}
use mathlib.Core.Bool.{true, not, ◌&&◌, ◌||◌}
use Prim.Native.Nat.{ℕ, ◌≤◌, ◌<◌}
use native.Mathlib.Decide.{dec_lt}
use native.Mathlib.Omega.{arith}
use lib.Dec.{eqb, ltb, leb}
use lib.ListN.{get_or}
use borrow.Author.Tests.{leb-true, eqb-true, eqb-false, le-leb, lt-ltb, le-ltb, eq-eqb, ne_eqb, not-true}
use Rattle.sets.specs.Words.{capacity, bits_of, sets_in}
use Rattle.finite.specs.Bounded.{all}
use Rattle.finite.proofs.Truth.{and_intro, and_left, and_right, or_left, or_right, and_both}
use Rattle.finite.proofs.Bounded.{all_intro, all_elim}
use Rattle.bits.specs.Member.{has, within}
use Rattle.bits.proofs.Membership.{within_has, has_within, within_zero, zero_within}
use Rattle.bits.proofs.Compare.{nonzero_member, member_nonzero}
use Rattle.game.specs.declared.Graph.{Graph}
use Rattle.game.specs.declared.Requirement.{Requirement}
use Rattle.game.specs.declared.Game.{Game}
use Rattle.game.specs.Access.{no_input, no_output, requirement_at}
use Rattle.game.specs.Acceptance.{
  limit,
  count_fits,
  row_fits,
  states_fit,
  has_initial,
  few_sets,
  in_set_fits,
  out_set_fits,
  in_use,
  requirement_fits,
  few_sets_at,
  requirement_fits_at,
  counts_fit,
  states_in_count,
  initials_exist,
  few_requirements,
  lengths_fit,
  sets_fit,
  accepted,
  acceptance,
}
use Rattle.game.proofs.Steps
use Rattle.game.proofs.Steps.{limit_in, limit_out}
use Rattle.game.proofs.Refusals.{accepted_tests}
pub use Rattle.game.specs.Fits.{GraphFits, RequirementFits, Fits}

-- ---- a set at a place that may be unused

module _ (x used j n : ℕ) where
  used_below : within x (limit used j n) ≡ true → j < used → (s : ℕ) → has x s ≡ true → s < n
  used_below e l s m = within_has x n s (ap (within x) (limit_in used j n l) ∙ e) m

  unused_empty : within x (limit used j n) ≡ true → used ≤ j → x ≡ 0
  unused_empty e l = within_zero x (ap (within x) (limit_out used j n l) ∙ e)

  place_fits : (j < used → (s : ℕ) → has x s ≡ true → s < n) → (used ≤ j → x ≡ 0) → within x (limit used j n) ≡ true
  place_fits b z = go (dec_lt j used)
    where
      go : Dec (j < used) → within x (limit used j n) ≡ true
      go (yes l) = ap (within x) (sym (limit_in used j n l)) ∙ has_within x n (b l)
      go (no l) = ap (λ (y : ℕ). within y (limit used j n)) (z (omega arith)) ∙ zero_within (limit used j n)

-- ---- a graph

module _ (g : Graph) where
  count_bounds : count_fits g ≡ true → (1 ≤ g.states) × (g.states ≤ capacity)
  unfolding count_fits
  count_bounds e = (
    leb-true 1 g.states (and_left (leb 1 g.states) (leb g.states capacity) e),
    leb-true g.states capacity
        (and_right (leb 1 g.states) (leb g.states capacity) e),
  )

  bounds_count : 1 ≤ g.states → g.states ≤ capacity → count_fits g ≡ true
  unfolding count_fits
  bounds_count a b = and_intro (le-leb 1 g.states a) (le-leb g.states capacity b)

  initial_within : states_fit g ≡ true → within (bits_of g.initial) g.states ≡ true
  unfolding states_fit
  initial_within e = and_left (within (bits_of g.initial) g.states) (all capacity (row_fits g)) e

  row_within : states_fit g ≡ true → (s : ℕ) → s < capacity → within (get_or (sets_in g.moves) s 0) (limit g.states s g.states) ≡ true
  unfolding states_fit row_fits
  row_within e s l = all_elim capacity (row_fits g) (and_right (within (bits_of g.initial) g.states) (all capacity (row_fits g)) e) s l

  within_states : within (bits_of g.initial) g.states ≡ true
      → ((s : ℕ) → s < capacity → within (get_or (sets_in g.moves) s 0) (limit g.states s g.states) ≡ true) → states_fit g ≡ true
  unfolding states_fit row_fits
  within_states i r = and_intro i (all_intro capacity (row_fits g) r)

  initial_nonzero : has_initial g ≡ true → bits_of g.initial ≢ 0
  unfolding has_initial
  initial_nonzero e = eqb-false (bits_of g.initial) 0 (not-true (eqb (bits_of g.initial) 0) e)

  nonzero_initial : bits_of g.initial ≢ 0 → has_initial g ≡ true
  unfolding has_initial
  nonzero_initial n = ap not (ne_eqb (bits_of g.initial) 0 n)

  graph_fits : count_fits g ≡ true → states_fit g ≡ true → has_initial g ≡ true → GraphFits g
  graph_fits c w i = record {
    some = (count_bounds c).0;
    most = (count_bounds c).1;
    initial_below = below;
    start = (first.0, below first.0 first.1, first.1);
    row_below = row;
    row_past = λ s l h. unused_empty (get_or (sets_in g.moves) s 0) g.states s g.states (row_within w s h) l;
  }
    where
      below : (s : ℕ) → has (bits_of g.initial) s ≡ true → s < g.states
      below s h = within_has (bits_of g.initial) g.states s (initial_within w) h

      first : (s : ℕ) × (has (bits_of g.initial) s ≡ true)
      first = nonzero_member (bits_of g.initial) (initial_nonzero i)

      row : (s j : ℕ) → s < g.states → has (get_or (sets_in g.moves) s 0) j ≡ true → j < g.states
      row s j l h =
          used_below (get_or (sets_in g.moves) s 0) g.states s g.states (row_within w s (omega (arith, (count_bounds c).1))) l j h

  -- the other way

  fits_count : GraphFits g → count_fits g ≡ true
  fits_count f = bounds_count f.some f.most

  fits_states : GraphFits g → states_fit g ≡ true
  fits_states f =
      within_states (has_within (bits_of g.initial) g.states f.initial_below)
      (λ s h. place_fits (get_or (sets_in g.moves) s 0) g.states s g.states (λ l j m. f.row_below s j l m) (λ l. f.row_past s l h))

  fits_initial : GraphFits g → has_initial g ≡ true
  fits_initial f = nonzero_initial (member_nonzero (bits_of g.initial) f.start.0 f.start.2)

-- ---- a requirement

module _ (q : Requirement) where
  few_bounds : few_sets q ≡ true → (q.assumed ≤ 4) × (q.guaranteed ≤ 4)
  unfolding few_sets
  few_bounds e = (
    leb-true q.assumed 4 (and_left (leb q.assumed 4) (leb q.guaranteed 4) e),
    leb-true q.guaranteed 4
        (and_right (leb q.assumed 4) (leb q.guaranteed 4) e),
  )

  bounds_few : q.assumed ≤ 4 → q.guaranteed ≤ 4 → few_sets q ≡ true
  unfolding few_sets
  bounds_few a b = and_intro (le-leb q.assumed 4 a) (le-leb q.guaranteed 4 b)

  in_places : (a : ℕ) → all 4 (in_set_fits q a) ≡ true → (j : ℕ) → j < 4 → within (bits_of (get_or q.assumptions j no_input).0) (limit q.assumed j a) ≡ true
  unfolding in_set_fits
  in_places a e j l = all_elim 4 (in_set_fits q a) e j l

  out_places : (b : ℕ) → all 4 (out_set_fits q b) ≡ true → (j : ℕ) → j < 4
      → within (bits_of (get_or q.guarantees j no_output).0) (limit q.guaranteed j b) ≡ true
  unfolding out_set_fits
  out_places b e j l = all_elim 4 (out_set_fits q b) e j l

  places_in : (a : ℕ) → ((j : ℕ) → j < 4 → within (bits_of (get_or q.assumptions j no_input).0) (limit q.assumed j a) ≡ true)
      → all 4 (in_set_fits q a) ≡ true
  unfolding in_set_fits
  places_in a h = all_intro 4 (in_set_fits q a) h

  places_out : (b : ℕ) → ((j : ℕ) → j < 4 → within (bits_of (get_or q.guarantees j no_output).0) (limit q.guaranteed j b) ≡ true)
      → all 4 (out_set_fits q b) ≡ true
  unfolding out_set_fits
  places_out b h = all_intro 4 (out_set_fits q b) h

  requirement_fits_lem : (a b : ℕ) → few_sets q ≡ true → all 4 (in_set_fits q a) ≡ true → all 4 (out_set_fits q b) ≡ true → RequirementFits q a b
  requirement_fits_lem a b f i o = record {
    few_assumed = (few_bounds f).0;
    few_guaranteed = (few_bounds f).1;
    assumption_below = λ j s l m.
        used_below (bits_of (get_or q.assumptions j no_input).0) q.assumed j a (in_places a i j (omega (arith, (few_bounds f).0))) l s m;
    assumption_past = λ j l h. unused_empty (bits_of (get_or q.assumptions j no_input).0) q.assumed j a (in_places a i j h) l;
    guarantee_below = λ j s l m.
        used_below (bits_of (get_or q.guarantees j no_output).0) q.guaranteed j b (out_places b o j (omega (arith, (few_bounds f).1))) l s m;
    guarantee_past = λ j l h. unused_empty (bits_of (get_or q.guarantees j no_output).0) q.guaranteed j b (out_places b o j h) l;
  }

  module _ (a b : ℕ) (f : RequirementFits q a b) where
    fits_few : few_sets q ≡ true
    fits_few = bounds_few f.few_assumed f.few_guaranteed

    fits_in : all 4 (in_set_fits q a) ≡ true
    fits_in =
        places_in a (λ j h. place_fits (bits_of (get_or q.assumptions j no_input).0) q.assumed j a (λ l s m. f.assumption_below j s l m)
        (λ l. f.assumption_past j l h))

    fits_out : all 4 (out_set_fits q b) ≡ true
    fits_out =
        places_out b (λ j h. place_fits (bits_of (get_or q.guarantees j no_output).0) q.guaranteed j b (λ l s m. f.guarantee_below j s l m)
        (λ l. f.guarantee_past j l h))

-- ---- a game

module _ (g : Game) where
  both_counts : counts_fit g ≡ true → (count_fits g.input ≡ true) × (count_fits g.output ≡ true)
  unfolding counts_fit
  both_counts e = and_both (count_fits g.input) (count_fits g.output) e

  both_states : states_in_count g ≡ true → (states_fit g.input ≡ true) × (states_fit g.output ≡ true)
  unfolding states_in_count
  both_states e = and_both (states_fit g.input) (states_fit g.output) e

  both_initial : initials_exist g ≡ true → (has_initial g.input ≡ true) × (has_initial g.output ≡ true)
  unfolding initials_exist
  both_initial e = and_both (has_initial g.input) (has_initial g.output) e

  few_of : few_requirements g ≡ true → g.k ≤ 8
  unfolding few_requirements
  few_of e = leb-true g.k 8 e

  lengths_of : lengths_fit g ≡ true → (r : ℕ) → r < 8 → few_sets (requirement_at g r) ≡ true
  unfolding lengths_fit few_sets_at
  lengths_of e r l = all_elim 8 (few_sets_at g) e r l

  -- the three parts of the test of a requirement's sets
  parts_of : (r : ℕ) (q : Requirement) → requirement_fits g r q ≡ true
      → (in_use g r q ≡ true) × (all 4 (in_set_fits q g.input.states) ≡ true) × (all 4 (out_set_fits q g.output.states) ≡ true)
  unfolding requirement_fits
  parts_of r q e =
      let h = and_both (in_use g r q) (all 4 (in_set_fits q g.input.states) && all 4 (out_set_fits q g.output.states)) e in
      let t = and_both (all 4 (in_set_fits q g.input.states)) (all 4 (out_set_fits q g.output.states)) h.1 in
      (h.0, t.0, t.1)

  sets_of_lem : sets_fit g ≡ true → (r : ℕ) → r < 8 → requirement_fits g r (requirement_at g r) ≡ true
  unfolding sets_fit requirement_fits_at
  sets_of_lem e r l = all_elim 8 (requirement_fits_at g) e r l

  unused_of : (r : ℕ) (q : Requirement) → in_use g r q ≡ true → g.k ≤ r → (q.assumed ≡ 0) × (q.guaranteed ≡ 0)
  unfolding in_use
  unused_of r q e l =
      let h = and_both (eqb q.assumed 0) (eqb q.guaranteed 0) (rw (le-ltb r g.k l) at e) in
      (eqb-true q.assumed 0 h.0, eqb-true q.guaranteed 0 h.1)

  use_of : (r : ℕ) (q : Requirement) → (g.k ≤ r → (q.assumed ≡ 0) × (q.guaranteed ≡ 0)) → in_use g r q ≡ true
  unfolding in_use
  use_of r q h = go (dec_lt r g.k)
    where
      go : Dec (r < g.k) → (ltb r g.k || (eqb q.assumed 0 && eqb q.guaranteed 0)) ≡ true
      go (yes l) = or_left (eqb q.assumed 0 && eqb q.guaranteed 0) (lt-ltb r g.k l)
      go (no n) =
          let z = h (omega arith) in
          or_right (ltb r g.k) (and_intro (eq-eqb q.assumed 0 z.0) (eq-eqb q.guaranteed 0 z.1))

  pub accepted_fits : acceptance g ≡ accepted → Fits g
  accepted_fits e = record {
    input = graph_fits g.input (both_counts t.0).0 (both_states t.1).0 (both_initial t.2).0;
    output = graph_fits g.output (both_counts t.0).1 (both_states t.1).1 (both_initial t.2).1;
    few = few_of t.3;
    requirement = λ r l.
        let p = parts_of r (requirement_at g r) (sets_of_lem t.5 r l) in
        requirement_fits_lem (requirement_at g r) g.input.states g.output.states (lengths_of t.4 r l) p.1 p.2;
    unused = λ r k l. unused_of r (requirement_at g r) (parts_of r (requirement_at g r) (sets_of_lem t.5 r l)).0 k;
  }
    where
      t : (counts_fit g ≡ true) × (states_in_count g ≡ true) × (initials_exist g ≡ true) × (few_requirements g ≡ true)
          × (lengths_fit g ≡ true) × (sets_fit g ≡ true)
      t = accepted_tests g e

  of_lengths : ((r : ℕ) → r < 8 → few_sets (requirement_at g r) ≡ true) → lengths_fit g ≡ true
  unfolding lengths_fit few_sets_at
  of_lengths h = all_intro 8 (few_sets_at g) h

  of_parts : (r : ℕ) (q : Requirement) → in_use g r q ≡ true → all 4 (in_set_fits q g.input.states) ≡ true
      → all 4 (out_set_fits q g.output.states) ≡ true → requirement_fits g r q ≡ true
  of_parts r q u i o = sym (Steps.fits_out g r q true u i (sym o))

  of_sets : ((r : ℕ) → r < 8 → requirement_fits g r (requirement_at g r) ≡ true) → sets_fit g ≡ true
  unfolding sets_fit requirement_fits_at
  of_sets h = all_intro 8 (requirement_fits_at g) h
