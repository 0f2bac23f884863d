-- What scratch tells of the game: who has-home where.
--
--   Told S s n inner rows    == what the sets s of scratch and the rows of moves hold
--   settled, unsettled       : whether some home is in reach
--   has_home_word, has_home_at_lem : the inputs with a home, as a set
--   row_home                 : the row of an input with a home
--   has_home_there            : who has-home at d has-home there also at d
use Prim.Native.Nat.{ℕ, ◌≤◌, ◌<◌}
use mathlib.Core.Path.{◌≡◌, refl, sym, ◌∙◌, ap, ap₂}
use mathlib.Core.Bool.{Bool, true, false, ◌&&◌}
use mathlib.Core.List.{List}
use native.Mathlib.Omega.{arith}
use lib.Dec.{eqb}
use lib.ListN.{get_or}
use borrow.Author.Tests.{eqb-true, eq-eqb}
use Rattle.finite.specs.Bounded.{least}
use Rattle.finite.proofs.Truth.{clash, false_of, and_intro, and_left, and_right}
use Rattle.finite.proofs.Bounded.{least_member, least_before, least_unique}
use Rattle.bits.specs.Member.{has, sets_meet, both}
use Rattle.bits.proofs.Compare.{meets_intro, meets_elim}
use Rattle.graphs.specs.Graph.{edge}
use Rattle.graphs.specs.Closure.{reaches}
use Rattle.graphs.specs.Component.{joined, nontrivial}
use Rattle.graphs.proofs.Graph.{edge_to}
use Rattle.graphs.proofs.Component.{joined_self, joined_back}
use Rattle.graphs.proofs.Closure.{reaches_to, reaches_self, reaches_trans, reaches_path}
use Rattle.arena.specs.Arena.{Separated}
use Rattle.sets.specs.Words.{capacity}
use Rattle.scratch.specs.Stored.{row_at, out_reach_at, won_at}
use Rattle.theory.specs.Region.{home_for, settles, answers, region}
use Rattle.theory.specs.Choice.{home, homeward, controller_row}
use Rattle.theory.proofs.Region.{answers_intro, settles_intro, settles_elim, home_for_nontrivial, region_settles}
use Rattle.theory.proofs.Delay.{first_move_lem}
use Rattle.theory.proofs.ControllerRow.{home_reached, home_home_for, home_same, row_answers, settled_nontrivial}
use Rattle.controller_rows.specs.Writes.{settles_at, home_at, has_home_at}
use Rattle.controller_table.specs.Filled.{HasHome}

-- what belongs to both of two sets
pub in_both : (x y d : ℕ) → both x y d ≡ (has x d && has y d)
unfolding both
in_both x y d = refl

pub record Told (S : Separated) (s : List ℕ) (n inner : ℕ) (rows : List ℕ) : Type 0 where
  pub few_inputs : S.input.states ≤ capacity
  pub few_outputs : S.output.states ≤ capacity
  pub is_nontrivial : (j : ℕ) → j < S.input.states → has inner j ≡ nontrivial S.input j
  pub homes : (j d : ℕ) → j < S.input.states → nontrivial S.input j ≡ true → has (row_at s n j) d ≡ home_for S (region S) j d
  pub wins : (j o : ℕ) → j < S.input.states → nontrivial S.input j ≡ false → has (row_at s n j) o ≡ region S j o
  pub reach : (o d : ℕ) → o < S.output.states → has (out_reach_at s n o) d ≡ reaches S.output o d
  pub moves : (o p : ℕ) → o < S.output.states → has (get_or rows o 0) p ≡ edge S.output o p
  pub same : (o p : ℕ) → o < S.output.states → p < S.output.states → S.output.moves o p ≡ has (get_or rows o 0) p
  pub won : (i o : ℕ) → i < S.input.states → o < S.output.states → won_at s n inner i o ≡ region S i o

module _ (S : Separated) (s : List ℕ) (n inner : ℕ) (rows : List ℕ) (T : Told S s n inner rows) where
  module _ (j o : ℕ) (a : j < S.input.states) (b : o < S.output.states) where
    pub settled_core : settles_at inner j (row_at s n j) (out_reach_at s n o) ≡ true → nontrivial S.input j ≡ true
    unfolding settles_at
    settled_core h = sym (T.is_nontrivial j a) ∙ and_left (has inner j) (sets_meet capacity (row_at s n j) (out_reach_at s n o)) h

    pub settled : settles_at inner j (row_at s n j) (out_reach_at s n o) ≡ true → settles S (region S) j o ≡ true
    unfolding settles_at
    settled h =
        let v = meets_elim capacity (row_at s n j) (out_reach_at s n o) (and_right (has inner j) (sets_meet capacity (row_at s n j) (out_reach_at s n o)) h) in
        settles_intro S (region S) j o v.0 (sym (T.reach o v.0 b) ∙ v.3)
        (sym (T.homes j v.0 a (settled_core h)) ∙ v.2)

    pub unsettled : settles_at inner j (row_at s n j) (out_reach_at s n o) ≡ false → nontrivial S.input j ≡ true → settles S (region S) j o ≡ false
    unfolding settles_at
    unsettled h t =
        false_of (settles S (region S) j o)
        (λ e. let v = settles_elim S (region S) j o e in
        clash
        (and_intro (T.is_nontrivial j a ∙ t)
        (meets_intro capacity (row_at s n j) (out_reach_at s n o) v.0 (omega (arith, reaches_to S.output o v.0 v.1, T.few_outputs))
        (T.homes j v.0 a t ∙ v.2) (T.reach o v.0 b ∙ v.1)))
        h)

    -- the homes in reach, as a word
    both_home : nontrivial S.input j ≡ true → (d : ℕ)
        → (both (row_at s n j) (out_reach_at s n o)) d ≡ (home_for S (region S) j d && reaches S.output o d)
    both_home t d = in_both (row_at s n j) (out_reach_at s n o) d ∙ ap₂ ◌&&◌ (T.homes j d a t) (T.reach o d b)

    home_least : home S j o ≡ least S.output.states (λ d. reaches S.output o d && home_for S (region S) j d)
    unfolding home
    home_least = refl

    swap : (x y : Bool) → (x && y) ≡ false → (y && x) ≡ false
    swap true true h = h
    swap true false h = refl
    swap false true h = refl
    swap false false h = refl

    module _ (d : ℕ) where
      pub has_home_word : d < S.output.states → has_home_at s n inner o d j ≡ true → HasHome S o d j
      unfolding has_home_at home_at
      has_home_word l h = record {
        is_nontrivial = t;
        settled = settles_intro S (region S) j o d reached inside;
        is =
            home_least
            ∙ least_unique S.output.states (λ k. reaches S.output o k && home_for S (region S) j k) d l (and_intro reached inside)
            (λ k b. swap (home_for S (region S) j k) (reaches S.output o k) (sym (both_home t k) ∙ before k b));
      }
        where
          t : nontrivial S.input j ≡ true
          t = sym (T.is_nontrivial j a) ∙ and_left (has inner j) (eqb (least capacity (both (row_at s n j) (out_reach_at s n o))) d) h

          low : least capacity (both (row_at s n j) (out_reach_at s n o)) ≡ d
          low =
              eqb-true (least capacity (both (row_at s n j) (out_reach_at s n o))) d
              (and_right (has inner j) (eqb (least capacity (both (row_at s n j) (out_reach_at s n o))) d) h)

          found : (home_for S (region S) j d && reaches S.output o d) ≡ true
          found =
              sym (both_home t d)
              ∙ ap (both (row_at s n j) (out_reach_at s n o)) (sym low)
              ∙ least_member capacity (both (row_at s n j) (out_reach_at s n o)) (omega (arith, low, T.few_outputs))

          inside : home_for S (region S) j d ≡ true
          inside = and_left (home_for S (region S) j d) (reaches S.output o d) found

          reached : reaches S.output o d ≡ true
          reached = and_right (home_for S (region S) j d) (reaches S.output o d) found

          before : (k : ℕ) → k < d → (both (row_at s n j) (out_reach_at s n o)) k ≡ false
          before k b = least_before capacity (both (row_at s n j) (out_reach_at s n o)) k (omega (arith, low))

      pub has_home_at_lem : HasHome S o d j → has_home_at s n inner o d j ≡ true
      unfolding has_home_at home_at
      has_home_at_lem r =
          and_intro (T.is_nontrivial j a ∙ r.is_nontrivial)
          (eq-eqb (least capacity (both (row_at s n j) (out_reach_at s n o))) d
          (least_unique capacity (both (row_at s n j) (out_reach_at s n o)) (home S j o)
          (omega (arith, reaches_to S.output o (home S j o) reached, T.few_outputs))
          (both_home r.is_nontrivial (home S j o) ∙ and_intro (home_home_for S j o r.settled) reached)
          (λ k b. both_home r.is_nontrivial k ∙ swap (reaches S.output o k) (home_for S (region S) j k) (before k b))
          ∙ r.is))
        where
          reached : reaches S.output o (home S j o) ≡ true
          reached = home_reached S j o r.settled

          before : (k : ℕ) → k < home S j o → (reaches S.output o k && home_for S (region S) j k) ≡ false
          before k b = least_before S.output.states (λ d. reaches S.output o d && home_for S (region S) j d) k (omega (arith, home_least))

-- ---- inputs with a home

module _ (S : Separated) (o d j : ℕ) (r : HasHome S o d j) where
  pub home_reached_at : reaches S.output o d ≡ true
  home_reached_at = rw r.is at (home_reached S j o r.settled)

  pub home_at_lem : home_for S (region S) j d ≡ true
  home_at_lem = rw r.is at (home_home_for S j o r.settled)

  pub home_core : nontrivial S.output d ≡ true
  home_core = home_for_nontrivial S (region S) j d home_at_lem

  -- some move still reaches the home, so it makes a won position
  answered : j < S.input.states → answers S (region S) j o ≡ true
  answered a =
      let v = first_move_lem S.output o d (reaches_path S.output o d home_reached_at) home_core in
      answers_intro S (region S) j o v.0 v.1
      (region_settles S j v.0 a (edge_to S.output o v.0 v.1) r.is_nontrivial ∙ settles_intro S (region S) j v.0 d v.2 home_at_lem)

  pub row_home : j < S.input.states → (c : ℕ) → controller_row S o c j ≡ homeward S d o c
  row_home a c = row_answers S o c j (answered a) ∙ settled_nontrivial S o c j r.is_nontrivial ∙ ap (λ (k : ℕ). homeward S k o c) r.is

  -- the home of j at d is d
  pub has_home_there : HasHome S d d j
  unfolding home
  has_home_there = record {
    is_nontrivial = r.is_nontrivial;
    settled = settles_intro S (region S) j d d self home_at_lem;
    is =
        least_unique S.output.states (λ k. reaches S.output d k && home_for S (region S) j k) d (reaches_to S.output o d home_reached_at)
        (and_intro self home_at_lem)
        (λ k b. false_of (reaches S.output d k && home_for S (region S) j k)
        (λ e. clash
        (and_intro (reaches_trans S.output o d k home_reached_at (and_left (reaches S.output d k) (home_for S (region S) j k) e))
        (and_right (reaches S.output d k) (home_for S (region S) j k) e))
        (least_before S.output.states (λ i. reaches S.output o i && home_for S (region S) j i) k (omega (arith, r.is)))));
  }
    where
      self : reaches S.output d d ≡ true
      self = reaches_self S.output d (reaches_to S.output o d home_reached_at)

-- who has-home at d at one state of its component has-home there at every other
pub has_home_same : (S : Separated) (o o' d j : ℕ) → j < S.input.states → joined S.output o o' ≡ true → HasHome S o d j → HasHome S o' d j
has_home_same S o o' d j a e r = record {
  is_nontrivial = r.is_nontrivial;
  settled =
      settles_intro S (region S) j o' d (reaches_trans S.output o' o d (joined_back S.output o o' e) (home_reached_at S o d j r)) (home_at_lem S o d j r);
  is = sym (home_same S j j o o' (joined_self S.input j a) e) ∙ r.is;
}
