-- Which answer tells the ground of a position: a law for each return.
--
--   inside_yes                                         : the input is in a nontrivial component
--   told_input_stuck, told_by_replies, told_at_home       : of a won position
--   told_output_stuck, told_unanswered                  : of a lost one
--   staying                                            : a lost position with the input in a nontrivial component
--   told_by_way_out, none_lost                           : a way out, and none
--   told_pushed_on, owed_below, told_unserved           : with no way out
use Prim.Native.Nat.{ℕ, ◌≤◌, ◌<◌}
use mathlib.Core.Path.{◌≡◌, sym, ◌∙◌, ap, ap₂}
use mathlib.Core.Bool.{Bool, true, false, not}
use mathlib.Core.List.{List}
use native.Mathlib.Omega.{arith}
use lib.Dec.{eqb}
use lib.ListN.{length}
use Rattle.finite.specs.Bounded.{any, least}
use Rattle.finite.proofs.Truth.{false_of, not_true, not_false}
use Rattle.finite.proofs.Bounded.{least_any, least_found, least_below}
use Rattle.finite.proofs.Tabulate.{length_tabulate}
use Rattle.bits.specs.Member.{has}
use Rattle.sets.specs.Words.{bits_of}
use Rattle.graphs.specs.Graph.{stuck}
use Rattle.graphs.specs.Component.{nontrivial}
use Rattle.theory.specs.Region.{region}
use Rattle.theory.specs.Choice.{home}
use Rattle.game.specs.declared.Game.{Game}
use Rattle.game.specs.declared.InSet.{InSet}
use Rattle.game.specs.declared.OutSet.{OutSet}
use Rattle.game.specs.declared.InState.{InState}
use Rattle.game.specs.declared.OutState.{OutState}
use Rattle.game.specs.Access.{in_moves, out_moves, requirement_at}
use Rattle.play.specs.Play.{graph_of, requirement_of, requirements_of, separated_of}
use Rattle.grounds.specs.Ground.{unreplied, lost_exit, owed, first_owed, first_missed, ground}
use Rattle.grounds.proofs.Branches.{
  is_input_stuck,
  is_by_replies,
  is_at_home,
  is_output_stuck,
  is_unanswered,
  is_by_way_out,
  is_unserved,
  is_pushed_on,
}
use Rattle.grounds.proofs.Homes.{owed_some}
use Rattle.ground_search.specs.declared.Explanation.{Explanation}
use Rattle.ground_search.specs.declared.Explanation.TheVariants.{
  InputStuck,
  ByReplies,
  AtHome,
  OutputStuck,
  Unanswered,
  ByWayOut,
  Unserved,
  PushedOn,
}
use Rattle.ground_search.specs.Asked.{PositionAsked, Staying}
use Rattle.ground_search.specs.Told.{told}
use Rattle.ground_search.proofs.Meaning.{row_stuck, inside_means}

module _ {g : Game} {s : List ℕ} {c : InSet} {i : InState} {o : OutState} (A : PositionAsked g s c i o) where
  abbrev answer : Explanation
  answer = told (ground (separated_of g) i.0 o.0)

  input_stuck_lem : {x : InSet} {t : Bool} → x ≡ in_moves g i → t ≡ eqb (bits_of x.0) 0 → t ≡ stuck (graph_of g.input) i.0
  input_stuck_lem e h =
      h ∙ ap (λ (u : InSet). eqb (bits_of u.0) 0) e ∙ row_stuck g.input A.ready.fits.input i.0 A.input

  output_stuck_lem : {x : OutSet} {t : Bool} → x ≡ out_moves g o → t ≡ eqb (bits_of x.0) 0 → t ≡ stuck (graph_of g.output) o.0
  output_stuck_lem e h =
      h ∙ ap (λ (u : OutSet). eqb (bits_of u.0) 0) e ∙ row_stuck g.output A.ready.fits.output o.0 A.output

  pub inside_yes : {u : Bool} → u ≡ has (bits_of c.0) i.0 → not u ≡ false → nontrivial (graph_of g.input) i.0 ≡ true
  inside_yes {u} h q = sym (inside_means A) ∙ sym h ∙ not_false u q

  inside_no : {u : Bool} → u ≡ has (bits_of c.0) i.0 → not u ≡ true → nontrivial (graph_of g.input) i.0 ≡ false
  inside_no {u} h q = sym (inside_means A) ∙ sym h ∙ not_true u q

  -- ---- a won position

  module _ (w : region (separated_of g) i.0 o.0 ≡ true) {x : InSet} {t : Bool} (e : x ≡ in_moves g i) (h : t ≡ eqb (bits_of x.0) 0) where
    pub told_input_stuck : t ≡ true → InputStuck ≡ answer
    unfolding told separated_of
    told_input_stuck q = sym (ap told (is_input_stuck (separated_of g) i.0 o.0 w (sym (input_stuck_lem e h) ∙ q)))

    module _ (q : t ≡ false) {u : Bool} (f : u ≡ has (bits_of c.0) i.0) where
      pub told_by_replies : not u ≡ true → ByReplies ≡ answer
      unfolding told separated_of
      told_by_replies v = sym (ap told (is_by_replies (separated_of g) i.0 o.0 w (sym (input_stuck_lem e h) ∙ q) (inside_no f v)))

      pub told_at_home : not u ≡ false → (r : OutState) → r.0 ≡ home (separated_of g) i.0 o.0 → AtHome r ≡ answer
      unfolding told separated_of
      told_at_home v r z =
          ap (λ (d : ℕ). AtHome (record { 0 = d })) z
          ∙ sym (ap told (is_at_home (separated_of g) i.0 o.0 w (sym (input_stuck_lem e h) ∙ q) (inside_yes f v)))

  -- ---- a lost position

  module _ (w : region (separated_of g) i.0 o.0 ≡ false) {x : OutSet} {t : Bool} (e : x ≡ out_moves g o) (h : t ≡ eqb (bits_of x.0) 0) where
    pub told_output_stuck : t ≡ true → OutputStuck ≡ answer
    unfolding told separated_of
    told_output_stuck q = sym (ap told (is_output_stuck (separated_of g) i.0 o.0 w (sym (output_stuck_lem e h) ∙ q)))

    module _ (q : t ≡ false) {u : Bool} (f : u ≡ has (bits_of c.0) i.0) where
      pub told_unanswered : not u ≡ true → (r : InState) → r.0 ≡ least g.input.states (unreplied (separated_of g) i.0 o.0) → Unanswered r ≡ answer
      unfolding told separated_of graph_of
      told_unanswered v r z =
          ap (λ (j : ℕ). Unanswered (record { 0 = j })) z
          ∙ sym (ap told (is_unanswered (separated_of g) i.0 o.0 w (sym (output_stuck_lem e h) ∙ q) (inside_no f v)))

      pub staying : not u ≡ false → Staying g i.0 o.0
      staying v = record { lost = w; moving = sym (output_stuck_lem e h) ∙ q; inside = inside_yes f v }

  -- ---- and the input in a nontrivial component

  module _ (Q : Staying g i.0 o.0) where
    pub told_by_way_out : (r : InState) → r.0 ≡ least g.input.states (lost_exit (separated_of g) i.0 o.0) → r.0 < g.input.states
        → ByWayOut r ≡ answer
    unfolding told separated_of graph_of
    told_by_way_out r z b =
        ap (λ (j : ℕ). ByWayOut (record { 0 = j })) z
        ∙ sym
        (ap told
        (is_by_way_out (separated_of g) i.0 o.0 Q.lost Q.moving Q.inside
        (least_any g.input.states (lost_exit (separated_of g) i.0 o.0) (omega (arith, z)))))

    module _ (n : any g.input.states (lost_exit (separated_of g) i.0 o.0) ≡ false) where
      pub told_pushed_on : {t : Bool} → t ≡ nontrivial (graph_of g.output) o.0 → not t ≡ true → PushedOn ≡ answer
      unfolding told separated_of graph_of
      told_pushed_on {t} h q =
          sym (ap told (is_pushed_on (separated_of g) i.0 o.0 Q.lost Q.moving Q.inside n (sym h ∙ not_true t q)))

      module _ {t : Bool} (h : t ≡ nontrivial (graph_of g.output) o.0) (q : not t ≡ false) where
        -- some requirement is owed
        pub owed_below : first_owed (separated_of g) i.0 o.0 < g.k
        unfolding first_owed separated_of graph_of requirements_of
        owed_below =
            let v = owed_some (separated_of g) i.0 o.0 A.input A.output Q.lost Q.inside (sym h ∙ not_false t q) n in
            let l = length_tabulate (λ r. requirement_of (requirement_at g r)) g.k in
            omega (arith, l, least_below (length (separated_of g).requirements) (owed (separated_of g) i.0 o.0) v.0 v.1 v.2)

        pub told_unserved : (r k : ℕ) → r ≡ first_owed (separated_of g) i.0 o.0 → k ≡ first_missed (separated_of g) o.0 r → Unserved r k ≡ answer
        unfolding told separated_of graph_of
        told_unserved r k e f =
            ap₂ (λ (u v : ℕ). Unserved u v) e (f ∙ ap (λ (u : ℕ). first_missed (separated_of g) o.0 u) e)
            ∙ sym (ap told (is_unserved (separated_of g) i.0 o.0 Q.lost Q.moving Q.inside n (sym h ∙ not_false t q)))

-- nothing below n is found
pub none_lost : (n : ℕ) (p : ℕ → Bool) {r : ℕ} → r ≡ least n p → n ≤ r → any n p ≡ false
none_lost n p e b = false_of (any n p) (λ h. omega (arith, e, least_found n p h))
