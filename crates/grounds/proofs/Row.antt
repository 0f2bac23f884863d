-- The home that a ground names is the home of the controller's row.
--
--   home_named    : it is the home of the position
--   home_row      : it is the home of the controller's row for that output and input
use Prim.Native.Nat.{ℕ, ◌<◌}
use mathlib.Core.Path.{◌≡◌, sym, ◌∙◌, ap, subst}
use mathlib.Core.Bool.{true}
use Rattle.graphs.specs.Component.{nontrivial}
use Rattle.graphs.proofs.Graph.{edge_to}
use Rattle.graphs.proofs.Component.{joined_self, joined_sym, nontrivial_move}
use Rattle.arena.specs.Arena.{Separated}
use Rattle.theory.specs.Region.{answers, region}
use Rattle.theory.specs.Choice.{home, homeward, controller_row}
use Rattle.theory.proofs.Region.{answers_intro, answers_elim}
use Rattle.theory.proofs.Delay.{region_same, reply}
use Rattle.theory.proofs.ControllerRow.{row_answers, settled_nontrivial}
use Rattle.theory.proofs.Demands.{won_region}
use Rattle.grounds.specs.Ground.{Ground, at_home, first_named, ground}
use Rattle.grounds.specs.Holds.{AtHome, Holds}
use Rattle.grounds.proofs.Component.{told_nontrivial}
use Rattle.grounds.proofs.Branches.{is_at_home}
use Rattle.grounds.proofs.Holds.{moving_input, ground_holds}

module _ (S : Separated) (i o : ℕ) (a : i < S.input.states) (b : o < S.output.states) where
  holds_at : (g : Ground) → ground S i o ≡ g → Holds S i o g
  holds_at g e = subst (Holds S i o) e (ground_holds S i o a b)

  module _ (d : ℕ) (e : ground S i o ≡ at_home d) where
    at_home_lem : AtHome S i o d
    unfolding Holds
    at_home_lem = holds_at (at_home d) e

    won_here : region S i o ≡ true
    won_here = won_region S i o a b at_home_lem.won

    staying_here : nontrivial S.input i ≡ true
    staying_here = told_nontrivial S.input i a at_home_lem.staying

    home_named : home S i o ≡ d
    unfolding first_named
    home_named = ap first_named (sym (is_at_home S i o won_here (moving_input S i o a b staying_here) staying_here) ∙ e)

    -- the input may stay in its component, so some reply makes a won position with it
    answered : answers S (region S) i o ≡ true
    answered =
        let v = nontrivial_move S.input i staying_here in
        let x = answers_elim S (region S) v.0 o (reply S i o v.0 won_here v.1) in
        answers_intro S (region S) i o x.0 x.1
        (sym (region_same S v.0 i x.0 x.0 (joined_sym S.input i v.0 v.2)
        (joined_self S.output x.0 (edge_to S.output o x.0 x.1)))
        ∙ x.2)

    -- "Controller row (output o, counter g, new input j)": with this input it goes to the home that is named
    pub home_row : (g : ℕ) → controller_row S o g i ≡ homeward S d o g
    home_row g =
        row_answers S o g i answered ∙ settled_nontrivial S o g i staying_here ∙ ap (λ (k : ℕ). homeward S k o g) home_named
