-- The ground of a position, branch by branch.
--
--   is_input_stuck .. is_pushed_on    : which tests lead to which ground
use Prim.Native.Nat.{ℕ}
use mathlib.Core.Path.{◌≡◌, refl}
use mathlib.Core.Bool.{true, false}
use Rattle.finite.specs.Bounded.{any, least}
use Rattle.graphs.specs.Graph.{stuck}
use Rattle.graphs.specs.Component.{nontrivial}
use Rattle.arena.specs.Arena.{Separated}
use Rattle.theory.specs.Region.{region}
use Rattle.theory.specs.Choice.{home}
use Rattle.grounds.specs.Ground.{
  input_stuck,
  by_replies,
  at_home,
  output_stuck,
  unanswered,
  by_way_out,
  unserved,
  pushed_on,
  unreplied,
  lost_exit,
  first_owed,
  first_missed,
  won_ground,
  output_ground,
  nontrivial_ground,
  lost_ground,
  ground,
}

module _ (S : Separated) (i o : ℕ) where
  module _ (w : region S i o ≡ true) where
    pub is_input_stuck : stuck S.input i ≡ true → ground S i o ≡ input_stuck
    unfolding ground won_ground
    is_input_stuck t = rw (w, ground, t, won_ground) refl

    pub is_by_replies : stuck S.input i ≡ false → nontrivial S.input i ≡ false → ground S i o ≡ by_replies
    unfolding ground won_ground
    is_by_replies t n = rw (w, ground, t, n, won_ground) refl

    pub is_at_home : stuck S.input i ≡ false → nontrivial S.input i ≡ true → ground S i o ≡ at_home (home S i o)
    unfolding ground won_ground
    is_at_home t n = rw (w, ground, t, n, won_ground) refl

  module _ (w : region S i o ≡ false) where
    pub is_output_stuck : stuck S.output o ≡ true → ground S i o ≡ output_stuck
    unfolding ground lost_ground
    is_output_stuck t = rw (w, ground, t, lost_ground) refl

    module _ (t : stuck S.output o ≡ false) where
      pub is_unanswered : nontrivial S.input i ≡ false → ground S i o ≡ unanswered (least S.input.states (unreplied S i o))
      unfolding ground lost_ground
      is_unanswered n = rw (w, ground, t, n, lost_ground) refl

      module _ (n : nontrivial S.input i ≡ true) where
        is_pressed : ground S i o ≡ nontrivial_ground S i o
        unfolding ground lost_ground
        is_pressed = rw (w, ground, t, n, lost_ground) refl

        pub is_by_way_out : any S.input.states (lost_exit S i o) ≡ true → ground S i o ≡ by_way_out (least S.input.states (lost_exit S i o))
        unfolding nontrivial_ground
        is_by_way_out x = rw (is_pressed, x, nontrivial_ground) refl

        module _ (x : any S.input.states (lost_exit S i o) ≡ false) where
          pub is_unserved : nontrivial S.output o ≡ true → ground S i o ≡ unserved (first_owed S i o) (first_missed S o (first_owed S i o))
          unfolding nontrivial_ground output_ground
          is_unserved m = rw (is_pressed, x, nontrivial_ground, m, output_ground) refl

          pub is_pushed_on : nontrivial S.output o ≡ false → ground S i o ≡ pushed_on
          unfolding nontrivial_ground output_ground
          is_pushed_on m = rw (is_pressed, x, nontrivial_ground, m, output_ground) refl
