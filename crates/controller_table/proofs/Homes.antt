-- All homes, one after the other.
--
--   home_given, no_home          : a home with inputs, and without
--   settled_here                 : the rows of one home
--   homes_none, homes_next       : the loop over them
--   filled-table                 : all rows
use Prim.Native.Nat.{ℕ, ◌+◌, ◌<◌}
use native.Mathlib.Numerals.{add-one}
use mathlib.Core.Path.{◌≡◌, sym, ◌∙◌, ap, subst}
use mathlib.Core.Bool.{true}
use mathlib.Core.List.{List}
use mathlib.Core.Logic.{inl, inr, ◌≢◌}
use native.Mathlib.Omega.{arith}
use Rattle.finite.proofs.Truth.{decide, clash}
use Rattle.finite.proofs.Bounded.{below_suc}
use Rattle.bits.specs.Member.{has, pack}
use Rattle.bits.proofs.Membership.{has_zero_lem, has_pack_below, pack_below, pack_holds}
use Rattle.bits.proofs.Compare.{nonzero_member}
use Rattle.sets.specs.Words.{bits_of, sets_in}
use Rattle.scratch.specs.Stored.{out_area}
use Rattle.scratch.proofs.Areas.{area_closes}
use Rattle.graphs.specs.Component.{joined}
use Rattle.arena.specs.Arena.{Separated}
use Rattle.game.specs.declared.Game.{Game}
use Rattle.game.specs.declared.InSet.{InSet}
use Rattle.game.specs.declared.OutSet.{OutSet}
use Rattle.play.specs.Play.{graph_of, separated_of}
use Rattle.graph_components.specs.Component.{together}
use Rattle.graph_components.proofs.Closed.{component_closed}
use Rattle.theory.specs.Choice.{home}
use Rattle.controller_rows.specs.declared.Size.{Size}
use Rattle.controller_rows.specs.declared.Home.{Home}
use Rattle.controller_rows.specs.Writes.{has_home_at}
use Rattle.controller_table.specs.Filled.{ControllerFilled, HasHome, Away, There, At, Below, Given, HomeOf}
use Rattle.controller_table.proofs.Fills.{filled_none, filled_more, filled_part}
use Rattle.controller_table.proofs.Told.{has_home_word, has_home_at_lem, has_home_there, home_core}
use Rattle.controller_table.proofs.Setting.{sizes_of_lem, told_of}

-- the home that the code makes
abbrev pub home_with : ℕ → OutSet → InSet → Home
home_with d x i = record { state = record { 0 = d }; component = x; inputs = i }

module _ (g : Game) (z : Size) (s : List ℕ) (inner : ℕ) (G : Given g z s inner) where
  module _ (d : ℕ) (b : d < z.outputs) where
    d_below : d < (separated_of g).output.states
    d_below = rw (sizes_of_lem g z G.sized).outputs at b

    module _ (i : InSet) (e : bits_of i.0 ≡ pack z.inputs (has_home_at (sets_in s) z.inputs inner d d)) where
      in_set_lem : (j : ℕ) → j < (separated_of g).input.states → HasHome (separated_of g) d d j → has (bits_of i.0) j ≡ true
      in_set_lem j a r =
          ap (λ (x : ℕ). has x j) e ∙ has_pack_below z.inputs (has_home_at (sets_in s) z.inputs inner d d) j (rw (sizes_of_lem g z G.sized).inputs a)
          ∙ has_home_at_lem (separated_of g) (sets_in s) z.inputs inner (sets_in g.output.moves) (told_of g z s inner G) j d a d_below d r

      of_set : (j : ℕ) → has (bits_of i.0) j ≡ true → (j < (separated_of g).input.states) × HasHome (separated_of g) d d j
      of_set j h =
          let k = ap (λ (x : ℕ). has x j) (sym e) ∙ h in
          let a = rw (sizes_of_lem g z G.sized).inputs at (pack_below z.inputs (has_home_at (sets_in s) z.inputs inner d d) j k) in (
            a,
            has_home_word (separated_of g) (sets_in s) z.inputs inner (sets_in g.output.moves) (told_of g z s inner G) j d a d_below d d_below
                (pack_holds z.inputs (has_home_at (sets_in s) z.inputs inner d d) j k),
          )

      -- with no input at home at d there is none anywhere
      pub no_home : bits_of i.0 ≡ 0 → (l : List ℕ) → ControllerFilled (separated_of g) z (At (separated_of g) d) l l
      no_home none l =
          filled_none (separated_of g) z l
          (λ o c j x y a h. clash (in_set_lem j a (has_home_there (separated_of g) o d j h.has_home)) (ap (λ (x : ℕ). has x j) none ∙ has_zero_lem j))

      pub home_given : (x : OutSet) → bits_of i.0 ≢ 0 → bits_of x.0 ≡ pack z.outputs (together (out_area (sets_in s) z.inputs) d)
          → HomeOf (separated_of g) (home_with d x i)
      unfolding separated_of graph_of
      home_given x n q =
          let v = nonzero_member (bits_of i.0) n in
          record {
            below = d_below;
            is_nontrivial = home_core (separated_of g) d d v.0 (of_set v.0 v.1).1;
            component =
                q ∙ rw (G.sized.outputs, G.sized.inputs)
                (component_closed g.output (out_area (sets_in s) g.input.states) (area_closes G.ready.laid) d d_below);
            has_home = λ j a h. (of_set j h).1;
            complete = in_set_lem;
          }

-- the rows of one home
pub settled_here : (S : Separated) (z : Size) (d : ℕ) {l m r : List ℕ} → ControllerFilled S z (Away S d) l m → ControllerFilled S z (There S d) m r
    → ControllerFilled S z (At S d) l r
settled_here S z d p q =
    filled_part S z
    (λ o c j x y a h. elim (decide (joined S.output d o)) [
      | inl e ↦ inr (record { has_home = h.has_home; within = e })
      | inr e ↦ inl (record { has_home = h.has_home; apart = e })
    ])
    (filled_more S z p q)

-- the loop over the homes
pub homes_none : (S : Separated) (z : Size) (l : List ℕ) → ControllerFilled S z (Below S 0) l l
homes_none S z l = filled_none S z l (λ o c j x y a h. omega (arith, h.below))

pub homes_next : (S : Separated) (z : Size) (d : ℕ) {l m r : List ℕ} → ControllerFilled S z (Below S d) l m → ControllerFilled S z (At S d) m r
    → ControllerFilled S z (Below S (d + 1)) l r
homes_next S z d p q =
    filled_part S z
    (λ o c j x y a h. elim (below_suc (home S j o) d (rw add-one at h.below)) [
      | inl e ↦ inr (record { has_home = subst (λ (k : ℕ). HasHome S o k j) e h.has_home })
      | inr e ↦ inl (record { has_home = h.has_home; below = e })
    ])
    (filled_more S z p q)
