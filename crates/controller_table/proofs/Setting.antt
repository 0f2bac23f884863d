-- What an accepted game, its size and its scratch give to the laws.
--
--   sizes_of_lem, table_of    : the size of the table
--   told_of               : what scratch tells
--   scratch_long          : scratch has all its rows
use Prim.Native.Nat.{ℕ, ◌≤◌, ◌<◌}
use mathlib.Core.Path.{◌≡◌, refl, ◌∙◌, ap}
use mathlib.Core.Bool.{true, false}
use mathlib.Core.List.{List}
use mathlib.Core.Logic.{◌⊎◌, inl, inr}
use native.Mathlib.Omega.{arith}
use Rattle.play.proofs.Moves.{moved_edge}
use Rattle.finite.proofs.Truth.{decide}
use Rattle.bits.specs.Member.{has}
use Rattle.bits.proofs.Membership.{has_pack_below, has_pack_all}
use Rattle.graphs.specs.Closure.{reaches}
use Rattle.graphs.specs.Component.{nontrivial}
use Rattle.graphs.proofs.Graph.{edge_from}
use Rattle.graphs.proofs.Closure.{reaches_to}
use Rattle.graphs.proofs.Component.{nontrivial_move}
use Rattle.arena.specs.Arena.{Separated}
use Rattle.game.specs.declared.Game.{Game}
use Rattle.game.proofs.Laws.{Fits, accepted_fits}
use Rattle.play.specs.Play.{graph_of, separated_of}
use Rattle.sets.specs.Words.{capacity, sets_in, set_count}
use Rattle.scratch.specs.Scratch.{scratch_sets}
use Rattle.scratch.specs.Stored.{row_at, stored_at, stored_row}
use Rattle.scratch.proofs.Read.{ready_won}
use Rattle.demands.proofs.Sizes.{controller_few}
use Rattle.theory.specs.Region.{home_for, region}
use Rattle.theory.proofs.Region.{home_for_nontrivial, region_out}
use Rattle.controller_rows.specs.declared.Size.{Size}
use Rattle.controller_rows.specs.Writes.{length_of, Table}
use Rattle.controller_table.specs.Filled.{Sized, Given}
use Rattle.theory.proofs.Demands.{controller_counts}
use Rattle.controller_table.proofs.Fills.{Sizes}
use Rattle.controller_table.proofs.Told.{Told}

module _ (g : Game) (z : Size) (Z : Sized g z) where
  pub fits_of : Fits g
  fits_of = accepted_fits g Z.accepted

  pub sizes_of_lem : Sizes (separated_of g) z
  unfolding separated_of graph_of
  sizes_of_lem = record { inputs = Z.inputs; outputs = Z.outputs; counters = Z.counters; all = Z.all; columns = Z.columns }

  pub few_outputs : (separated_of g).output.states ≤ capacity
  unfolding separated_of graph_of
  few_outputs = fits_of.output.most

  pub table_of : (long : ℕ) → length_of z ≤ long → Table z long
  unfolding separated_of graph_of
  table_of long b = record {
    inputs = omega (arith, Z.inputs, fits_of.input.most);
    outputs = omega (arith, Z.outputs, fits_of.output.most);
    some = rw Z.counters (controller_counts (separated_of g));
    counters = omega (arith, Z.counters, controller_few g fits_of);
    all = Z.all;
    starts = Z.starts;
    front = Z.front;
    columns = Z.columns;
    room = b;
  }

module _ (S : Separated) (j : ℕ) where
  stored_below : (d : ℕ) → stored_at S j d ≡ true → d < S.output.states
  unfolding stored_at
  stored_below d h = go (decide (nontrivial S.input j))
    where
      go : (nontrivial S.input j ≡ true) ⊎ (nontrivial S.input j ≡ false) → d < S.output.states
      go (inl t) =
          let v = nontrivial_move S.output d (home_for_nontrivial S (region S) j d (rw (t, stored_at) at h)) in
          edge_from S.output d v.0 v.1
      go (inr t) = region_out S j d (rw (t, stored_at) at h)

  stored_has : (d : ℕ) → has (stored_row S j) d ≡ stored_at S j d
  unfolding stored_row
  stored_has d = has_pack_all S.output.states (stored_at S j) stored_below d

  stored_homes : nontrivial S.input j ≡ true → (d : ℕ) → has (stored_row S j) d ≡ home_for S (region S) j d
  unfolding stored_at
  stored_homes t d = stored_has d ∙ rw (t, stored_at) refl

  stored_wins : nontrivial S.input j ≡ false → (d : ℕ) → has (stored_row S j) d ≡ region S j d
  unfolding stored_at
  stored_wins t d = stored_has d ∙ rw (t, stored_at) refl

pub told_of : (g : Game) (z : Size) (s : List ℕ) (inner : ℕ) → Given g z s inner → Told (separated_of g) (sets_in s) z.inputs inner (sets_in g.output.moves)
unfolding separated_of graph_of
told_of g z s inner G = record {
  few_inputs = F.input.most;
  few_outputs = F.output.most;
  is_nontrivial = λ j a. ap (λ (x : ℕ). has x j) G.ready.inner ∙ has_pack_below g.input.states (nontrivial (graph_of g.input)) j a;
  homes = λ j d a t. row j d a ∙ stored_homes (separated_of g) j t d;
  wins = λ j o a t. row j o a ∙ stored_wins (separated_of g) j t o;
  reach = λ o d b.
      rw G.sized.inputs
      (ap (λ (x : ℕ). has x d) (G.ready.laid.outputs o b)
      ∙ has_pack_all g.output.states (reaches (graph_of g.output) o) (λ t r. reaches_to (graph_of g.output) o t r) d);
  moves = λ o p b. moved_edge g.output F.output o p b;
  same = λ o p a b. refl;
  won = λ i o a b.
      rw G.sized.inputs (ready_won G.ready i o a b);
}
  where
    F : Fits g
    F = accepted_fits g G.sized.accepted

    row : (j d : ℕ) → j < g.input.states → has (row_at (sets_in s) z.inputs j) d ≡ has (stored_row (separated_of g) j) d
    row j d a = rw G.sized.inputs (ap (λ (x : ℕ). has x d) (G.ready.rows j a))

-- scratch has all its rows
pub scratch_long : {g : Game} {z : Size} {s : List ℕ} {inner : ℕ} → Given g z s inner → scratch_sets z.inputs z.outputs ≤ set_count s
scratch_long {g} {z} G = rw (G.sized.inputs, G.sized.outputs) G.ready.laid.long
