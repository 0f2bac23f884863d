-- The initial states and the moves of an accepted game, as the tests read them.
use Prim.Native.Nat.{ℕ, ◌≤◌, ◌<◌}
use mathlib.Core.Path.{◌≡◌, ◌∙◌, ap, fun_ext}
use mathlib.Core.Bool.{Bool, ◌&&◌}
use mathlib.Core.List.{List}
use native.Mathlib.Omega.{arith}
use lib.Dec.{ltb}
use lib.ListN.{get_or}
use borrow.Author.Tests.{lt-ltb}
use Rattle.play.proofs.Moves.{row_edge}
use Rattle.finite.proofs.Truth.{same_test}
use Rattle.bits.specs.Member.{has}
use Rattle.sets.specs.Words.{capacity, bits_of, sets_in, set_at}
use Rattle.graphs.specs.Graph.{edge, begins}
use Rattle.graphs.proofs.Graph.{begins_initial, begins_intro}
use Rattle.game.specs.declared.Game.{Game}
use Rattle.game.specs.declared.Graph.{Graph}
use Rattle.game.specs.Acceptance.{accepted, acceptance}
use Rattle.game.proofs.Laws.{accepted_fits}
use Rattle.finite.proofs.Loops.{and_next}
use Rattle.play.specs.Play.{graph_of}

pub begins_of : (h : Graph) (s : ℕ) (r : Bool) → r ≡ (ltb s h.states && has (bits_of h.initial) s) → r ≡ begins (graph_of h) s
unfolding begins graph_of
begins_of h s r e = e

pub edge_of : (h : Graph) (s t x : ℕ) (r : Bool) → s < h.states → x ≡ get_or (sets_in h.moves) s 0 → r ≡ (ltb t h.states && has x t)
    → r ≡ edge (graph_of h) s t
unfolding edge graph_of
edge_of h s t x r l q e = and_next (lt-ltb s h.states l) (e ∙ ap (λ (y : ℕ). ltb t h.states && has y t) q)

-- the count and the rows being lent
pub edge_lent : (h : Graph) (n s t x : ℕ) (l : List ℕ) (r : Bool) → n ≡ h.states → l ≡ h.moves → s < n → x ≡ get_or (sets_in l) s 0
    → r ≡ (ltb t n && has x t) → r ≡ edge (graph_of h) s t
edge_lent h n s t x l r e m b q k =
    edge_of h s t x r (omega (arith, e)) (q ∙ ap (λ (y : List ℕ). get_or (sets_in y) s 0) m) (k ∙ ap (λ (y : ℕ). ltb t y && has x t) e)

module _ (g : Game) (a : acceptance g ≡ accepted) where
  pub inputs_most : g.input.states ≤ capacity
  inputs_most = (accepted_fits g a).input.most

  pub outputs_most : g.output.states ≤ capacity
  outputs_most = (accepted_fits g a).output.most

  pub initial_outputs : has (bits_of g.output.initial) ≡ begins (graph_of g.output)
  unfolding graph_of
  initial_outputs =
      fun_ext
      (λ s. same_test (has (bits_of g.output.initial) s) (begins (graph_of g.output) s)
      (λ h. begins_intro (graph_of g.output) s ((accepted_fits g a).output.initial_below s h) h)
      (begins_initial (graph_of g.output) s))

  pub output_moves : (o : ℕ) → o < g.output.states → has (bits_of (set_at g.output.moves o)) ≡ edge (graph_of g.output) o
  output_moves o l = fun_ext (λ s. row_edge g.output (accepted_fits g a).output o s l)
