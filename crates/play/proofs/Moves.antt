-- The moves of a graph whose record fits, as its rows tell them.
--
--   moved_edge : a member of a row is a move
--   row_edge   : a member of a row that is read
use Prim.Native.Nat.{ℕ, ◌<◌}
use mathlib.Core.Path.{◌≡◌, ◌∙◌, ap}
use lib.ListN.{get_or}
use Rattle.finite.proofs.Truth.{same_test}
use Rattle.bits.specs.Member.{has}
use Rattle.sets.specs.Words.{bits_of, sets_in, set_at}
use Rattle.sets.proofs.Rows.{set_bits}
use Rattle.graphs.specs.Graph.{edge}
use Rattle.graphs.proofs.Graph.{edge_intro, edge_moves}
use Rattle.game.specs.declared.Graph.{Graph}
use Rattle.game.specs.Fits.{GraphFits}
use Rattle.play.specs.Play.{graph_of}

module _ (h : Graph) (F : GraphFits h) where
  pub moved_edge : (k t : ℕ) → k < h.states → has (get_or (sets_in h.moves) k 0) t ≡ edge (graph_of h) k t
  unfolding graph_of
  moved_edge k t a =
      same_test (has (get_or (sets_in h.moves) k 0) t) (edge (graph_of h) k t) (λ e. edge_intro (graph_of h) k t a (F.row_below k t a e) e)
      (λ e. edge_moves (graph_of h) k t e)

  pub row_edge : (k t : ℕ) → k < h.states → has (bits_of (set_at h.moves k)) t ≡ edge (graph_of h) k t
  row_edge k t a = ap (λ (x : ℕ). has x t) (set_bits h.moves k) ∙ moved_edge k t a
