-- Commands and moves: a command that a drive allows makes a move of its graph, and each move has a lowest command.
--
--   allowed_below, allowed-next    : what an allowed command has
--   made_edge, edge_made           : a move, by a command
--   command_below, command_leads   : the lowest command of a move
use Prim.Native.Nat.{ℕ, ◌<◌}
use mathlib.Core.Path.{◌≡◌, sym, ◌∙◌, ap}
use mathlib.Core.Bool.{true, not}
use mathlib.Core.List.{List}
use mathlib.Core.Logic.{◌≢◌}
use native.Mathlib.Omega.{arith}
use lib.Dec.{eqb, ltb}
use lib.ListN.{get_or}
use borrow.Author.Tests.{lt-ltb, ltb-true, eq-eqb, ne_eqb, eqb-true, eqb-false}
use Rattle.finite.proofs.Truth.{and_intro, and_left, and_right, not_true}
use Rattle.finite.proofs.Bounded.{any_intro, any_elim, least_below, least_member}
use Rattle.bits.specs.Member.{has}
use Rattle.sets.specs.Words.{capacity}
use Rattle.sets.proofs.Rows.{sets_words}
use Rattle.graphs.specs.Graph.{edge}
use Rattle.graphs.specs.Rows.{rel, rows_of}
use Rattle.graphs.proofs.Graph.{edge_to, edge_moves, edge_intro}
use Rattle.graphs.proofs.Rows.{rel_rows, rel_holds}
use Rattle.play.specs.Play.{graph_of}
use Rattle.kit_drives.specs.declared.Drive.{Drive}
use Rattle.kit_drives.specs.Drive.{next_in, next_mode, allows, made_by, graph_from, command_for, Small}

module _ (d : Drive) (S : Small d) where
  pub allowed_below : (m u : ℕ) → allows d m u ≡ true → u < d.commands
  unfolding allows
  allowed_below m u a = ltb-true u d.commands (and_left (ltb u d.commands) (not (eqb (next_mode d m u) 255)) a)

  pub allowed_open : (m u : ℕ) → allows d m u ≡ true → next_mode d m u ≢ 255
  unfolding allows
  allowed_open m u a = eqb-false (next_mode d m u) 255 (not_true (eqb (next_mode d m u) 255) (and_right (ltb u d.commands) (not (eqb (next_mode d m u) 255)) a))

  pub allowed_intro : (m u : ℕ) → u < d.commands → next_mode d m u ≢ 255 → allows d m u ≡ true
  unfolding allows
  allowed_intro m u b n = and_intro (lt-ltb u d.commands b) (ap not (ne_eqb (next_mode d m u) 255 n))

  -- the graph's rows are those of the moves that commands make
  row_made : (m t : ℕ) → (graph_of (graph_from d)).moves m t ≡ rel (rows_of capacity d.modes (made_by d.next d.commands)) m t
  unfolding graph_of graph_from rel
  row_made m t = ap (λ (l : List ℕ). has (get_or l m 0) t) (sets_words (rows_of capacity d.modes (made_by d.next d.commands)))

  pub made_edge : (m u t : ℕ) → m < d.modes → u < d.commands → next_mode d m u ≡ t → t < d.modes → edge (graph_of (graph_from d)) m t ≡ true
  unfolding graph_of graph_from made_by
  made_edge m u t a b e c =
      edge_intro (graph_of (graph_from d)) m t a c
      (row_made m t ∙ rel_rows capacity d.modes (made_by d.next d.commands) m t (omega (arith, S.modes)) c
      ∙ any_intro d.commands (λ v. eqb (next_in d.next m v) t) u b (eq-eqb (next_mode d m u) t e))

  edge_made : (m t : ℕ) → edge (graph_of (graph_from d)) m t ≡ true → made_by d.next d.commands m t ≡ true
  edge_made m t e =
      rel_holds capacity d.modes (made_by d.next d.commands) m t (sym (row_made m t) ∙ edge_moves (graph_of (graph_from d)) m t e)

  pub edge_mode : (m t : ℕ) → edge (graph_of (graph_from d)) m t ≡ true → t < d.modes
  unfolding graph_of graph_from
  edge_mode m t e = edge_to (graph_of (graph_from d)) m t e

  -- the lowest command of a move is one, and leads there
  pub command_below : (m t : ℕ) → edge (graph_of (graph_from d)) m t ≡ true → command_for d m t < d.commands
  unfolding command_for made_by
  command_below m t e =
      let v = any_elim d.commands (λ u. eqb (next_in d.next m u) t) (edge_made m t e) in
      least_below d.commands (λ u. eqb (next_mode d m u) t) v.0 v.1 v.2

  pub command_leads : (m t : ℕ) → edge (graph_of (graph_from d)) m t ≡ true → next_mode d m (command_for d m t) ≡ t
  unfolding command_for
  command_leads m t e = eqb-true (next_mode d m (command_for d m t)) t (least_member d.commands (λ u. eqb (next_mode d m u) t) (command_below m t e))
