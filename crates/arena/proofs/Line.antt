-- Pins, on a game whose one input move leads from 0 to 1: no walk of one move or more comes back, so no table has a cycle.
use Prim.Native.Nat.{ℕ, ◌<◌}
use mathlib.Core.Path.{◌≡◌, ap}
use mathlib.Core.Bool.{true, ◌&&◌}
use mathlib.Core.List.{[]}
use native.Mathlib.Omega.{arith}
use lib.Dec.{eqb, ltb}
use borrow.Author.Tests.{eqb-true}
use Rattle.finite.proofs.Truth.{and_left, and_right}
use Rattle.graphs.specs.Graph.{Graph, edge}
use Rattle.graphs.proofs.Walk.{keep}
use Rattle.arena.specs.Arena.{Arena, arena_of}
use Rattle.arena.specs.Table.{ControllerTable}
use Rattle.arena.specs.Play.{Configuration, ControllerFirst, ControllerTurn, Cycle}

unfoldable pub once : Graph
once = record { states = 2; initial = λ s. eqb s 0; moves = λ s t. eqb s 0 && eqb t 1 }

unfoldable pub line : Arena
unfolding arena_of
line = arena_of (record { input = once; output = once; requirements = [] })

rises : (T : ControllerTable) (c d : Configuration) → ControllerTurn line T c d → c.input < d.input
unfolding line once arena_of edge
rises T c d t = up c.input d.input t.move
  where
    up : (i j : ℕ) → edge once i j ≡ true → i < j
    up i j h =
        let m : (eqb i 0 && eqb j 1) ≡ true = and_right (ltb j 2) (eqb i 0 && eqb j 1) (and_right (ltb i 2) (ltb j 2 && (eqb i 0 && eqb j 1)) h) in
        omega (arith, eqb-true i 0 (and_left (eqb i 0) (eqb j 1) m), eqb-true j 1 (and_right (eqb i 0) (eqb j 1) m))

-- "A round is a walk of one move or more back to its first configuration"
pub no_cycle : (T : ControllerTable) → Cycle (ControllerFirst line T) (ControllerTurn line T) → ⊥
no_cycle T r =
    omega (
      arith,
      keep (λ c. r.at.input < c.input) (λ c d h t. omega (arith, rises T c d t)) r.rest (rises T r.at r.next r.turn),
      ap (λ (c : Configuration). c.input) r.back,
    )
