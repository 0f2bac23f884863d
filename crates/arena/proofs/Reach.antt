-- Reachable configurations, and the configurations of a cycle.
--
--   reached_first, reached_turn, reached_walk    : what is reachable
--   cycle_rest          : the configurations of a cycle are those that the rest of it passes
--   cycle_reachable     : they are reachable
--   cycle_around        : a walk leads from any of them to any other
use mathlib.Core.Path.{sym, ◌∙◌, subst}
use mathlib.Core.List.Memᴰ
use mathlib.Core.List.{Memᴰ}
use mathlib.Core.Logic.{inl, inr}
use Rattle.graphs.specs.Walk.{Walk, stay, step, passed}
use Rattle.graphs.proofs.Walk.{join, extend, before, after, passed_last}
use Rattle.arena.specs.Play.{Configuration, Reachable, Cycle, configurations}

module _ (First : Configuration → Type 0) (Turn : Configuration → Configuration → Type 0) where
  pub reached_first : {c : Configuration} → First c → Reachable First Turn c
  reached_first {c} f = record { origin = c; first = f; walk = stay }

  pub reached_turn : {c d : Configuration} → Reachable First Turn c → Turn c d → Reachable First Turn d
  reached_turn r t = record { origin = r.origin; first = r.first; walk = extend r.walk t }

  pub reached_walk : {c d : Configuration} → Reachable First Turn c → Walk Turn c d → Reachable First Turn d
  reached_walk r w = record { origin = r.origin; first = r.first; walk = join r.walk w }

  -- "A configuration is reachable when a walk from a first one ends in it, a round when its configurations are."
  pub cycle_reachable : (r : Cycle First Turn) (c : Configuration) → Memᴰ c (configurations First Turn r) → Reachable First Turn c
  unfolding configurations
  cycle_reachable r c m =
      elim (Memᴰ.cases_cons m) [
        | inl e ↦ rw e r.reachable
        | inr n ↦ reached_walk (reached_turn r.reachable r.turn) (before r.rest c n)
      ]

  pub cycle_rest : (r : Cycle First Turn) (c : Configuration) → Memᴰ c (configurations First Turn r) → Memᴰ c (passed r.rest)
  unfolding configurations
  cycle_rest r c m =
      elim (Memᴰ.cases_cons m) [
        | inl e ↦ Memᴰ.cast (e ∙ sym r.back) (passed_last r.rest)
        | inr n ↦ n
      ]

  pub cycle_around : (r : Cycle First Turn) (c d : Configuration) → Memᴰ c (configurations First Turn r)
      → Memᴰ d (configurations First Turn r) → Walk Turn c d
  cycle_around r c d m n =
      join (subst (Walk Turn c) r.back (after r.rest c (cycle_rest r c m))) (step r.turn (before r.rest d (cycle_rest r d n)))
