-- From the first configurations to any reachable one: what a table does from there it does in the game.
--
--   reached_from       : what is reachable from a reachable configuration is reachable
--   cycle_from         : so are its cycles
--   keeps_reached      : a winning controller keeps every configuration that it reaches
use Prim.Native.Nat.{◌<◌}
use mathlib.Core.Path.{◌≡◌, refl, sym, subst}
use Rattle.graphs.specs.Walk.{Walk}
use Rattle.arena.specs.Arena.{Arena}
use Rattle.arena.specs.Table.{ControllerTable}
use Rattle.arena.specs.Play.{Configuration, ControllerFirst, ControllerTurn, Reachable, Cycle, configurations}
use Rattle.arena.specs.Win.{ControllerWins, Keeps}
use Rattle.arena.proofs.Reach.{reached_walk}

module _ (First : Configuration → Type 0) (Turn : Configuration → Configuration → Type 0) {c : Configuration} (reached : Reachable First Turn c) where
  pub reached_from : {d : Configuration} → Reachable (◌≡◌ c) Turn d → Reachable First Turn d
  reached_from {d} r = reached_walk First Turn reached (subst (λ (x : Configuration). Walk Turn x d) (sym r.first) r.walk)

  unfoldable pub cycle_from : Cycle (◌≡◌ c) Turn → Cycle First Turn
  cycle_from r = record {
    at = r.at;
    next = r.next;
    last = r.last;
    turn = r.turn;
    rest = r.rest;
    back = r.back;
    reachable = reached_from r.reachable;
  }

  pub configurations_from : (r : Cycle (◌≡◌ c) Turn) → configurations First Turn (cycle_from r) ≡ configurations (◌≡◌ c) Turn r
  unfolding configurations cycle_from
  configurations_from r = refl

pub keeps_reached : (A : Arena) (T : ControllerTable) → ControllerWins A T → (c : Configuration)
    → Reachable (ControllerFirst A T) (ControllerTurn A T) c → c.memory < T.memories → Keeps A T c
keeps_reached A T win c r below = record {
  memory = below;
  steps = λ d s. win.steps d (reached_from _ _ r s);
  rounds = λ s. rw (configurations_from _ _ r s) at (win.rounds (cycle_from _ _ r s));
}
