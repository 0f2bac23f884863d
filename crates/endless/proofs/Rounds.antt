-- The rounds along a play that never ends.
--
--   reached          : every configuration of the play is reachable
--   round            == where the play comes back, the stretch between is a round
--   round_passed     : its configurations are those of the play at the times between
use Prim.Native.Nat.{ℕ, zero, suc, ◌+◌}
use mathlib.Core.Path.{◌≡◌, ap, subst}
use mathlib.Core.List.{◌∷◌, map}
use native.Mathlib.Omega.{arith}
use Rattle.graphs.proofs.Walk.{iterate, trail, orbit, passed_orbit}
use Rattle.arena.specs.Play.{Configuration, Reachable, Cycle, configurations}
use Rattle.arena.proofs.Reach.{reached_first, reached_turn}
use Rattle.endless.specs.Endless.{Endless}

module _ (First : Configuration → Type 0) (Turn : Configuration → Configuration → Type 0) (f : ℕ → Configuration) (play : Endless First Turn f) where
  -- a turn makes the configuration after each
  turns : (n : ℕ) → Turn (f n) (f (suc n))
  turns n = let e : n + 1 ≡ suc n = omega arith in subst (λ (m : ℕ). Turn (f n) (f m)) e (play.turn n)

  -- every configuration is reachable: by one turn after the other
  pub reached : (n : ℕ) → Reachable First Turn (f n)
  reached zero = reached_first First Turn play.first
  reached (suc n) = reached_turn First Turn (reached n) (turns n)

  -- k + 1 turns from the time t on, after which the play is where it was
  module _ (t k : ℕ) (back : f (iterate suc (suc k) t) ≡ f t) where
    -- they are a round
    pub round : Cycle First Turn
    unfolding iterate
    round = record {
      at = f t;
      next = f (suc t);
      last = f (iterate suc k (suc t));
      turn = turns t;
      rest = orbit Turn suc f turns k (suc t);
      back = back;
      reachable = reached t;
    }

    -- its configurations are those at the times t to t + k + 1
    pub round_passed : configurations First Turn round ≡ map f (trail suc (suc k) t)
    unfolding configurations round trail
    round_passed = ap (◌∷◌ (f t)) (passed_orbit Turn suc f turns k (suc t))
