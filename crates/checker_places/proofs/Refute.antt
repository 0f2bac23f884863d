-- What a checker hands back is true of a table that does not win.
--
--   part                                      : a part of the walk
--   walked_reachable                          : each configuration of the walk is reachable
--   closing                                   == the closing round of the walk
--   closing_passes                            : its configurations
--   refute_start, refute_row, refute_round    : each finding refutes that the table wins
use Prim.Native.Nat.{ℕ, suc, ◌+◌, ◌-◌, ◌<◌}
use mathlib.Core.Path.{◌≡◌, sym, ◌∙◌, ap}
use mathlib.Core.List.{◌∷◌}
use native.Mathlib.Omega.{arith}
use Rattle.finite.specs.Tabulate.{tabulate_from}
use Rattle.finite.proofs.Truth.{clash}
use Rattle.finite.proofs.Lists.{all_of_elim}
use Rattle.graphs.specs.Walk.{Walk, passed}
use Rattle.arena.specs.Arena.{Requirement, Arena}
use Rattle.arena.specs.Table.{ControllerTable}
use Rattle.arena.specs.Play.{Configuration, ControllerFirst, ControllerTurn, Reachable, Cycle, configurations, meets}
use Rattle.arena.specs.Win.{ControllerWins}
use Rattle.arena.proofs.Meets.{breaks_elim}
use Rattle.checker_places.specs.Finding.{Walked, BadStart, BadRow, BadRound}
use Rattle.checker_places.proofs.WalkPart.{walk_part}

module _ (A : Arena) (T : ControllerTable) where
  module _ (at : ℕ → Configuration) (n : ℕ) (W : Walked A T at n) where
    -- the part from number a to number b
    pub part : (a m b : ℕ) → a + m ≡ b → b < n → (v : Walk (ControllerTurn A T) (at a) (at b)) × (passed v ≡ tabulate_from a (suc m) at)
    part a m b e l = walk_part (ControllerTurn A T) at a m b e (λ k i j. W.turn k (omega (arith, j, l)))

    pub walked_reachable : (k : ℕ) → k < n → Reachable (ControllerFirst A T) (ControllerTurn A T) (at k)
    walked_reachable k l = record { origin = at 0; first = W.first; walk = (part 0 k k (omega arith) l).0 }

    module _ (b : ℕ) (l : suc b < n) (e : at (n - 1) ≡ at b) where
      unfoldable pub closing : Cycle (ControllerFirst A T) (ControllerTurn A T)
      closing = record {
        at = at b;
        next = at (suc b);
        last = at (n - 1);
        turn = W.turn b l;
        rest = (part (suc b) (n - suc (suc b)) (n - 1) (omega arith) (omega arith)).0;
        back = e;
        reachable = walked_reachable b (omega arith);
      }

      closing_passes : configurations (ControllerFirst A T) (ControllerTurn A T) closing ≡ tabulate_from b (n - b) at
      unfolding configurations closing tabulate_from
      closing_passes =
          let h = (part (suc b) (n - suc (suc b)) (n - 1) (omega arith) (omega arith)).1 in
          let count : suc (suc (n - suc (suc b))) ≡ n - b = omega arith in
          ap (◌∷◌ (at b)) h ∙ ap (λ (x : ℕ). tabulate_from b x at) count

  pub refute_start : (i : ℕ) → BadStart A T i → ControllerWins A T → ⊥
  refute_start i f w = f.bad (w.starts i f.initial)

  pub refute_row : (at : ℕ → Configuration) (n j : ℕ) → BadRow A T at n j → ControllerWins A T → ⊥
  refute_row at n j f w =
      let s = f.walked.some in
      f.bad (w.steps (at (n - 1)) (walked_reachable at n f.walked (n - 1) (omega (arith, s))) j f.move)

  pub refute_round : (at : ℕ → Configuration) (n b : ℕ) (q : Requirement) → BadRound A T at n b q → ControllerWins A T → ⊥
  refute_round at n b q f w =
      let r = closing at n f.walked b f.before f.closes in
      let e = closing_passes at n f.walked b f.before f.closes in
      let met = all_of_elim (λ x. meets x (configurations (ControllerFirst A T) (ControllerTurn A T) r)) A.requirements (w.rounds r) q f.required in
      clash (ap (meets q) (sym e) ∙ met) (breaks_elim q (tabulate_from b (n - b) at) f.broken)
