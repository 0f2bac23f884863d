-- The goals of a tour, set by set.
use Prim.Native.Nat.{ℕ, ◌+◌, ◌≤◌, ◌<◌}
use mathlib.Core.Path.{◌≡◌, ◌∙◌}
use mathlib.Core.Bool.{Bool, ◌&&◌, ◌||◌}
use native.Mathlib.Omega.{arith}
use lib.Dec.{eqb}
use Rattle.bits.specs.Member.{has, sets_meet}
use Rattle.bits.proofs.Collect.{collect_next, collect_end}
use Rattle.sets.specs.Words.{capacity}
use Rattle.table_goals.specs.declared.GoalRange.{GoalRange}
use Rattle.table_goals.specs.Ranges.{range_set, MetMore}

module _ (s : GoalRange) (x q : ℕ) where
  pub met_none : MetMore s x q 0 q
  met_none = record { goals = λ p e h. collect_end p s.from (s.from + 0) q (omega arith) (omega arith) e }

  pub met_next : (j m r : ℕ) (b : Bool) → j < s.count → MetMore s x q j m → b ≡ sets_meet capacity (range_set s j) x
      → ((t : ℕ) → has r t ≡ (has m t || (b && eqb t (s.from + j)))) → MetMore s x q (j + 1) r
  met_next j m r b l M e f = record {
    goals = λ p o h.
        collect_end p (s.from + j + 1) (s.from + (j + 1)) r (omega arith) (omega arith)
        (collect_next p (s.from + j) m r b (M.goals p o h) (e ∙ h j l) f);
  }

  pub met_end : (j n r : ℕ) → j ≤ n → n ≤ j → MetMore s x q j r → MetMore s x q n r
  met_end j n r a b M = record { goals = λ p o h. collect_end p (s.from + j) (s.from + n) r (omega arith) (omega arith) (M.goals p o h) }
