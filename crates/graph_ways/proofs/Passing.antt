-- States that a round passes over.
--
--   passed_none, passed_next  : none, and one more
--   passed_falls              : there are fewer then
--   passed_few                : and never more than before
use Prim.Native.Nat.{ℕ, ◌≤◌, ◌<◌}
use mathlib.Core.Path.{◌≡◌, sym, ◌∙◌}
use mathlib.Core.Bool.{true, false, not, ◌&&◌}
use mathlib.Core.List.{List}
use native.Mathlib.Omega.{arith}
use native.Mathlib.Decide.{ℕ_discrete}
use lib.Dec.{eqb}
use lib.ListN.{get_or}
use Rattle.finite.specs.Bounded.{least, count}
use Rattle.finite.proofs.Bounded.{least_member, count_mono}
use Rattle.finite.proofs.Truth.{clash}
use Rattle.bits.specs.Member.{has, sets_meet}
use Rattle.bits.proofs.Remove.{less_in, less_other, less_falls}
use Rattle.bits.proofs.Visit.{lowest_less}
use Rattle.sets.specs.Words.{capacity, low_states}
use Rattle.graph_ways.specs.Search.{PassedOver}

module _ (rows : List ℕ) (near from : ℕ) where
  pub passed_none : PassedOver rows near from from
  passed_none = record { member = λ t e. e; idle = λ t a b. clash a b }

  pub passed_few : {r : ℕ} → PassedOver rows near from r → count capacity (has r) ≤ count capacity (has from)
  passed_few {r} P = count_mono capacity (has r) (has from) (λ k b e. P.member k e)

module _ (rest s v : ℕ) (e : s ≡ least capacity (has rest)) (low : least capacity (has rest) < low_states)
    (d : (t : ℕ) → has v t ≡ (has rest t && not (eqb t (least capacity (has rest))))) where
  less : (t : ℕ) → has v t ≡ (has rest t && not (eqb t s))
  less = lowest_less capacity rest s v e d

  pub passed_falls : count capacity (has v) < count capacity (has rest)
  passed_falls = less_falls rest s v less capacity (omega (arith, e, low)) (rw e (least_member capacity (has rest) (omega (arith, low))))

  pub passed_next : (rows : List ℕ) (near from : ℕ) → PassedOver rows near from rest → sets_meet capacity (get_or rows s 0) near ≡ false
      → PassedOver rows near from v
  passed_next rows near from P still = record { member = λ t a. P.member t (less_in rest s v less t a); idle = idle }
    where
      idle : (t : ℕ) → has from t ≡ true → has v t ≡ false → sets_meet capacity (get_or rows t 0) near ≡ false
      idle t a b = elim (ℕ_discrete t s) [ yes k ↦ rw k still | no k ↦ P.idle t a (sym (less_other rest s v less t k) ∙ b) ]
