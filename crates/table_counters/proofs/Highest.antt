-- The counter just past the highest member.
--
--   past_word  : it is the length of the word in digits
use Prim.Native.Nat.{ℕ, suc, ◌+◌, ◌*◌, ◌-◌, ◌≤◌, ◌<◌, ◌^◌}
use mathlib.Core.Path.{◌≡◌, refl, ◌∙◌, ap, ap₂}
use mathlib.Core.Bool.{true}
use native.Mathlib.Omega.{arith}
use native.Mathlib.Decide.{ℕ_discrete}
use native.Mathlib.Nat.{pow-suc}
use lib.Count.{count_leading_zeros, leading_of_zero, leading_top}
use Rattle.finite.proofs.Truth.{clash}
use Rattle.bits.specs.Member.{has}
use Rattle.bits.proofs.Membership.{has_zero_lem, has_lt, has_block_high}
use Rattle.table_counters.specs.Counters.{counter_capacity, Past}

one_in : has 1 0 ≡ true
unfolding has
one_in = refl

pub past_word : (x : ℕ) → x < 2 ^ counter_capacity → Past x (counter_capacity - count_leading_zeros counter_capacity x)
past_word x b = go (ℕ_discrete x 0)
  where
    go : Dec (x ≡ 0) → Past x (counter_capacity - count_leading_zeros counter_capacity x)
    go (yes e) =
        let z : count_leading_zeros counter_capacity x ≡ counter_capacity = ap (count_leading_zeros counter_capacity) e ∙ leading_of_zero counter_capacity in record {
          few = omega arith;
          members = λ s m. clash m (ap (λ (k : ℕ). has k s) e ∙ has_zero_lem s);
          last = λ s q. absurd (omega arith);
        }
    go (no n) =
        let t = leading_top counter_capacity x (omega arith) b in record {
          few = omega arith;
          members = λ s m. let l = has_lt (suc t.0) x s t.3 m in omega (arith, t.1);
          last = λ s q. let e : s ≡ t.0 = omega (arith, t.1) in rw e (top t.0 t.2 t.3);
        }
      where
        top : (j : ℕ) → 2 ^ j ≤ x → x < 2 ^ suc j → has x j ≡ true
        top j l h =
            let z : j ≡ j + 0 = omega arith in
            let d : 2 ^ suc j ≡ 2 ^ j * 2 = pow-suc 2 j in
            let e : x ≡ 1 * 2 ^ j + (x - 2 ^ j) = omega arith in
            ap₂ has e z ∙ has_block_high j 1 (x - 2 ^ j) 0 (omega arith) ∙ one_in
