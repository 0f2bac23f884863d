-- Places taken out of a set one by one.
--
--   Cutting           == the queue's first k are taken out
--   cutting-*         : how that begins, goes on and ends
use Prim.Native.Nat.{ℕ, ◌+◌, ◌≤◌, ◌<◌}
use mathlib.Core.Path.{◌≡◌, sym, ◌∙◌}
use mathlib.Core.Bool.{true, false}
use mathlib.Core.List.{List}
use mathlib.Core.Logic.{◌⊎◌, inl, inr}
use native.Mathlib.Omega.{arith}
use native.Mathlib.Decide.{ℕ_discrete}
use lib.ListN.{length, set, length-set}
use Rattle.finite.proofs.Truth.{clash}
use Rattle.checker_search.specs.Turns.{marked}
use Rattle.checker_search.specs.Queues.{at}
use Rattle.checker_search.proofs.Turns.{marked_other, unmarked_here, unmarked_left}
use Rattle.checker_rounds.specs.Rounds.{CutFits, Cut}

pub record Cutting (kept queue : List ℕ) (n : ℕ) (kept' : List ℕ) (k : ℕ) : Type 0 where
  pub upto : k ≤ n
  pub size : length kept' ≡ 4096
  pub only : (a : ℕ) → marked kept' a ≡ true → marked kept a ≡ true
  pub taken : (a : ℕ) → marked kept a ≡ true → marked kept' a ≡ false → (i : ℕ) × (i < k) × (at queue i ≡ a)

module _ (kept queue : List ℕ) (n u : ℕ) (F : CutFits kept queue n u) where
  pub cutting_start : Cutting kept queue n kept 0
  cutting_start = record { upto = omega arith; size = F.long; only = λ a h. h; taken = λ a h g. clash h g }

  module _ (kept' : List ℕ) (k : ℕ) (C : Cutting kept queue n kept' k) where
    pub cutting_next : k < n → (x : ℕ) → x ≡ at queue k → x < 4096 → Cutting kept queue n (set kept' x 0) (k + 1)
    cutting_next l x e m = record {
      upto = omega (arith, l);
      size = length-set kept' x 0 ∙ C.size;
      only = λ a h. C.only a (unmarked_left kept' x b a h).1;
      taken = λ a h g. taken a h g (ℕ_discrete a x);
    }
      where
        b : x < length kept'
        b = omega (arith, m, C.size)

        taken : (a : ℕ) → marked kept a ≡ true → marked (set kept' x 0) a ≡ false → Dec (a ≡ x) → (i : ℕ) × (i < k + 1) × (at queue i ≡ a)
        taken a h g (yes z) = (k, omega arith, sym e ∙ sym z)
        taken a h g (no d) = let v = C.taken a h (sym (marked_other kept' x b 0 a d) ∙ g) in (v.0, omega (arith, v.1), v.2)

    pub cutting_end : n ≤ k → Cut kept queue n u (set kept' u 0)
    cutting_end l = record {
      size = length-set kept' u 0 ∙ C.size;
      only = λ a h. C.only a (unmarked_left kept' u b a h).1;
      gone = unmarked_here kept' u b;
      taken = λ a h g. taken a h g (ℕ_discrete a u);
    }
      where
        b : u < length kept'
        b = omega (arith, F.here, C.size)

        taken : (a : ℕ) → marked kept a ≡ true → marked (set kept' u 0) a ≡ false → Dec (a ≡ u) → ((i : ℕ) × (i < n) × (at queue i ≡ a)) ⊎ (a ≡ u)
        taken a h g (yes z) = inr z
        taken a h g (no d) =
            let v = C.taken a h (sym (marked_other kept' u b 0 a d) ∙ g) in inl (v.0, omega (arith, v.1, C.upto), v.2)
