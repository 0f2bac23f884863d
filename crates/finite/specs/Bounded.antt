-- Bounded search over the numbers below n, as functions into Bool.
--
--   all n p      == p k holds for every k < n
--   any n p      == p k holds for some k < n
--   least n p    == the smallest k < n with p k; n where there is none
--   count n p    == how many k < n have p k
use Rattle.std.specs.Prelude.{ℕ, zero, suc, ◌+◌, Bool, true, false, ◌&&◌, ◌||◌}

unfoldable pub all : ℕ → (ℕ → Bool) → Bool
all zero p = true
all (suc n) p = p n && all n p

unfoldable pub any : ℕ → (ℕ → Bool) → Bool
any zero p = false
any (suc n) p = p n || any n p

-- the smallest k' with p k' among k, k + 1, .. (n of them); k + n where there is none
unfoldable pub least_from : ℕ → (ℕ → Bool) → ℕ → ℕ
least_from zero p k = k
least_from (suc n) p k = elim (p k) [ true ↦ k | false ↦ least_from n p (suc k) ]

unfoldable pub least : ℕ → (ℕ → Bool) → ℕ
unfolding least_from
least n p = least_from n p zero

-- 1 where the test holds, 0 where it does not
unfoldable pub one : Bool → ℕ
one true = 1
one false = 0

unfoldable pub count : ℕ → (ℕ → Bool) → ℕ
count zero p = 0
count (suc n) p = one (p n) + count n p
