-- A search from 0 on for the lowest number that a test holds of.
--
--   search_found    : the test holds at j, and of nothing before
--   search_none     : it holds of nothing below n
use Prim.Native.Nat.{ℕ, ◌≤◌, ◌<◌}
use mathlib.Core.Path.{◌≡◌, sym}
use mathlib.Core.Bool.{Bool, true, false}
use native.Mathlib.Decide.{dec_lt}
use native.Mathlib.Omega.{arith}
use Rattle.finite.specs.Bounded.{any, least}
use Rattle.finite.proofs.Truth.{clash}
use Rattle.finite.proofs.Bounded.{any_false, least_le, least_any, least_unique}
use Rattle.finite.proofs.Loops.{any_end}

pub search_found : (n j : ℕ) (p : ℕ → Bool) → j < n → any j p ≡ false → p j ≡ true → j ≡ least n p
search_found n j p b f t = sym (least_unique n p j b t (any_false j p f))

least_none : (n : ℕ) (p : ℕ → Bool) → any n p ≡ false → n ≡ least n p
least_none n p f = elim (dec_lt (least n p) n) [ yes l ↦ clash (least_any n p l) f | no l ↦ omega (arith, least_le n p) ]

pub search_none : (n j : ℕ) (p : ℕ → Bool) → j ≤ n → n ≤ j → any j p ≡ false → n ≡ least n p
search_none n j p a b f = least_none n p (any_end n j p a b f)
