-- Laws of relations kept as rows.
use Prim.Native.Nat.{ℕ, ◌<◌}
use mathlib.Core.Path.{◌≡◌, sym, ◌∙◌, ap}
use mathlib.Core.Bool.{Bool, true}
use native.Mathlib.Omega.{arith}
use native.Mathlib.Decide.{dec_lt}
use Rattle.finite.proofs.Truth.{clash}
use Rattle.finite.proofs.Tabulate.{get_d_tabulate, get_or_tabulate_past}
use Rattle.bits.specs.Member.{has, pack}
use Rattle.bits.proofs.Membership.{has_zero_lem, has_pack_below, has_pack_past}
use Rattle.graphs.specs.Rows.{rel, rows_of}

module _ (n m : ℕ) (f : ℕ → ℕ → Bool) where
  row_of : (s t : ℕ) → s < n → rel (rows_of n m f) s t ≡ has (pack m (f s)) t
  unfolding rel rows_of
  row_of s t a = ap (λ (x : ℕ). has x t) (get_d_tabulate (λ (k : ℕ). pack m (f k)) n s 0 a)

  pub rel_rows : (s t : ℕ) → s < n → t < m → rel (rows_of n m f) s t ≡ f s t
  rel_rows s t a b = row_of s t a ∙ has_pack_below m (f s) t b

  pub rel_from : (s t : ℕ) → rel (rows_of n m f) s t ≡ true → s < n
  unfolding rel rows_of
  rel_from s t h =
      elim (dec_lt s n) [
        | yes a ↦ a
        | no a ↦ clash h (ap (λ (x : ℕ). has x t) (get_or_tabulate_past (λ (k : ℕ). pack m (f k)) n s 0 (omega arith)) ∙ has_zero_lem t)
      ]

  pub rel_to : (s t : ℕ) → rel (rows_of n m f) s t ≡ true → t < m
  rel_to s t h =
      elim (dec_lt t m) [
        | yes b ↦ b
        | no b ↦ clash h (row_of s t (rel_from s t h) ∙ has_pack_past m (f s) t (omega arith))
      ]

  pub rel_holds : (s t : ℕ) → rel (rows_of n m f) s t ≡ true → f s t ≡ true
  rel_holds s t h = sym (rel_rows s t (rel_from s t h) (rel_to s t h)) ∙ h
