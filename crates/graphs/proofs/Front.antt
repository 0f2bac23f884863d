-- Laws of a buffer whose first n rows were written and whose rest is as it was: `rows_of n w f ++ drop n l`.
use Prim.Native.Nat.{ℕ, ◌+◌, ◌≤◌, ◌<◌}
use mathlib.Core.Path.{◌≡◌, ◌∙◌, ap}
use mathlib.Core.Bool.{Bool}
use mathlib.Core.List.{List, ◌++◌}
use lib.ListN.{length, get_or, set, drop}
use Rattle.finite.proofs.Front.{front_none, front_next, front_length, front_at, front_rest, front_intro}
use Rattle.bits.specs.Member.{has, pack}
use Rattle.graphs.specs.Rows.{rel, rows_of}

module _ (w : ℕ) (f : ℕ → ℕ → Bool) (l : List ℕ) where
  pub rows_none : l ≡ rows_of 0 w f ++ drop 0 l
  unfolding rows_of
  rows_none = front_none (λ s. pack w (f s)) l

  pub rows_next : {m : List ℕ} {x : ℕ} (n : ℕ) → n < length l → m ≡ rows_of n w f ++ drop n l → x ≡ pack w (f n)
      → set m n x ≡ rows_of (n + 1) w f ++ drop (n + 1) l
  unfolding rows_of
  rows_next {x = x} n h e g = ap (λ (k : List ℕ). set k n x) e ∙ front_next (λ s. pack w (f s)) l n x h g

  pub rows_length : {m : List ℕ} (n : ℕ) → n ≤ length l → m ≡ rows_of n w f ++ drop n l → length m ≡ length l
  unfolding rows_of
  rows_length n h e = ap length e ∙ front_length (λ s. pack w (f s)) l n h

  pub rows_rest : {m : List ℕ} (n : ℕ) → m ≡ rows_of n w f ++ drop n l → drop n m ≡ drop n l
  unfolding rows_of
  rows_rest n e = ap (drop n) e ∙ front_rest (λ s. pack w (f s)) l n

  pub rows_row : {m : List ℕ} (n s : ℕ) → s < n → m ≡ rows_of n w f ++ drop n l → get_or m s 0 ≡ pack w (f s)
  unfolding rows_of
  rows_row n s h e = ap (λ (k : List ℕ). get_or k s 0) e ∙ front_at (λ k. pack w (f k)) l n s 0 h

  pub rows_at : {m : List ℕ} (n s t : ℕ) → s < n → m ≡ rows_of n w f ++ drop n l → rel m s t ≡ has (pack w (f s)) t
  unfolding rel
  rows_at n s t h e = ap (λ (x : ℕ). has x t) (rows_row n s h e)

  pub rows_intro : {m : List ℕ} (n : ℕ) → n ≤ length m → ((s : ℕ) → s < n → get_or m s 0 ≡ pack w (f s)) → drop n m ≡ drop n l
      → m ≡ rows_of n w f ++ drop n l
  unfolding rows_of
  rows_intro {m} n h e r = front_intro (λ s. pack w (f s)) l m n 0 h e r
