-- Scratch that is cleared from the front.
--
--   cleared_filled  : the first words, filled with zeros
--   cleared_same    : what is changed among the words that are cleared does not show
use Prim.Native.Nat.{ℕ, zero, suc, ◌≤◌}
use mathlib.Core.Path.{◌≡◌, refl, sym, ◌∙◌, ap}
use mathlib.Core.List.{List, ◌∷◌, ◌++◌}
use lib.ListN.{length, take, drop, replicate}
use lib.Seq.{length-take-le}
use Rattle.finite.specs.Tabulate.{tabulate_from, tabulate}
use Rattle.scratch_clearing.specs.Clearing.{cleared}

zeros_from : (k n : ℕ) → tabulate_from {A = ℕ} k n (λ j. 0) ≡ replicate n 0
unfolding tabulate_from
zeros_from k zero = refl
zeros_from k (suc n) = ap (λ (l : List ℕ). 0 ∷ l) (zeros_from (suc k) n)

-- f are the first n words of s, filled with zeros
pub cleared_filled : (n : ℕ) (s f : List ℕ) → n ≤ length s → f ≡ replicate (length (take n s)) 0 → f ++ drop n s ≡ cleared n s
unfolding cleared tabulate
cleared_filled n s f l e =
    ap (λ (x : List ℕ). x ++ drop n s) (e ∙ ap (λ (k : ℕ). replicate k 0) (length-take-le n s l) ∙ sym (zeros_from 0 n))

pub cleared_same : (n : ℕ) (s l : List ℕ) → drop n l ≡ drop n s → cleared n l ≡ cleared n s
unfolding cleared
cleared_same n s l e = ap (λ (x : List ℕ). tabulate n (λ k. 0) ++ x) e
