-- The opening of a line, byte by byte.
use Prim.Native.Nat.{ℕ, zero, suc, ◌+◌, ◌-◌, ◌≤◌, ◌<◌}
use native.Mathlib.Omega.{arith}
use mathlib.Core.List.{[], ◌∷◌, ◌++◌}
use mathlib.Core.Path.{◌≡◌, refl, sym, ◌∙◌, ap}
use lib.ListN.{length, get_or, length-append, get_or-append}
use lib.Seq.{get_or-append-add}
use Rattle.text_shape.specs.Text.{word}
use Rattle.text_shape.specs.Shape.{opening}

pub opening_length : (w : ℕ) → length (opening w) ≡ length (word w) + 2
unfolding opening
opening_length w = omega (arith, length-append (word w) (32 ∷ []))

pub opening_first : (w k : ℕ) → k ≡ 0 → 40 ≡ get_or (opening w) k 0
unfolding opening
opening_first w k e = sym (ap (λ (j : ℕ). get_or (opening w) j 0) e)

pub opening_letter : (w k : ℕ) → (k ≡ 0 → ⊥) → k ≤ length (word w) → get_or (word w) (k - 1) 0 ≡ get_or (opening w) k 0
unfolding opening
opening_letter w zero n h = absurd (n refl)
opening_letter w (suc k) n h =
    ap (λ (j : ℕ). get_or (word w) j 0) (less k) ∙ sym (get_or-append (word w) (32 ∷ []) 0 k (omega arith))
  where
    less : (k : ℕ) → suc k - 1 ≡ k
    less k = omega arith

pub opening_last : (w k : ℕ) → length (word w) < k → k < length (opening w) → 32 ≡ get_or (opening w) k 0
unfolding opening
opening_last w zero h l = absurd (omega arith)
opening_last w (suc k) h l =
    let e : k ≡ length (word w) + 0 = omega (arith, length-append (word w) (32 ∷ [])) in
    sym (ap (λ (j : ℕ). get_or (word w ++ 32 ∷ []) j 0) e ∙ get_or-append-add (word w) (32 ∷ []) 0 0)
