-- Loops that test every number below n, or look for one: what holds at the start, after a turn, where the loop is left and at its end.
use Prim.Native.Nat.{ℕ, ◌+◌, ◌≤◌, ◌<◌}
use native.Mathlib.Nat.{le_antisymm}
use native.Mathlib.Numerals.{add-one}
use mathlib.Core.Path.{◌≡◌, refl, sym, ◌∙◌, ap}
use mathlib.Core.Bool.{Bool, true, false, not, ◌&&◌}
use Rattle.finite.specs.Bounded.{all, any}
use Rattle.finite.proofs.Truth.{not_true, not_false, or_false}
use Rattle.finite.proofs.Bounded.{all_fails}

pub all_start : (p : ℕ → Bool) → all 0 p ≡ true
unfolding all
all_start p = refl

pub all_turn : (i : ℕ) (p : ℕ → Bool) → all i p ≡ true → p i ≡ true → all (i + 1) p ≡ true
unfolding all
all_turn i p h e = rw add-one (rw e h)

pub all_longer : (i : ℕ) (p : ℕ → Bool) → p i ≡ true → all (i + 1) p ≡ all i p
unfolding all
all_longer i p e = rw add-one (rw e refl)

pub all_stop : (n i : ℕ) (p : ℕ → Bool) → i < n → p i ≡ false → false ≡ all n p
all_stop n i p l e = sym (all_fails n p i l e)

pub all_end : (n i : ℕ) (p : ℕ → Bool) → i ≤ n → n ≤ i → all i p ≡ true → true ≡ all n p
all_end n i p l g h = sym (ap (λ (m : ℕ). all m p) (le_antisymm g l) ∙ h)

pub any_start : (p : ℕ → Bool) → any 0 p ≡ false
unfolding any
any_start p = refl

pub any_turn : (i : ℕ) (p : ℕ → Bool) → any i p ≡ false → p i ≡ false → any (i + 1) p ≡ false
unfolding any
any_turn i p h e = rw add-one (or_false e h)

pub any_end : (n i : ℕ) (p : ℕ → Bool) → i ≤ n → n ≤ i → any i p ≡ false → any n p ≡ false
any_end n i p l g h = ap (λ (m : ℕ). any m p) (le_antisymm g l) ∙ h

-- a call's result in `if !f(..)`
pub failed : {r t : Bool} → r ≡ t → not r ≡ true → t ≡ false
failed {r} e n = sym e ∙ not_true r n

pub passed : {r t : Bool} → r ≡ t → not r ≡ false → t ≡ true
passed {r} e n = sym e ∙ not_false r n

-- two tests, one after the other
pub and_stop : {a : Bool} (b : Bool) → a ≡ false → false ≡ (a && b)
and_stop b e = sym (ap (λ (t : Bool). t && b) e)

pub and_next : {a b r : Bool} → a ≡ true → r ≡ b → r ≡ (a && b)
and_next {a} {b} e q = q ∙ sym (ap (λ (t : Bool). t && b) e)
