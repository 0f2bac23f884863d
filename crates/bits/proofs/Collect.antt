-- A set collected state by state: after t states it is `pack t p`.
use Prim.Native.Nat.{ℕ, ◌+◌, ◌≤◌, ◌<◌}
use mathlib.Core.Path.{◌≡◌, refl, sym, ◌∙◌, ap}
use mathlib.Core.Bool.{Bool, true, false, ◌&&◌, ◌||◌}
use native.Mathlib.Omega.{arith}
use native.Mathlib.Decide.{ℕ_discrete, dec_lt}
use lib.Dec.{eqb}
use borrow.Author.Tests.{eq-eqb, ne_eqb}
use Rattle.finite.proofs.Truth.{and_all, and_false_right, or_none}
use Rattle.bits.specs.Member.{has, pack}
use Rattle.bits.proofs.Membership.{ext, has_pack_below, has_pack_past}

pub collect_none : (p : ℕ → Bool) → 0 ≡ pack 0 p
unfolding pack
collect_none p = refl

pub collect_next : (p : ℕ → Bool) (t x r : ℕ) (ok : Bool) → x ≡ pack t p → ok ≡ p t
    → ((u : ℕ) → has r u ≡ (has x u || (ok && eqb u t))) → r ≡ pack (t + 1) p
collect_next p t x r ok e o h = ext r (pack (t + 1) p) (λ u. h u ∙ at u (ℕ_discrete u t) (dec_lt u t))
  where
    at : (u : ℕ) → Dec (u ≡ t) → Dec (u < t) → (has x u || (ok && eqb u t)) ≡ has (pack (t + 1) p) u
    at u (yes q) d =
        let past : has x u ≡ false = ap (λ (y : ℕ). has y u) e ∙ has_pack_past t p u (omega arith) in
        rw (past, eq-eqb u t q) (and_all ok refl ∙ o ∙ ap p (sym q) ∙ sym (has_pack_below (t + 1) p u (omega arith)))
    at u (no q) (yes d) =
        rw (ne_eqb u t q, and_false_right ok refl) (or_none (has x u) refl ∙ ap (λ (y : ℕ). has y u) e ∙ has_pack_below t p u d ∙ sym
        (has_pack_below (t + 1) p u (omega arith)))
    at u (no q) (no d) =
        rw (ne_eqb u t q, and_false_right ok refl)
        (or_none (has x u) refl ∙ ap (λ (y : ℕ). has y u) e ∙ has_pack_past t p u (omega arith) ∙ sym (has_pack_past (t + 1) p u (omega arith)))

pub collect_end : (p : ℕ → Bool) (t n x : ℕ) → t ≤ n → n ≤ t → x ≡ pack t p → x ≡ pack n p
collect_end p t n x a b e = e ∙ ap (λ (k : ℕ). pack k p) (omega arith)

pub inserted : (x s r t : ℕ) (ok : Bool) → ok ≡ true → has r t ≡ (has x t || eqb t s) → has r t ≡ (has x t || (ok && eqb t s))
inserted x s r t ok e h = rw e h

pub not_inserted : (x s t : ℕ) (ok : Bool) → ok ≡ false → has x t ≡ (has x t || (ok && eqb t s))
not_inserted x s t ok e = rw e (sym (or_none (has x t) refl))

pub united : (x y r s : ℕ) (ok : Bool) → ok ≡ true → has r s ≡ (has x s || has y s) → has r s ≡ (has x s || (ok && has y s))
united x y r s ok e h = rw e h

pub not_united : (x y s : ℕ) (ok : Bool) → ok ≡ false → has x s ≡ (has x s || (ok && has y s))
not_united x y s ok e = rw e (sym (or_none (has x s) refl))
