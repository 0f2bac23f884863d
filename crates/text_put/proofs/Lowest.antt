-- A set's members, lowest first.
--
--   set_small         : a set of a program has no member past the capacity
--   members_none      : the empty set has no members
--   members_lowest    : the lowest member, and then those of the set without it
use Prim.Native.Nat.{ℕ, zero, suc, ◌+◌, ◌^◌, ◌≤◌, ◌<◌}
use native.Mathlib.Omega.{arith}
use native.Mathlib.Decide.{ℕ_discrete}
use mathlib.Core.Bool.{true, false, ◌&&◌, not}
use mathlib.Core.List.{[], ◌∷◌}
use mathlib.Core.Path.{◌≡◌, refl, sym, ◌∙◌, ap}
use lib.Dec.{eqb}
use Rattle.bits.specs.Member.{has}
use Rattle.bits.proofs.Membership.{has_zero_lem}
use Rattle.bits.proofs.Remove.{less_out, less_other}
use Rattle.sets.specs.declared.Set.{Set}
use Rattle.sets.specs.Words.{capacity, bits_of, WordsFit}
use Rattle.sets.proofs.Pair.{pair_lt}
use Rattle.text_grammar.proofs.Format.{by_cases}
use Rattle.text_shape.specs.Text.{members}
use Rattle.text_shape.proofs.Members.{members_take, members_skip}

pub set_small : (x : Set) → WordsFit x → bits_of x < 2 ^ capacity
unfolding bits_of
set_small x F = pair_lt x.low x.high F.0 F.1

pub members_none : (n lo : ℕ) → members n lo 0 ≡ []
unfolding members
members_none zero lo = refl
members_none (suc n) lo = members_skip n lo 0 (has_zero_lem lo) ∙ members_none n (suc lo)

members_same : (n lo x y : ℕ) → ((s : ℕ) → lo ≤ s → has x s ≡ has y s) → members n lo x ≡ members n lo y
unfolding members
members_same zero lo x y h = refl
members_same (suc n) lo x y h =
    let rest = members_same n (suc lo) x y (λ s l. h s (omega arith)) in
    let here = h lo (omega arith) in
    by_cases (has x lo)
    (λ b. members_take n lo x b ∙ ap (◌∷◌ lo) rest ∙ sym (members_take n lo y (sym here ∙ b)))
    (λ b. members_skip n lo x b ∙ rest ∙ sym (members_skip n lo y (sym here ∙ b)))

module _ (x y v : ℕ) (is : has x v ≡ true) (before : (s : ℕ) → s < v → has x s ≡ false) (less : (s : ℕ) → has y s ≡ (has x s && not (eqb s v))) where
  pub members_lowest : (n lo : ℕ) → lo ≤ v → v < lo + n → members n lo x ≡ v ∷ members n lo y
  members_lowest zero lo a b = absurd (omega arith)
  members_lowest (suc n) lo a b = elim (ℕ_discrete lo v) [ yes e ↦ rw e here | no e ↦ later e (members_lowest n (suc lo) (omega arith) (omega arith)) ]
    where
      here : members (suc n) v x ≡ v ∷ members (suc n) v y
      here =
          members_take n v x is
          ∙ ap (◌∷◌ v) (members_same n (suc v) x y (λ s l. sym (less_other x v y less s (λ e. omega arith))) ∙ sym (members_skip n v y (less_out x v y less)))

      later : (lo ≡ v → ⊥) → members n (suc lo) x ≡ v ∷ members n (suc lo) y → members (suc n) lo x ≡ v ∷ members (suc n) lo y
      later e h =
          let none = before lo (omega arith) in
          members_skip n lo x none ∙ h ∙ ap (◌∷◌ v) (sym (members_skip n lo y (less_other x v y less lo e ∙ none)))
