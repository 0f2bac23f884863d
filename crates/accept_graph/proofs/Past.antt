-- The rows past the count of states, joined row after row.
--
--   past_start, past_next, past_end : as the rows are joined
--   past_fails                      : a row past the count that is not empty does not fit
--   past_fits                       : where those are empty and the others fit, all fit
use Prim.Native.Nat.{ℕ, ◌+◌, ◌≤◌, ◌<◌, min}
use mathlib.Core.Path.{◌≡◌, refl, sym, ◌∙◌, ap}
use mathlib.Core.Bool.{true, false, ◌||◌}
use mathlib.Core.List.{List}
use mathlib.Core.Logic.{◌≢◌}
use native.Mathlib.Omega.{arith}
use native.Mathlib.Decide.{dec_lt, ℕ_discrete}
use lib.ListN.{get_or}
use Rattle.finite.specs.Bounded.{all}
use Rattle.finite.proofs.Truth.{false_of, or_left, or_right}
use Rattle.finite.proofs.Bounded.{all_intro, all_elim}
use Rattle.bits.specs.Member.{has, within}
use Rattle.bits.proofs.Membership.{ext, has_zero_lem, within_zero, zero_within}
use Rattle.bits.proofs.Compare.{member_nonzero}
use Rattle.sets.specs.Words.{capacity, sets_in}
use Rattle.game.specs.declared.Graph.{Graph}
use Rattle.game.specs.Acceptance.{limit, row_fits}
use Rattle.game.proofs.Steps.{limit_out}
use Rattle.accept_graph.specs.Past.{Past}

pub past_start : (rows : List ℕ) (n x : ℕ) → x ≡ 0 → Past rows n n x
past_start rows n x e = record { none = λ z s a b. absurd (omega arith); some = λ k. absurd (k e) }

module _ (rows : List ℕ) (n k x y r : ℕ) (P : Past rows n k x) (a : n ≤ k) (b : k < capacity) (e : y ≡ get_or rows k 0)
    (u : (t : ℕ) → has r t ≡ (has x t || has y t)) where
  left_zero : r ≡ 0 → x ≡ 0
  left_zero z = ext x 0 (λ t. false_of_has t)
    where
      false_of_has : (t : ℕ) → has x t ≡ has 0 t
      false_of_has t = false_of (has x t) (λ h. member_nonzero r t (u t ∙ or_left (has y t) h) z) ∙ sym (has_zero_lem t)

  right_zero : r ≡ 0 → y ≡ 0
  right_zero z = ext y 0 (λ t. false_of_has t)
    where
      false_of_has : (t : ℕ) → has y t ≡ has 0 t
      false_of_has t = false_of (has y t) (λ h. member_nonzero r t (u t ∙ or_right (has x t) h) z) ∙ sym (has_zero_lem t)

  both_zero : x ≡ 0 → y ≡ 0 → r ≡ 0
  both_zero p q =
      ext r 0 (λ t. u t ∙ ap (λ (i : ℕ). has i t || has y t) p ∙ ap (λ (i : ℕ). has 0 t || has i t) q ∙ rw (has_zero_lem t) refl)

  pub past_next : Past rows n (k + 1) r
  past_next = record {
    none = λ z s c d. go z s c d (dec_lt s k);
    some = λ ne. found ne (ℕ_discrete x 0);
  }
    where
      go : r ≡ 0 → (s : ℕ) → n ≤ s → s < k + 1 → Dec (s < k) → get_or rows s 0 ≡ 0
      go z s c d (yes l) = P.none (left_zero z) s c l
      go z s c d (no l) = let q : s ≡ k = omega arith in ap (λ (i : ℕ). get_or rows i 0) q ∙ sym e ∙ right_zero z

      found : r ≢ 0 → Dec (x ≡ 0) → (s : ℕ) × (n ≤ s) × (s < capacity) × (get_or rows s 0 ≢ 0)
      found ne (no p) = P.some p
      found ne (yes p) = (k, a, b, λ q. ne (both_zero p (e ∙ q)))

pub past_end : (rows : List ℕ) (n k x : ℕ) → capacity ≤ k → Past rows n k x → Past rows n capacity x
past_end rows n k x l P = record { none = λ z s a b. P.none z s a (omega arith); some = P.some }

pub past_fails : (g : Graph) (s : ℕ) → g.states ≤ s → get_or (sets_in g.moves) s 0 ≢ 0 → row_fits g s ≡ false
unfolding row_fits
past_fails g s l ne =
    false_of (row_fits g s) (λ e.
    ne (within_zero (get_or (sets_in g.moves) s 0) (ap (within (get_or (sets_in g.moves) s 0)) (limit_out g.states s g.states l) ∙ e)))

pub past_fits : (g : Graph) (m k x : ℕ) → m ≡ min g.states capacity → m ≤ k → x ≡ 0 → Past (sets_in g.moves) g.states capacity x
    → all k (row_fits g) ≡ true → all capacity (row_fits g) ≡ true
unfolding row_fits
past_fits g m k x e l z P h = all_intro capacity (row_fits g) (λ s b. go s b (dec_lt s g.states))
  where
    go : (s : ℕ) → s < capacity → Dec (s < g.states) → row_fits g s ≡ true
    go s b (yes c) = all_elim k (row_fits g) h s (omega arith)
    go s b (no c) = rw (P.none z s (omega arith) b) (zero_within (limit g.states s g.states))
