-- One round of the search.
--
--   choices_of                    : what `choices` gives
--   choices_reached               : what is chosen from is reached
--   settles_intro, settles_of, settles_not, settles_left, settles_move, settles_near : a state settles where it is left and has a move into what is reached
use Prim.Native.Nat.{ℕ, ◌<◌}
use mathlib.Core.Path.{◌≡◌, sym, ◌∙◌, ap}
use mathlib.Core.Bool.{Bool, true, false, not, ◌&&◌}
use mathlib.Core.List.{List}
use mathlib.Core.Logic.{◌≢◌}
use lib.Dec.{eqb}
use lib.Bits.{bit_and}
use lib.ListN.{get_or}
use borrow.Author.Tests.{eqb-false, eq-eqb, ne_eqb}
use Rattle.finite.proofs.Truth.{clash, true_of, and_intro, and_left, and_right, not_true}
use Rattle.bits.specs.Member.{has, sets_meet}
use Rattle.bits.proofs.Membership.{ext, has_zero_lem, has_and}
use Rattle.bits.proofs.Compare.{member_nonzero, nonzero_member, meets_intro}
use Rattle.graph_ways.specs.Kept.{kept}
use Rattle.graph_ways.specs.Search.{choices, moves_into}
use Rattle.graph_ways.proofs.Kept.{kept_from}

module _ (rows : List ℕ) (c left l : ℕ) where
  choices_none : (s : ℕ) → has left s ≡ false → 0 ≡ choices rows c left l s
  unfolding choices
  choices_none s e = rw (e, choices)

  choices_some : (s : ℕ) → has left s ≡ true → bit_and (bit_and (get_or rows s 0) c) l ≡ choices rows c left l s
  unfolding choices
  choices_some s e = rw (e, choices)

  -- what they are of three sets
  pub choices_of : (s row moves : ℕ) {r : ℕ} → has left s ≡ true → row ≡ get_or rows s 0 → ((t : ℕ) → has moves t ≡ (has row t && has c t))
      → ((t : ℕ) → has r t ≡ (has moves t && has l t)) → r ≡ choices rows c left l s
  choices_of s row moves {r} e q f g =
      ext r (bit_and (bit_and (get_or rows s 0) c) l)
      (λ t. g t
      ∙ ap (λ (b : Bool). b && has l t) (f t ∙ ap (λ (x : ℕ). has x t && has c t) q ∙ sym (has_and (get_or rows s 0) c t))
      ∙ sym (has_and (bit_and (get_or rows s 0) c) l t))
      ∙ choices_some s e

  -- ---- which states settle

  choices_left : (s t : ℕ) → has (choices rows c left l s) t ≡ true → has left s ≡ true
  choices_left s t h =
      true_of (has left s) (λ e. clash h (ap (λ (x : ℕ). has x t) (sym (choices_none s e)) ∙ has_zero_lem t))

  -- what is chosen from is reached
  pub choices_reached : (s t : ℕ) → has (choices rows c left l s) t ≡ true → has l t ≡ true
  choices_reached s t h =
      let moves = bit_and (get_or rows s 0) c in
      and_right (has moves t) (has l t) (sym (has_and moves l t) ∙ ap (λ (x : ℕ). has x t) (choices_some s (choices_left s t h)) ∙ h)

  pub has_choices : (s t : ℕ) → has left s ≡ true → has c s ≡ true → has (choices rows c left l s) t ≡ (kept rows c s t && has l t)
  unfolding kept
  has_choices s t a b =
      ap (λ (x : ℕ). has x t) (sym (choices_some s a)) ∙ has_and (bit_and (get_or rows s 0) c) l t
      ∙ ap (λ (x : Bool). x && has l t) (has_and (get_or rows s 0) c t ∙ swap (has (get_or rows s 0) t) (has c t) (has c s) b)
    where
      swap : (x y z : Bool) → z ≡ true → (x && y) ≡ (z && (y && x))
      swap true true z e = rw e
      swap true false z e = rw e
      swap false true z e = rw e
      swap false false z e = rw e

  pub settles_intro : (s t : ℕ) → has left s ≡ true → kept rows c s t ≡ true → has l t ≡ true → moves_into rows c left l s ≡ true
  unfolding moves_into
  settles_intro s t a m h =
      ap not
      (ne_eqb (choices rows c left l s) 0
      (member_nonzero (choices rows c left l s) t (has_choices s t a (kept_from rows c s t m) ∙ and_intro m h)))

  pub settles_nonzero : (s : ℕ) → moves_into rows c left l s ≡ true → choices rows c left l s ≢ 0
  unfolding moves_into
  settles_nonzero s h = eqb-false (choices rows c left l s) 0 (not_true (eqb (choices rows c left l s) 0) h)

  pub settles_left : (s : ℕ) → moves_into rows c left l s ≡ true → has left s ≡ true
  settles_left s h =
      let m = nonzero_member (choices rows c left l s) (settles_nonzero s h) in
      choices_left s m.0 m.1

  pub settles_move : (s : ℕ) → has c s ≡ true → moves_into rows c left l s ≡ true → (t : ℕ) × (kept rows c s t ≡ true) × (has l t ≡ true)
  settles_move s b h =
      let m = nonzero_member (choices rows c left l s) (settles_nonzero s h) in
      let both : (kept rows c s m.0 && has l m.0) ≡ true = sym (has_choices s m.0 (settles_left s h) b) ∙ m.1 in
      (m.0, and_left (kept rows c s m.0) (has l m.0) both, and_right (kept rows c s m.0) (has l m.0) both)

  pub settles_near : (w near s : ℕ) → ((t : ℕ) → has near t ≡ (has c t && has l t)) → ((t : ℕ) → has l t ≡ true → t < w)
      → moves_into rows c left l s ≡ true → sets_meet w (get_or rows s 0) near ≡ true
  settles_near w near s f b h =
      let m = nonzero_member (choices rows c left l s) (settles_nonzero s h) in
      let t = m.0 in
      let moves = bit_and (get_or rows s 0) c in
      let all = sym (has_and moves l t) ∙ ap (λ (k : ℕ). has k t) (choices_some s (settles_left s h)) ∙ m.1 in
      let reached = and_right (has moves t) (has l t) all in
      let inside = sym (has_and (get_or rows s 0) c t) ∙ and_left (has moves t) (has l t) all in
      meets_intro w (get_or rows s 0) near t (b t reached) (and_left (has (get_or rows s 0) t) (has c t) inside)
      (f t ∙ and_intro (and_right (has (get_or rows s 0) t) (has c t) inside) reached)

  pub settles_of : (s : ℕ) → choices rows c left l s ≢ 0 → moves_into rows c left l s ≡ true
  unfolding moves_into
  settles_of s ne = ap not (ne_eqb (choices rows c left l s) 0 ne)

  pub settles_not : (s : ℕ) → choices rows c left l s ≡ 0 → moves_into rows c left l s ≡ false
  unfolding moves_into
  settles_not s e = ap not (eq-eqb (choices rows c left l s) 0 e)
