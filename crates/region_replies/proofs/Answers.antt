-- The outputs that answer every next input, one input after the other.
--
--   known_all, known_same        : the outputs that are to be looked at
--   Looking, looking-*           : looking at them, one after the other
--   held_none, held_now          : what is known of the last set of outputs that are won
--   answered_all                 : where all next inputs are passed, the outputs with a reply to each
use Prim.Native.Nat.{ℕ, ◌≤◌, ◌<◌}
use mathlib.Core.Path.{◌≡◌, refl, sym, ◌∙◌, ap, ap₂}
use mathlib.Core.Bool.{Bool, true, false, ◌&&◌, ◌||◌, not}
use mathlib.Core.List.{List}
use mathlib.Core.Logic.{◌⊎◌, inl, inr, ◌≢◌}
use native.Mathlib.Omega.{arith}
use native.Mathlib.Decide.{ℕ_discrete}
use lib.Dec.{eqb, ltb}
use lib.ListN.{get_or}
use borrow.Author.Tests.{eq-eqb, eqb-true, lt-ltb}
use Rattle.finite.specs.Bounded.{all, any, least, count}
use Rattle.finite.proofs.Truth.{decide, clash, same_test, and_intro, and_left, and_right, or_left, or_right, or_cases, not_true, and_all}
use Rattle.finite.proofs.Bounded.{all_same, any_intro}
use Rattle.bits.specs.Member.{has, pack, sets_meet}
use Rattle.bits.proofs.Membership.{has_zero_lem, pack_ext}
use Rattle.bits.proofs.Compare.{meets_pack}
use Rattle.bits.proofs.Remove.{less_in, less_other, less_falls}
use Rattle.bits.proofs.Visit.{small_word, lowest_in_lem, lowest_less}
use Rattle.sets.specs.Words.{capacity}
use Rattle.scratch.specs.Stored.{won_at}
use Rattle.scratch.proofs.Narrow.{passes}
use Rattle.region_replies.specs.Replies.{excused, replied, replies_at, reply_with, answers_at, Held, Known}

module _ (rows : List ℕ) (x y : ℕ) where
  -- where all are looked at
  pub known_all : Known rows x y x
  known_all = record { answers = λ o h k. clash h k }

  -- where the last set is the same
  pub known_same : (last r : ℕ) → Held rows last x → y ≢ 0 → y ≡ last → Known rows x y r
  known_same last r H some e =
      record { answers = λ o h k. ap (λ (v : ℕ). sets_meet capacity (get_or rows o 0) v) e ∙ H.answers (λ z. some (e ∙ z)) o h }

  pub held_now : (r : ℕ) → ((o : ℕ) → has r o ≡ answers_at rows x y o) → Held rows y r
  unfolding answers_at
  held_now r f = record { answers = λ some o h. and_right (has x o) (sets_meet capacity (get_or rows o 0) y) (sym (f o) ∙ h) }

-- the outputs of a set that are looked at, the lowest first: those with a move into y join the ones that are known
module _ (rows : List ℕ) (y : ℕ) where
  pub record Looking (from known left x : ℕ) : Type 0 where
    pub inside : (o : ℕ) → has left o ≡ true → has from o ≡ true
    pub kept : (o : ℕ) → has known o ≡ true → has x o ≡ true
    pub right : (o : ℕ) → has x o ≡ true → (has known o ≡ true) ⊎ ((has from o ≡ true) × (sets_meet capacity (get_or rows o 0) y ≡ true))
    pub all : (o : ℕ) → has from o ≡ true → has left o ≡ false → sets_meet capacity (get_or rows o 0) y ≡ true → has x o ≡ true

  pub looking_start : (from known : ℕ) → Looking from known from known
  looking_start from known = record { inside = λ o h. h; kept = λ o h. h; right = λ o h. inl h; all = λ o h k q. clash h k }

  module _ (from known left x : ℕ) (small : (o : ℕ) → has from o ≡ true → o < capacity) (L : Looking from known left x) (some : left ≢ 0) (h : ℕ)
      (e : h ≡ least capacity (has left)) where
    left_small : (o : ℕ) → has left o ≡ true → o < capacity
    left_small o i = small o (L.inside o i)

    here : has left h ≡ true
    here = lowest_in_lem capacity left h (small_word capacity left left_small) some e

    pub looking_below : h < capacity
    looking_below = left_small h here

    module _ (r : ℕ) (d : (o : ℕ) → has r o ≡ (has left o && not (eqb o (least capacity (has left))))) where
      less : (o : ℕ) → has r o ≡ (has left o && not (eqb o h))
      less = lowest_less capacity left h r e d

      pub looking_falls : count capacity (has r) < count capacity (has left)
      looking_falls = less_falls left h r less capacity looking_below here

      pub looking_next : (ok : Bool) (z : ℕ) → ok ≡ sets_meet capacity (get_or rows h 0) y → ((o : ℕ) → has z o ≡ (has x o || (ok && eqb o h)))
          → Looking from known r z
      looking_next ok z q f = record {
        inside = λ o i. L.inside o (less_in left h r less o i);
        kept = λ o i. f o ∙ or_left (ok && eqb o h) (L.kept o i);
        right = λ o i. elim (or_cases (has x o) (ok && eqb o h) (sym (f o) ∙ i)) [
          | inl k ↦ L.right o k
          | inr k ↦
              let j = eqb-true o h (and_right ok (eqb o h) k) in
              inr (rw j (L.inside h here, sym q ∙ and_left ok (eqb o h) k))
        ];
        all = λ o i k g. elim (ℕ_discrete o h) [
          | yes j ↦ f o ∙ or_right (has x o) (and_intro (q ∙ ap (λ (v : ℕ). sets_meet capacity (get_or rows v 0) y) (sym j) ∙ g) (eq-eqb o h j))
          | no j ↦ f o ∙ or_left (ok && eqb o h) (L.all o i (sym (less_other left h r less o j) ∙ k) g)
        ];
      }

  -- where all have been looked at
  pub looking_end : (old from known left x : ℕ) → Looking from known left x → left ≡ 0 → ((o : ℕ) → has from o ≡ true → has old o ≡ true)
      → Known rows old y from → ((o : ℕ) → has known o ≡ (has old o && not (has from o))) → (o : ℕ) → has x o ≡ answers_at rows old y o
  unfolding answers_at
  looking_end old from known left x L z i K d o =
      same_test (has x o) (has old o && sets_meet capacity (get_or rows o 0) y) (λ h. to (L.right o h))
      (λ h. back (and_left (has old o) (sets_meet capacity (get_or rows o 0) y) h) (and_right (has old o) (sets_meet capacity (get_or rows o 0) y) h)
      (decide (has from o)))
    where
      to : (has known o ≡ true) ⊎ ((has from o ≡ true) × (sets_meet capacity (get_or rows o 0) y ≡ true))
          → (has old o && sets_meet capacity (get_or rows o 0) y) ≡ true
      to (inl h) =
          let a = and_left (has old o) (not (has from o)) (sym (d o) ∙ h) in
          and_intro a (K.answers o a (not_true (has from o) (and_right (has old o) (not (has from o)) (sym (d o) ∙ h))))
      to (inr h) = and_intro (i o h.0) h.1

      back : has old o ≡ true → sets_meet capacity (get_or rows o 0) y ≡ true → (has from o ≡ true) ⊎ (has from o ≡ false) → has x o ≡ true
      back a g (inl h) = L.all o h (ap (λ (v : ℕ). has v o) z ∙ has_zero_lem o) g
      back a g (inr h) = L.kept o (d o ∙ and_intro a (ap not h))

pub held_none : (rows : List ℕ) (y x : ℕ) → y ≡ 0 → Held rows y x
held_none rows y x z = record { answers = λ some. absurd (some z) }

-- whether output o answers next input j, the rows of moves being given
unfoldable pub answered : List ℕ → ℕ → ℕ → List ℕ → ℕ → ℕ → ℕ → Bool
answered l n c rows m j o = sets_meet capacity (get_or rows o 0) (pack m (won_at l n c j))

module _ (l : List ℕ) (n c next : ℕ) (rows : List ℕ) (m : ℕ) (most : m ≤ capacity) where
  one_answered : (a : Bool) (p q : ℕ → Bool) (k : ℕ) → 0 < k → any k (λ j. not a || (p j && q j)) ≡ (not a || any k (λ j. p j && q j))
  one_answered true p q k h = refl
  one_answered false p q k h = any_intro k (λ j. true) 0 h refl

  pub answered_all : (b x w among : ℕ) → ((s : ℕ) → has b s ≡ ltb s n) → ((s : ℕ) → has x s ≡ (has next s && has b s)) → ((s : ℕ) → has among s ≡ ltb s m)
      → w ≡ pack m (passes (answered l n c rows m) n m x among) → w ≡ pack m (reply_with l n c next rows m)
  unfolding passes answered reply_with replies_at replied excused
  answered_all b x w among f i e q =
      q
      ∙ pack_ext m (passes (answered l n c rows m) n m x among) (reply_with l n c next rows m)
      (λ o a.
      ap (λ (t : Bool). t && all n (λ j. not (has x j) || sets_meet capacity (get_or rows o 0) (pack m (won_at l n c j)))) (e o ∙ lt-ltb o m a)
      ∙ all_same n (λ j. not (has x j) || sets_meet capacity (get_or rows o 0) (pack m (won_at l n c j))) (replied l n c next (get_or rows o 0) m)
      (λ j h.
      ap₂ (λ (s t : Bool). not s || t) (same j h) (meets_pack capacity m (get_or rows o 0) (won_at l n c j) most)
      ∙ sym (one_answered (has next j) (has (get_or rows o 0)) (won_at l n c j) m (omega arith))))
    where
      same : (j : ℕ) → j < n → has x j ≡ has next j
      same j h = i j ∙ ap (λ (t : Bool). has next j && t) (f j ∙ lt-ltb j n h) ∙ and_all (has next j) refl
