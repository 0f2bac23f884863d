-- The mathematics of C1 to C4: code counts no rounds. It shrinks or grows a set in place, in any order, keeps what is said first of each pair of laws
-- here, and stops where nothing moves; the second law says that it then has the set itself.
--
--   never                             == no state
--   same_sets                         : two sets that hold each other
--   stay_agrees                       : X where the sets that it is made of agree on what is in range
--   stay_kept, stay_found             : C1, shrinking towards X
--   reach_found                       : C2, growing towards Y; what is kept is `reach_widens` of Rounds
--   region_trimmed, trimmed_replies   : C3, taking out of Z what cannot be kept at all
--   region_passes, region_found       : C4, passes over the guarantees
use Prim.Native.Nat.{ℕ, zero, suc, ◌<◌}
use mathlib.Core.Path.{◌≡◌, refl}
use mathlib.Core.Bool.{Bool, true, false}
use mathlib.Core.List.{Memᴰ}
use mathlib.Core.Logic.{inl, inr}
use native.Mathlib.Omega.{arith}
use lib.ListN.{length, get_or}
use Rattle.finite.proofs.Lists.{place_member}
use Rattle.finite.proofs.Truth.{clash, and_intro, same_test}
use Rattle.graphs.specs.Graph.{edge}
use Rattle.arena.specs.Arena.{Requirement, Separated}
use Rattle.theory.specs.Region.{answers, replies}
use Rattle.theory.specs.Tour.{goal_at}
use Rattle.theory.proofs.Region.{answers_intro, replies_intro, replies_elim}
use Rattle.barred.specs.Arena.{Pairs, free}
use Rattle.barred.specs.Region.{assumed, guaranteed, nothing, barred_target, stay_step, stay, reach, barred_region}
use Rattle.barred.proofs.Rounds.{
  Sub,
  sub_intro,
  sub_elim,
  sub_refl,
  replies_mono,
  target_goal,
  target_near,
  target_wait,
  target_elim,
  target_mono,
  stay_in,
  stay_replies,
  stay_greatest,
  nothing_in,
  reach_mono,
  reach_widens,
  reach_smallest,
  keep_step_intro,
  region_reach,
  region_greatest,
}
use Rattle.barred.proofs.Sets.{assumed_some, guaranteed_some}
use Rattle.barred.proofs.Reply.{goes_reply, goes_in}

abbrev pub never : ℕ → Bool
never s = false

module _ (S : Separated) where
  pub same_sets : {p q : Pairs} → Sub S p q → Sub S q p → (i o : ℕ) → i < S.input.states → o < S.output.states → p i o ≡ q i o
  same_sets {p} {q} f g i o a b = same_test (p i o) (q i o) (sub_elim S f i o a b) (sub_elim S g i o a b)

  -- X looks at the states of the graphs alone
  pub stay_agrees : (goal goal' wait wait' : ℕ → Bool) (Z Z' Y Y' : Pairs) → ((p : ℕ) → p < S.output.states → goal p ≡ true → goal' p ≡ true)
      → ((j : ℕ) → j < S.input.states → wait j ≡ false → wait' j ≡ false) → Sub S Z Z' → Sub S Y Y'
      → Sub S (stay S goal wait Z Y) (stay S goal' wait' Z' Y')
  unfolding stay_step
  stay_agrees goal goal' wait wait' Z Z' Y Y' f w z y =
      stay_greatest S goal' wait' Z' Y' (stay S goal wait Z Y) (sub_intro S (λ i o a b h. sub_elim S z i o a b (stay_in S goal wait Z Y i o h)))
      (sub_intro S
      (λ i o a b h.
      and_intro (sub_elim S z i o a b (stay_in S goal wait Z Y i o h))
      (replies_mono S (barred_target goal wait Z Y (stay S goal wait Z Y)) (barred_target goal' wait' Z' Y' (stay S goal wait Z Y))
      (sub_intro S (λ j p c d k. into j p c d k)) i o
      (stay_replies S goal wait Z Y i o a b h))))
    where
      into : (j p : ℕ) → j < S.input.states → p < S.output.states → barred_target goal wait Z Y (stay S goal wait Z Y) j p ≡ true
          → barred_target goal' wait' Z' Y' (stay S goal wait Z Y) j p ≡ true
      into j p c d k =
          elim (target_elim goal wait Z Y (stay S goal wait Z Y) j p k) [
            | inl g ↦ target_goal goal' wait' Z' Y' (stay S goal wait Z Y) j p (f p d g.0) (sub_elim S z j p c d g.1)
            | inr r ↦ elim r [
              | inl v ↦ target_near goal' wait' Z' Y' (stay S goal wait Z Y) j p (sub_elim S y j p c d v)
              | inr x ↦ target_wait goal' wait' Z' Y' (stay S goal wait Z Y) j p (w j c x.0) x.1
            ]
          ]

  -- ---- C1

  module _ (goal wait : ℕ → Bool) (Z Y X : Pairs) (kept : Sub S (stay S goal wait Z Y) X) where
    -- row i may be shrunk to what has a move into the target of row j, for each move from i to j
    pub stay_kept : (i o j : ℕ) → i < S.input.states → o < S.output.states → edge S.input i j ≡ true → stay S goal wait Z Y i o ≡ true
        → answers S (barred_target goal wait Z Y X) j o ≡ true
    stay_kept i o j a b e h =
        replies_elim S (barred_target goal wait Z Y X) i o j
        (replies_mono S (barred_target goal wait Z Y (stay S goal wait Z Y)) (barred_target goal wait Z Y X)
        (target_mono S goal wait Z Z Y Y (stay S goal wait Z Y) X (sub_refl S Z) (sub_refl S Y) kept) i o (stay_replies S goal wait Z Y i o a b h)) e

    -- where no row shrinks any more, X is found
    pub stay_found : Sub S X Z
        → ((i o j : ℕ) → i < S.input.states → o < S.output.states → edge S.input i j ≡ true → X i o ≡ true
        → answers S (barred_target goal wait Z Y X) j o ≡ true)
        → (i o : ℕ) → i < S.input.states → o < S.output.states → X i o ≡ stay S goal wait Z Y i o
    unfolding stay_step
    stay_found x f =
        same_sets
        (stay_greatest S goal wait Z Y X x
        (sub_intro S
        (λ i o a b h. and_intro (sub_elim S x i o a b h) (replies_intro S (barred_target goal wait Z Y X) i o (λ j e. f i o j a b e h)))))
        kept

-- ---- C2

module _ (S : Separated) (q : Requirement) (goal : ℕ → Bool) (Z Y : Pairs) (kept : Sub S Y (reach S q goal Z)) where
  -- where no assumption widens it any more, Y is found
  pub reach_found : ((m : ℕ) → m < length (assumed q) → Sub S (stay S goal (goal_at (assumed q) m) Z Y) Y)
      → (i o : ℕ) → i < S.input.states → o < S.output.states → Y i o ≡ reach S q goal Z i o
  reach_found f = same_sets S kept (reach_smallest S q goal Z Y f)

module _ (S : Separated) (bar : Pairs) (q : Requirement) where
  -- ---- C3

  -- in the region every input has a reply that stays in it
  region_replies : (i o : ℕ) → barred_region S bar q i o ≡ true → replies S (barred_region S bar q) i o ≡ true
  region_replies i o h =
      replies_intro S (barred_region S bar q) i o
      (λ j e.
      let v = goes_reply S bar q 0 i o (guaranteed_some q) h j e in
      answers_intro S (barred_region S bar q) j o v.0 v.1 (goes_in S bar q 0 i o j v.0 v.2))

  pub region_trimmed : (Z : Pairs) → Sub S (barred_region S bar q) Z → Sub S (barred_region S bar q) (stay S never never Z nothing)
  unfolding stay_step
  region_trimmed Z z =
      stay_greatest S never never Z nothing (barred_region S bar q) z
      (sub_intro S
      (λ i o a b h.
      and_intro (sub_elim S z i o a b h)
      (replies_mono S (barred_region S bar q) (barred_target never never Z nothing (barred_region S bar q))
      (sub_intro S (λ j p c d k. target_wait never never Z nothing (barred_region S bar q) j p refl k)) i o (region_replies i o h))))

  -- ---- C4

  pub region_passes : (Z : Pairs) → Sub S (barred_region S bar q) Z → (n : ℕ) → n < length (guaranteed q)
      → Sub S (barred_region S bar q) (reach S q (goal_at (guaranteed q) n) Z)
  region_passes Z z n l =
      sub_intro S
      (λ i o a b h.
      sub_elim S (reach_mono S q (goal_at (guaranteed q) n) (barred_region S bar q) Z z) i o a b (region_reach S bar q n i o l h))

-- trimming leaves of Z what can be kept inside itself
module _ (S : Separated) (Z : Pairs) where
  abbrev kept : Pairs
  kept = stay S never never Z nothing

  -- of the target's three parts only X is there
  only_stay : (j p : ℕ) → barred_target never never Z nothing kept j p ≡ true → kept j p ≡ true
  unfolding nothing
  only_stay j p h =
      elim (target_elim never never Z nothing kept j p h) [
        | inl g ↦ clash g.0 refl
        | inr r ↦ elim r [ inl y ↦ clash y refl | inr x ↦ x.1 ]
      ]

  pub trimmed_replies : (i o : ℕ) → i < S.input.states → o < S.output.states → stay S never never Z nothing i o ≡ true
      → replies S (stay S never never Z nothing) i o ≡ true
  trimmed_replies i o a b h =
      replies_mono S (barred_target never never Z nothing kept) kept (sub_intro S (λ j p c d k. only_stay j p k)) i o
      (stay_replies S never never Z nothing i o a b h)

module _ (S : Separated) (q : Requirement) (Z : Pairs)
    (trimmed : (i o : ℕ) → i < S.input.states → o < S.output.states → Z i o ≡ true → replies S Z i o ≡ true) where
  abbrev first : ℕ → Bool
  first = goal_at (guaranteed q) 0

  first_every : (p : ℕ) → first p ≡ true
  unfolding guaranteed goal_at
  first_every p = refl

  -- to go on inside Z is all that the first set, every, asks: the first round of Y
  trimmed_stays : Sub S Z (stay S first (goal_at (assumed q) 0) Z nothing)
  unfolding stay_step
  trimmed_stays =
      stay_greatest S first (goal_at (assumed q) 0) Z nothing Z (sub_refl S Z)
      (sub_intro S
      (λ i o a b h.
      and_intro h
      (replies_mono S Z (barred_target first (goal_at (assumed q) 0) Z nothing Z)
      (sub_intro S (λ j p c d z. target_goal first (goal_at (assumed q) 0) Z nothing Z j p (first_every p) z)) i o (trimmed i o a b h))))

  trimmed_first : Sub S Z (reach S q first Z)
  trimmed_first =
      sub_intro S
      (λ i o a b h.
      sub_elim S (reach_widens S q first Z nothing (nothing_in S q (reach S q first Z)) 0 (assumed_some q)) i o a b
      (sub_elim S trimmed_stays i o a b h))

  module _ (settled : (s : ℕ → Bool) → Memᴰ s q.guarantees → Sub S Z (reach S q s Z)) where
    all_reach : (n : ℕ) → n < length (guaranteed q) → Sub S Z (reach S q (goal_at (guaranteed q) n) Z)
    unfolding guaranteed goal_at
    all_reach zero l = trimmed_first
    all_reach (suc k) l = settled (get_or q.guarantees k (λ s. false)) (place_member q.guarantees (λ s. false) k (omega arith))

    -- where Z is trimmed and a pass over the guarantees changes nothing, the region is found
    pub region_found : (bar : Pairs) → Sub S (barred_region S bar q) Z → Sub S Z (free S bar)
        → (i o : ℕ) → i < S.input.states → o < S.output.states → Z i o ≡ barred_region S bar q i o
    region_found bar kept inside =
        same_sets S
        (region_greatest S bar q Z inside (sub_intro S (λ i o a b h. keep_step_intro S q Z i o (λ n l. sub_elim S (all_reach n l) i o a b h)))) kept
