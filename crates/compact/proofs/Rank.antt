-- Laws of the ranks. "Components rank from 0 by smallest state."
--
--   leads_number, number_leads : the smallest state of a component leads it, and what leads is one
--   rank_below               : a rank is below the count of components
--   components_le            : there are no more components than inputs
--   rank_same, rank_joined   : two inputs have one rank exactly when they are in one component
--   first_below              : the smallest state of a component is an input
--   first_rank, rank_first   : rank c, smallest state of the component of rank c, are inverse to one another
--   first_rises, rank_rises  : ranks rise with smallest states
use Prim.Native.Nat.{ℕ, ◌≤◌, ◌<◌}
use mathlib.Core.Path.{◌≡◌, sym, ◌∙◌, ap, subst}
use mathlib.Core.Bool.{Bool, true, ◌&&◌}
use mathlib.Core.Logic.{◌↔◌}
use native.Mathlib.Omega.{arith}
use native.Mathlib.Decide.{dec_lt}
use lib.Dec.{eqb}
use borrow.Author.Tests.{eqb-true, eq-eqb}
use Rattle.finite.specs.Bounded.{count}
use Rattle.finite.proofs.Truth.{and_intro, and_left, and_right}
use Rattle.finite.proofs.Bounded.{least_below, least_member, count_le, count_up, count_past, count_reached}
use Rattle.graphs.specs.Component.{joined, number}
use Rattle.graphs.proofs.Component.{joined_sym, joined_trans, number_same, number_joined, number_below}
use Rattle.arena.specs.Arena.{Separated}
use Rattle.compact.specs.Rank.{leads, component_count, rank_of, leader_of}

-- counting up to a bound that rises

module _ (S : Separated) where
  pub leads_number : (j : ℕ) → j < S.input.states → leads S (number S.input j) ≡ true
  unfolding leads
  leads_number j b =
      let s = number S.input j in
      eq-eqb (number S.input s) s (sym (number_same S.input j s (number_joined S.input j b)))

  pub number_leads : (s : ℕ) → leads S s ≡ true → number S.input s ≡ s
  unfolding leads
  number_leads s h = eqb-true (number S.input s) s h

  pub rank_below : (j : ℕ) → j < S.input.states → rank_of S j < component_count S
  unfolding rank_of component_count
  rank_below j b = count_past (leads S) (number S.input j) S.input.states (leads_number j b) (number_below S.input j b)

  -- there are no more components than inputs
  pub components_le : component_count S ≤ S.input.states
  unfolding component_count
  components_le = count_le S.input.states (leads S)

  pub rank_same : (j k : ℕ) → joined S.input j k ≡ true → rank_of S j ≡ rank_of S k
  unfolding rank_of
  rank_same j k h = ap (λ (s : ℕ). count s (leads S)) (number_same S.input j k h)

  -- a smaller smallest state, a smaller rank
  rank_rises : (j k : ℕ) → j < S.input.states → number S.input j < number S.input k → rank_of S j < rank_of S k
  unfolding rank_of
  rank_rises j k b h = count_past (leads S) (number S.input j) (number S.input k) (leads_number j b) h

  number_ranked : (j k : ℕ) → j < S.input.states → k < S.input.states → rank_of S j ≡ rank_of S k → number S.input j ≡ number S.input k
  number_ranked j k b c e = go (dec_lt (number S.input j) (number S.input k)) (dec_lt (number S.input k) (number S.input j))
    where
      go : Dec (number S.input j < number S.input k) → Dec (number S.input k < number S.input j)
          → number S.input j ≡ number S.input k
      go (yes l) d = absurd (omega (arith, rank_rises j k b l))
      go (no l) (yes m) = absurd (omega (arith, rank_rises k j c m))
      go (no l) (no m) = omega arith

  rank_apart : (j k : ℕ) → j < S.input.states → k < S.input.states → rank_of S j ≡ rank_of S k → joined S.input j k ≡ true
  rank_apart j k b c e =
      joined_trans S.input j (number S.input j) k (number_joined S.input j b)
      (joined_sym S.input k (number S.input j)
      (subst (λ (s : ℕ). joined S.input k s ≡ true) (sym (number_ranked j k b c e)) (number_joined S.input k c)))

  -- Two inputs have one rank exactly when they are in one component.
  pub rank_joined : (j k : ℕ) → j < S.input.states → k < S.input.states → (rank_of S j ≡ rank_of S k) ↔ (joined S.input j k ≡ true)
  rank_joined j k b c = (rank_apart j k b c, rank_same j k)

  -- the smallest state of the component of rank c

  ranked : ℕ → ℕ → Bool
  ranked c s = leads S s && eqb (count s (leads S)) c

  pub first_below : (c : ℕ) → c < component_count S → leader_of S c < S.input.states
  unfolding leader_of component_count ranked
  first_below c h =
      let w = count_reached (leads S) S.input.states c h in
      least_below S.input.states (ranked c) w.0 w.1 (and_intro w.2 (eq-eqb (count w.0 (leads S)) c w.3))

  first_ranked : (c : ℕ) → c < component_count S → ranked c (leader_of S c) ≡ true
  unfolding leader_of ranked
  first_ranked c h = least_member S.input.states (ranked c) (first_below c h)

  -- it is the smallest of its component
  first_number : (c : ℕ) → c < component_count S → number S.input (leader_of S c) ≡ leader_of S c
  unfolding ranked
  first_number c h =
      number_leads (leader_of S c) (and_left (leads S (leader_of S c)) (eqb (count (leader_of S c) (leads S)) c) (first_ranked c h))

  first_count : (c : ℕ) → c < component_count S → count (leader_of S c) (leads S) ≡ c
  unfolding ranked
  first_count c h =
      eqb-true (count (leader_of S c) (leads S)) c
      (and_right (leads S (leader_of S c)) (eqb (count (leader_of S c) (leads S)) c) (first_ranked c h))

  pub first_rank : (c : ℕ) → c < component_count S → rank_of S (leader_of S c) ≡ c
  unfolding rank_of
  first_rank c h = ap (λ (s : ℕ). count s (leads S)) (first_number c h) ∙ first_count c h

  pub rank_first : (j : ℕ) → j < S.input.states → leader_of S (rank_of S j) ≡ number S.input j
  rank_first j b =
      let r = rank_below j b in
      sym (first_number (rank_of S j) r)
      ∙ number_ranked (leader_of S (rank_of S j)) j (first_below (rank_of S j) r) b (first_rank (rank_of S j) r)

  -- "Components rank from 0 by smallest state."
  pub first_rises : (c d : ℕ) → c < d → d < component_count S → leader_of S c < leader_of S d
  first_rises c d l h = go (dec_lt (leader_of S c) (leader_of S d))
    where
      go : Dec (leader_of S c < leader_of S d) → leader_of S c < leader_of S d
      go (yes b) = b
      go (no b) =
          absurd (omega (arith, count_up (leads S) (leader_of S d) (leader_of S c) (omega arith), first_count c (omega arith), first_count d h))
