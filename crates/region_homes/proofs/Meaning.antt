-- What the sets mean: where scratch holds what it should, the row of homes of an input in a nontrivial component.
use Prim.Native.Nat.{ℕ, ◌<◌}
use mathlib.Core.Path.{◌≡◌, refl, sym, ◌∙◌, ap, ap₂}
use mathlib.Core.Bool.{true, false, ◌&&◌, ◌||◌, not}
use mathlib.Core.List.{List}
use mathlib.Core.Logic.{◌⊎◌, inl, inr}
use Rattle.finite.specs.Bounded.{all}
use Rattle.finite.proofs.Truth.{decide, clash, false_of, same_test, implies_intro, implies_elim, and_assoc}
use Rattle.finite.proofs.Bounded.{all_intro, all_elim, all_same}
use Rattle.bits.specs.Member.{has, pack}
use Rattle.bits.proofs.Membership.{has_pack_below, pack_ext}
use Rattle.graphs.specs.Closure.{reaches}
use Rattle.graphs.specs.Component.{joined, nontrivial, leaves}
use Rattle.graphs.proofs.Closure.{reaches_edge, reaches_trans}
use Rattle.graphs.proofs.Component.{joined_intro, joined_there, joined_self, leaves_elim, leaves_apart}
use Rattle.game.specs.declared.Graph.{Graph as Record}
use Rattle.game.specs.declared.Game.{Game}
use Rattle.game.proofs.Laws.{Fits}
use Rattle.play.specs.Play.{graph_of, separated_of}
use Rattle.theory.specs.Region.{accepting, safe, home_for, region}
use Rattle.theory.proofs.EnvironmentRow.{region_output}
use Rattle.sets.specs.Words.{sets_in}
use Rattle.scratch.specs.Stored.{row_at, stored_row, won_at, Laid}
use Rattle.scratch.proofs.Read.{won_region, stored_nontrivial}
use Rattle.region_dues.specs.Dues.{Serving, admits}
use Rattle.region_dues.proofs.Meaning.{accepted_means}
use Rattle.region_homes.specs.Homes.{safe_one, safe_at, home_at}

self_joined : (h : Record) (e : ℕ) → e < h.states → joined (graph_of h) e e ≡ true
unfolding graph_of
self_joined h e b = joined_self (graph_of h) e b

module _ (g : Game) (F : Fits g) where
  -- what is read from scratch s
  module _ (s : List ℕ) (L : Laid g s) (c i : ℕ) (b : i < g.input.states) (inner : c ≡ pack g.input.states (nontrivial (graph_of g.input)))
      (below : (j : ℕ) → reaches (graph_of g.input) i j ≡ true → reaches (graph_of g.input) j i ≡ false
      → row_at (sets_in s) g.input.states j ≡ stored_row (separated_of g) j) where
    abbrev l : List ℕ
    l = sets_in s

    -- a move out of a component never leads back
    won_means : (j o : ℕ) → j < g.input.states → o < g.output.states → leaves (graph_of g.input) i j ≡ true
        → won_at l g.input.states c j o ≡ region (separated_of g) j o
    won_means j o lj lo h = won_region g l c j o F.output.most lj lo inner (below j there back) (L.outputs o lo)
      where
        there : reaches (graph_of g.input) i j ≡ true
        there =
            let v = leaves_elim (graph_of g.input) i j h in
            reaches_trans (graph_of g.input) i v.0 j (joined_there (graph_of g.input) i v.0 v.1)
            (reaches_edge (graph_of g.input) v.0 j v.2)

        back : reaches (graph_of g.input) j i ≡ false
        back =
            false_of (reaches (graph_of g.input) j i)
            (λ k. clash (joined_intro (graph_of g.input) i j there k) (leaves_apart (graph_of g.input) i j h))

    -- every exit is won with d, and then with all of d's component
    exits_won : (j d : ℕ) → d < g.output.states
        → all g.output.states (λ e. not (joined (graph_of g.output) d e) || region (separated_of g) j e) ≡ region (separated_of g) j d
    unfolding separated_of
    exits_won j d ld =
        same_test (all g.output.states (λ e. not (joined (graph_of g.output) d e) || region (separated_of g) j e)) (region (separated_of g) j d)
        (λ h. implies_elim (joined (graph_of g.output) d d) (region (separated_of g) j d)
        (all_elim g.output.states (λ e. not (joined (graph_of g.output) d e) || region (separated_of g) j e) h d ld) (self d ld))
        (λ h. all_intro g.output.states (λ e. not (joined (graph_of g.output) d e) || region (separated_of g) j e)
        (λ e le. implies_intro (joined (graph_of g.output) d e) (region (separated_of g) j e) (λ k. sym (region_output (separated_of g) j d e k) ∙ h)))
      where
        self : (e : ℕ) → e < g.output.states → joined (graph_of g.output) e e ≡ true
        self e le = self_joined g.output e le

    safe_means : (x d : ℕ) → d < g.output.states → ((t : ℕ) → has x t ≡ leaves (graph_of g.input) i t)
        → safe_at l g.input.states c x d g.input.states ≡ safe (separated_of g) (region (separated_of g)) i d
    unfolding safe_at safe_one safe separated_of graph_of
    safe_means x d ld e =
        all_same g.input.states (safe_one l g.input.states c x d)
        (λ j. not (leaves (graph_of g.input) i j) || all g.output.states (λ u. not (joined (graph_of g.output) d u) || region (separated_of g) j u))
        (λ j lj. one j lj (decide (leaves (graph_of g.input) i j)))
      where
        one : (j : ℕ) → j < g.input.states → (leaves (graph_of g.input) i j ≡ true) ⊎ (leaves (graph_of g.input) i j ≡ false)
            → (not (has x j) || won_at l g.input.states c j d) ≡
            (not (leaves (graph_of g.input) i j) || all g.output.states (λ u. not (joined (graph_of g.output) d u) || region (separated_of g) j u))
        one j lj (inl h) = rw (e j, h) (won_means j d lj ld h ∙ sym (exits_won j d ld))
        one j lj (inr h) = rw (e j, h) refl

    -- the sets that the row is worked out from: among has the outputs in nontrivial components that accept, x the exits of i's component
    module _ (outer : ℕ) (first second : List ℕ) (S : Serving g first second) (x among : ℕ)
        (o : outer ≡ pack g.output.states (nontrivial (graph_of g.output)))
        (h : (d : ℕ) → has among d ≡ (has outer d && all g.k (admits g (pack g.input.states (joined (graph_of g.input) i)) first second d)))
        (e : (t : ℕ) → has x t ≡ leaves (graph_of g.input) i t) where
      home_means : (d : ℕ) → d < g.output.states → home_at l g.input.states c x among d ≡ home_for (separated_of g) (region (separated_of g)) i d
      unfolding home_at home_for separated_of
      home_means d ld =
          ap₂ ◌&&◌
          (h d ∙ ap₂ ◌&&◌ (ap (λ (y : ℕ). has y d) o ∙ has_pack_below g.output.states (nontrivial (graph_of g.output)) d ld)
          (accepted_means g F first second i d S ld))
          (safe_means x d ld e)
          ∙ and_assoc (nontrivial (graph_of g.output) d) (accepting (separated_of g) i d) (safe (separated_of g) (region (separated_of g)) i d)

      pub home_row_means : nontrivial (graph_of g.input) i ≡ true
          → pack g.output.states (home_at l g.input.states c x among) ≡ stored_row (separated_of g) i
      unfolding separated_of graph_of
      home_row_means k =
          pack_ext g.output.states (home_at l g.input.states c x among) (home_for (separated_of g) (region (separated_of g)) i) home_means
          ∙ sym (stored_nontrivial (separated_of g) i k)
