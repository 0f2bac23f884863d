-- What the sets mean: where scratch holds what it should, the row of an input in a trivial component.
use Prim.Native.Nat.{ℕ, ◌<◌}
use mathlib.Core.Path.{◌≡◌, refl, sym, ◌∙◌, ap₂}
use mathlib.Core.Bool.{Bool, true, false, ◌&&◌, ◌||◌, not}
use mathlib.Core.List.{List}
use mathlib.Core.Logic.{◌⊎◌, inl, inr}
use lib.ListN.{get_or}
use Rattle.play.proofs.Moves.{moved_edge}
use Rattle.finite.specs.Bounded.{any}
use Rattle.finite.proofs.Truth.{decide, clash, false_of}
use Rattle.finite.proofs.Bounded.{all_same, any_intro, any_same}
use Rattle.bits.specs.Member.{has, pack}
use Rattle.bits.proofs.Membership.{pack_ext}
use Rattle.graphs.specs.Graph.{edge}
use Rattle.graphs.specs.Closure.{reaches}
use Rattle.graphs.specs.Component.{nontrivial}
use Rattle.graphs.proofs.Closure.{reaches_edge}
use Rattle.graphs.proofs.Component.{nontrivial_intro}
use Rattle.game.specs.declared.Game.{Game}
use Rattle.game.proofs.Laws.{Fits}
use Rattle.play.specs.Play.{graph_of, separated_of}
use Rattle.theory.specs.Region.{answers, replies, region}
use Rattle.theory.proofs.Region.{region_replies}
use Rattle.sets.specs.Words.{sets_in}
use Rattle.scratch.specs.Stored.{row_at, stored_row, won_at, Laid}
use Rattle.scratch.proofs.Read.{won_region, stored_trivial}
use Rattle.region_replies.specs.Replies.{excused, replied, replies_at, reply_with, reply_at}

module _ (g : Game) (F : Fits g) where
  -- what is read from scratch s
  module _ (s : List ℕ) (L : Laid g s) (c i : ℕ) (b : i < g.input.states) (inner : c ≡ pack g.input.states (nontrivial (graph_of g.input)))
      (below : (j : ℕ) → reaches (graph_of g.input) i j ≡ true → reaches (graph_of g.input) j i ≡ false
      → row_at (sets_in s) g.input.states j ≡ stored_row (separated_of g) j) where
    abbrev l : List ℕ
    l = sets_in s

    -- a move out of a trivial component never leads back
    won_means : (j o : ℕ) → j < g.input.states → o < g.output.states → nontrivial (graph_of g.input) i ≡ false → edge (graph_of g.input) i j ≡ true
        → won_at l g.input.states c j o ≡ region (separated_of g) j o
    won_means j o lj lo t e = won_region g l c j o F.output.most lj lo inner (below j (reaches_edge (graph_of g.input) i j e) back) (L.outputs o lo)
      where
        back : reaches (graph_of g.input) j i ≡ false
        back = false_of (reaches (graph_of g.input) j i) (λ k. clash (nontrivial_intro (graph_of g.input) i j e k) t)

    -- a next input that is a move has a reply exactly where an output move is won
    one_answered : (a : Bool) (p q : ℕ → Bool) (k : ℕ) → 0 < k → any k (λ j. not a || (p j && q j)) ≡ (not a || any k (λ j. p j && q j))
    one_answered true p q k h = refl
    one_answered false p q k h = any_intro k (λ j. true) 0 h refl

    reply_means : (o : ℕ) → o < g.output.states → nontrivial (graph_of g.input) i ≡ false
        → reply_at g l c i o ≡ replies (separated_of g) (region (separated_of g)) i o
    unfolding reply_at reply_with replies_at replied excused replies answers separated_of graph_of
    reply_means o lo t =
        all_same g.input.states
        (replied l g.input.states c (get_or (sets_in g.input.moves) i 0) (get_or (sets_in g.output.moves) o 0) g.output.states)
        (λ j. not (edge (graph_of g.input) i j) || any g.output.states (λ p. edge (graph_of g.output) o p && region (separated_of g) j p))
        (λ j lj.
        one_answered (has (get_or (sets_in g.input.moves) i 0) j) (has (get_or (sets_in g.output.moves) o 0)) (λ p. won_at l g.input.states c j p)
        g.output.states F.output.some
        ∙ one j lj (decide (edge (graph_of g.input) i j)))
      where
        moved : (j : ℕ) → has (get_or (sets_in g.input.moves) i 0) j ≡ edge (graph_of g.input) i j
        moved j = moved_edge g.input F.input i j b

        one : (j : ℕ) → j < g.input.states → (edge (graph_of g.input) i j ≡ true) ⊎ (edge (graph_of g.input) i j ≡ false)
            → (not (has (get_or (sets_in g.input.moves) i 0) j) || any g.output.states
            (λ p. has (get_or (sets_in g.output.moves) o 0) p && won_at l g.input.states c j p))
            ≡ (not (edge (graph_of g.input) i j) || any g.output.states (λ p. edge (graph_of g.output) o p && region (separated_of g) j p))
        one j lj (inl h) =
            rw (moved j, h)
            (any_same g.output.states (λ p. has (get_or (sets_in g.output.moves) o 0) p && won_at l g.input.states c j p)
            (λ p. edge (graph_of g.output) o p && region (separated_of g) j p)
            (λ p lp. ap₂ ◌&&◌ (moved_edge g.output F.output o p lo) (won_means j p lj lp t h)))
        one j lj (inr h) = rw (moved j, h) refl

    pub reply_row_means : nontrivial (graph_of g.input) i ≡ false → pack g.output.states (reply_at g l c i) ≡ stored_row (separated_of g) i
    unfolding separated_of graph_of
    reply_row_means t =
        pack_ext g.output.states (reply_at g l c i) (region (separated_of g) i)
        (λ o lo. reply_means o lo t ∙ sym (region_replies (separated_of g) i o b lo t))
        ∙ sym (stored_trivial (separated_of g) i t)
