-- A sweep over the component that turns marks: on, where it grows (up is true), and off, where it shrinks (up is false). A mark is turned where the
-- position forces what is marked, or does not, as `up` says.
--
--   Turned g up m n j p      == from m to n position (j, p) of the component was turned
--   SweptTo g up i l m b     == of a sweep from l the rows below i are done, m is reached, and b tells whether a mark was turned
--   swept_start, -same, -more    : no row is done; one more, where nothing is turned; one more, where marks are turned
--   whole_kept, ahead_still, within_kept, touched  : what a row of marks that is written leaves
--   swept_fewer, swept_ended     : what the sweep says where it turned a mark, and where it did not
use Prim.Native.Nat.{ℕ, ◌+◌, ◌*◌, ◌/◌, ◌%◌, ◌≤◌, ◌<◌}
use mathlib.Core.Path.{◌≡◌, refl, sym, ◌∙◌, ap, subst}
use mathlib.Core.Bool.{Bool, true, false, ◌&&◌, not}
use mathlib.Core.List.{List}
use mathlib.Core.Logic.{◌⊎◌, inl, inr, ◌≢◌}
use native.Mathlib.Omega.{arith}
use native.Mathlib.Decide.{ℕ_discrete}
use lib.Arith.{digits_lt, digits_div, digits_mod}
use lib.ListN.{length, get_or, set}
use Rattle.finite.specs.Bounded.{count}
use Rattle.finite.specs.But.{ButFor}
use Rattle.finite.proofs.Truth.{decide, clash, true_of, false_of, and_intro, and_left, and_right, and_false_right}
use Rattle.finite.proofs.Bounded.{count_less}
use Rattle.finite.proofs.But.{but_self, but_then}
use Rattle.bits.specs.Member.{has}
use Rattle.bits.proofs.Membership.{has_zero_lem}
use Rattle.bits.proofs.Compare.{nonzero_member}
use Rattle.theory.specs.Region.{replies}
use Rattle.joint.specs.Solver.{Component, Ahead}
use Rattle.joint.proofs.Settled.{ahead_kept}
use Rattle.game.specs.declared.Game.{Game}
use Rattle.play.specs.Play.{graph_of, separated_of}
use Rattle.joined_reach.specs.Words.{Small}
use Rattle.joined_reach.proofs.Words.{belongs_has, belongs_below}
use Rattle.joined_component.specs.Component.{won, component}
use Rattle.joined_settle.proofs.Replies.{component_same, set_kept, set_here, set_there}

-- ---- a test that is up, or not

apart : (up : Bool) {x : Bool} → x ≡ up → x ≡ not up → ⊥
apart true p q = clash p q
apart false p q = clash q p

other : (up x : Bool) → (x ≡ up → ⊥) → x ≡ not up
other true x f = false_of x f
other false x f = true_of x f

-- ---- one position, one row

pub record Turned (g : Game) (up : Bool) (m n : List ℕ) (j p : ℕ) : Type 0 where
  pub inside : component g m j p ≡ true
  pub was : won g m j p ≡ not up
  pub forces : replies (separated_of g) (won g m) j p ≡ up
  pub is : won g n j p ≡ up

-- row i of the marks becomes v, which turns the marks of `change` and leaves the others
module _ (g : Game) (S : Small g) (up : Bool) (m : List ℕ) (long : 4096 ≤ length m) (i v change : ℕ) (lt : i < g.input.states)
    (on : (o : ℕ) → has change o ≡ true → Turned g up m (set m (64 + i) v) i o)
    (off : (o : ℕ) → has change o ≡ false → has v o ≡ has (get_or m (64 + i) 0) o) where
  pub touched : (j p : ℕ) → (won g (set m (64 + i) v) j p ≡ won g m j p) ⊎ Turned g up m (set m (64 + i) v) j p
  touched j p = go (ℕ_discrete j i) (decide (has change p))
    where
      go : Dec (j ≡ i) → (has change p ≡ true) ⊎ (has change p ≡ false)
          → (won g (set m (64 + i) v) j p ≡ won g m j p) ⊎ Turned g up m (set m (64 + i) v) j p
      go (no z) h = inl (set_there g S m long i v lt j p z)
      go (yes z) (inl h) = inr (rw z (on p h))
      go (yes z) (inr h) = inl (rw z (set_here g S m long i v lt p ∙ off p h ∙ sym (belongs_has g.input.states 64 m i p lt)))

  stays : (j p : ℕ) → component g m j p ≡ false → won g (set m (64 + i) v) j p ≡ won g m j p
  stays j p h = elim (touched j p) [ inl e ↦ e | inr t ↦ clash t.inside h ]

  pub still : component g (set m (64 + i) v) ≡ component g m
  still = component_same g S (set_kept g S m long i v lt)

  pub whole_kept : Component (separated_of g) (component g m) → Component (separated_of g) (component g (set m (64 + i) v))
  whole_kept C = subst (λ (E : ℕ → ℕ → Bool). Component (separated_of g) E) (sym still) C

  pub ahead_still : Ahead (separated_of g) (component g m) (won g m)
      → Ahead (separated_of g) (component g (set m (64 + i) v)) (won g (set m (64 + i) v))
  ahead_still A =
      subst (λ (E : ℕ → ℕ → Bool). Ahead (separated_of g) E (won g (set m (64 + i) v))) (sym still)
      (ahead_kept (separated_of g) (component g m) (won g m) (won g (set m (64 + i) v)) (λ j p a c h. stays j p h) A)

  pub within_kept : Component (separated_of g) (component g m) → ((j p : ℕ) → won g m j p ≡ true → p < g.output.states)
      → (j p : ℕ) → won g (set m (64 + i) v) j p ≡ true → p < g.output.states
  unfolding separated_of graph_of
  within_kept C W j p k = elim (touched j p) [ inl e ↦ W j p (sym e ∙ k) | inr t ↦ C.outputs j p t.inside ]

-- ---- the sweep

pub record SweptTo (g : Game) (up : Bool) (i : ℕ) (l m : List ℕ) (b : Bool) : Type 0 where
  pub kept : ButFor 64 96 l m
  pub outside : (j p : ℕ) → component g l j p ≡ false → won g m j p ≡ won g l j p
  pub turned : (j p : ℕ) → won g l j p ≡ up → won g m j p ≡ up
  pub some : b ≡ true → (j : ℕ) × (p : ℕ) × (component g l j p ≡ true) × (won g l j p ≡ not up) × (won g m j p ≡ up)
  pub none : b ≡ false → (m ≡ l) × ((j p : ℕ) → j < i → component g l j p ≡ true → won g l j p ≡ not up
      → replies (separated_of g) (won g l) j p ≡ not up)

pub swept_start : (g : Game) (up : Bool) (l : List ℕ) → SweptTo g up 0 l l false
swept_start g up l = record {
  kept = but_self 64 96 l;
  outside = λ j p h. refl;
  turned = λ j p h. h;
  some = λ e. clash e refl;
  none = λ e. (refl, λ j p b. absurd (omega arith));
}

module _ (g : Game) (S : Small g) (up : Bool) (i : ℕ) (l m : List ℕ) (b : Bool) (T : SweptTo g up i l m b) where
  at : (j p : ℕ) → component g m j p ≡ component g l j p
  at j p = ap (λ (D : ℕ → ℕ → Bool). D j p) (component_same g S T.kept)

  module _ (change : ℕ) (lt : i < g.input.states) where
    -- row i as it is: no position of it is to be turned
    pub swept_same : change ≡ 0
        → ((o : ℕ) → component g m i o ≡ true → won g m i o ≡ not up → replies (separated_of g) (won g m) i o ≡ up → has change o ≡ true)
        → SweptTo g up (i + 1) l m b
    swept_same z f = record {
      kept = T.kept;
      outside = T.outside;
      turned = T.turned;
      some = T.some;
      none = λ e. let n = T.none e in (n.0, λ j p h c w. none j p h c w n (ℕ_discrete j i));
    }
      where
        none : (j p : ℕ) → j < i + 1 → component g l j p ≡ true → won g l j p ≡ not up
            → (m ≡ l) × ((k q : ℕ) → k < i → component g l k q ≡ true → won g l k q ≡ not up → replies (separated_of g) (won g l) k q ≡ not up)
            → Dec (j ≡ i) → replies (separated_of g) (won g l) j p ≡ not up
        none j p h c w n (no e) = n.1 j p (omega arith) c w
        none j p h c w n (yes e) =
            let c' : component g m i p ≡ true = at i p ∙ ap (λ (k : ℕ). component g l k p) (sym e) ∙ c in
            let w' : won g m i p ≡ not up = ap (λ (k : List ℕ). won g k i p) n.0 ∙ ap (λ (k : ℕ). won g l k p) (sym e) ∙ w in
            ap (λ (k : ℕ). replies (separated_of g) (won g l) k p) e
            ∙ ap (λ (k : List ℕ). replies (separated_of g) (won g k) i p) (sym n.0)
            ∙ other up (replies (separated_of g) (won g m) i p) (λ r. clash (f p c' w' r) (ap (λ (k : ℕ). has k p) z ∙ has_zero_lem p))

    pub swept_more : (long : 4096 ≤ length m) (v : ℕ) → change ≢ 0 → ((o : ℕ) → has change o ≡ true → Turned g up m (set m (64 + i) v) i o)
        → ((o : ℕ) → has change o ≡ false → has v o ≡ has (get_or m (64 + i) 0) o) → SweptTo g up (i + 1) l (set m (64 + i) v) true
    swept_more long v ne on off = record {
      kept = but_then T.kept (set_kept g S m long i v lt);
      outside = λ j p h. stays g S up m long i v change lt on off j p (at j p ∙ h) ∙ T.outside j p h;
      turned = λ j p h. elim (touched g S up m long i v change lt on off j p) [ inl e ↦ e ∙ T.turned j p h | inr t ↦ t.is ];
      some = λ e.
          let q = nonzero_member change ne in
          let t = on q.0 q.1 in
          (i, q.0, sym (at i q.0) ∙ t.inside, other up (won g l i q.0) (λ h. apart up (T.turned i q.0 h) t.was), t.is);
      none = λ e. clash refl e;
    }

  -- a count of positions that tells which marks are up falls
  pub swept_fewer : (f : Bool → Bool) → f up ≡ false → f (not up) ≡ true → Component (separated_of g) (component g m) → b ≡ true
      → count (g.input.states * g.output.states)
      (λ q. component g m (q / g.output.states) (q % g.output.states) && f (won g m (q / g.output.states) (q % g.output.states)))
      < count (g.input.states * g.output.states)
      (λ q. component g l (q / g.output.states) (q % g.output.states) && f (won g l (q / g.output.states) (q % g.output.states)))
  unfolding separated_of graph_of
  swept_fewer f fu fn C e = let s = T.some e in fewer s.0 s.1 s.2 s.3 s.4
    where
      kept : (s t : ℕ) → (component g m s t && f (won g m s t)) ≡ true → (component g l s t && f (won g l s t)) ≡ true
      kept s t h =
          and_intro (sym (at s t) ∙ and_left (component g m s t) (f (won g m s t)) h)
          (ap f (other up (won g l s t) (λ w. clash (and_right (component g m s t) (f (won g m s t)) h) (ap f (T.turned s t w) ∙ fu))) ∙ fn)

      fewer : (j p : ℕ) → component g l j p ≡ true → won g l j p ≡ not up → won g m j p ≡ up
          → count (g.input.states * g.output.states)
          (λ q. component g m (q / g.output.states) (q % g.output.states) && f (won g m (q / g.output.states) (q % g.output.states)))
          < count (g.input.states * g.output.states)
          (λ q. component g l (q / g.output.states) (q % g.output.states) && f (won g l (q / g.output.states) (q % g.output.states)))
      fewer j p c w k =
          let a = belongs_below g.input.states 128 l j p c in
          let d = C.outputs j p (at j p ∙ c) in
          count_less (g.input.states * g.output.states)
          (λ q. component g m (q / g.output.states) (q % g.output.states) && f (won g m (q / g.output.states) (q % g.output.states)))
          (λ q. component g l (q / g.output.states) (q % g.output.states) && f (won g l (q / g.output.states) (q % g.output.states)))
          (λ q h e. kept (q / g.output.states) (q % g.output.states) e) (j * g.output.states + p) (digits_lt a d)
          (rw (digits_div j d, digits_mod j d, k) (and_false_right (component g m j p) fu))
          (rw (digits_div j d, digits_mod j d, w, c) fn)

  pub swept_ended : b ≡ false → g.input.states ≤ i → (j p : ℕ) → component g m j p ≡ true → won g m j p ≡ not up
      → replies (separated_of g) (won g m) j p ≡ not up
  swept_ended e end j p h w =
      let n = T.none e in
      ap (λ (k : List ℕ). replies (separated_of g) (won g k) j p) n.0
      ∙ n.1 j p (omega (arith, belongs_below g.input.states 128 m j p h)) (sym (at j p) ∙ h) (ap (λ (k : List ℕ). won g k j p) (sym n.0) ∙ w)
