-- A sweep that marks positions.
--
--   GrowingTo g i l m b    == of a sweep from l the rows below i are done, m is reached, and b tells whether a position was marked
--   growing_start, -more, -same, -end
use Prim.Native.Nat.{ℕ, ◌+◌, ◌≤◌, ◌<◌}
use mathlib.Core.Path.{◌≡◌, refl, sym, ◌∙◌, ap, subst}
use mathlib.Core.Bool.{Bool, true, false, ◌&&◌, ◌||◌, not}
use mathlib.Core.List.{List}
use mathlib.Core.Logic.{inl, inr, ◌≢◌}
use lib.ListN.{length, get_or, set}
use Rattle.finite.proofs.Truth.{and_intro, and_left, and_right, or_right, or_none, not_true}
use Rattle.bits.specs.Member.{has}
use Rattle.theory.specs.Region.{replies}
use Rattle.joint.specs.Solver.{Below}
use Rattle.joint.proofs.Forced.{forces_won}
use Rattle.joint.proofs.Settled.{below_put}
use Rattle.game.specs.declared.Game.{Game}
use Rattle.play.specs.Play.{separated_of}
use Rattle.joined_reach.specs.Words.{Small}
use Rattle.joined_reach.proofs.Words.{belongs_has}
use Rattle.joined_component.specs.Component.{won, component}
use Rattle.joined_settle.specs.Settle.{Growing, missing, Grew}
use Rattle.joined_settle.proofs.Replies.{set_here}
use Rattle.joined_settle.proofs.Sweeping.{
  Turned,
  touched,
  still,
  whole_kept,
  ahead_still,
  within_kept,
  SweptTo,
  swept_start,
  swept_same,
  swept_more,
  swept_fewer,
  swept_ended,
}

pub record GrowingTo (g : Game) (i : ℕ) (l m : List ℕ) (b : Bool) : Type 0 where
  pub swept : SweptTo g true i l m b
  pub growing : Growing g m

module _ (g : Game) (S : Small g) (l : List ℕ) where
  pub growing_start : Growing g l → GrowingTo g 0 l l false
  growing_start G = record { swept = swept_start g true l; growing = G }

  module _ (i : ℕ) (m : List ℕ) (b : Bool) (T : GrowingTo g i l m b) (lt : i < g.input.states) (new x : ℕ)
      (f : (o : ℕ) → has new o ≡ (has x o && replies (separated_of g) (won g m) i o))
      (d : (o : ℕ) → has x o ≡ (has (get_or m (128 + i) 0) o && not (has (get_or m (64 + i) 0) o))) where
    mark : (o : ℕ) → won g m i o ≡ has (get_or m (64 + i) 0) o
    mark o = belongs_has g.input.states 64 m i o lt

    -- row i as it is
    pub growing_same : new ≡ 0 → GrowingTo g (i + 1) l m b
    growing_same z = record {
      swept = swept_same g S true i l m b T.swept new lt z
          (λ o c w r. f o ∙ and_intro (d o ∙ and_intro (sym (belongs_has g.input.states 128 m i o lt) ∙ c) (ap not (sym (mark o) ∙ w))) r);
      growing = T.growing;
    }

    module _ (long : 4096 ≤ length m) (v : ℕ) (u : (o : ℕ) → has v o ≡ (has (get_or m (64 + i) 0) o || has new o)) where
      -- the positions that are to be marked
      on : (o : ℕ) → has new o ≡ true → Turned g true m (set m (64 + i) v) i o
      on o h =
          let a = sym (f o) ∙ h in
          let c = sym (d o) ∙ and_left (has x o) (replies (separated_of g) (won g m) i o) a in
          record {
            inside = belongs_has g.input.states 128 m i o lt ∙ and_left (has (get_or m (128 + i) 0) o) (not (has (get_or m (64 + i) 0) o)) c;
            was = mark o ∙ not_true (has (get_or m (64 + i) 0) o) (and_right (has (get_or m (128 + i) 0) o) (not (has (get_or m (64 + i) 0) o)) c);
            forces = and_right (has x o) (replies (separated_of g) (won g m) i o) a;
            is = set_here g S m long i v lt o ∙ u o ∙ or_right (has (get_or m (64 + i) 0) o) h;
          }

      off : (o : ℕ) → has new o ≡ false → has v o ≡ has (get_or m (64 + i) 0) o
      off o h = u o ∙ or_none (has (get_or m (64 + i) 0) o) h

      pub growing_more : new ≢ 0 → GrowingTo g (i + 1) l (set m (64 + i) v) true
      growing_more ne = record {
        swept = swept_more g S true i l m b T.swept new lt long v ne on off;
        growing = record {
          whole = whole_kept g S true m long i v new lt on off G.whole;
          ahead = ahead_still g S true m long i v new lt on off G.ahead;
          below = subst (λ (E : ℕ → ℕ → Bool). Below (separated_of g) E (won g (set m (64 + i) v))) (sym (still g S true m long i v new lt on off))
              (below_put (separated_of g) (component g m) (won g m) (won g (set m (64 + i) v)) (λ j p h k.
              elim (touched g S true m long i v new lt on off j p) [
                | inl e ↦ inl (sym e ∙ k)
                | inr t ↦ inr (forces_won (separated_of g) (component g m) (won g m) G.whole G.ahead G.below j p t.inside t.forces)
              ]) G.below);
          within = within_kept g S true m long i v new lt on off G.whole G.within;
        };
      }
        where
          G : Growing g m
          G = T.growing

  pub growing_end : (i : ℕ) (m : List ℕ) (b : Bool) → g.input.states ≤ i → GrowingTo g i l m b → Grew g l m b
  unfolding missing
  growing_end i m b end T = record {
    swept = record { kept = T.swept.kept; outside = T.swept.outside };
    growing = T.growing;
    fewer = swept_fewer g S true i l m b T.swept not refl refl T.growing.whole;
    ended = λ e. record { ended = swept_ended g S true i l m b T.swept e end };
  }
