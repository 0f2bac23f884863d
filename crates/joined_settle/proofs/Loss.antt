-- A sweep that takes marks away.
--
--   ShrinkingTo g i l m b    == of a sweep from l the rows below i are done, m is reached, and b tells whether a mark was taken away
--   shrinking_start, -more, -same, -end
use Prim.Native.Nat.{ℕ, ◌+◌, ◌≤◌, ◌<◌}
use mathlib.Core.Path.{◌≡◌, refl, sym, ◌∙◌, ap, subst}
use mathlib.Core.Bool.{Bool, true, false, ◌&&◌, not}
use mathlib.Core.List.{List}
use mathlib.Core.Logic.{inl, inr, ◌≢◌}
use lib.ListN.{length, get_or, set}
use Rattle.finite.proofs.Truth.{clash, false_of, and_intro, and_left, and_right, and_false_right, not_true}
use Rattle.bits.specs.Member.{has}
use Rattle.theory.specs.Region.{replies}
use Rattle.joint.specs.Solver.{Above}
use Rattle.joint.proofs.Safe.{lost_out}
use Rattle.joint.proofs.Settled.{above_taken}
use Rattle.game.specs.declared.Game.{Game}
use Rattle.play.specs.Play.{separated_of}
use Rattle.joined_reach.specs.Words.{Small}
use Rattle.joined_reach.proofs.Words.{belongs_has}
use Rattle.joined_component.specs.Component.{won, component}
use Rattle.joined_settle.specs.Settle.{Shrinking, marked, Shrank}
use Rattle.joined_settle.proofs.Replies.{set_here}
use Rattle.joined_settle.proofs.Sweeping.{
  Turned,
  touched,
  still,
  whole_kept,
  ahead_still,
  within_kept,
  SweptTo,
  swept_start,
  swept_same,
  swept_more,
  swept_fewer,
  swept_ended,
}

pub record ShrinkingTo (g : Game) (i : ℕ) (l m : List ℕ) (b : Bool) : Type 0 where
  pub swept : SweptTo g false i l m b
  pub shrinking : Shrinking g m

module _ (g : Game) (S : Small g) (l : List ℕ) where
  pub shrinking_start : Shrinking g l → ShrinkingTo g 0 l l false
  shrinking_start G = record { swept = swept_start g false l; shrinking = G }

  -- x are the marked outputs of row i in the component, y those of them that force what is marked, lost the others
  module _ (i : ℕ) (m : List ℕ) (b : Bool) (T : ShrinkingTo g i l m b) (lt : i < g.input.states) (lost x y : ℕ)
      (d : (o : ℕ) → has x o ≡ (has (get_or m (128 + i) 0) o && has (get_or m (64 + i) 0) o))
      (f : (o : ℕ) → has y o ≡ (has x o && replies (separated_of g) (won g m) i o))
      (n : (o : ℕ) → has lost o ≡ (has x o && not (has y o))) where
    mark : (o : ℕ) → won g m i o ≡ has (get_or m (64 + i) 0) o
    mark o = belongs_has g.input.states 64 m i o lt

    -- row i as it is
    pub shrinking_same : lost ≡ 0 → ShrinkingTo g (i + 1) l m b
    shrinking_same z = record {
      swept = swept_same g S false i l m b T.swept lost lt z
          (λ o c w r. n o ∙ and_intro (d o ∙ and_intro (sym (belongs_has g.input.states 128 m i o lt) ∙ c) (sym (mark o) ∙ w))
          (ap not (f o ∙ and_false_right (has x o) r)));
      shrinking = T.shrinking;
    }

    module _ (long : 4096 ≤ length m) (v : ℕ) (u : (o : ℕ) → has v o ≡ (has (get_or m (64 + i) 0) o && not (has lost o))) where
      -- the positions that are to lose their mark
      on : (o : ℕ) → has lost o ≡ true → Turned g false m (set m (64 + i) v) i o
      on o h =
          let a = and_left (has x o) (not (has y o)) (sym (n o) ∙ h) in
          let c = sym (d o) ∙ a in
          record {
            inside = belongs_has g.input.states 128 m i o lt ∙ and_left (has (get_or m (128 + i) 0) o) (has (get_or m (64 + i) 0) o) c;
            was = mark o ∙ and_right (has (get_or m (128 + i) 0) o) (has (get_or m (64 + i) 0) o) c;
            forces = false_of (replies (separated_of g) (won g m) i o)
                (λ r. clash (f o ∙ and_intro a r) (not_true (has y o) (and_right (has x o) (not (has y o)) (sym (n o) ∙ h))));
            is = set_here g S m long i v lt o ∙ u o ∙ and_false_right (has (get_or m (64 + i) 0) o) (ap not h);
          }

      off : (o : ℕ) → has lost o ≡ false → has v o ≡ has (get_or m (64 + i) 0) o
      off o h = u o ∙ and_all (has (get_or m (64 + i) 0) o) (ap not h)
        where
          and_all : (p : Bool) {q : Bool} → q ≡ true → (p && q) ≡ p
          and_all true e = e
          and_all false e = refl

      pub shrinking_more : lost ≢ 0 → ShrinkingTo g (i + 1) l (set m (64 + i) v) true
      shrinking_more ne = record {
        swept = swept_more g S false i l m b T.swept lost lt long v ne on off;
        shrinking = record {
          whole = whole_kept g S false m long i v lost lt on off G.whole;
          ahead = ahead_still g S false m long i v lost lt on off G.ahead;
          above = subst (λ (E : ℕ → ℕ → Bool). Above (separated_of g) E (won g (set m (64 + i) v))) (sym (still g S false m long i v lost lt on off))
              (above_taken (separated_of g) (component g m) (won g m) (won g (set m (64 + i) v)) (λ j p h k.
              elim (touched g S false m long i v lost lt on off j p) [
                | inl e ↦ inl (e ∙ k)
                | inr t ↦ inr (lost_out (separated_of g) (component g m) (won g m) G.whole G.ahead G.above j p t.inside t.forces)
              ]) G.above);
          within = within_kept g S false m long i v lost lt on off G.whole G.within;
        };
      }
        where
          G : Shrinking g m
          G = T.shrinking

  pub shrinking_end : (i : ℕ) (m : List ℕ) (b : Bool) → g.input.states ≤ i → ShrinkingTo g i l m b → Shrank g l m b
  unfolding marked
  shrinking_end i m b end T = record {
    swept = record { kept = T.swept.kept; outside = T.swept.outside };
    shrinking = T.shrinking;
    fewer = swept_fewer g S false i l m b T.swept (λ x. x) refl refl T.shrinking.whole;
    ended = λ e. record { ended = swept_ended g S false i l m b T.swept e end };
  }
