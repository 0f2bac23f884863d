-- What is kept and can go on for ever.
--
--   trimmed         : emptied, stayed, copied
--   trimmed_endless : what is left goes on for ever
use Prim.Native.Nat.{ℕ, ◌+◌, ◌<◌}
use mathlib.Core.Path.{◌≡◌, sym, ◌∙◌, ap}
use mathlib.Core.List.{List}
use native.Mathlib.Nat.{zero-add}
use native.Mathlib.Omega.{arith}
use lib.ListN.{get_or}
use Rattle.finite.proofs.Truth.{clash, same_test}
use Rattle.finite.proofs.But.{but_then, but_wider}
use Rattle.bits.specs.Member.{has}
use Rattle.bits.proofs.Membership.{has_zero_lem}
use Rattle.barred.specs.Region.{nothing, stay}
use Rattle.barred.proofs.Rounds.{sub_intro, replies_mono, nothing_in}
use Rattle.barred.proofs.Passes.{trimmed_replies}
use Rattle.game.specs.declared.Game.{Game}
use Rattle.game.specs.Fits.{Fits}
use Rattle.play.specs.Play.{graph_of, separated_of}
use Rattle.barred_rows.specs.Areas.{kept_pairs, reached_pairs, staying_pairs, kept_at, reached_at, staying_at, Copied, Emptied}
use Rattle.barred_stay.specs.Stay.{Within, Stayed}
use Rattle.barred_region.specs.Region.{only, Among, never, Trimmed, Endless}
use Rattle.barred_region.proofs.Among.{sub_among, rows_among, part_stay}

module _ (g : Game) (F : Fits g) where
  pub emptied_within : (l a : List ℕ) → Emptied g.input.states reached_at l a → Within g l → Within g a
  emptied_within l a E W = record {
    outputs = λ i o b h. W.outputs i o b (ap (λ (x : ℕ). has x o) (sym (E.apart.low i (omega (arith, F.input.most)))) ∙ h);
  }

  module _ (v w : ℕ) (l a b m : List ℕ) (E : Emptied g.input.states reached_at l a) (T : Stayed g v w a b)
      (C : Copied g.input.states staying_at kept_at b m)
      (nv : v ≡ 0) (nw : w ≡ 0) where
    kept_a : (i : ℕ) → i < g.input.states → get_or a i 0 ≡ get_or l i 0
    kept_a i h = E.apart.low i (omega (arith, F.input.most))

    moved : (i o : ℕ) → i < g.input.states → kept_pairs m i o ≡ staying_pairs b i o
    moved i o h = ap (λ (x : ℕ). has (get_or m x 0) o) (sym (zero-add i)) ∙ ap (λ (x : ℕ). has x o) (C.row i h)

    none : (x p : ℕ) → x ≡ 0 → has x p ≡ never p
    none x p e = ap (λ (k : ℕ). has k p) e ∙ has_zero_lem p

    nobody : Among g (reached_pairs a) nothing
    nobody = record { all = λ i o p q h. clash h (ap (λ (x : ℕ). has x o) (E.row i p) ∙ has_zero_lem o) }

    somebody : Among g nothing (reached_pairs a)
    somebody = sub_among g (nothing_in (separated_of g) (only g) (reached_pairs a))

    into : Among g (stay (separated_of g) (has v) (has w) (kept_pairs a) (reached_pairs a)) (stay (separated_of g) never never (kept_pairs l) nothing)
    into =
        part_stay g (has v) never (has w) never (kept_pairs a) (kept_pairs l) (reached_pairs a) nothing (λ p. none v p nv) (λ j h. none w j nw)
        (rows_among g (λ i. get_or a i 0) (λ i. get_or l i 0) kept_a) nobody

    back : Among g (stay (separated_of g) never never (kept_pairs l) nothing) (stay (separated_of g) (has v) (has w) (kept_pairs a) (reached_pairs a))
    back =
        part_stay g never (has v) never (has w) (kept_pairs l) (kept_pairs a) nothing (reached_pairs a) (λ p. sym (none v p nv)) (λ j h. sym (none w j nw))
        (rows_among g (λ i. get_or l i 0) (λ i. get_or a i 0) (λ i h. sym (kept_a i h))) somebody

    pub trimmed : Trimmed g l m
    trimmed = record {
      apart = but_then
          (but_then (but_wider kept_at (staying_at + g.input.states) (omega arith) (omega (arith, F.input.most)) E.apart)
          (but_wider kept_at (staying_at + g.input.states) (omega arith) (omega arith) T.apart))
          (but_wider kept_at (staying_at + g.input.states) (omega arith) (omega arith) C.apart);
      inside = λ i o h t. ap (λ (x : ℕ). has x o) (sym (kept_a i h)) ∙ T.inside i o h (sym (moved i o h) ∙ t);
      found = λ i o h k. moved i o h ∙ T.found i o h k
          ∙ same_test (stay (separated_of g) (has v) (has w) (kept_pairs a) (reached_pairs a) i o) (stay (separated_of g) never never (kept_pairs l) nothing i o)
          (into.all i o h k) (back.all i o h k);
    }

pub trimmed_endless : (g : Game) (l m : List ℕ) → Trimmed g l m → Endless g m
unfolding separated_of graph_of
trimmed_endless g l m T = record {
  replied = λ i o a b h. replies_mono (separated_of g) (stay (separated_of g) never never (kept_pairs l) nothing) (kept_pairs m)
      (sub_intro (separated_of g) (λ j p c d k. T.found j p c d ∙ k)) i o
      (trimmed_replies (separated_of g) (kept_pairs l) i o a b (sym (T.found i o a b) ∙ h));
}
