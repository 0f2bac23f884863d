-- A word x without its member h.
--
--   less_in    : what is in r is in x
--   less_out   : h is not in r
--   less_other : any other is in r as it is in x
--   less_falls : r has fewer members
use Prim.Native.Nat.{ℕ, ◌<◌}
use mathlib.Core.Path.{◌≡◌, refl, sym, ◌∙◌}
use mathlib.Core.Bool.{true, false, ◌&&◌, not}
use mathlib.Core.Logic.{◌≢◌}
use lib.Dec.{eqb}
use borrow.Author.Tests.{eq-eqb, ne_eqb}
use Rattle.finite.specs.Bounded.{count}
use Rattle.finite.proofs.Truth.{and_left, and_false_right, and_all}
use Rattle.finite.proofs.Bounded.{count_less}
use Rattle.bits.specs.Member.{has}

module _ (x h r : ℕ) (d : (s : ℕ) → has r s ≡ (has x s && not (eqb s h))) where
  pub less_in : (s : ℕ) → has r s ≡ true → has x s ≡ true
  less_in s m = and_left (has x s) (not (eqb s h)) (sym (d s) ∙ m)

  pub less_out : has r h ≡ false
  less_out = d h ∙ rw (eq-eqb h h refl) (and_false_right (has x h) refl)

  pub less_other : (s : ℕ) → s ≢ h → has r s ≡ has x s
  less_other s n = d s ∙ rw (ne_eqb s h n) (and_all (has x s) refl)

  pub less_falls : (w : ℕ) → h < w → has x h ≡ true → count w (has r) < count w (has x)
  less_falls w b m = count_less w (has r) (has x) (λ s _ a. less_in s a) h b less_out m
