-- Emptying a set of configurations that holds all rounds which would break a requirement q at its output set Q.
--
--   holds_start    : it begins with what is reachable outside Q
--   holds_cut      : what u reaches inside it, and u, are taken out where they miss an input set
--   holds_drop     : u is taken out where it does not reach itself
--   holds_none     : where it is empty there is no such round
--   emptied        : where it is so for each requirement and output set, every reachable round meets all requirements
use Prim.Native.Nat.{ℕ}
use mathlib.Core.Path.{◌≡◌, refl, sym, ◌∙◌, ap}
use mathlib.Core.Bool.{Bool, true, false}
use mathlib.Core.List.{List, Memᴰ}
use mathlib.Core.Logic.{◌⊎◌, inr}
use Rattle.finite.specs.Lists.{all_of}
use Rattle.finite.proofs.Truth.{clash, true_of, false_of}
use Rattle.finite.proofs.Lists.{all_of_intro, all_of_elim}
use Rattle.arena.specs.Arena.{Requirement}
use Rattle.arena.specs.Play.{Configuration, Reachable, Cycle, configurations, visits_input, visits_output, meets}
use Rattle.arena.proofs.Meets.{visits_input_elim, visits_output_intro, meets_intro}
use Rattle.arena.proofs.Reach.{cycle_reachable}
use Rattle.checker_places.specs.Search.{Closed}
use Rattle.checker_places.specs.Suspect.{Suspect, Holds}
use Rattle.checker_places.proofs.Inside.{cycle_inside}

module _ (First : Configuration → Type 0) (Turn : Configuration → Configuration → Type 0) where
  abbrev all_of_lem : Cycle First Turn → List Configuration
  all_of_lem r = configurations First Turn r

  module _ (q : Requirement) (Q : ℕ → Bool) where
    pub holds_start : (X : Configuration → Bool) → ((c : Configuration) → Reachable First Turn c → Q c.output ≡ false → X c ≡ true)
        → Holds First Turn q Q X
    holds_start X f = record {
      round = λ r s c m.
          f c (cycle_reachable First Turn r c m) (false_of (Q c.output) (λ h. clash (visits_output_intro Q m h) s.misses));
    }

    module _ (X Y F : Configuration → Bool) (u : Configuration) (H : Holds First Turn q Q X) (C : Closed Turn X u F) where
      -- a round of which a part is taken out lies in F
      taken : (r : Cycle First Turn) → Suspect q Q (configurations First Turn r) → (c : Configuration) → Memᴰ c (configurations First Turn r)
          → (F c ≡ true) ⊎ (c ≡ u) → (d : Configuration) → Memᴰ d (configurations First Turn r) → F d ≡ true
      taken r s c m h d n = cycle_inside First Turn X F u C r (H.round r s) c m h d n

      pub holds_cut : (p : ℕ → Bool) → Memᴰ p q.assumptions → ((c : Configuration) → F c ≡ true → p c.input ≡ false)
          → ((c : Configuration) → X c ≡ true → Y c ≡ false → (F c ≡ true) ⊎ (c ≡ u)) → Holds First Turn q Q Y
      holds_cut p i f out = record { round = λ r s c m. true_of (Y c) (λ y. missed r s c m (out c (H.round r s c m) y)) }
        where
          missed : (r : Cycle First Turn) → Suspect q Q (configurations First Turn r) → (c : Configuration) → Memᴰ c (configurations First Turn r)
              → (F c ≡ true) ⊎ (c ≡ u) → ⊥
          missed r s c m h =
              let v = visits_input_elim p (all_of_lem r) (all_of_elim (λ t. visits_input t (all_of_lem r)) q.assumptions s.visits p i) in
              clash v.2 (f v.0 (taken r s c m h v.0 v.1))

      pub holds_drop : F u ≡ false → ((c : Configuration) → X c ≡ true → Y c ≡ false → c ≡ u) → Holds First Turn q Q Y
      holds_drop n out = record {
        round = λ r s c m. true_of (Y c)
            (λ y. let e = out c (H.round r s c m) y in clash (ap F (sym e) ∙ taken r s c m (inr e) c m) n);
      }

    pub holds_none : (X : Configuration → Bool) → Holds First Turn q Q X → ((c : Configuration) → Reachable First Turn c → X c ≡ false)
        → (r : Cycle First Turn) → Suspect q Q (configurations First Turn r) → ⊥
    unfolding configurations
    holds_none X H f r s = clash (H.round r s r.at (Memᴰ.head refl)) (f r.at r.reachable)

  pub emptied : (qs : List Requirement)
      → ((q : Requirement) → Memᴰ q qs → (Q : ℕ → Bool) → Memᴰ Q q.guarantees → (r : Cycle First Turn)
      → Suspect q Q (configurations First Turn r) → ⊥)
      → (r : Cycle First Turn) → all_of (λ q. meets q (configurations First Turn r)) qs ≡ true
  emptied qs f r =
      all_of_intro (λ q. meets q (all_of_lem r)) qs
      (λ q m. meets_intro q (all_of_lem r)
      (λ v. all_of_intro (λ s. visits_output s (all_of_lem r)) q.guarantees
      (λ Q n. true_of (visits_output Q (all_of_lem r)) (λ h. f q m Q n r (record { visits = v; misses = h })))))
