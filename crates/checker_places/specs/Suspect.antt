-- Rounds that would break a requirement, and sets of configurations that hold them all.
--
--   on_places A M K c          == c is a configuration whose place is in K
--   Suspect q Q cs            == the configurations cs visit all input sets of q and miss the output set Q
--   Holds First Turn q Q X    == every reachable round that visits all input sets of q and misses Q lies in X
use Rattle.std.specs.Prelude.{ℕ, ◌≡◌, Bool, true, false, ◌&&◌, ltb}
use mathlib.Core.List.{List, Memᴰ}
use Rattle.finite.specs.Lists.{all_of}
use Rattle.arena.specs.Arena.{Requirement, Arena}
use Rattle.arena.specs.Play.{Configuration, Cycle, configurations, visits_input, visits_output}
use Rattle.checker_places.specs.Place.{place}

unfoldable pub on_places : Arena → ℕ → (ℕ → Bool) → Configuration → Bool
on_places A M K c = ltb c.input A.inputs && (ltb c.output A.outputs && (ltb c.memory M && K (place A.inputs M c)))

pub record Suspect (q : Requirement) (Q : ℕ → Bool) (cs : List Configuration) : Type 0 where
  pub visits : all_of (λ s. visits_input s cs) q.assumptions ≡ true
  pub misses : visits_output Q cs ≡ false

-- "every reachable round meets all requirements" holds where such a set is empty for each requirement and each of its output sets (SPEC 12.1)
pub record Holds (First : Configuration → Type 0) (Turn : Configuration → Configuration → Type 0) (q : Requirement) (Q : ℕ → Bool)
    (X : Configuration → Bool) : Type 0 where
  pub round : (r : Cycle First Turn) → Suspect q Q (configurations First Turn r) → (c : Configuration)
      → Memᴰ c (configurations First Turn r) → X c ≡ true
