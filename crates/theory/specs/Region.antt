-- The winning region (document 01's won map) and the verdict.
--
--   due S i q          == the requirement q has all its input sets meeting the component of i
--   served S d q       == all output sets of q meet the component of d
--   accepting S i d    == every requirement that is due at i is served at d
--   home_for S w i d    == the component of d is nontrivial, accepting for i, and every state entered by a move out of the component of i makes
--                         positions of w with the states of d's component
--   rule S w i o       == what makes (i, o) a won position, w being the won positions with fewer inputs ahead
--   region S i o       == the position is in the winning region
--   opens S i          == some initial output makes a won position with i
--   verdict S          == every initial input has such an output: the system wins
use Rattle.std.specs.Prelude.{ℕ, zero, suc, Bool, true, false, ◌&&◌, ◌||◌, not, List, []}
use Rattle.finite.specs.Bounded.{all, any}
use Rattle.finite.specs.Lists.{all_of}
use Rattle.graphs.specs.Graph.{edge, begins}
use Rattle.graphs.specs.Rows.{rel, rows_of}
use Rattle.graphs.specs.Closure.{reaches}
use Rattle.graphs.specs.Component.{joined, nontrivial, leaves, meets_at}
use Rattle.arena.specs.Arena.{Requirement, Separated}

-- SPEC 4.2
unfoldable pub due : Separated → ℕ → Requirement → Bool
due S i q = all_of (meets_at S.input i) q.assumptions

-- SPEC 4.2
unfoldable pub served : Separated → ℕ → Requirement → Bool
served S d q = all_of (meets_at S.output d) q.guarantees

-- "no requirement has all its input sets meeting j's component while one of its output sets misses D" (SPEC 4.3)
unfoldable pub accepting : Separated → ℕ → ℕ → Bool
accepting S i d = all_of (λ q. not (due S i q) || served S d q) S.requirements

-- "every state entered by a move out of j's component makes won positions with D's states" (SPEC 4.3)
unfoldable pub safe : Separated → (ℕ → ℕ → Bool) → ℕ → ℕ → Bool
safe S w i d =
    all S.input.states (λ j. not (leaves S.input i j) || all S.output.states (λ e. not (joined S.output d e) || w j e))

-- SPEC 4.3
unfoldable pub home_for : Separated → (ℕ → ℕ → Bool) → ℕ → ℕ → Bool
home_for S w i d = nontrivial S.output d && (accepting S i d && safe S w i d)

-- In a nontrivial component the system goes to a home and stays. Elsewhere "a position there is won exactly when it has a reply to every next
-- input, each making a won position." (SPEC 4.4)
unfoldable pub settles : Separated → (ℕ → ℕ → Bool) → ℕ → ℕ → Bool
settles S w i o = any S.output.states (λ d. reaches S.output o d && home_for S w i d)

unfoldable pub answers : Separated → (ℕ → ℕ → Bool) → ℕ → ℕ → Bool
answers S w j o = any S.output.states (λ p. edge S.output o p && w j p)

-- SPEC 4.4
unfoldable pub replies : Separated → (ℕ → ℕ → Bool) → ℕ → ℕ → Bool
replies S w i o = all S.input.states (λ j. not (edge S.input i j) || answers S w j o)

-- SPEC 4.4
unfoldable pub rule : Separated → (ℕ → ℕ → Bool) → ℕ → ℕ → Bool
rule S w i o = elim (nontrivial S.input i) [ true ↦ settles S w i o | false ↦ replies S w i o ]

-- Round k is right wherever the input reaches at most k states: a state reaches itself, and fewer lie ahead of every state that the rule looks at.
unfoldable pub region_rows : Separated → ℕ → List ℕ
region_rows S zero = []
region_rows S (suc k) = let r : List ℕ = region_rows S k in rows_of S.input.states S.output.states (rule S (rel r))

-- SPEC 4.4
unfoldable pub region : Separated → ℕ → ℕ → Bool
region S i o = rel (region_rows S S.input.states) i o

-- SPEC 3.3
unfoldable pub opens : Separated → ℕ → Bool
opens S i = any S.output.states (λ o. begins S.output o && region S i o)

-- "The system wins the game when each initial input has an initial output making a won position." (SPEC 3.3)
unfoldable pub verdict : Separated → Bool
verdict S = all S.input.states (λ i. not (begins S.input i) || opens S i)
