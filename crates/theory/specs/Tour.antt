-- A tour of a component c past a list of sets, with a counter: the same for both sides.
--
--   goal_at l k         == set number k of the list
--   around m g k       == the number k places after g, going round below m
--   inside G c s t     == a move inside the component c
--   ahead G c l g      == how many places after g the first set that meets the component lies, going round
--   goal G c l g       == the number of that set: document 01's aim
--   has_goal G c l      == some set meets the component
--   target G c l a t   == t lies in set a and in the component
--   arrive l a t       == the move to t, the counter being past a where t lies in it
--   tour G c l s g     == next counter and state
use Rattle.std.specs.Prelude.{ℕ, ◌+◌, ◌-◌, Bool, true, false, ◌&&◌, List, ltb, length, get_or}
use Rattle.finite.specs.Bounded.{any, least}
use Rattle.graphs.specs.Graph.{Graph, edge}
use Rattle.graphs.specs.Component.{joined, meets_at}
use Rattle.graphs.specs.Way.{prefer, toward}
use Rattle.arena.specs.Table.{Answer, gives}

unfoldable pub goal_at : List (ℕ → Bool) → ℕ → ℕ → Bool
goal_at l k = get_or l k (λ s. false)

unfoldable pub around : ℕ → ℕ → ℕ → ℕ
around m g k = elim (ltb (g + k) m) [ true ↦ g + k | false ↦ g + k - m ]

-- SPEC 5.6
unfoldable pub inside : Graph → ℕ → ℕ → ℕ → Bool
inside G c s t = edge G s t && (joined G c s && joined G c t)

unfoldable pub ahead : Graph → ℕ → List (ℕ → Bool) → ℕ → ℕ
ahead G c l g = least (length l) (λ k. meets_at G c (goal_at l (around (length l) g k)))

-- "the aim is the first output set from g on, going round, that meets home" (SPEC 5.6)
unfoldable pub goal : Graph → ℕ → List (ℕ → Bool) → ℕ → ℕ
goal G c l g = around (length l) g (ahead G c l g)

unfoldable pub has_goal : Graph → ℕ → List (ℕ → Bool) → Bool
has_goal G c l = any (length l) (λ k. meets_at G c (goal_at l k))

unfoldable pub target : Graph → ℕ → List (ℕ → Bool) → ℕ → ℕ → Bool
target G c l a t = goal_at l a t && joined G c t

-- "The counter becomes aim + 1, going round, if the move lands in the aim, else aim." (SPEC 5.6)
unfoldable pub arrive : List (ℕ → Bool) → ℕ → ℕ → Answer
arrive l a t = elim (goal_at l a t) [ true ↦ gives (around (length l) a 1) t | false ↦ gives a t ]

-- "Take the move inside home with the shortest way to the aim inside home (0 if it lands there), the lowest on ties." "With no aim: the lowest move
-- inside home; g stays." "A move to the present state now goes first, then the lowest. The same holds for the lowest move inside home with no aim,
-- and for the panel's walks." (M-101) (SPEC 5.6, 5.7)
unfoldable pub tour : Graph → ℕ → List (ℕ → Bool) → ℕ → ℕ → Answer
tour G c l s g =
    elim (has_goal G c l) [
      | true ↦ arrive l (goal G c l g) (toward G.states (inside G c) (target G c l (goal G c l g)) s)
      | false ↦ gives g (prefer G.states s (inside G c s))
    ]
