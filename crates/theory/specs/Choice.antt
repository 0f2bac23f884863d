-- The choices that fix both tables.
--
--   guarantees S, assumptions S             == all output sets, all input sets, in file order
--   home S j o                              == the number of the component that the system goes to
--   controller_row S o g j, controller_start  == the controller's table
--   lost S o i j                            == i moves out of its component to j, and (j, o) is not won
--   way_out S o i                            == i has such a move
--   escapes S i o                           == some state of the component of i has one
--   environment_row S i h o, environment_start
use Rattle.std.specs.Prelude.{ℕ, Bool, true, false, ◌&&◌, not, List, [], ◌∷◌, ◌++◌}
use Rattle.finite.specs.Bounded.{any, least}
use Rattle.graphs.specs.Graph.{edge, begins, stuck}
use Rattle.graphs.specs.Closure.{reaches}
use Rattle.graphs.specs.Component.{joined, number, nontrivial}
use Rattle.graphs.specs.Way.{toward}
use Rattle.arena.specs.Arena.{Requirement, Separated}
use Rattle.arena.specs.Table.{Answer, none, gives}
use Rattle.theory.specs.Region.{home_for, answers, region, opens}
use Rattle.theory.specs.Tour.{inside, tour}

-- the sets that f takes of each requirement, in file order
unfoldable pub sets_of : (Requirement → List (ℕ → Bool)) → List Requirement → List (ℕ → Bool)
sets_of f [] = []
sets_of f (q ∷ l) = f q ++ sets_of f l

-- "G is the number of output sets over all requirements, in file order"; "H and h are the same for input sets and the panel." (SPEC 5.1)
unfoldable pub guarantees : Separated → List (ℕ → Bool)
guarantees S = sets_of (λ q. q.guarantees) S.requirements

-- SPEC 6.1
unfoldable pub assumptions : Separated → List (ℕ → Bool)
assumptions S = sets_of (λ q. q.assumptions) S.requirements

-- "home is the lowest-numbered stayable component D such that o reaches it, .." The states of a component are homes together, so the smallest home
-- that o reaches is the number of its component. (SPEC 5.5)
unfoldable pub home : Separated → ℕ → ℕ → ℕ
home S j o = least S.output.states (λ d. reaches S.output o d && home_for S (region S) j d)

-- "At home: .." and "Outside home: the move with the shortest way to home, the lowest on ties; g stays." Outside home no shortest way begins with a
-- move to the present state, so M-101 changes no row here. (SPEC 5.5, 5.6)
unfoldable pub homeward : Separated → ℕ → ℕ → ℕ → Answer
homeward S d o g =
    elim (joined S.output d o) [
      | true ↦ tour S.output d (guarantees S) o g
      | false ↦ gives g (toward S.output.states (edge S.output) (joined S.output d) o)
    ]

-- "The component of j is not stayable: the lowest move to a won position; g stays." (SPEC 5.4)
unfoldable pub settled : Separated → ℕ → ℕ → ℕ → Answer
settled S o g j =
    elim (nontrivial S.input j) [
      | true ↦ homeward S (home S j o) o g
      | false ↦ gives g (least S.output.states (λ p. edge S.output o p && region S j p))
    ]

-- "Controller row (output o, counter g, new input j)." "No output move leads to a won position with j: none." (SPEC 5.3)
unfoldable pub controller_row : Separated → ℕ → ℕ → ℕ → Answer
controller_row S o g j = elim (answers S (region S) j o) [ true ↦ settled S o g j | false ↦ none ]

-- "Start for an initial input: the lowest initial output making a won position, counter 0; none for other inputs." (SPEC 5.2)
unfoldable pub controller_start : Separated → ℕ → Answer
controller_start S i =
    elim (begins S.input i && opens S i) [
      | true ↦ gives 0 (least S.output.states (λ o. begins S.output o && region S i o))
      | false ↦ none
    ]

-- "a j with (j, o) not won" that a move of i enters, leaving the component (SPEC 6.6)
unfoldable pub lost : Separated → ℕ → ℕ → ℕ → Bool
lost S o i j = edge S.input i j && (not (joined S.input i j) && not (region S j o))

-- SPEC 6.6
unfoldable pub way_out : Separated → ℕ → ℕ → Bool
way_out S o i = any S.input.states (lost S o i)

-- a state of the component c with such a move (SPEC 6.6)
unfoldable pub gate : Separated → ℕ → ℕ → ℕ → Bool
gate S o c k = joined S.input c k && way_out S o k

-- "go the shortest way inside the component to a state with such a move, lowest on ties; there take the lowest such j; h stays." (SPEC 6.6)
unfoldable pub outward : Separated → ℕ → ℕ → ℕ → Answer
outward S i h o =
    elim (way_out S o i) [
      | true ↦ gives h (least S.input.states (lost S o i))
      | false ↦ gives h (toward S.input.states (inside S.input (number S.input i)) (gate S o (number S.input i)) i)
    ]

-- "Some move leaves the component to a j with (j, o) not won: .." "Otherwise tour the input sets inside the component as the controller does at home."
-- SPEC 6.6
unfoldable pub escapes : Separated → ℕ → ℕ → Bool
escapes S i o = any S.input.states (gate S o (number S.input i))

-- SPEC 6.6, 6.7
unfoldable pub pressing : Separated → ℕ → ℕ → ℕ → Answer
pressing S i h o =
    elim (escapes S i o) [
      | true ↦ outward S i h o
      | false ↦ tour S.input (number S.input i) (assumptions S) i h
    ]

-- "i's component not stayable: the lowest move to a j for which no output move from o makes a won position; h stays." (SPEC 6.5)
unfoldable pub pushing : Separated → ℕ → ℕ → ℕ → Answer
pushing S i h o =
    elim (nontrivial S.input i) [
      | true ↦ pressing S i h o
      | false ↦ gives h (least S.input.states (λ j. edge S.input i j && not (answers S (region S) j o)))
    ]

-- "Where the output is stuck and the input is not, the panel row is the lowest move and h stays." (M-102) The input has a move wherever the position
-- is not won. Shortest ways are not compared here, so the present state does not go first. (SPEC 6.4)
unfoldable pub opposing : Separated → ℕ → ℕ → ℕ → Answer
opposing S i h o =
    elim (stuck S.output o) [
      | true ↦ gives h (least S.input.states (edge S.input i))
      | false ↦ pushing S i h o
    ]

-- "Panel row (input i, counter h, output o)." "Position won: none." So "in a position with the input stuck the panel row is none" (M-102): it is won.
-- SPEC 6.3
unfoldable pub environment_row : Separated → ℕ → ℕ → ℕ → Answer
environment_row S i h o = elim (region S i o) [ true ↦ none | false ↦ opposing S i h o ]

-- "Start: the lowest initial input with no won reply, h = 0." (SPEC 6.2)
unfoldable pub refused : Separated → ℕ → Bool
refused S i = begins S.input i && not (opens S i)

-- SPEC 6.2
unfoldable pub environment_start : Separated → Answer
environment_start S =
    elim (any S.input.states (refused S)) [
      | true ↦ gives 0 (least S.input.states (refused S))
      | false ↦ none
    ]
