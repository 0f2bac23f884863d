-- Acceptance of a game, by document 01's list "Who can cause which number". Each test is defined for every record, whatever its counts.
--
--   limit used j n         == n where place j is in use, that is below used; else 0
--
-- of a graph g:
--   count_fits g            == g has 1 to 128 states
--   row_fits g s            == row s has no state past the count, and none at all where s is past it
--   states_fit g            == the initial states and all rows fit the count
--   has_initial g           == g has an initial state
--
-- of a requirement q:
--   few_sets q              == both lengths are at most 4
--   in_set_fits q n j        == assumption j has no state past n, and none at all where it is unused
--   out_set_fits q n j       == the same of guarantee j
--   in_use g r q            == place r is one of the k requirements of g, or q has both lengths 0
--   requirement_fits g r q  == in_use, and the sets of q fit the graphs of g
--   few_sets_at g r          == few_sets of the requirement at place r
--   requirement_fits_at g r  == requirement_fits of the requirement at place r
--
-- of a game g, one for each refusal's number, which holds of g where the test fails:
--   1 counts_fit, 2 states_in_count, 3 initials_exist, 5 few_requirements, 6 lengths_fit, 7 sets_fit
--   tests g                == these six in order, each with the refusal that it stands for; there is none for 4
--   first_failing ts       == the refusal of the first of ts that fails; none where all hold
--   Acceptance             == an answer: nothing where the game is accepted, else the refusal
--   accepted               == that it is accepted
--   acceptance g           == the answer to g
--   acceptance_number a     == document 01's number of the answer a: a refusal's number, 0 for accepted
use Rattle.std.specs.Prelude.{ℕ, suc, Bool, true, false, not, ◌&&◌, ◌||◌, List, [], ◌∷◌, eqb, ltb, leb, get_or, Result}
use Rattle.std.specs.declared.result.Result.TheVariants.{Ok, Err}
use Rattle.sets.specs.Words.{capacity, bits_of, sets_in}
use Rattle.finite.specs.Bounded.{all}
use Rattle.bits.specs.Member.{within}
use Rattle.game.specs.declared.Graph.{Graph}
use Rattle.game.specs.declared.Requirement.{Requirement}
use Rattle.game.specs.declared.Game.{Game}
use Rattle.game.specs.declared.Refusal.{Refusal}
use Rattle.game.specs.declared.Refusal.TheVariants.{CountOutOfRange, StatePastCount, NoInitialState, TooManyRequirements, TooManySets, BadSet}
use Rattle.game.specs.Refusals.{number}
use Rattle.game.specs.Access.{no_input, no_output, requirement_at}

unfoldable pub limit : ℕ → ℕ → ℕ → ℕ
limit used j n = elim (ltb j used) [ true ↦ n | false ↦ 0 ]

-- ---- one graph

unfoldable pub count_fits : Graph → Bool
count_fits g = leb 1 g.states && leb g.states capacity

unfoldable pub row_fits : Graph → ℕ → Bool
row_fits g s = within (get_or (sets_in g.moves) s 0) (limit g.states s g.states)

unfoldable pub states_fit : Graph → Bool
states_fit g = within (bits_of g.initial) g.states && all capacity (row_fits g)

unfoldable pub has_initial : Graph → Bool
has_initial g = not (eqb (bits_of g.initial) 0)

-- ---- one requirement

unfoldable pub few_sets : Requirement → Bool
few_sets q = leb q.assumed 4 && leb q.guaranteed 4

unfoldable pub in_set_fits : Requirement → ℕ → ℕ → Bool
in_set_fits q n j = within (bits_of (get_or q.assumptions j no_input).0) (limit q.assumed j n)

unfoldable pub out_set_fits : Requirement → ℕ → ℕ → Bool
out_set_fits q n j = within (bits_of (get_or q.guarantees j no_output).0) (limit q.guaranteed j n)

unfoldable pub in_use : Game → ℕ → Requirement → Bool
in_use g r q = ltb r g.k || (eqb q.assumed 0 && eqb q.guaranteed 0)

unfoldable pub requirement_fits : Game → ℕ → Requirement → Bool
requirement_fits g r q = in_use g r q && (all 4 (in_set_fits q g.input.states) && all 4 (out_set_fits q g.output.states))

unfoldable pub few_sets_at : Game → ℕ → Bool
few_sets_at g r = few_sets (requirement_at g r)

unfoldable pub requirement_fits_at : Game → ℕ → Bool
requirement_fits_at g r = requirement_fits g r (requirement_at g r)

-- ---- the seven tests

-- fails: "1 a count not 1 to 64", to 128 by M-105: "Number 1 begins at 129" (SPEC 9.2)
unfoldable pub counts_fit : Game → Bool
counts_fit g = count_fits g.input && count_fits g.output

-- fails: "2 a move or initial state past the count, or a used row past it" (SPEC 9.2)
unfoldable pub states_in_count : Game → Bool
states_in_count g = states_fit g.input && states_fit g.output

-- fails: "3 no initial state" (SPEC 9.2)
unfoldable pub initials_exist : Game → Bool
initials_exist g = has_initial g.input && has_initial g.output

-- fails: "5 k over 8" (SPEC 9.2)
unfoldable pub few_requirements : Game → Bool
few_requirements g = leb g.k 8

-- fails: "6 a length over 4, all eight places counted" (SPEC 9.2)
unfoldable pub lengths_fit : Game → Bool
lengths_fit g = all 8 (few_sets_at g)

-- fails: "7 a state past its count in a set, an unused set not empty, or an unused requirement with a length not 0" (SPEC 9.2)
unfoldable pub sets_fit : Game → Bool
sets_fit g = all 8 (requirement_fits_at g)

-- "So a state without a move is accepted, and 4 no longer occurs." (M-102) (SPEC 1.2, 9.2)
unfoldable pub tests : Game → List (Refusal × Bool)
tests g =
    (CountOutOfRange, counts_fit g)
    ∷ (StatePastCount, states_in_count g)
    ∷ (NoInitialState, initials_exist g)
    ∷ (TooManyRequirements, few_requirements g)
    ∷ (TooManySets, lengths_fit g)
    ∷ (BadSet, sets_fit g)
    ∷ []

abbrev pub Acceptance : Type 0
Acceptance = Result (Unit {0}) Refusal

abbrev pub accepted : Acceptance
accepted = Ok tt

-- "The lowest number whose condition holds is given" (SPEC 9.1)
unfoldable pub first_failing : List (Refusal × Bool) → Acceptance
first_failing [] = accepted
first_failing ((r, true) ∷ ts) = first_failing ts
first_failing ((r, false) ∷ ts) = Err r

-- SPEC 9.1, 9.2
unfoldable pub acceptance : Game → Acceptance
acceptance g = first_failing (tests g)

abbrev pub acceptance_number : Acceptance → ℕ
acceptance_number (Ok u) = 0
acceptance_number (Err r) = number r
