-- Requirements that are due or served in a component, told of sets: of the sets of a game, and of those of a board. The sets of outputs
-- that serve each requirement stand in two lists of words: those of the first four requirements, then of the others.
--
--   in_meets q c k          == the first k input sets of q meet the set c
--   out_meets q c k         == the first k output sets of q meet the set c
--   due_in g a r            == all input sets of requirement r meet a
--   served_in g b r         == all output sets of requirement r meet b
--   due_by b a r            == all input sets of requirement r of the board b meet a
--   served_by b c r         == all output sets of requirement r of the board b meet c
--   Few g                  == few enough requirements and sets for their places
--   FewSets b              == few enough sets on the board b for their places
--   FirstFour k n          == n of k requirements are among the first four
--   Whole f s              == the lists have the lengths of the arrays
--   servers_at f s r        == the set of requirement r in the two lists
--   Marked b i k c x y     == y is x where the sets of k requirements from number i on have c too, if c serves their requirements
--   serves g r d           == requirement r is served in the component of d
--   Serving g f s          == the lists have for each requirement the outputs whose components serve it
--   admits_by b i a x d q   == the requirement q past number i is not due in a, or d is in its set of x
--   admits g a f s d r     == requirement r is not due in a, or d is in its set of the two lists
use Rattle.std.specs.Prelude.{ℕ, ◌+◌, ◌-◌, ◌≤◌, ◌<◌, ◌≡◌, Bool, true, false, not, ◌&&◌, ◌||◌, List, ltb, length, get_or}
use Rattle.finite.specs.Bounded.{all}
use Rattle.bits.specs.Member.{has, pack, sets_meet}
use Rattle.sets.specs.Words.{capacity, bits_of, sets_in, words_for}
use Rattle.game.specs.declared.Requirement.{Requirement}
use Rattle.game.specs.declared.Game.{Game}
use Rattle.game.specs.Access.{no_input, no_output, requirement_at}
use Rattle.board.specs.Board.{requirement_on}
use Rattle.play.specs.Play.{requirement_of, separated_of}
use Rattle.theory.specs.Region.{served}

unfoldable pub in_meets_at : Requirement → ℕ → ℕ → Bool
in_meets_at q c j = sets_meet capacity (bits_of (get_or q.assumptions j no_input).0) c

unfoldable pub in_meets : Requirement → ℕ → ℕ → Bool
in_meets q c k = all k (in_meets_at q c)

unfoldable pub out_meets_at : Requirement → ℕ → ℕ → Bool
out_meets_at q c j = sets_meet capacity (bits_of (get_or q.guarantees j no_output).0) c

unfoldable pub out_meets : Requirement → ℕ → ℕ → Bool
out_meets q c k = all k (out_meets_at q c)

unfoldable pub due_in : Game → ℕ → ℕ → Bool
due_in g a r = in_meets (requirement_at g r) a (requirement_at g r).assumed

unfoldable pub served_in : Game → ℕ → ℕ → Bool
served_in g b r = out_meets (requirement_at g r) b (requirement_at g r).guaranteed

unfoldable pub due_by : List ℕ → ℕ → ℕ → Bool
due_by b a r = in_meets (requirement_on b r) a (requirement_on b r).assumed

unfoldable pub served_by : List ℕ → ℕ → ℕ → Bool
served_by b c r = out_meets (requirement_on b r) c (requirement_on b r).guaranteed

pub record Few (g : Game) : Type 0 where
  pub requirements : g.k ≤ 8
  pub assumed : (r : ℕ) → r < 8 → (requirement_at g r).assumed ≤ 4
  pub guaranteed : (r : ℕ) → r < 8 → (requirement_at g r).guaranteed ≤ 4

pub record FewSets (b : List ℕ) : Type 0 where
  pub assumed : (r : ℕ) → r < 8 → (requirement_on b r).assumed ≤ 4
  pub guaranteed : (r : ℕ) → r < 8 → (requirement_on b r).guaranteed ≤ 4

pub record FirstFour (k n : ℕ) : Type 0 where
  pub most : n ≤ 4
  pub within : n ≤ k
  pub others : k ≤ n + 4
  pub first : (r : ℕ) → r < k → r < 4 → r < n
  pub second : (q : ℕ) → q < k - n → 4 + q < k

pub record Whole (f s : List ℕ) : Type 0 where
  pub first : length f ≡ words_for 4
  pub second : length s ≡ words_for 4

unfoldable pub servers_at : List ℕ → List ℕ → ℕ → ℕ
servers_at f s r = elim (ltb r 4) [ true ↦ get_or (sets_in f) r 0 | false ↦ get_or (sets_in s) (r - 4) 0 ]

pub record Marked (b : List ℕ) (i k c : ℕ) (x y : List ℕ) : Type 0 where
  pub long : length y ≡ length x
  pub done : (q : ℕ) → q < k → (t : ℕ) → has (get_or y q 0) t ≡ (has (get_or x q 0) t || (served_by b c (i + q) && has c t))
  pub rest : (q : ℕ) → k ≤ q → get_or y q 0 ≡ get_or x q 0

unfoldable pub serves : Game → ℕ → ℕ → Bool
serves g r d = served (separated_of g) d (requirement_of (requirement_at g r))

pub record Serving (g : Game) (f s : List ℕ) : Type 0 where
  pub whole : Whole f s
  pub at : (r : ℕ) → r < g.k → servers_at f s r ≡ pack g.output.states (serves g r)

unfoldable pub admits_by : List ℕ → ℕ → ℕ → List ℕ → ℕ → ℕ → Bool
admits_by b i a x d q = not (due_by b a (i + q)) || has (get_or x q 0) d

unfoldable pub admits : Game → ℕ → List ℕ → List ℕ → ℕ → ℕ → Bool
admits g a f s d r = not (due_in g a r) || has (servers_at f s r) d
