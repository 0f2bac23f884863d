-- What a ground says of a position: "What the reply names holds with won and lost as 01 defines them, not by a map." So nothing here is computed by
-- the winning region: a position is won where some controller keeps it, and lost where none does.
--
--   Lost S i o            == the position is not won
--   Due S i k             == requirement k is due at i
--   InputStuck .. PushedOn  == the eight grounds
--   Holds S i o g         == what the ground g says of (i, o)
--   UpTo g h              == g comes no later than h: in the order of the request, then by numbers
--   Explains S i o g      == g is the first ground that holds of (i, o), it is one of a won position exactly where (i, o) is won, and a home that
--                            it names is the home of the controller's row
use Rattle.std.specs.Prelude.{ℕ, ◌≤◌, ◌<◌, ◌≡◌, true, false, ◌↔◌, length}
use Rattle.graphs.specs.Walk.{Walk}
use Rattle.graphs.specs.Graph.{edge, Moves}
use Rattle.arena.specs.Arena.{Separated, arena_of}
use Rattle.arena.specs.Win.{Won}
use Rattle.theory.specs.Tour.{goal_at}
use Rattle.theory.specs.Choice.{homeward, controller_row}
use Rattle.grounds.specs.Ground.{
  Ground,
  input_stuck,
  by_replies,
  at_home,
  output_stuck,
  unanswered,
  by_way_out,
  unserved,
  pushed_on,
  wins,
  ground_number,
  first_named,
  second_named,
  nth_requirement,
}
use Rattle.grounds.specs.Component.{Together, Nontrivial, Meets, Leaves}

abbrev pub Lost : Separated → ℕ → ℕ → Type 0
Lost S i o = Won (arena_of S) i o → ⊥

-- "a requirement due there (its input sets all meet the input's component)" (SPEC 4.2)
pub record Due (S : Separated) (i k : ℕ) : Type 0 where
  pub number : k < length S.requirements
  pub meets : (n : ℕ) → n < length (nth_requirement S k).assumptions → Meets S.input i (goal_at (nth_requirement S k).assumptions n)

module _ (S : Separated) (i o : ℕ) where
  -- "won with a stuck input" (SPEC 14.1)
  pub record InputStuck : Type 0 where
    pub won : Won (arena_of S) i o
    pub stuck : (j : ℕ) → edge S.input i j ≡ false

  -- "it has a reply to every next input, each making a won position" (SPEC 4.4)
  pub record Reply (j : ℕ) : Type 0 where
    pub output : ℕ
    pub move : Moves S.output o output
    pub won : Won (arena_of S) j output

  -- "won by replies, the input's component not stayable" (SPEC 14.1)
  pub record ByReplies : Type 0 where
    pub won : Won (arena_of S) i o
    pub trivial : Nontrivial S.input i → ⊥
    pub replies : (j : ℕ) → Moves S.input i j → Reply j

  -- "won with a home, and its number": "home is the lowest-numbered stayable component D such that o reaches it, no requirement has all its input
  -- sets meeting j's component while one of its output sets misses D, and every state entered by a move out of j's component makes won positions
  -- with D's states." That it is the lowest is said by UpTo. Where the input's component is not stayable there is no home. (SPEC 14.1)
  pub record AtHome (d : ℕ) : Type 0 where
    pub won : Won (arena_of S) i o
    pub staying : Nontrivial S.input i
    pub number : (e : ℕ) → Together S.output d e → d ≤ e
    pub lasting : Nontrivial S.output d
    pub reached : Walk (Moves S.output) o d
    pub serves : (k n : ℕ) → Due S i k → n < length (nth_requirement S k).guarantees
        → Meets S.output d (goal_at (nth_requirement S k).guarantees n)
    pub safe : (j e : ℕ) → Leaves S.input i j → Together S.output d e → Won (arena_of S) j e

  -- "lost with a stuck output" (SPEC 14.1)
  pub record OutputStuck : Type 0 where
    pub lost : Lost S i o
    pub stuck : (p : ℕ) → edge S.output o p ≡ false

  -- "lost by a next input without a won reply, and which, the input's component not stayable" (SPEC 14.1)
  pub record Unanswered (j : ℕ) : Type 0 where
    pub lost : Lost S i o
    pub trivial : Nontrivial S.input i → ⊥
    pub move : Moves S.input i j
    pub unreplied : (p : ℕ) → Moves S.output o p → Lost S j p

  -- "lost by a way out, and the state it enters outside the component, lost with this output" (SPEC 14.1)
  pub record ByWayOut (j : ℕ) : Type 0 where
    pub lost : Lost S i o
    pub leaves : Leaves S.input i j
    pub entered : Lost S j o

  -- "lost by a requirement due there .. and its first output set that the output's component misses, that one stayable" (SPEC 14.1)
  pub record Unserved (k n : ℕ) : Type 0 where
    pub lost : Lost S i o
    pub staying : Nontrivial S.output o
    pub due : Due S i k
    pub number : n < length (nth_requirement S k).guarantees
    pub misses : Meets S.output o (goal_at (nth_requirement S k).guarantees n) → ⊥
    pub first : (m : ℕ) → m < n → Meets S.output o (goal_at (nth_requirement S k).guarantees m)

  -- "lost by being pushed on, that one not stayable" (SPEC 14.1)
  pub record PushedOn : Type 0 where
    pub lost : Lost S i o
    pub trivial : Nontrivial S.output o → ⊥

  unfoldable pub Holds : Ground → Type 0
  Holds input_stuck = InputStuck
  Holds by_replies = ByReplies
  Holds (at_home d) = AtHome d
  Holds output_stuck = OutputStuck
  Holds (unanswered j) = Unanswered j
  Holds (by_way_out j) = ByWayOut j
  Holds (unserved k n) = Unserved k n
  Holds pushed_on = PushedOn

pub data UpTo (g h : Ground) : Type 0 where
  sooner : ground_number g < ground_number h → UpTo g h
  lower : ground_number g ≡ ground_number h → first_named g < first_named h → UpTo g h
  within : ground_number g ≡ ground_number h → first_named g ≡ first_named h → second_named g ≤ second_named h → UpTo g h

-- "The first fitting ground in this order is given, lowest numbers first." (SPEC 14.1, 14.2)
pub record Explains (S : Separated) (i o : ℕ) (g : Ground) : Type 0 where
  pub holds : Holds S i o g
  pub earliest : (h : Ground) → Holds S i o h → UpTo g h
  pub decides : (wins g ≡ true) ↔ Won (arena_of S) i o
  -- the home that is named is the one of "Controller row (output o, counter g, new input j)", here with the counter c (SPEC 14.2)
  pub row : (d c : ℕ) → g ≡ at_home d → controller_row S o c i ≡ homeward S d o c
