-- The ground of a position: the first that fits of the eight of M-109, with the lowest numbers.
--
--   Ground               == one of the eight, with what it names
--   wins g               == the ground is one of a won position
--   ground_number g       == its number in the order of the request, from 1
--   first_named g         == the first number that it names, 0 where it names none; second_named g == the second
--   nth_requirement S k    == requirement number k
--   unreplied S i o j    == j is a next input, and no output move from o makes a won position with it
--   lost_exit S i o j     == a move out of the component of i enters j, and (j, o) is not won
--   owed S i o k         == requirement k is due at i, and an output set of it misses the component of o
--   first_owed S i o      == the lowest such requirement
--   missed S o k n       == output set n of requirement k misses the component of o
--   first_missed S o k    == the lowest such set
--   ground S i o         == the ground of the position: won_ground where it is won, else lost_ground; nontrivial_ground where it is lost with the input in
--                           a nontrivial component; output_ground where no way out is lost either
use Rattle.std.specs.Prelude.{ℕ, Bool, true, false, ◌&&◌, not, [], length, get_or}
use Rattle.finite.specs.Bounded.{any, least}
use Rattle.graphs.specs.Graph.{edge, stuck}
use Rattle.graphs.specs.Component.{nontrivial, leaves, meets_at}
use Rattle.arena.specs.Arena.{Requirement, Separated}
use Rattle.theory.specs.Region.{due, served, answers, region}
use Rattle.theory.specs.Tour.{goal_at}
use Rattle.theory.specs.Choice.{home}

-- "The reply names the ground: won with a stuck input; won by replies, the input's component not stayable; won with a home, and its number; lost
-- with a stuck output; lost by a next input without a won reply, and which, the input's component not stayable; lost by a way out, and the state it
-- enters outside the component, lost with this output; lost by a requirement due there (its input sets all meet the input's component) and its first
-- output set that the output's component misses, that one stayable; lost by being pushed on, that one not stayable." Output sets are counted within
-- their requirement. (SPEC 14.1)
pub data Ground : Type 0 where
  input_stuck : Ground
  by_replies : Ground
  at_home : (number : ℕ) → Ground
  output_stuck : Ground
  unanswered : (input : ℕ) → Ground
  by_way_out : (state : ℕ) → Ground
  unserved : (requirement set : ℕ) → Ground
  pushed_on : Ground

unfoldable pub wins : Ground → Bool
wins input_stuck = true
wins by_replies = true
wins (at_home d) = true
wins output_stuck = false
wins (unanswered j) = false
wins (by_way_out j) = false
wins (unserved k n) = false
wins pushed_on = false

unfoldable pub ground_number : Ground → ℕ
ground_number input_stuck = 1
ground_number by_replies = 2
ground_number (at_home d) = 3
ground_number output_stuck = 4
ground_number (unanswered j) = 5
ground_number (by_way_out j) = 6
ground_number (unserved k n) = 7
ground_number pushed_on = 8

unfoldable pub first_named : Ground → ℕ
first_named input_stuck = 0
first_named by_replies = 0
first_named (at_home d) = d
first_named output_stuck = 0
first_named (unanswered j) = j
first_named (by_way_out j) = j
first_named (unserved k n) = k
first_named pushed_on = 0

unfoldable pub second_named : Ground → ℕ
second_named input_stuck = 0
second_named by_replies = 0
second_named (at_home d) = 0
second_named output_stuck = 0
second_named (unanswered j) = 0
second_named (by_way_out j) = 0
second_named (unserved k n) = n
second_named pushed_on = 0

-- Past their number it is one without sets, which nobody asks for.
unfoldable pub nth_requirement : Separated → ℕ → Requirement
nth_requirement S k = get_or S.requirements k (record { assumptions = []; guarantees = [] })

unfoldable pub unreplied : Separated → ℕ → ℕ → ℕ → Bool
unreplied S i o j = edge S.input i j && not (answers S (region S) j o)

unfoldable pub lost_exit : Separated → ℕ → ℕ → ℕ → Bool
lost_exit S i o j = leaves S.input i j && not (region S j o)

unfoldable pub owed : Separated → ℕ → ℕ → ℕ → Bool
owed S i o k = due S i (nth_requirement S k) && not (served S o (nth_requirement S k))

unfoldable pub missed : Separated → ℕ → ℕ → ℕ → Bool
missed S o k n = not (meets_at S.output o (goal_at (nth_requirement S k).guarantees n))

unfoldable pub first_owed : Separated → ℕ → ℕ → ℕ
first_owed S i o = least (length S.requirements) (owed S i o)

unfoldable pub first_missed : Separated → ℕ → ℕ → ℕ
first_missed S o k = least (length (nth_requirement S k).guarantees) (missed S o k)

unfoldable pub won_ground : Separated → ℕ → ℕ → Ground
won_ground S i o =
    elim (stuck S.input i) [
      | true ↦ input_stuck
      | false ↦ elim (nontrivial S.input i) [ true ↦ at_home (home S i o) | false ↦ by_replies ]
    ]

unfoldable pub output_ground : Separated → ℕ → ℕ → Ground
output_ground S i o = elim (nontrivial S.output o) [ true ↦ unserved (first_owed S i o) (first_missed S o (first_owed S i o)) | false ↦ pushed_on ]

unfoldable pub nontrivial_ground : Separated → ℕ → ℕ → Ground
nontrivial_ground S i o =
    elim (any S.input.states (lost_exit S i o)) [
      | true ↦ by_way_out (least S.input.states (lost_exit S i o))
      | false ↦ output_ground S i o
    ]

unfoldable pub lost_ground : Separated → ℕ → ℕ → Ground
lost_ground S i o =
    elim (stuck S.output o) [
      | true ↦ output_stuck
      | false ↦ elim (nontrivial S.input i) [ true ↦ nontrivial_ground S i o | false ↦ unanswered (least S.input.states (unreplied S i o)) ]
    ]

-- "The first fitting ground in this order is given, lowest numbers first." (SPEC 14.1)
unfoldable pub ground : Separated → ℕ → ℕ → Ground
ground S i o = elim (region S i o) [ true ↦ won_ground S i o | false ↦ lost_ground S i o ]
