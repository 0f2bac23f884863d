-- The example, by computing: both layouts, moved over and back, and the refusals.
--
--   ranked, smallest                        : the ranks, and the smallest states
--   wins, entries, compact_entries_lem          : the verdict, and what the solver writes in either layout
--   over, back                              : moved
--   refusals_over, refusals_back            : 23, 21 and 9 of the one move, 23, 22 and 9 of the other; 0 where nothing is refused
use Prim.Native.Nat.{ℕ}
use mathlib.Core.Path.{◌≡◌, refl}
use mathlib.Core.Bool.{Bool, true}
use mathlib.Core.List.{List, [], ◌∷◌}
use Rattle.finite.specs.Bounded.{all, any, least, least_from, count, one}
use Rattle.finite.specs.Lists.{all_of, any_of}
use Rattle.finite.specs.Tabulate.{tabulate, tabulate_from}
use Rattle.bits.specs.Member.{has, pack}
use Rattle.graphs.specs.Graph.{edge, begins}
use Rattle.graphs.specs.Rows.{rel, rows_of}
use Rattle.graphs.specs.Closure.{nearby, joins, via, reaches}
use Rattle.graphs.specs.Component.{joined, number, nontrivial, leaves, meets_at}
use Rattle.graphs.specs.Way.{widens, layer, near, approach, shortest, prefer, toward}
use Rattle.arena.specs.Table.{Answer}
use Rattle.theory.specs.Region.{due, served, accepting, safe, home_for, settles, answers, replies, rule, region_rows, region, opens, verdict}
use Rattle.theory.specs.Tour.{goal_at, around, inside, ahead, goal, has_goal, target, arrive, tour}
use Rattle.theory.specs.Choice.{sets_of, guarantees, home, homeward, settled, controller_row, controller_start}
use Rattle.theory.specs.Entries.{entry, controller_counters, row_of, controller_entries}
use Rattle.compact.specs.Rank.{leads, component_count, rank_of, leader_of}
use Rattle.compact.specs.Compact.{
  full_length,
  compact_length,
  cell_of,
  full_list,
  compact_list,
  compact_entries,
  full_row,
  compact_cell,
  compact_row,
}
use Rattle.compact.specs.Moving.{
  to_compact,
  from_compact,
  full_fits,
  compact_fits,
  ranks_fit,
  pair_fits,
  rows_fit,
  over_number,
  back_number,
}
use Rattle.compact.specs.Example.{example, full_example, compact_example, differing, misranked}

-- the number of each input's component
numbers : List ℕ
unfolding all any least least_from count one all_of any_of tabulate tabulate_from has pack edge begins rel rows_of nearby joins via reaches joined number example
numbers = tabulate 3 (number example.input)

-- the ranks, and the smallest states
ranks : List ℕ
unfolding numbers leads component_count rank_of
ranks = component_count example ∷ tabulate 3 (rank_of example)

firsts : List ℕ
unfolding ranks leader_of
firsts = tabulate (component_count example) (leader_of example)

named : Bool
unfolding numbers nontrivial leaves meets_at due served accepting safe home_for settles answers replies rule region_rows region opens verdict
named = verdict example

-- a move home, a tour at home
move : ℕ → ℕ → Answer
unfolding named widens layer near approach shortest prefer toward goal_at around inside ahead goal has_goal target arrive tour sets_of guarantees
move o g = tour example.output 0 (guarantees example) o g

written : List ℕ
unfolding move home homeward settled controller_row controller_start entry controller_counters row_of controller_entries
written = controller_entries example

direct : List ℕ
unfolding written firsts cell_of compact_list compact_entries
direct = compact_entries example

moved : List ℕ
unfolding firsts sets_of guarantees controller_counters cell_of full_list compact_list full_row compact_cell compact_row to_compact from_compact full_example
moved = from_compact example (to_compact example full_example)

numbers_of : ℕ → List ℕ
unfolding moved full_length compact_length full_fits compact_fits ranks_fit pair_fits rows_fit over_number back_number compact_example differing misranked
numbers_of n = over_number example full_example n ∷ back_number example compact_example n ∷ []

-- "Components rank from 0 by smallest state.": {0, 2} has rank 0, {1} has rank 1
pub ranked : (component_count example ∷ tabulate 3 (rank_of example)) ≡ 2 ∷ 0 ∷ 1 ∷ 0 ∷ []
unfolding ranks
ranked = refl

pub smallest : tabulate 2 (leader_of example) ≡ 0 ∷ 1 ∷ []
unfolding firsts
smallest = refl

pub wins : verdict example ≡ true
unfolding named
wins = refl

pub entries : controller_entries example ≡ full_example
unfolding written full_example
entries = refl

-- "The solver can write this layout directly"
pub compact_entries_lem : compact_entries example ≡ compact_example
unfolding direct compact_example
compact_entries_lem = refl

-- "Stored tables are moved both ways"
pub over : to_compact example full_example ≡ compact_example
unfolding moved compact_example
over = refl

pub back : from_compact example compact_example ≡ full_example
unfolding moved compact_example
back = refl

-- a list too short; two inputs of one component that differ; a room too short by one; a room that fits
pub refusals_over :
    (over_number example (0 ∷ []) 0 ∷ over_number example differing 0 ∷ over_number example full_example 23 ∷ over_number example full_example 24 ∷ [])
    ≡ 23 ∷ 21 ∷ 9 ∷ 0 ∷ []
unfolding numbers_of
refusals_over = refl

-- a list too short; a rank that is not the game's; a room too short by one; a room that fits
pub refusals_back :
    (back_number example (0 ∷ []) 0 ∷ back_number example misranked 0 ∷ back_number example compact_example 29 ∷ back_number example compact_example 30 ∷ [])
    ≡ 23 ∷ 22 ∷ 9 ∷ 0 ∷ []
unfolding numbers_of
refusals_back = refl
