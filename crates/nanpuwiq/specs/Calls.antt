-- What each call promises, for every input: its answer as an equation, and every lent buffer afterwards.
--
--   MapCalled g s s' m m' r            == the map's call answers r and leaves scratch s as s' and the map m as m'
--   JoinedCalled g s s' m m' r         == the same of the map on the joined positions
--   BarredCalled g b s s' m m' r       == the same of the map with the bars b
--   JudgeCalled g b s s' r             == the verdict with the bars b is r, and scratch s is left as s'
--   ExplainCalled g s s' i o r          == the call that explains (i, o) answers r and leaves scratch s as s'
--   ExplainAllCalled g s s' m m' r     == the call that explains all positions answers r and leaves scratch s as s' and the room m as m'
--   CheckCalled g l w w' r             == the checker answers r to the table l and leaves the room w as w'
--   SolveCalled g s s' c c' e e' r     == the solver answers r and leaves scratch s as s', the controller's buffer c as c' and the environment's e as e'
--   CompactCalled g s s' c c' e e' r   == the same, the controller's table in the compact layout
--   CountCalled g r                    == the count of the components is r
--   OverCalled g l w w' r              == the move of the table l to the compact layout answers r and leaves the room w as w'
--   BackCalled g l w w' r              == the same of the move to the full layout
--   KitCalled k s s' c c' e e' t t' r  == the same of a kit, whose room t is left as t'
--   ReadCalled s r                     == the reader answers r to the bytes s
--   WriteCalled g d d' r               == the writer answers r and leaves the buffer d as d'; what it has written, read again, is g
--   AdvanceCalled p a q n              == the step in place from p, whose answer is a, leaves the place as q and answers the number n
use Rattle.std.specs.Prelude.{ℕ, ◌≡◌, List, length, take}
use Rattle.game.specs.declared.Game.{Game}
use Rattle.game.specs.declared.InState.{InState}
use Rattle.game.specs.declared.OutState.{OutState}
use Rattle.game.specs.Numbers.{first_of}
use Rattle.map.specs.Map.{map_answer, map_tests, MapMade}
use Rattle.joined.specs.Joined.{joined_answer, joined_tests, JoinedMade}
use Rattle.interlock.specs.Bars.{system_wins}
use Rattle.interlock.specs.Interlock.{
  barred_map_answer as barredAnswer,
  barred_map_tests as barredTests,
  BarredMap,
  barred_verdict_answer as judgedAnswer,
  BarredJudged,
}
use Rattle.explain.specs.Explain.{explain_answer, Explained}
use Rattle.explain_all.specs.All.{all_answer, all_tests, ExplainedAll}
use Rattle.checker.specs.Checked.{Checked}
use Rattle.checker.specs.Check.{Checks}
use Rattle.player_place.specs.declared.Position.{Position}
use Rattle.player_place.specs.Played.{Played}
use Rattle.player.specs.Player.{moved_of}
use Rattle.solver.specs.Promise.{verdict_answer, Solved}
use Rattle.solver.specs.Compact.{compact_answer, SolvedCompact}
use Rattle.compact_moves.specs.Promise.{over_answer, back_answer, count_answer, MovedOver, MovedBack, Counted}
use Rattle.kit_drives.specs.declared.Kit.{Kit}
use Rattle.kit.specs.Promise.{kit_answer, KitSolved}
use Rattle.text.specs.Reading.{Reading}
use Rattle.text.specs.Read.{Reads}
use Rattle.text.specs.Write.{write_answer, write_buffer, ReadsBack}
use Rattle.nanpuwiq_results.specs.declared.SolveResult.{SolveResult}
use Rattle.nanpuwiq_results.specs.declared.ExplainResult.{ExplainResult}
use Rattle.nanpuwiq_results.specs.declared.CheckResult.{CheckResult}
use Rattle.nanpuwiq_results.specs.declared.JudgeResult.{JudgeResult}
use Rattle.nanpuwiq_results.specs.declared.ReadResult.{ReadResult}
use Rattle.nanpuwiq_results.specs.declared.WriteResult.{WriteResult}
use Rattle.nanpuwiq_results.specs.declared.MoveResult.{MoveResult}
use Rattle.nanpuwiq_results.specs.declared.CountResult.{CountResult}
use Rattle.nanpuwiq_results.specs.Results.{solve_result, explain_result, check_result, judge_result, read_result, write_result, move_result, count_result}
use Rattle.std.specs.declared.result.Result.TheVariants.{Ok}

-- `made` says what both buffers hold, and carries demand 2

pub record MapCalled (g : Game) (s s' m m' : List ℕ) (r : ℕ) : Type 0 where
  pub answer : r ≡ first_of (map_tests g (length s) (length m))
  pub made : MapMade g s s' m m' (map_answer g (length s) (length m))

-- `made` says what both buffers hold, and carries demand 2
pub record JoinedCalled (g : Game) (s s' m m' : List ℕ) (r : ℕ) : Type 0 where
  pub answer : r ≡ first_of (joined_tests g (length s) (length m))
  pub made : JoinedMade g s s' m m' (joined_answer g (length s) (length m))

-- `made` says what both buffers hold, and what is marked: what is not barred and won
pub record BarredCalled (g : Game) (b s s' m m' : List ℕ) (r : ℕ) : Type 0 where
  pub answer : r ≡ first_of (barredTests g b (length s) (length m))
  pub made : BarredMap g b s s' m m' (barredAnswer g b (length s) (length m))

-- `judged` says what scratch holds, and who wins
pub record JudgeCalled (g : Game) (b s s' : List ℕ) (r : JudgeResult) : Type 0 where
  pub answer : r ≡ judge_result (judgedAnswer g b (length s) (system_wins g b))
  pub judged : BarredJudged g b s s' (judgedAnswer g b (length s) (system_wins g b))

-- `explained` says what scratch holds, and that what the ground names holds
pub record ExplainCalled (g : Game) (s s' : List ℕ) (i : InState) (o : OutState) (r : ExplainResult) : Type 0 where
  pub answer : r ≡ explain_result (explain_answer g (length s) i o)
  pub explained : Explained g s s' i o (explain_answer g (length s) i o)

-- `made` says what both buffers hold, and that what is read from each entry holds
pub record ExplainAllCalled (g : Game) (s s' m m' : List ℕ) (r : ℕ) : Type 0 where
  pub answer : r ≡ first_of (all_tests g (length s) (length m))
  pub made : ExplainedAll g s s' m m' (all_answer g (length s) (length m))

-- `checks` says what the room holds and what the answer shows; which finding is handed back is free
pub record CheckCalled (g : Game) (l w w' : List ℕ) (r : CheckResult) : Type 0 where
  pub found : Checked
  pub checks : Checks g l w w' found
  pub answer : r ≡ check_result found

-- `solved` says what all three buffers hold, and carries demand 3
pub record SolveCalled (g : Game) (s s' c c' e e' : List ℕ) (r : SolveResult) : Type 0 where
  pub answer : r ≡ solve_result (verdict_answer g (length s) (length c) (length e))
  pub solved : Solved g s s' c c' e e' (verdict_answer g (length s) (length c) (length e))

-- so does it with the table read through the compact layout, and every row of it is the full layout's
pub record CompactCalled (g : Game) (s s' c c' e e' : List ℕ) (r : SolveResult) : Type 0 where
  pub answer : r ≡ solve_result (compact_answer g (length s) (length c) (length e))
  pub solved : SolvedCompact g s s' c c' e e' (compact_answer g (length s) (length c) (length e))

-- `counted` says how the answer's number is found
pub record CountCalled (g : Game) (r : CountResult) : Type 0 where
  pub answer : r ≡ count_result (count_answer g)
  pub counted : Counted g (count_answer g)

-- `moved` says what the room holds, and that what was written, moved again, is the table
pub record OverCalled (g : Game) (l w w' : List ℕ) (r : MoveResult) : Type 0 where
  pub answer : r ≡ move_result (over_answer g l (length w))
  pub moved : MovedOver g l w w' (over_answer g l (length w))

pub record BackCalled (g : Game) (l w w' : List ℕ) (r : MoveResult) : Type 0 where
  pub answer : r ≡ move_result (back_answer g l (length w))
  pub moved : MovedBack g l w w' (back_answer g l (length w))

-- `solved` says what all four rooms hold, and carries demand 3 and what the kit's table is for
pub record KitCalled (k : Kit) (s s' c c' e e' t t' : List ℕ) (r : SolveResult) : Type 0 where
  pub answer : r ≡ solve_result (kit_answer k (length s) (length c) (length e) (length t))
  pub solved : KitSolved k s s' c c' e e' t t' (kit_answer k (length s) (length c) (length e) (length t))

-- `Reads` fixes the reading for every list of bytes
pub record ReadCalled (s : List ℕ) (r : ReadResult) : Type 0 where
  pub reading : Reading
  pub reads : Reads s reading
  pub answer : r ≡ read_result reading

pub record WriteCalled (g : Game) (d d' : List ℕ) (r : WriteResult) : Type 0 where
  pub answer : r ≡ write_result (write_answer g d)
  pub buffer : d' ≡ write_buffer g d
  pub reads_back : (n : ℕ) → write_answer g d ≡ Ok n → ReadsBack g (take n d')

-- "Each returns its number only .. and changes no lent memory or player's place." (SPEC 9.1, 10.2)
pub record AdvanceCalled (old : Position) (answer : Played) (new : Position) (code : ℕ) : Type 0 where
  pub position : new ≡ (moved_of old answer).at
  pub number : code ≡ (moved_of old answer).code
