-- The answers of the entries below, as records whose first part is a code: document 01's number of a refusal, 0 for none.
--
--   solve_result v      == the solver's answer: code, whether the system wins, how many entries are filled
--   names_nothing c x   == the ground number x, which names nothing; of a refusal its code c and the ground 0
--   names_input x j     == the ground number x, which names the input j
--   explain_result a    == what made a position won or lost: code, the ground's number, what it names
--   check_result a      == what the checker finds: code, the finding's number, what it names
--   judged_as c w       == the verdict with bars, of the code c; w tells whether the system wins
--   judge_result a      == the verdict with bars: code, whether the system wins
--   read_result a       == the reader's answer: code, the place of 11, the game, which is the empty one where none is read
--   write_result a      == the writer's answer: code, how many bytes are filled
--   move_result a       == the answer to a move between the layouts: code, how many entries are filled
--   count_result a      == how many components there are: code, the count
--   compare_result c    == the recorder's answer: code, whether the recordings agree, whether one has ended, the step
--   panel_moved a       == the panel's move: input and counter, both 0 beside a refusal, and the code
--   zero_position       == the position of zeros, which stands beside a refusal to begin
use Rattle.std.specs.Prelude.{ℕ, Bool, true, false, Result}
use Rattle.solver.specs.Verdict.{Verdict}
use Rattle.solver.specs.declared.Winner.TheVariants as verdict·
use Rattle.ground_search.specs.declared.Explanation.{Explanation}
use Rattle.ground_search.specs.declared.Explanation.TheVariants as explanation·
use Rattle.checker.specs.Checked.{Checked}
use Rattle.checker.specs.declared.Finding.TheVariants as checked·
use Rattle.interlock.specs.Judged.{Judged}
use Rattle.interlock.specs.declared.Side.TheVariants as judged·
use Rattle.text_shape.specs.Text.{empty_game}
use Rattle.text.specs.Reading.{Reading}
use Rattle.text.specs.declared.Unread.TheVariants as unread·
use Rattle.text.specs.WriteAnswer.{WriteAnswer}
use Rattle.compact_moves.specs.Move.{Move, Count}
use Rattle.player_place.specs.declared.Position.{Position}
use Rattle.game.specs.declared.InState.{InState}
use Rattle.game.specs.declared.Refusal.{Refusal}
use Rattle.game.specs.Refusals.{number}
use Rattle.recorder.specs.Compared.{Compared}
use Rattle.recorder.specs.declared.Comparison.TheVariants as compared·
use Rattle.panel_place.specs.Picked.{Picked}
use Rattle.nanpuwiq_results.specs.declared.PanelMoved.{PanelMoved}
use Rattle.nanpuwiq_results.specs.declared.SolveResult.{SolveResult}
use Rattle.nanpuwiq_results.specs.declared.ExplainResult.{ExplainResult}
use Rattle.nanpuwiq_results.specs.declared.CheckResult.{CheckResult}
use Rattle.nanpuwiq_results.specs.declared.JudgeResult.{JudgeResult}
use Rattle.nanpuwiq_results.specs.declared.CompareResult.{CompareResult}
use Rattle.nanpuwiq_results.specs.declared.ReadResult.{ReadResult}
use Rattle.nanpuwiq_results.specs.declared.WriteResult.{WriteResult}
use Rattle.nanpuwiq_results.specs.declared.MoveResult.{MoveResult}
use Rattle.nanpuwiq_results.specs.declared.CountResult.{CountResult}
use Rattle.std.specs.declared.result.Result.TheVariants.{Ok, Err}

-- SPEC 17.1

unfoldable pub solve_result : Verdict → SolveResult
solve_result (Ok (verdict·.System n)) = record { code = 0; system = true; entries = n }
solve_result (Ok (verdict·.Environment n)) = record { code = 0; system = false; entries = n }
solve_result (Err r) = record { code = number r; system = false; entries = 0 }

-- the grounds are numbered as M-109 lists them; what a ground does not name is 0
abbrev pub names_nothing : ℕ → ℕ → ExplainResult
names_nothing c x = record { code = c; number = x; output = record { 0 = 0 }; input = record { 0 = 0 }; requirement = 0; set = 0 }

abbrev pub names_input : ℕ → InState → ExplainResult
names_input x j = record { code = 0; number = x; output = record { 0 = 0 }; input = j; requirement = 0; set = 0 }

-- SPEC 17.1
unfoldable pub explain_result : Result Explanation Refusal → ExplainResult
explain_result (Ok explanation·.InputStuck) = names_nothing 0 1
explain_result (Ok explanation·.ByReplies) = names_nothing 0 2
explain_result (Ok (explanation·.AtHome d)) = record { code = 0; number = 3; output = d; input = record { 0 = 0 }; requirement = 0; set = 0 }
explain_result (Ok explanation·.OutputStuck) = names_nothing 0 4
explain_result (Ok (explanation·.Unanswered j)) = names_input 5 j
explain_result (Ok (explanation·.ByWayOut j)) = names_input 6 j
explain_result (Ok (explanation·.Unserved k n)) = record { code = 0; number = 7; output = record { 0 = 0 }; input = record { 0 = 0 }; requirement = k; set = n }
explain_result (Ok explanation·.PushedOn) = names_nothing 0 8
explain_result (Err r) = names_nothing (number r) 0

-- the findings are numbered in the order in which the checker looks for them; what one does not name is 0 (SPEC 17.1)
unfoldable pub check_result : Checked → CheckResult
check_result (Ok checked·.Accepted) = record { code = 0; finding = 0; input = record { 0 = 0 }; walk = 0; begins = 0; requirement = 0 }
check_result (Ok (checked·.BadStart i)) = record { code = 0; finding = 1; input = i; walk = 0; begins = 0; requirement = 0 }
check_result (Ok (checked·.BadRow n j)) = record { code = 0; finding = 2; input = j; walk = n; begins = 0; requirement = 0 }
check_result (Ok (checked·.BadRound n b q)) = record { code = 0; finding = 3; input = record { 0 = 0 }; walk = n; begins = b; requirement = q }
check_result (Err r) = record { code = number r; finding = 0; input = record { 0 = 0 }; walk = 0; begins = 0; requirement = 0 }

abbrev pub judged_as : ℕ → Bool → JudgeResult
judged_as c w = record { code = c; system = w }

-- SPEC 17.1
unfoldable pub judge_result : Judged → JudgeResult
judge_result (Ok judged·.System) = judged_as 0 true
judge_result (Ok judged·.Environment) = judged_as 0 false
judge_result (Err r) = judged_as (number r) false

-- SPEC 17.1
unfoldable pub read_result : Reading → ReadResult
read_result (Ok g) = record { code = 0; place = 0; game = g }
read_result (Err (unread·.Misshapen p)) = record { code = 11; place = p; game = empty_game }
read_result (Err (unread·.Refused r)) = record { code = number r; place = 0; game = empty_game }

-- SPEC 17.1
unfoldable pub write_result : WriteAnswer → WriteResult
write_result (Ok n) = record { code = 0; bytes = n }
write_result (Err r) = record { code = number r; bytes = 0 }

-- SPEC 17.1
unfoldable pub move_result : Move → MoveResult
move_result (Ok n) = record { code = 0; entries = n }
move_result (Err r) = record { code = number r; entries = 0 }

-- SPEC 17.1
unfoldable pub count_result : Count → CountResult
count_result (Ok n) = record { code = 0; count = n }
count_result (Err r) = record { code = number r; count = 0 }

-- SPEC 17.1
unfoldable pub compare_result : Compared → CompareResult
compare_result (Ok compared·.Agree) = record { code = 0; agree = true; ended = false; step = 0 }
compare_result (Ok (compared·.Differ n)) = record { code = 0; agree = false; ended = false; step = n }
compare_result (Ok (compared·.Ended n)) = record { code = 0; agree = false; ended = true; step = n }
compare_result (Ok (compared·.Fault n r)) = record { code = number r; agree = false; ended = false; step = n }
compare_result (Err r) = record { code = number r; agree = false; ended = false; step = 0 }

-- SPEC 17.1
unfoldable pub panel_moved : Picked → PanelMoved
panel_moved (Ok m) = record { input = m.input; counter = m.counter; code = 0 }
panel_moved (Err r) = record { input = record { 0 = 0 }; counter = 0; code = number r }

-- SPEC 17.1
unfoldable pub zero_position : Position
zero_position = record { input = record { 0 = 0 }; output = record { 0 = 0 }; counter = 0 }
