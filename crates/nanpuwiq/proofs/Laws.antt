-- A call that answers as the entry below it does promises what that entry promises.
use Prim.Native.Nat.{ℕ}
use mathlib.Core.Path.{◌≡◌, refl, ap, subst, ◌∙◌}
use mathlib.Core.List.{List}
use Rattle.game.specs.declared.Game.{Game}
use Rattle.game.specs.declared.InState.{InState}
use Rattle.game.specs.declared.OutState.{OutState}
use Rattle.game.specs.declared.Refusal.{Refusal}
use Rattle.game.specs.Acceptance.{Acceptance, acceptance_number}
use Rattle.map_marks.specs.Mapped.{Mapped}
use Rattle.map_marks.specs.Answer.{map_number}
use Rattle.joined.specs.Joined.{JoinedMade}
use Rattle.interlock.specs.Judged.{Judged}
use Rattle.interlock.specs.Interlock.{BarredMap, BarredJudged}
use Rattle.solver.specs.Verdict.{Verdict}
use Rattle.map.specs.Map.{MapMade}
use Rattle.ground_search.specs.declared.Explanation.{Explanation}
use Rattle.explain.specs.Explain.{Explained}
use Rattle.explain_all.specs.All.{ExplainedAll}
use Rattle.solver.specs.Promise.{Solved}
use Rattle.solver.specs.Compact.{SolvedCompact}
use Rattle.compact_moves.specs.Move.{Move, Count}
use Rattle.compact_moves.specs.Promise.{MovedOver, MovedBack, Counted}
use Rattle.kit_drives.specs.declared.Kit.{Kit}
use Rattle.kit.specs.Promise.{KitSolved}
use Rattle.player_place.specs.declared.Position.{Position}
use Rattle.player_place.specs.Played.{Played}
use Rattle.player.specs.Player.{moved_of, refusal_of, Advanced}
use Rattle.text.specs.WriteAnswer.{WriteAnswer}
use Rattle.text.specs.Write.{Writes}
use Rattle.nanpuwiq_results.specs.declared.SolveResult.{SolveResult}
use Rattle.nanpuwiq_results.specs.declared.ExplainResult.{ExplainResult}
use Rattle.nanpuwiq_results.specs.declared.JudgeResult.{JudgeResult}
use Rattle.nanpuwiq_results.specs.declared.WriteResult.{WriteResult}
use Rattle.nanpuwiq_results.specs.declared.MoveResult.{MoveResult}
use Rattle.nanpuwiq_results.specs.declared.CountResult.{CountResult}
use Rattle.nanpuwiq_results.specs.Results.{solve_result, write_result, explain_result, judge_result, move_result, count_result}
use Rattle.nanpuwiq.specs.Calls.{MapCalled, JoinedCalled, BarredCalled, JudgeCalled, SolveCalled, KitCalled, WriteCalled, ExplainCalled}
use Rattle.nanpuwiq.specs.Calls.{ExplainAllCalled, CompactCalled, OverCalled, BackCalled, CountCalled, AdvanceCalled}
use Rattle.std.specs.Prelude.{Result}
use Rattle.std.specs.declared.result.Result.TheVariants.{Ok, Err}

pub map_called : {g : Game} {s s' m m' : List ℕ} {a : Mapped} {r : ℕ} → MapMade g s s' m m' a → r ≡ map_number a → MapCalled g s s' m m' r
map_called {g} {s} {s'} {m} {m'} f e = record { answer = e ∙ f.number; made = subst (MapMade g s s' m m') f.answer f }

pub joined_called : {g : Game} {s s' m m' : List ℕ} {a : Mapped} {r : ℕ} → JoinedMade g s s' m m' a → r ≡ map_number a → JoinedCalled g s s' m m' r
joined_called {g} {s} {s'} {m} {m'} f e = record { answer = e ∙ f.number; made = subst (JoinedMade g s s' m m') f.answer f }

pub barred_called : {g : Game} {b s s' m m' : List ℕ} {a : Mapped} {r : ℕ} → BarredMap g b s s' m m' a → r ≡ map_number a → BarredCalled g b s s' m m' r
barred_called {g} {b} {s} {s'} {m} {m'} f e = record { answer = e ∙ f.number; made = subst (BarredMap g b s s' m m') f.answer f }

pub judge_called : {g : Game} {b s s' : List ℕ} {a : Judged} {r : JudgeResult} → BarredJudged g b s s' a → r ≡ judge_result a → JudgeCalled g b s s' r
judge_called {g} {b} {s} {s'} f e = record { answer = e ∙ ap judge_result f.answer; judged = subst (BarredJudged g b s s') f.answer f }

pub explain_called : {g : Game} {s s' : List ℕ} {i : InState} {o : OutState} {a : Result Explanation Refusal} {r : ExplainResult} → Explained g s s' i o a
    → r ≡ explain_result a → ExplainCalled g s s' i o r
explain_called {g} {s} {s'} {i} {o} f e =
    record { answer = e ∙ ap explain_result f.answer; explained = subst (Explained g s s' i o) f.answer f }

pub explain_all_called : {g : Game} {s s' m m' : List ℕ} {a : Mapped} {r : ℕ} → ExplainedAll g s s' m m' a → r ≡ map_number a
    → ExplainAllCalled g s s' m m' r
explain_all_called {g} {s} {s'} {m} {m'} f e = record { answer = e ∙ f.number; made = subst (ExplainedAll g s s' m m') f.answer f }

pub solve_called : {g : Game} {s s' c c' e e' : List ℕ} {v : Verdict} {r : SolveResult} → Solved g s s' c c' e e' v → r ≡ solve_result v
    → SolveCalled g s s' c c' e e' r
solve_called {g} {s} {s'} {c} {c'} {e} {e'} f is =
    record { answer = is ∙ ap solve_result f.answer; solved = subst (Solved g s s' c c' e e') f.answer f }

pub compact_called : {g : Game} {s s' c c' e e' : List ℕ} {v : Verdict} {r : SolveResult} → SolvedCompact g s s' c c' e e' v → r ≡ solve_result v
    → CompactCalled g s s' c c' e e' r
compact_called {g} {s} {s'} {c} {c'} {e} {e'} f is =
    record { answer = is ∙ ap solve_result f.answer; solved = subst (SolvedCompact g s s' c c' e e') f.answer f }

pub kit_called : {k : Kit} {s s' c c' e e' t t' : List ℕ} {v : Verdict} {r : SolveResult} → KitSolved k s s' c c' e e' t t' v → r ≡ solve_result v
    → KitCalled k s s' c c' e e' t t' r
kit_called {k} {s} {s'} {c} {c'} {e} {e'} {t} {t'} f is =
    record { answer = is ∙ ap solve_result f.answer; solved = subst (KitSolved k s s' c c' e e' t t') f.answer f }

pub write_called : {g : Game} {d d' : List ℕ} {a : WriteAnswer} {r : WriteResult} → Writes g d a d' → r ≡ write_result a → WriteCalled g d d' r
write_called f e = record { answer = e ∙ ap write_result f.answer; buffer = f.buffer; reads_back = λ n h. f.reads_back n (f.answer ∙ h) }

pub count_called : {g : Game} {a : Count} {r : CountResult} → Counted g a → r ≡ count_result a → CountCalled g r
count_called {g} f e = record { answer = e ∙ ap count_result f.answer; counted = subst (Counted g) f.answer f }

pub over_called : {g : Game} {l w w' : List ℕ} {a : Move} {r : MoveResult} → MovedOver g l w w' a → r ≡ move_result a → OverCalled g l w w' r
over_called {g} {l} {w} {w'} f e = record { answer = e ∙ ap move_result f.answer; moved = subst (MovedOver g l w w') f.answer f }

pub back_called : {g : Game} {l w w' : List ℕ} {a : Move} {r : MoveResult} → MovedBack g l w w' a → r ≡ move_result a → BackCalled g l w w' r
back_called {g} {l} {w} {w'} f e = record { answer = e ∙ ap move_result f.answer; moved = subst (MovedBack g l w w') f.answer f }

-- the code of a step in place, by its answer
step_code : (old : Position) (a : Played) → acceptance_number (refusal_of a) ≡ (moved_of old a).code
unfolding moved_of refusal_of
step_code old (Ok p) = refl
step_code old (Err r) = refl

pub advance_called : {old new : Position} {a : Played} {b : Acceptance} {n : ℕ} → Advanced old a new b → n ≡ acceptance_number b
    → AdvanceCalled old a new n
advance_called {old} {new} {a} f e = record { position = f.position; number = e ∙ ap acceptance_number f.refusal ∙ step_code old a }
