-- `map_accepted`.
use mathlib.Core.Path.{sym, ◌∙◌}
use native.Mathlib.Omega.{arith}
use Rattle.std.proofs.lemmas.Result.{err_from_is_err_and}
use Rattle.game.proofs.Laws.{accepted_fits}
use Rattle.interlock.proofs.Answers.{none_tests, map_fault, map_short, map_done}
use Rattle.interlock.proofs.map_accepted.Goals as goal

pub returns-in_err-fault : goal.returns-in_err-fault
returns-in_err-fault c =
    let p = err_from_is_err_and c.from_residual.result c.from_residual.ensures.1 in
    rw (p.1, p.2) (map_fault _ _ _ _ _ c.requires (sym c.fault.ensures ∙ c.in_err-fault.was))

pub words-requires : goal.words-requires
words-requires c =
    let F = accepted_fits _ c.requires in
    omega (arith, F.input.most)

pub returns-then-map-words : goal.returns-then-map-words
returns-then-map-words c =
    map_short _ _ _ _ c.requires (sym c.fault.ensures ∙ c.in_ok-fault.was) (omega (arith, c.words.ensures, c.if-map-words.true))

pub mark-requires : goal.mark-requires
mark-requires c =
    let n = none_tests _ _ _ (sym c.fault.ensures ∙ c.in_ok-fault.was) in
    (c.requires, n.1, n.2, omega (arith, c.words.ensures, c.if-map-words.false))

pub returns : goal.returns
returns c =
    map_done _ _ _ _ c.requires (sym c.fault.ensures ∙ c.in_ok-fault.was) _ _ (omega (arith, c.words.ensures, c.if-map-words.false)) c.mark.ensures.0
    c.mark.ensures.1
