-- `read` meets its contract.
use mathlib.Core.Path.{sym, ◌∙◌}
use Rattle.std.proofs.lemmas.Result.{err_from_is_err_and}
use Rattle.text_pieces.proofs.Outcomes.{found_value, fault_found}
use Rattle.text.specs.Read.{judged_by}
use Rattle.text.proofs.Reader.{reads_long, reads_place, reads_extra, reads_game}
use Rattle.text.proofs.read.Goals as goal

pub returns-then-text-gt40960 : goal.returns-then-text-gt40960
returns-then-text-gt40960 c = reads_long _ c.if-text-gt40960.true

pub returns-in_err-x : goal.returns-in_err-x
returns-in_err-x c =
    let p = err_from_is_err_and c.from_residual.result c.from_residual.ensures.1 in
    rw (p.1, p.2) (reads_place _ _ c.if-text-gt40960.false (fault_found _ _ c.in_err-x.ensures))

pub returns-then-x-text : goal.returns-then-x-text
returns-then-x-text c = reads_extra _ _ _ c.if-text-gt40960.false (found_value _ c.in_ok-x.ensures) c.if-x-text.true

pub returns-in_err-accept : goal.returns-in_err-accept
unfolding judged_by
returns-in_err-accept c =
    let p = err_from_is_err_and c.from_residual-in_err-accept.result c.from_residual-in_err-accept.ensures.1 in
    rw (p.1, p.2)
    (reads_game _ _ _ _ c.if-text-gt40960.false (found_value _ c.in_ok-x.ensures) c.if-x-text.false (sym c.accept.ensures.answer ∙ c.in_err-accept.was))

pub returns : goal.returns
unfolding judged_by
returns c =
    reads_game _ _ _ _ c.if-text-gt40960.false (found_value _ c.in_ok-x.ensures) c.if-x-text.false (sym c.accept.ensures.answer ∙ c.in_ok-accept.was)
