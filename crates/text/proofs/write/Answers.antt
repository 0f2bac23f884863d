-- `write` meets its contract.
use mathlib.Core.Path.{◌≡◌, sym, ◌∙◌}
use native.Mathlib.Omega.{arith}
use Rattle.std.proofs.lemmas.Result.{err_from_is_err_and}
use Rattle.game.specs.Acceptance.{accepted, acceptance}
use Rattle.text.proofs.Arrays.{game_arrays}
use Rattle.text.proofs.Writer.{accepted_writable, writes_refused, writes_short, writes_text}
use Rattle.text.proofs.write.Goals as goal

pub game_length-n-requires : goal.game_length-n-requires
game_length-n-requires c =
    let told : acceptance c.args.g ≡ accepted = sym c.accept.ensures.answer ∙ c.in_ok-accept.was in
    accepted_writable _ told

pub returns-then-buffer-n : goal.returns-then-buffer-n
returns-then-buffer-n c =
    let told : acceptance c.args.g ≡ accepted = sym c.accept.ensures.answer ∙ c.in_ok-accept.was in
    writes_short _ _ told (omega (arith, c.if-buffer-n.true, c.game_length-n.ensures))

pub put_game-requires : goal.put_game-requires
put_game-requires c =
    let told : acceptance c.args.g ≡ accepted = sym c.accept.ensures.answer ∙ c.in_ok-accept.was in
    accepted_writable _ told

pub returns-in_err-accept : goal.returns-in_err-accept
returns-in_err-accept c =
    let p = err_from_is_err_and c.from_residual.result c.from_residual.ensures.1 in
    rw (p.1, p.2) (writes_refused _ _ _ (sym c.accept.ensures.answer ∙ c.in_err-accept.was))

pub returns : goal.returns
returns c =
    let told : acceptance c.args.g ≡ accepted = sym c.accept.ensures.answer ∙ c.in_ok-accept.was in
    writes_text _ _ told _ _ (game_arrays _ _ c.well_formed.0) c.game_length-n.ensures
    (omega (arith, c.if-buffer-n.false, c.game_length-n.ensures)) c.put_game.ensures.buffer
