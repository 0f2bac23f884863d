-- `fits` compares both lengths.
use native.Mathlib.Omega.{arith}
use Rattle.game.proofs.Laws.{accepted_fits}
use Rattle.explain_all.proofs.Made.{short_fits, long_fits}
use Rattle.explain_all.proofs.fits.Goals as goal

pub length-requires : goal.length-requires
length-requires c =
    let F = accepted_fits _ c.requires in
    (F.input.most, F.output.most)

pub returns-then-words-length : goal.returns-then-words-length
returns-then-words-length c = short_fits _ _ _ (omega (arith, c.length.ensures, c.if-words-length.true))

pub positions-requires : goal.positions-requires
positions-requires c = accepted_fits _ c.requires

pub returns : goal.returns
returns c =
    long_fits _ _ _ (omega (arith, c.length.ensures, c.if-words-length.false)) c.positions.ensures
