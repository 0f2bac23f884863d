-- `step_lent` tests the position, the input and the entry in order.
use mathlib.Core.Path.{◌≡◌, ap}
use native.Mathlib.Omega.{arith}
use Rattle.finite.proofs.Loops.{failed, passed}
use Rattle.game.specs.declared.Game.{Game}
use Rattle.play.specs.Play.{separated_of}
use Rattle.theory.specs.Entries.{controller_counters}
use Rattle.player_place.proofs.Moves.{inputs_most, outputs_most}
use Rattle.player_place.proofs.Tests.{position_in}
use Rattle.player.specs.declared.Sizes.{Sizes}
use Rattle.player.specs.Player.{sizes_of}
use Rattle.player.proofs.Answers.{stepped_position, stepped_input, stepped_at}
use Rattle.player.proofs.step_lent.Goals as goal

-- the counters that are lent are those of the controller's table
abbrev counted : (n : Sizes) (g : Game) → n ≡ sizes_of g → n.counters ≡ controller_counters (separated_of g)
counted n g e = ap (λ (v : Sizes). v.counters) e

pub has_position-requires : goal.has_position-requires
has_position-requires c =
    let e = c.requires.1.sizes in
    (ap (λ (v : Sizes). v.inputs) e, ap (λ (v : Sizes). v.outputs) e)

pub returns-then-not-has_position : goal.returns-then-not-has_position
returns-then-not-has_position c =
    stepped_position _ _ _ _ _ (counted _ _ c.requires.1.sizes) (failed c.has_position.ensures c.if-not-has_position.true-raw)

pub moves_to-requires : goal.moves_to-requires
moves_to-requires c =
    let i = ap (λ (v : Sizes). v.inputs) c.requires.1.sizes in
    let q = position_in _ _ _ (passed c.has_position.ensures c.if-not-has_position.false-raw) in
    (i, c.requires.1.inputs, omega (arith, i, q.0), omega (arith, i, inputs_most _ c.requires.0))

pub returns-then-not-moves_to : goal.returns-then-not-moves_to
returns-then-not-moves_to c =
    stepped_input _ _ _ _ _ (counted _ _ c.requires.1.sizes) c.requires.2 (passed c.has_position.ensures c.if-not-has_position.false-raw)
    (failed c.moves_to.ensures c.if-not-moves_to.true-raw)

pub row_of-requires-2 : goal.row_of-requires-2
row_of-requires-2 c =
    omega (
      arith,
      (position_in _ _ _ (passed c.has_position.ensures c.if-not-has_position.false-raw)).1,
      outputs_most _ c.requires.0,
    )

pub returns : goal.returns
returns c =
    let n = c.requires.1.sizes in
    stepped_at _ _ _ _ _ (counted _ _ n) c.requires.0 c.requires.2
    (passed c.has_position.ensures c.if-not-has_position.false-raw) (passed c.moves_to.ensures c.if-not-moves_to.false-raw)
    _ _ _ _ _ _ (ap (λ (v : Sizes). v.inputs) n) c.requires.1.outputs
    c.row_of.ensures c.read-entry.ensures c.row_of-2.ensures.0 c.arrive.ensures
