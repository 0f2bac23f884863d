-- `input_moves`.
use mathlib.Core.Path.{◌∙◌, ap}
use Prim.Native.Nat.{ℕ}
use mathlib.Core.List.{List}
use Rattle.bits.specs.Member.{has}
use Rattle.sets.specs.Words.{set_at}
use native.Mathlib.Omega.{arith}
use Rattle.joined_reach.proofs.Words.{small_in, small_in_word}
use Rattle.joined_reach.proofs.input_moves.Goals as goal

pub row_of-row-requires : goal.row_of-row-requires
row_of-row-requires c = omega (arith, c.requires.0.inputs)

pub word-requires : goal.word-requires
word-requires c =
    small_in_word c.requires.0 c.args.i c.requires.1 _
    (c.row_of-row.ensures.0 ∙ ap (λ (l : List ℕ). set_at l c.args.i.0) c.requires.2)

pub returns : goal.returns
returns c =
    λ j. ap (λ (x : ℕ). has x j) c.word.ensures
    ∙ small_in c.requires.0 c.args.i c.requires.1 _
    (c.row_of-row.ensures.0 ∙ ap (λ (l : List ℕ). set_at l c.args.i.0) c.requires.2) j
