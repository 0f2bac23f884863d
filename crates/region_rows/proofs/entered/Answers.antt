-- `entered` reads the rows of the inputs.
use Prim.Native.Nat.{ℕ}
use mathlib.Core.Path.{◌∙◌, ap}
use mathlib.Core.Bool.{◌&&◌, not}
use mathlib.Core.List.{List}
use Rattle.bits.specs.Member.{has}
use Rattle.sets.specs.Words.{bits_of, sets_in}
use Rattle.graph_components.specs.Component.{enters}
use native.Mathlib.Omega.{arith}
use Rattle.region_rows.proofs.entered.Goals as goal

pub leaving-requires : goal.leaving-requires
leaving-requires c = (c.requires, omega (arith, c.requires, c.in_rows-rows.ensures.1))

pub returns : goal.returns
returns c =
    let a = c.args in
    λ t. c.leaving.ensures t
    ∙ ap (λ (l : List ℕ). enters (sets_in l) (bits_of a.a.0) a.z.inputs t && not (has (bits_of a.a.0) t)) c.in_rows-rows.ensures.0
