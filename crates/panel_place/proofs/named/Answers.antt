-- `named` meets its contract.
use Prim.Native.Nat.{ℕ}
use mathlib.Core.Path.{ap}
use Rattle.game.specs.declared.InState.{InState}
use Rattle.panel_place.proofs.named.Goals as goal

abbrev input : ℕ → InState
input s = record { 0 = s }

pub returns : goal.returns
returns c = ap input c.state.ensures
