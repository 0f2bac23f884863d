-- `sizes_of` has the counters from `controller_counters`.
use Prim.Native.Nat.{ℕ}
use mathlib.Core.Path.{ap}
use Rattle.player.specs.declared.Sizes.{Sizes}
use Rattle.player.proofs.sizes_of.Goals as goal

abbrev as-sizes : ℕ → ℕ → ℕ → Sizes
as-sizes i o m = record { inputs = i; outputs = o; counters = m }

pub returns : goal.returns
returns c =
    let g = c.args.g in
    ap (λ (m : ℕ). as-sizes g.input.states g.output.states m) c.controller_counters.ensures
