-- `size_of`: the counters are few, and every input leads.
use mathlib.Core.Path.{refl}
use native.Mathlib.Omega.{arith}
use Rattle.game.proofs.Laws.{accepted_fits}
use Rattle.demands.proofs.Sizes.{controller_few}
use Rattle.controller.proofs.Sheets.{below_columns}
use Rattle.controller.proofs.size_of.Goals as goal

pub below-requires : goal.below-requires
below-requires c = omega (arith, c.requires.1.controller, controller_few c.args.g (accepted_fits c.args.g c.requires.0))

pub below-requires-2 : goal.below-requires-2
below-requires-2 c = (accepted_fits _ c.requires.0).input.most

pub returns : goal.returns
returns c =
    let f = accepted_fits c.args.g c.requires.0 in (
      record {
        accepted = c.requires.0;
        inputs = refl;
        outputs = refl;
        counters = c.requires.1.controller;
        all = c.below.ensures;
        starts = omega arith;
        front = omega (arith, f.input.most);
        columns = below_columns _ _ c.below-2.ensures;
      },
      record { base = refl; width = refl },
    )
