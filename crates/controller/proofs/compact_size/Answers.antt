-- `compact_size`: the counters are few, and the smallest input of each component leads.
use mathlib.Core.Path.{refl, ◌∙◌}
use native.Mathlib.Omega.{arith}
use Rattle.game.proofs.Laws.{accepted_fits}
use Rattle.demands.proofs.Sizes.{controller_few}
use Rattle.controller.proofs.Components.{components_columns}
use Rattle.controller.proofs.compact_size.Goals as goal

pub below-requires : goal.below-requires
below-requires c = omega (arith, c.requires.2.controller, controller_few c.args.g (accepted_fits c.args.g c.requires.0))

pub overflow_add-result : goal.overflow_add-result
overflow_add-result c =
    omega (arith, (accepted_fits c.args.g c.requires.0).input.most)

pub returns : goal.returns
returns c =
    let f = accepted_fits c.args.g c.requires.0 in (
      record {
        accepted = c.requires.0;
        inputs = refl;
        outputs = refl;
        counters = c.requires.2.controller;
        all = c.below.ensures;
        starts = omega arith;
        front = omega (arith, f.input.most);
        columns = c.components.ensures ∙ components_columns c.args.g _ c.requires.1;
      },
      record { base = refl; width = c.components.ensures; leaders = c.requires.1 },
    )
