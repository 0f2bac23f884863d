-- `exits`.
use native.Mathlib.Omega.{arith}
use Rattle.sets.specs.Words.{set_count}
use Rattle.scratch.proofs.Areas.{in_transitive}
use Rattle.ground_search.proofs.Meaning.{exits_means}
use borrow.Author.Rules.{rules}
use Rattle.ground_search.proofs.exits.Goals as goal

pub in_component-inside-requires : goal.in_component-inside-requires
in_component-inside-requires c =
    let p = c.requires in
    (p.ready.fits.input.most, p.input, omega (arith, p.ready.laid.long), in_transitive p.ready.laid)

pub leaving-requires : goal.leaving-requires
unfolding set_count
leaving-requires c = search rules

pub returns : goal.returns
returns c =
    exits_means c.requires c.in_component-inside.ensures c.leaving.ensures
