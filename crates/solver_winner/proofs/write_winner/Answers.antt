-- `write_winner`.
use native.Mathlib.Omega.{arith}
use mathlib.Core.Path.{◌≡◌, refl, sym, ◌∙◌}
use Rattle.game.proofs.Laws.{accepted_fits}
use Rattle.board.specs.Board.{game_on}
use Rattle.board.proofs.Laying.{on_board}
use Rattle.region.proofs.Board.{fits_on, scratch_on, prepared_on}
use Rattle.scratch.proofs.Cleared.{cleared_kept}
use Rattle.solver_winner.proofs.write_winner.Goals as goal

pub length-used-requires : goal.length-used-requires
length-used-requires c =
    let F = accepted_fits _ c.requires.0 in
    (F.input.most, F.output.most)

pub prepare-x-requires : goal.prepare-x-requires
prepare-x-requires c =
    let same : let a = c.args in game_on c.sizes_of.result a.b.now ≡ a.g = on_board _ _ _ c.sizes_of.ensures c.requires.6 in
    let p = c.requires in
    (refl, (fits_on (same) (accepted_fits _ p.0), scratch_on (same) (omega (arith, p.1))))

pub system_wins-requires : goal.system_wins-requires
system_wins-requires c =
    let same : let a = c.args in game_on c.sizes_of.result a.b.now ≡ a.g = on_board _ _ _ c.sizes_of.ensures c.requires.6 in
    (prepared_on (same) c.prepare-x.ensures).ready

pub fill-requires : goal.fill-requires
fill-requires c =
    let same : let a = c.args in game_on c.sizes_of.result a.b.now ≡ a.g = on_board _ _ _ c.sizes_of.ensures c.requires.6 in
    let p = c.requires in
    (p.0, (prepared_on (same) c.prepare-x.ensures).ready, p.2, p.4, refl, p.5)

pub clear-requires : goal.clear-requires
clear-requires c =
    let same : let a = c.args in game_on c.sizes_of.result a.b.now ≡ a.g = on_board _ _ _ c.sizes_of.ensures c.requires.6 in
    omega (arith, c.length-used.ensures, (prepared_on (same) c.prepare-x.ensures).kept.long, c.requires.1)

pub returns-then-system_wins : goal.returns-then-system_wins
returns-then-system_wins c =
    let same : let a = c.args in game_on c.sizes_of.result a.b.now ≡ a.g = on_board _ _ _ c.sizes_of.ensures c.requires.6 in
    let kept = (prepared_on (same) c.prepare-x.ensures).kept in
    record {
      wins = sym (sym c.system_wins.ensures ∙ c.if-system_wins.true);
      scratch = cleared_kept _ _ _ _ kept c.length-used.ensures c.clear.ensures;
      controller = c.fill.ensures;
      environment = refl;
    }

pub fill-requires-2 : goal.fill-requires-2
fill-requires-2 c =
    let same : let a = c.args in game_on c.sizes_of.result a.b.now ≡ a.g = on_board _ _ _ c.sizes_of.ensures c.requires.6 in
    let p = c.requires in (
      record { known = record { accepted = p.0; ready = (prepared_on (same) c.prepare-x.ensures).ready }; room = p.3 },
      p.4,
      p.5,
    )

pub clear-requires-2 : goal.clear-requires-2
clear-requires-2 c =
    let same : let a = c.args in game_on c.sizes_of.result a.b.now ≡ a.g = on_board _ _ _ c.sizes_of.ensures c.requires.6 in
    omega (arith, c.length-used.ensures, (prepared_on (same) c.prepare-x.ensures).kept.long, c.requires.1)

pub returns : goal.returns
returns c =
    let same : let a = c.args in game_on c.sizes_of.result a.b.now ≡ a.g = on_board _ _ _ c.sizes_of.ensures c.requires.6 in
    let kept = (prepared_on (same) c.prepare-x.ensures).kept in
    record {
      wins = sym (sym c.system_wins.ensures ∙ c.if-system_wins.false);
      scratch = cleared_kept _ _ _ _ kept c.length-used.ensures c.clear-2.ensures;
      controller = refl;
      environment = c.fill-2.ensures;
    }
