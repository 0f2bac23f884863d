-- `component_rows` by its test, and then ways out and tours.
use native.Mathlib.Omega.{arith}
use mathlib.Core.Path.{sym, ◌∙◌}
use Rattle.finite.proofs.Truth.{not_true, not_false}
use Rattle.sets.specs.Words.{bits_of}
use Rattle.scratch.proofs.Areas.{in_transitive}
use Rattle.environment_table.specs.Pressing.{Whole}
use Rattle.environment_table.proofs.Places.{roomy_more}
use Rattle.environment_table.proofs.Walked.{component_word, ahead_skip, ahead_whole, ahead_next, walked_join, left_of}
use Rattle.environment.proofs.component_rows.Goals as goal

pub member-requires : goal.member-requires
member-requires c = let p = c.requires in omega (arith, p.0.ready.fits.input.most, p.2)

pub returns-then-not-member : goal.returns-then-not-member
returns-then-not-member c =
    let p = c.requires in
    ahead_skip _ _ p.2 _ p.7 (sym c.member.ensures ∙ not_true _ c.if-not-member.true-raw) _

pub in_row-requires : goal.in_row-requires
in_row-requires c =
    let p = c.requires in
    omega (arith, p.0.ready.fits.input.most, p.2)

pub in_component-c-requires : goal.in_component-c-requires
in_component-c-requires c =
    let p = c.requires in
    (p.0.ready.fits.input.most, p.2, omega (arith, p.0.ready.laid.long), in_transitive p.0.ready.laid)

pub escapes-over-requires : goal.escapes-over-requires
escapes-over-requires c =
    let whole : Whole c.args.g (bits_of c.in_component-c.result.0) c.args.i.0 = let p = c.requires in
    ahead_whole _ _ p.2 _ p.7 (sym c.member.ensures ∙ not_false _ c.if-not-member.false-raw) _
    (component_word _ _ _ p.0 _ p.2 c.in_component-c.ensures) in
    let p = c.requires in
    (p.0, p.1, whole, p.4, p.5)

pub tours-requires : goal.tours-requires
tours-requires c =
    let whole : Whole c.args.g (bits_of c.in_component-c.result.0) c.args.i.0 = let p = c.requires in
    ahead_whole _ _ p.2 _ p.7 (sym c.member.ensures ∙ not_false _ c.if-not-member.false-raw) _
    (component_word _ _ _ p.0 _ p.2 c.in_component-c.ensures) in
    let p = c.requires in
    (roomy_more _ p.1 c.escapes-over.ensures.filled, left_of _ _ _ (whole) c.escapes-over.ensures, p.3, p.4, p.6)

pub returns : goal.returns
returns c =
    let whole : Whole c.args.g (bits_of c.in_component-c.result.0) c.args.i.0 = let p = c.requires in
    ahead_whole _ _ p.2 _ p.7 (sym c.member.ensures ∙ not_false _ c.if-not-member.false-raw) _
    (component_word _ _ _ p.0 _ p.2 c.in_component-c.ensures) in
    let p = c.requires in (
      walked_join _ _ _ (whole) c.escapes-over.ensures c.tours.ensures,
      ahead_next _ _ p.2 _ p.7 (sym c.member.ensures ∙ not_false _ c.if-not-member.false-raw) _
          (component_word _ _ _ p.0 _ p.2 c.in_component-c.ensures) c.difference.ensures,
    )
