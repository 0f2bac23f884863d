-- `check_table` meets its contract.
use mathlib.Core.Path.{refl, ◌∙◌}
use native.Mathlib.Omega.{arith}
use Rattle.checker.proofs.Shown.{opens_fit, start_shown, exhaust_fits, scan_fits, stem_fits, row_shown, judge_fits, wins_shown, round_fits, round_shown}
use Rattle.checker.proofs.check_table.Goals as goal

pub open-o-requires : goal.open-o-requires
open-o-requires c =
    let P = c.requires in
    opens_fit _ _ _ _ P.0 P.1

pub returns-in-Some : goal.returns-in-Some
returns-in-Some c =
    let P = c.requires in
    start_shown _ _ _ _ P.0 P.1 _ c.fill.ensures _ c.open-o.ensures _ c.in-Some.is

pub exhaust-n-requires : goal.exhaust-n-requires
exhaust-n-requires c =
    let P = c.requires in
    exhaust_fits _ _ _ _ P.0 P.1 _ c.fill.ensures c.open-o.ensures

pub scan-requires : goal.scan-requires
scan-requires c =
    let P = c.requires in
    scan_fits _ _ _ _ P.0 P.1 _ c.fill.ensures _ _ _ _ _ _ _ _ c.open-o.ensures c.exhaust-n.ensures

pub stem-m-requires : goal.stem-m-requires
stem-m-requires c =
    let P = c.requires in
    stem_fits _ _ _ _ P.0 P.1 _ c.fill.ensures _ _ _ _ _ _ _ _ c.open-o.ensures c.exhaust-n.ensures _ _ _ c.in-Some-scan.ensures.0 refl P.2

pub returns-in-Some-scan : goal.returns-in-Some-scan
returns-in-Some-scan c =
    let P = c.requires in
    row_shown _ _ _ _ P.0 P.1 _ c.fill.ensures _ _ _ _ _ _ _ _ c.open-o.ensures c.exhaust-n.ensures _ _ _ _ c.in-Some-scan.ensures P.2 c.stem-m.ensures

pub judge-requires : goal.judge-requires
judge-requires c =
    let P = c.requires in
    judge_fits _ _ _ _ P.0 P.1 _ c.fill.ensures _ _ _ _ _ _ _ _ c.open-o.ensures c.exhaust-n.ensures _ refl

pub returns-in_default-judge : goal.returns-in_default-judge
returns-in_default-judge c =
    let P = c.requires in
    wins_shown _ _ _ _ P.0 P.1 _ c.fill.ensures _ _ _ _ _ _ _ _ c.open-o.ensures c.exhaust-n.ensures c.in_default.is
    c.in_default-scan.ensures _ _ c.in_default-judge.ensures

pub write_round-m-requires : goal.write_round-m-requires
write_round-m-requires c =
    let P = c.requires in
    round_fits _ _ _ _ P.0 P.1 _ c.fill.ensures _ _ _ _ _ _ _ _ c.open-o.ensures c.exhaust-n.ensures c.in_default.is
    c.in_default-scan.ensures _ _ c.in-Some-judge.ensures _ P.2

pub overflow_add-result : goal.overflow_add-result
overflow_add-result c =
    let B = c.in-Some-judge.ensures.found.1.2 in
    omega (arith, c.write_round-m.ensures.short, B.round.short)

pub shape_of-room : goal.shape_of-room
shape_of-room c = let D = c.write_round-m.ensures in D.round.long ∙ D.stem.long

pub returns : goal.returns
returns c =
    let P = c.requires in
    round_shown _ _ _ _ P.0 P.1 _ c.fill.ensures _ _ _ _ _ _ _ _ c.open-o.ensures c.exhaust-n.ensures c.in_default.is
    c.in_default-scan.ensures _ _ c.in-Some-judge.ensures _ _ _ P.2 c.write_round-m.ensures
