-- `row`: none where the old command is barred, else the entry of the mode that it leads to.
use Prim.Native.Nat.{◌<◌}
use mathlib.Core.Path.{refl, ◌∙◌}
use mathlib.Core.Logic.{◌≢◌}
use native.Mathlib.Omega.{arith}
use lib.ListN.{length, get_or}
use Rattle.kit_drives.specs.Drive.{next_in}
use Rattle.kit_rows.proofs.Search.{told_small, told_barred, told_taken}
use Rattle.kit_rows.proofs.row.Goals as goal

pub returns-then-j-eq255 : goal.returns-then-j-eq255
returns-then-j-eq255 c = told_barred _ _ _ _ c.next_mode-j.ensures c.if-j-eq255.true

pub offset_bounds-kept-j : goal.offset_bounds-kept-j
offset_bounds-kept-j c =
    let taken : next_in c.args.next.now c.args.i c.args.u ≢ 255 = λ h. c.if-j-eq255.false (c.next_mode-j.ensures ∙ h) in
    let place : c.next_mode-j.result < length c.args.kept.now = omega (arith, c.requires.2.below (taken), c.next_mode-j.ensures) in
    omega (arith, place)

pub bounds-kept-j : goal.bounds-kept-j
bounds-kept-j c =
    let taken : next_in c.args.next.now c.args.i c.args.u ≢ 255 = λ h. c.if-j-eq255.false (c.next_mode-j.ensures ∙ h) in
    let place : c.next_mode-j.result < length c.args.kept.now = omega (arith, c.requires.2.below (taken), c.next_mode-j.ensures) in
    place

pub overflow_cast-result : goal.overflow_cast-result
overflow_cast-result c =
    let taken : next_in c.args.next.now c.args.i c.args.u ≢ 255 = λ h. c.if-j-eq255.false (c.next_mode-j.ensures ∙ h) in
    let value : get_or c.args.kept.now c.next_mode-j.result 0 < 65536 = told_small _ c.args.kept.now _ _ c.next_mode-j.ensures (c.requires.2.small (taken)) in
    omega (arith, value)

pub returns : goal.returns
returns c = told_taken _ _ _ _ c.next_mode-j.ensures c.if-j-eq255.false refl
