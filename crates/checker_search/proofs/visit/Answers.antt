-- `visit` meets its contract.
use Prim.Native.Nat.{◌<◌}
use native.Mathlib.Omega.{arith}
use Rattle.finite.proofs.Truth.{clash}
use Rattle.checker_search.proofs.Turns.{marked_is, marked_not}
use Rattle.checker_search.proofs.Grow.{queued_fits, visited_still, visited_new}
use Rattle.checker_search.proofs.visit.Goals as goal

pub returns-then-d-places : goal.returns-then-d-places
returns-then-d-places c = visited_still _ _ _ _ _ _ _ _ c.requires (λ l. absurd (omega (arith, l, c.if-d-places.true)))

pub returns-then-within-d-ne1 : goal.returns-then-within-d-ne1
returns-then-within-d-ne1 c = visited_still _ _ _ _ _ _ _ _ c.requires (λ l x. clash x (marked_not _ _ c.if-within-d-ne1.true))

pub returns-then-mark-d-eq1 : goal.returns-then-mark-d-eq1
returns-then-mark-d-eq1 c = visited_still _ _ _ _ _ _ _ _ c.requires (λ l x. marked_is _ _ c.if-mark-d-eq1.true)

pub offset_bounds-queue-n : goal.offset_bounds-queue-n
offset_bounds-queue-n c =
    let fits : c.args.n < 4096 = let P = c.requires in
    omega
    (arith, queued_fits _ _ _ _ _ P.queued _ c.if-d-places.false (marked_not _ _ c.if-mark-d-eq1.false), P.queued.places) in
    omega (arith, fits)

pub bounds-queue-n : goal.bounds-queue-n
bounds-queue-n c =
    let fits : c.args.n < 4096 = let P = c.requires in
    omega
    (arith, queued_fits _ _ _ _ _ P.queued _ c.if-d-places.false (marked_not _ _ c.if-mark-d-eq1.false), P.queued.places) in
    fits

pub overflow_cast-from : goal.overflow_cast-from
overflow_cast-from c =
    let fits : c.args.n < 4096 = let P = c.requires in
    omega
    (arith, queued_fits _ _ _ _ _ P.queued _ c.if-d-places.false (marked_not _ _ c.if-mark-d-eq1.false), P.queued.places) in
    omega (arith, fits, c.requires.finder)

pub offset_bounds-from-n : goal.offset_bounds-from-n
offset_bounds-from-n c =
    let fits : c.args.n < 4096 = let P = c.requires in
    omega
    (arith, queued_fits _ _ _ _ _ P.queued _ c.if-d-places.false (marked_not _ _ c.if-mark-d-eq1.false), P.queued.places) in
    omega (arith, fits)

pub bounds-from-n : goal.bounds-from-n
bounds-from-n c =
    let fits : c.args.n < 4096 = let P = c.requires in
    omega
    (arith, queued_fits _ _ _ _ _ P.queued _ c.if-d-places.false (marked_not _ _ c.if-mark-d-eq1.false), P.queued.places) in
    fits

pub overflow_add-result : goal.overflow_add-result
overflow_add-result c =
    let fits : c.args.n < 4096 = let P = c.requires in
    omega
    (arith, queued_fits _ _ _ _ _ P.queued _ c.if-d-places.false (marked_not _ _ c.if-mark-d-eq1.false), P.queued.places) in
    omega (arith, fits)

pub returns : goal.returns
returns c =
    visited_new _ _ _ _ _ _ _ _ c.requires c.if-d-places.false (marked_not _ _
    c.if-mark-d-eq1.false) (marked_is _ _ c.if-within-d-ne1.false)
