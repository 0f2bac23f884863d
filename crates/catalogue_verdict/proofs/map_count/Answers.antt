-- `map_count` meets its contract.
use native.Mathlib.Omega.{arith}
use Prim.Native.Nat.{ℕ}
use mathlib.Core.Path.{◌∙◌, ap}
use Rattle.finite.specs.Bounded.{count}
use Rattle.finite.proofs.Bounded.{count_le}
use Rattle.bits.specs.Member.{has}
use Rattle.sets.specs.Words.{bits_of, sets_in}
use Rattle.catalogue_verdict.specs.Judged.{marks}
use Rattle.catalogue_verdict.proofs.Counting.{marks_start, marks_next}
use Rattle.catalogue_verdict.proofs.map_count.Goals as goal

pub loop-i-init : goal.loop-i-init
loop-i-init c = (omega arith, omega arith, c.requires.0, c.requires.1, c.requires.2, marks_start _ _)

pub overflow_add-c : goal.overflow_add-c
overflow_add-c c = omega (arith, c.row_count-c.ensures, count_le c.args.m (has (bits_of c.row-x.result)))

pub loop-i-preserved : goal.loop-i-preserved
loop-i-preserved c =
    let row = c.row-x in (
      omega arith,
      omega (arith, c.row_count-c.ensures, count_le c.args.m (has (bits_of row.result))),
      c.loop-i.invariant.2,
      c.loop-i.invariant.3,
      c.loop-i.invariant.4,
      marks_next _ _ _ c.loop-i.invariant.5 (c.row_count-c.ensures ∙ ap (λ (x : ℕ). count c.args.m (has x)) row.ensures),
    )

pub returns : goal.returns
returns c = (
  c.loop-i.invariant.5
      ∙ ap (marks (sets_in c.args.map.now) c.args.m) (omega arith),
  omega arith,
)
