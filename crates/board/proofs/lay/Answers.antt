-- `lay`. Invariant: whatever rows and initial sets the board had before the loop it has, and the first r requirements.
use mathlib.Core.Path.{sym, ◌∙◌}
use native.Mathlib.Omega.{arith}
use lib.ListN.{length-map}
use Rattle.board.proofs.Laying.{upto_none, upto_next, upto_all, on_board}
use Rattle.board.proofs.lay.Goals as goal

pub put_rows-requires : goal.put_rows-requires
put_rows-requires c = (omega arith, c.requires)

pub put_rows-requires-2 : goal.put_rows-requires-2
put_rows-requires-2 c =
    (omega arith, c.put_rows.ensures.long ∙ c.requires)

pub put_set-requires : goal.put_set-requires
put_set-requires c =
    (omega arith, c.put_rows-2.ensures.long ∙ c.put_rows.ensures.long ∙ c.requires)

pub put_set-requires-2 : goal.put_set-requires-2
put_set-requires-2 c =
    (omega arith, c.put_set.ensures.long ∙ c.put_rows-2.ensures.long ∙ c.put_rows.ensures.long ∙ c.requires)

pub loop-r-init : goal.loop-r-init
loop-r-init c = (
  omega arith,
  c.put_set-2.ensures.long ∙ c.put_set.ensures.long ∙ c.put_rows-2.ensures.long ∙ c.put_rows.ensures.long ∙ c.requires,
  λ ins outs x y U. U,
)

pub put_requirement-requires : goal.put_requirement-requires
put_requirement-requires c = (omega arith, c.loop-r.invariant.1)

pub loop-r-preserved : goal.loop-r-preserved
loop-r-preserved c = (
  omega arith,
  c.put_requirement.ensures.long ∙ c.loop-r.invariant.1,
  λ ins outs x y U. upto_next ins outs x y _ c.loop-r.r _ _ (omega arith) (c.loop-r.invariant.2 ins outs x y U) c.put_requirement.ensures,
)

pub returns : goal.returns
returns c =
    let g = c.args.g in
    let fields = c.well_formed.0.1.1 in
    on_board g _ _ c.sizes_of.ensures (upto_all g c.loop-r.r _ (omega arith) (fields.0.1.1.1.1.0.1.0.1)
    (fields.1.0.1.1.1.1.0.1.0.1) (fields.1.1.1.0.1.0.1)
    (c.loop-r.invariant.2 _ _ _ _
    (upto_none _ _ _ _ _ _ _ _ _ _ c.requires c.put_rows.ensures c.put_rows-2.ensures c.put_set.ensures c.put_set-2.ensures)))
