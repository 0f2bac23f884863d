-- `put_set` meets its contract. The invariant: what is left, with what is done, makes the whole.
use mathlib.Core.List.{[], ◌∷◌}
use mathlib.Core.Path.{◌∙◌}
use native.Mathlib.Omega.{arith}
use Rattle.text_put.proofs.Lowest.{set_small}
use Rattle.text_put.proofs.Pieces.{set_open, set_take, set_last, member_small, rest_small}
use Rattle.text_put.proofs.Buffer.{remains_all, remains_step, remains_none, puts_then, puts_as, puts_length}
use Rattle.text_put.proofs.put_set.Goals as goal

pub loop-s-init : goal.loop-s-init
loop-s-init c =
    (remains_all _ _ _, set_small _ (omega (arith, c.well_formed), omega (arith, c.well_formed)))

pub put_member-to-requires : goal.put_member-to-requires
put_member-to-requires c =
    let w = c.in-Some.ensures.steps in
    member_small _ _ c.loop-s.invariant.1 w.some w.lowest

pub loop-s-preserved : goal.loop-s-preserved
loop-s-preserved c =
    let w = c.in-Some.ensures.steps in
    let v = c.loop-s.invariant in (
      remains_step _ _ v.0 (set_take _ _ v.1 w.some w.lowest _ w.others _) c.put_member-to.ensures,
      rest_small _ _ v.1 w.some w.lowest _ w.others,
    )

pub shape_of-buffer : goal.shape_of-buffer
shape_of-buffer c =
    puts_length (remains_none (remains_step (41 ∷ []) [] c.loop-s.invariant.0
    (set_last _ _ c.in-None.ensures.steps.0) c.put_byte.ensures))
    ∙ puts_length c.put_byte-to.ensures

pub returns : goal.returns
returns c =
    let all = c.into_iter-s-iterator.ensures.into_iter_gives in
    puts_as (set_open _) (puts_then c.put_byte-to.ensures
    (remains_none (remains_step (41 ∷ []) [] (rw all at c.loop-s.invariant.0)
    (set_last _ _ c.in-None.ensures.steps.0) c.put_byte.ensures)))
