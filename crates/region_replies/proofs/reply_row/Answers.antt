-- `reply_row`. The outer loop: x are the outputs that answer the next inputs, but those of `rest`. The inner one looks at those that are left, and leaves the
-- outer one where none answers.
use Prim.Native.Nat.{ℕ, ◌<◌}
use mathlib.Core.Path.{◌≡◌, sym, ◌∙◌, ap}
use mathlib.Core.Bool.{true}
use lib.Dec.{ltb}
use lib.ListN.{get_or}
use borrow.Author.Tests.{ltb-true}
use Rattle.bits.specs.Member.{has, pack, sets_meet}
use Rattle.bits.proofs.Visit.{cut_in}
use Rattle.sets.specs.Words.{capacity, bits_of, sets_in}
use Rattle.sets.proofs.Rows.{none, some}
use Rattle.board.specs.Board.{out_rows}
use Rattle.scratch.proofs.Narrow.{narrowed_start, narrowed_members, narrowed_below, narrowed_next, narrowed_stop, narrowed_end}
use Rattle.region_replies.specs.Replies.{reply_with, reply_at, answers_at}
use Rattle.region_replies.proofs.Answers.{held_none, held_now, answered, answered_all}
use Rattle.region_replies.proofs.Answers.{looking_start, looking_below, looking_falls, looking_next, looking_end}
use native.Mathlib.Omega.{arith}
use Rattle.region_replies.proofs.reply_row.Goals as goal

all_below : (b m : ℕ) → ((s : ℕ) → has b s ≡ ltb s m) → (d : ℕ) → has b d ≡ true → d < m
all_below b m f d h = ltb-true d m (sym (f d) ∙ h)

pub won_next-k-requires : goal.won_next-k-requires
won_next-k-requires c =
    let p = c.requires in
    let within = cut_in _ _ _ _ c.below.ensures c.intersection-j-items.ensures in
    let outputs = all_below _ _ c.below-x.ensures in
    let w = c.in-Some.ensures.steps in
    (p.0, p.1, narrowed_below _ _ _ _ _ (λ j h. (within j h).0) p.0 outputs _ _ (rw c.into_iter-j-iterator.ensures.into_iter_gives at c.inputs.invariant.1) w.some _ w.lowest, p.3, c.inputs.invariant.0)

pub loop-left-init : goal.loop-left-init
loop-left-init c = looking_start _ _ _ _

pub out_row-row-requires : goal.out_row-row-requires
out_row-row-requires c =
    let looked-small : (o : ℕ) → has (bits_of c.unknown-first.result.0) o ≡ true → o < capacity = λ o h. let p = c.requires in
    let within = cut_in _ _ _ _ c.below.ensures c.intersection-j-items.ensures in
    let outputs = all_below _ _ c.below-x.ensures in
    omega (arith, p.1, narrowed_members _ _ _ _ _ (λ j i. (within j i).0) p.0 outputs _ _ (rw c.into_iter-j-iterator.ensures.into_iter_gives at c.inputs.invariant.1) o (c.unknown-first.ensures.0 o h)) in
    looking_below _ _ _ _ _ _ (looked-small) c.loop-left.invariant (some _ c.is_empty.ensures c.if-is_empty.false) _ c.lowest-o.ensures

pub insert_if-x-requires : goal.insert_if-x-requires
insert_if-x-requires c =
    let looked-small : (o : ℕ) → has (bits_of c.unknown-first.result.0) o ≡ true → o < capacity = λ o h. let p = c.requires in
    let within = cut_in _ _ _ _ c.below.ensures c.intersection-j-items.ensures in
    let outputs = all_below _ _ c.below-x.ensures in
    omega (arith, p.1, narrowed_members _ _ _ _ _ (λ j i. (within j i).0) p.0 outputs _ _ (rw c.into_iter-j-iterator.ensures.into_iter_gives at c.inputs.invariant.1) o (c.unknown-first.ensures.0 o h)) in
    looking_below _ _ _ _ _ _ (looked-small) c.loop-left.invariant (some _ c.is_empty.ensures c.if-is_empty.false) _ c.lowest-o.ensures

pub without_lowest-left-requires : goal.without_lowest-left-requires
without_lowest-left-requires c =
    some _ c.is_empty.ensures c.if-is_empty.false

pub loop-left-smaller : goal.loop-left-smaller
loop-left-smaller c =
    let looked-small : (o : ℕ) → has (bits_of c.unknown-first.result.0) o ≡ true → o < capacity = λ o h. let p = c.requires in
    let within = cut_in _ _ _ _ c.below.ensures c.intersection-j-items.ensures in
    let outputs = all_below _ _ c.below-x.ensures in
    omega (arith, p.1, narrowed_members _ _ _ _ _ (λ j i. (within j i).0) p.0 outputs _ _ (rw c.into_iter-j-iterator.ensures.into_iter_gives at c.inputs.invariant.1) o (c.unknown-first.ensures.0 o h)) in
    looking_falls _ _ _ _ _ _ (looked-small) c.loop-left.invariant (some _ c.is_empty.ensures c.if-is_empty.false) _ c.lowest-o.ensures _
    c.without_lowest-left.ensures

pub loop-left-preserved : goal.loop-left-preserved
loop-left-preserved c =
    let looked-small : (o : ℕ) → has (bits_of c.unknown-first.result.0) o ≡ true → o < capacity = λ o h. let p = c.requires in
    let within = cut_in _ _ _ _ c.below.ensures c.intersection-j-items.ensures in
    let outputs = all_below _ _ c.below-x.ensures in
    omega (arith, p.1, narrowed_members _ _ _ _ _ (λ j i. (within j i).0) p.0 outputs _ _ (rw c.into_iter-j-iterator.ensures.into_iter_gives at c.inputs.invariant.1) o (c.unknown-first.ensures.0 o h)) in
    let y = bits_of c.won_next-k.result.row.0 in
    looking_next _ _ _ _ _ _ (looked-small) c.loop-left.invariant (some _ c.is_empty.ensures c.if-is_empty.false) _ c.lowest-o.ensures _
    c.without_lowest-left.ensures _ _ (c.meets.ensures ∙ ap (λ (v : ℕ). sets_meet capacity v y) c.out_row-row.ensures) c.insert_if-x.ensures

-- The outputs that stay are those that answer.
pub inputs-preserved : goal.inputs-preserved
unfolding answered answers_at
inputs-preserved c =
    let p = c.requires in
    let within = cut_in _ _ _ _ c.below.ensures c.intersection-j-items.ensures in
    let outputs = all_below _ _ c.below-x.ensures in
    let w = c.in-Some.ensures.steps in
    let rows = sets_in (out_rows c.args.b.now) in
    let stay = looking_end rows _ _ _ _ _ _ c.loop-left.invariant (none _ c.is_empty.ensures c.if-is_empty.true) c.unknown-first.ensures.0
    (c.unknown-first.ensures.1 rows c.inputs.invariant.2) c.difference-x.ensures in
    rw c.into_iter-j-iterator.ensures.into_iter_gives (
      c.won_next-k.ensures.0,
      narrowed_next _ _ _ _ _ (λ j h. (within j h).0) p.0 outputs _ _ (rw c.into_iter-j-iterator.ensures.into_iter_gives at c.inputs.invariant.1) w.some _ w.lowest _ w.others _ _
          (λ o h. ap (λ (v : ℕ). sets_meet capacity (get_or rows o 0) v) c.won_next-k.ensures.1) stay,
      held_now _ _ _ _ stay,
    )

pub returns-in-None : goal.returns-in-None
unfolding reply_at
returns-in-None c =
    let p = c.requires in
    let within = cut_in _ _ _ _ c.below.ensures c.intersection-j-items.ensures in
    let outputs = all_below _ _ c.below-x.ensures in
    let a = c.args in
    let n = a.z.inputs in
    let m = a.z.outputs in
    let ended = narrowed_end _ _ _ _ _ (λ j h. (within j h).0) p.0 outputs _ _ (rw c.into_iter-j-iterator.ensures.into_iter_gives at c.inputs.invariant.1) c.in-None.ensures.steps.0 in
    answered_all _ _ _ _ _ _ p.1 _ _ _ _ c.below.ensures c.intersection-j-items.ensures c.below-x.ensures ended
    ∙ ap (λ (y : ℕ). pack m (reply_with (sets_in a.s.now) n (bits_of a.c.0) y (sets_in (out_rows a.b.now)) m))
    c.in_row-next.ensures

pub returns-then-is_empty-2 : goal.returns-then-is_empty-2
unfolding reply_at answered answers_at
returns-then-is_empty-2 c =
    let p = c.requires in
    let within = cut_in _ _ _ _ c.below.ensures c.intersection-j-items.ensures in
    let outputs = all_below _ _ c.below-x.ensures in
    let w = c.in-Some.ensures.steps in
    let g = c.args in
    let rows = sets_in (out_rows g.b.now) in
    let n = g.z.inputs in
    let m = g.z.outputs in
    let stay = looking_end rows _ _ _ _ _ _ c.loop-left.invariant (none _ c.is_empty.ensures c.if-is_empty.true) c.unknown-first.ensures.0
    (c.unknown-first.ensures.1 rows c.inputs.invariant.2) c.difference-x.ensures in
    let stopped = narrowed_stop _ _ _ _ _ (λ j h. (within j h).0) p.0 outputs _ _ (rw c.into_iter-j-iterator.ensures.into_iter_gives at c.inputs.invariant.1) w.some _ w.lowest _ _
    (λ o h. ap (λ (v : ℕ). sets_meet capacity (get_or rows o 0) v) c.won_next-k.ensures.1) stay (none _ c.is_empty-then-is_empty.ensures c.if-is_empty-2.true) in
    answered_all _ _ _ _ _ _ p.1 _ _ _ _ c.below.ensures c.intersection-j-items.ensures c.below-x.ensures stopped
    ∙ ap (λ (y : ℕ). pack m (reply_with (sets_in g.s.now) n (bits_of g.c.0) y rows m)) c.in_row-next.ensures
