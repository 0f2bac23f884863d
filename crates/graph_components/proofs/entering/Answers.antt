-- `entering` joins the rows of the states of c.
use mathlib.Core.Path.{◌∙◌}
use Rattle.sets.specs.Words.{capacity, bits_of}
use Rattle.graph_components.proofs.Steps.{entered_start, entered_here, entered_next, entered_end, enters_cut}
use Rattle.bits.proofs.Visit.{cut_in}
use native.Mathlib.Omega.{arith}
use Rattle.graph_components.proofs.entering.Goals as goal

pub loop-k-init : goal.loop-k-init
loop-k-init c =
    let all = c.into_iter-k-iterator.ensures.into_iter_gives in
    let within = cut_in _ _ _ _ c.below.ensures c.intersection-k-items.ensures in
    let most = c.requires.0 in
    rw all (entered_start _ _ capacity _ (λ k h. omega (arith, (within k h).0, most)) c.empty-x.ensures.1)

pub row-requires : goal.row-requires
row-requires c =
    let all = c.into_iter-k-iterator.ensures.into_iter_gives in
    let w = c.in-Some.ensures.steps in
    let within = cut_in _ _ _ _ c.below.ensures c.intersection-k-items.ensures in
    omega (arith, (within _ (entered_here _ _ capacity (omega arith) _ _ (rw all at c.loop-k.invariant) w.some _ w.lowest)).0)

pub loop-k-preserved : goal.loop-k-preserved
loop-k-preserved c =
    let w = c.in-Some.ensures.steps in
    entered_next _ _ capacity (omega arith) _ _ c.loop-k.invariant w.some _ w.lowest _ w.others _ _ c.row.ensures
    c.union-x.ensures

pub returns : goal.returns
returns c =
    let all = c.into_iter-k-iterator.ensures.into_iter_gives in
    let a = c.args in
    let ended = entered_end _ _ capacity _ _ (rw all at c.loop-k.invariant) c.in-None.ensures.steps.0 in
    λ t. ended t ∙ enters_cut _ (bits_of a.c) a.n _ _ c.requires.0 c.below.ensures c.intersection-k-items.ensures t
