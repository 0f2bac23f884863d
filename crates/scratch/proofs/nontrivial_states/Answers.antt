-- `nontrivial_states` reads both closures.
use Prim.Native.Nat.{ℕ, ◌+◌}
use mathlib.Core.Path.{◌∙◌, ap}
use mathlib.Core.List.{List}
use lib.ListN.{drop}
use Rattle.bits.specs.Member.{pack}
use Rattle.sets.specs.Words.{sets_in}
use Rattle.graph_components.specs.Component.{nontrivial_at}
use Rattle.graph_components.proofs.Closed.{nontrivial_closed}
use Rattle.scratch.proofs.Areas.{in_closes, out_closes}
use Rattle.scratch.proofs.nontrivial_states.Goals as goal

pub returns : goal.returns
returns g c =
    let known = rw (← c.requires.0) at c.requires.1 in
    let f = known.0 in
    let l = known.1 in
    let n = c.args.z.inputs in
    let m = c.args.z.outputs in
    let s = sets_in c.args.s.now in
    let rows_in = ap (λ (w : List ℕ). pack n (nontrivial_at (sets_in w) s n)) c.in_rows.ensures.0 in
    let rows_out = ap (λ (w : List ℕ). pack m (nontrivial_at (sets_in w) (drop (n + n) s) m)) c.out_rows.ensures.0 in
    rw (← c.requires.0) record {
      inputs = c.nontrivial_at.ensures ∙ rows_in ∙ nontrivial_closed _ _ (in_closes l) f.input.most;
      outputs = c.nontrivial_at-2.ensures ∙ rows_out ∙ nontrivial_closed _ _ (out_closes l) f.output.most;
    }
