-- `prepare` works out the closures, then the components, then the rows.
use mathlib.Core.Path.{refl}
use Rattle.region.proofs.Parts.{kept_words}
use native.Mathlib.Omega.{arith}
use Rattle.region.proofs.prepare.Goals as goal

pub served-requires : goal.served-requires
served-requires g c =
    let known = rw (← c.requires.0) at c.requires.1 in
    let p = known in
    (refl, (p.0, c.close.ensures.0))

pub fill-requires : goal.fill-requires
fill-requires g c =
    let known = rw (← c.requires.0) at c.requires.1 in
    let p = known in (
      refl,
      let L = c.close.ensures.0 in
          (p.0, L, c.nontrivial_states-x.ensures, c.served.ensures),
    )

pub returns : goal.returns
returns g c =
    rw (← c.requires.0) (
    let f = c.fill.ensures in
    record {
      ready = f.0;
      nontrivial = c.nontrivial_states-x.ensures;
      kept = kept_words (λ i. omega (arith, c.slice_known-2-1.given i)) (λ i. omega (arith, c.slice_known-3-1.given i)) c.close.ensures.1 f.1;
    })
