-- `empty_requirement` meets its contract.
use lib.ListN.{replicate}
use Rattle.text_shape.specs.Text.{empty_requirement}
use Rattle.text_scan.proofs.set_lists.empty_requirement.Goals as goal

pub returns : goal.returns
unfolding empty_requirement
returns c =
    let none = c.empty-none.ensures.0 in
    λ i. record {
      assumptions = replicate 4 (record { 0 = none i });
      assumed = 0;
      guarantees = replicate 4 (record { 0 = none i });
      guaranteed = 0;
    }
