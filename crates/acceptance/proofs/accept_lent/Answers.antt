-- `accept_lent` from what each test ensures.
use Rattle.game.specs.Acceptance.{few_requirements, tests, acceptance}
use Rattle.game.proofs.Numbers.{accepts}
use Rattle.acceptance.proofs.accept_lent.Goals as goal

pub returns : goal.returns
unfolding acceptance tests few_requirements
returns c = accepts _ (cc)
