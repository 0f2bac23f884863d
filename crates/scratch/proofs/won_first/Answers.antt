-- `won_first` keeps no homes.
use Rattle.scratch.proofs.Read.{reaching_none}
use Rattle.scratch.proofs.won_first.Goals as goal

pub returns : goal.returns
returns c = λ l n m. record { reaching = reaching_none l n m _ _ c.empty.ensures.1 c.empty.ensures.1 }
