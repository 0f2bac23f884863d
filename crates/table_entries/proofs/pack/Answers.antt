-- `pack` meets its contract.
use Rattle.table_entries.proofs.Packed.{entry_packed}
use Rattle.table_entries.proofs.pack.Goals as goal

pub returns : goal.returns
returns c = entry_packed _ _
