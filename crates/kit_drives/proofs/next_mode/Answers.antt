-- `next_mode` reads one place.
use Rattle.kit_drives.specs.Drive.{next_in}
use Rattle.kit_drives.proofs.next_mode.Goals as goal

pub returns : goal.returns
unfolding next_in
returns c = c.from.ensures
