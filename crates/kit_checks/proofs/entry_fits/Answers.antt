-- `entry_fits` tests one place.
use Rattle.kit_drives.proofs.Acceptance.{entry_barred, entry_past_modes, entry_past_commands, entry_names}
use Rattle.kit_checks.proofs.entry_fits.Goals as goal

pub returns-then-t-eq255 : goal.returns-then-t-eq255
returns-then-t-eq255 c = entry_barred _ _ _ _ _ _ c.next_mode-t.ensures c.if-t-eq255.true

pub returns-then-m-modes : goal.returns-then-m-modes
returns-then-m-modes c = entry_past_modes _ _ _ _ _ _ c.next_mode-t.ensures c.if-t-eq255.false c.if-m-modes.true

pub returns-then-u-commands : goal.returns-then-u-commands
returns-then-u-commands c =
    entry_past_commands _ _ _ _ _ _ c.next_mode-t.ensures c.if-t-eq255.false c.if-m-modes.false c.if-u-commands.true

pub returns : goal.returns
returns c = entry_names _ _ _ _ _ _ c.next_mode-t.ensures c.if-t-eq255.false c.if-m-modes.false c.if-u-commands.false
