-- `moves_from` goes through the commands.
use Prim.Native.Nat.{◌≤◌}
use mathlib.Core.Path.{◌≡◌}
use Rattle.bits.specs.Member.{pack}
use Rattle.sets.specs.Words.{bits_of}
use Rattle.kit_drives.specs.Drive.{made_by}
use Rattle.kit_drives.proofs.moves_from.Given as goal

abbrev pub invariant-loop-u : goal.invariant-loop-u
invariant-loop-u l = (l.u ≤ l.commands) × (bits_of l.x ≡ pack l.modes (made_by l.next l.u l.m))
