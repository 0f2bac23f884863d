-- The kit's table: the controller's starts, then rows by output, counter, old mode and old command.
--
--   counters k            == how many counters the controller's table has
--   kit_length k           == how many entries the kit's table has
--   commanded d o a       == the entry of a row where the controller at output o answers a, d being the new drive
--   kit_row k T o c i u    == the row of output o, counter c, old mode i and old command u, T being the controller's table
--   kit_place k o c i u    == its place
--   kit_entries k l        == the kit's table, l being the entries of the controller's
--   KitReady k M c n      == the kit's counts are a kit's, M its counters, the controller's table has c entries, and the kit's fits n
use Rattle.std.specs.Prelude.{ℕ, ◌+◌, ◌*◌, ◌/◌, ◌%◌, ◌≤◌, ◌<◌, ◌≡◌, true, false, List, ◌++◌, ◌≢◌, eqb, take}
use Rattle.finite.specs.Tabulate.{tabulate}
use Rattle.arena.specs.Table.{Answer, none, gives, ControllerTable}
use Rattle.play.specs.Play.{separated_of}
use Rattle.theory.specs.Entries.{none_entry, controller_counters, controller_table}
use Rattle.kit_drives.specs.declared.Drive.{Drive}
use Rattle.kit_drives.specs.declared.Kit.{Kit}
use Rattle.kit_drives.specs.Drive.{next_mode, game_from, command_for, Small}

unfoldable pub counters : Kit → ℕ
counters k = controller_counters (separated_of (game_from k))

-- SPEC 13.2
unfoldable pub kit_length : Kit → ℕ
kit_length k = k.old.modes + k.new.modes * counters k * k.old.modes * k.old.commands

-- "A row is the lowest command making the controller's move + 16 × next counter, or 65,535 where .. the controller's row is none." (SPEC 13.2)
unfoldable pub commanded : Drive → ℕ → Answer → ℕ
commanded d o none = none_entry
commanded d o (gives c t) = command_for d o t + 16 * c

-- ".. or 65,535 where the old command is barred" (SPEC 13.2)
unfoldable pub kit_row : Kit → ControllerTable → (o c i u : ℕ) → ℕ
kit_row k T o c i u =
    elim (eqb (next_mode k.old i u) 255) [ true ↦ none_entry | false ↦ commanded k.new o (T.step c o (next_mode k.old i u)) ]

unfoldable pub kit_place : Kit → (o c i u : ℕ) → ℕ
kit_place k o c i u = k.old.modes + (((o * counters k + c) * k.old.modes + i) * k.old.commands + u)

-- "The kit's table has the controller's starts, then rows by output, counter, old mode and old command, the last fastest." (SPEC 13.2)
unfoldable pub kit_entries : Kit → List ℕ → List ℕ
kit_entries k l =
    let I : ℕ = k.old.modes in
    let O : ℕ = k.new.modes in
    let M : ℕ = counters k in
    let U : ℕ = k.old.commands in
    take I l ++ tabulate (O * M * I * U) (λ r. kit_row k (controller_table I M l) (r / U / I / M) (r / U / I % M) (r / U % I) (r % U))

pub record KitReady (k : Kit) (M c n : ℕ) : Type 0 where
  pub old : Small k.old
  pub new : Small k.new
  pub named : (m u : ℕ) → m < k.old.modes → u < k.old.commands → next_mode k.old m u ≢ 255 → next_mode k.old m u < k.old.modes
  pub counters : M ≡ counters k
  pub few : M ≤ 32
  pub controller : c ≡ k.old.modes + k.new.modes * M * k.old.modes
  pub room : kit_length k ≤ n
