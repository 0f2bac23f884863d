-- The length of the kit's table: every sum and product fits a word.
--
--   few_counters            : at most 32 counters
--   outputs_few, rows_few, entries_few    : the products, one after the other
--   table_length            : the length, from the counters
--   kit_ready               : what the writing of the table asks
--   controller_long         : the length of the controller's table, which the solver's contract names
use Prim.Native.Nat.{ℕ, ◌+◌, ◌*◌, ◌≤◌}
use native.Mathlib.Nat.{mul-le-mul}
use mathlib.Core.Path.{◌≡◌, sym, ◌∙◌, ap}
use native.Mathlib.Omega.{arith}
use lib.ListN.{length}
use Rattle.finite.proofs.Truth.{and_left}
use Rattle.game.proofs.Laws.{accepted_fits}
use Rattle.play.specs.Play.{graph_of, separated_of}
use Rattle.theory.specs.Entries.{controller_entries}
use Rattle.theory.proofs.Entries as entries
use Rattle.demands.proofs.Sizes.{controller_few}
use Rattle.solver.specs.Promise.{controller_length}
use Rattle.kit_drives.specs.declared.Kit.{Kit}
use Rattle.kit_drives.specs.Drive.{graph_from, game_from, Small}
use Rattle.kit_drives.specs.Acceptance.{entries_fit, kit_acceptance}
use Rattle.kit_drives.proofs.Acceptance.{kit_fitting, kit_small, drive_named}
use Rattle.kit_rows.specs.Rows.{counters, kit_length, KitReady}
use Rattle.game.specs.Acceptance.{accepted}

pub controller_long : (k : Kit) → length (controller_entries (separated_of (game_from k))) ≡ controller_length (game_from k)
unfolding controller_length separated_of graph_of
controller_long k = entries.controller_long (separated_of (game_from k))

module _ (k : Kit) (a : kit_acceptance k ≡ accepted) where
  pub both_small : Small k.old × Small k.new
  both_small = kit_small k (kit_fitting k a).modes (kit_fitting k a).commands

  few_counters : counters k ≤ 32
  unfolding counters
  few_counters = controller_few (game_from k) (accepted_fits (game_from k) (kit_fitting k a).game)

  module _ (m : ℕ) (e : m ≡ counters k) where
    pub outputs_few : k.new.modes * m ≤ 4096
    outputs_few =
        let b : m ≤ 32 = omega (arith, few_counters) in
        mul-le-mul both_small.1.modes b

    pub rows_few : k.new.modes * m * k.old.modes ≤ 524288
    rows_few = mul-le-mul outputs_few both_small.0.modes

    pub entries_few : k.new.modes * m * k.old.modes * k.old.commands ≤ 8388608
    entries_few = mul-le-mul rows_few both_small.0.commands

    pub table_length : k.old.modes + k.new.modes * m * k.old.modes * k.old.commands ≡ kit_length k
    unfolding kit_length
    table_length = ap (λ (n : ℕ). k.old.modes + k.new.modes * n * k.old.modes * k.old.commands) e

    pub kit_ready : (c n : ℕ) → c ≡ controller_length (game_from k) → kit_length k ≤ n → KitReady k m c n
    unfolding controller_length game_from graph_from counters
    kit_ready c n q r = record {
      old = both_small.0;
      new = both_small.1;
      named = drive_named k.old both_small.0 (and_left (entries_fit k.old) (entries_fit k.new) (kit_fitting k a).entries);
      counters = e;
      few = omega (arith, few_counters);
      controller = q ∙ ap (λ (i : ℕ). k.old.modes + k.new.modes * i * k.old.modes) (sym e);
      room = r;
    }
