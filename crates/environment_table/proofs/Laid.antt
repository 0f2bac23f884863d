-- The environment's table in its layout.
--
--   laid_fits     : the buffer has the rows
--   laid_table    : the table ends in them
--   laid_filled   : rows that were written there were written in the table
--   laid_block    : the rows of one input and a set of outputs, for all counters
use Prim.Native.Nat.{ℕ, ◌+◌, ◌*◌, ◌<◌}
use mathlib.Core.Path.{◌≡◌, refl, sym, ◌∙◌, ap}
use mathlib.Core.Bool.{true}
use mathlib.Core.List.{List}
use native.Mathlib.Omega.{arith}
use lib.Dec.{ltb}
use lib.ListN.{length, get_or}
use borrow.Author.Tests.{ltb-true}
use Rattle.theory.proofs.Demands.{environment_counts}
use Rattle.bits.specs.Member.{has}
use Rattle.game.specs.declared.Game.{Game}
use Rattle.play.specs.Play.{separated_of}
use Rattle.theory.specs.Choice.{environment_row}
use Rattle.theory.specs.Entries.{entry, environment_counters}
use Rattle.table_layout.specs.declared.Layout.{Layout}
use Rattle.table_layout.specs.Rows.{place as place_of, LayoutFits, Rows, Wrote}
use Rattle.table_layout.specs.Rows.{Filled as FilledIn}
use Rattle.environment_table.specs.Table.{entries_of, environment_place, Roomy, EnvironmentLayout, EnvironmentFilled}
use Rattle.environment_table.proofs.Places.{entries_length, entry_at, filled_same, every_counter}

module _ (g : Game) (M n : ℕ) (z : Layout) (R : Roomy g M n) (Z : EnvironmentLayout g.input.states M g.output.states z) where
  -- a row's place is the same
  at : (a h b : ℕ) → place_of z a h b ≡ environment_place (environment_counters (separated_of g)) g.output.states a h b
  unfolding place_of environment_place
  at a h b = rw (Z.base, Z.counters, Z.width, R.counters) refl

  size : z.base + z.states * z.counters * z.width ≡ length (entries_of g)
  size = rw (Z.base, Z.states, Z.counters, Z.width, R.counters, entries_length g) (omega arith)

  pub laid_fits : LayoutFits z n
  laid_fits = record {
    front = omega (arith, Z.base);
    states = omega (arith, Z.states, R.inputs);
    some = rw (Z.counters, R.counters) (environment_counts (separated_of g));
    counters = omega (arith, Z.counters, R.few);
    width = omega (arith, Z.width, R.outputs);
    room = rw size R.room;
  }

  pub laid_table : Rows z (environment_row (separated_of g)) (entries_of g)
  laid_table = record {
    long = sym size;
    row = λ a h b la lh lb.
        ap (λ (k : ℕ). get_or (entries_of g) k 0) (at a h b)
        ∙ entry_at g a h b (omega (arith, Z.states)) (omega (arith, Z.counters, R.counters)) (omega (arith, Z.width));
  }

  pub laid_filled : {P : ℕ → ℕ → ℕ → Type 0} {l m : List ℕ} → FilledIn z (entries_of g) P l m → EnvironmentFilled g P l m
  laid_filled F = record {
    grows = F.grows;
    rows = λ a h b la lh lb p.
        rw (sym (at a h b))
        (F.rows a h b (omega (arith, Z.states)) (omega (arith, Z.counters, R.counters)) (omega (arith, Z.width)) p);
  }

  pub laid_block : (i over every first more : ℕ) {l m : List ℕ} → ((h : ℕ) → has every h ≡ ltb h M)
      → ((h o : ℕ) → h < M → o < g.output.states → has over o ≡ true → first + more * h ≡ entry (environment_row (separated_of g) i h o))
      → Wrote z i over every first more l m → EnvironmentFilled g (λ a h o. (a ≡ i) × (has over o ≡ true)) l m
  laid_block i over every first more e agrees W =
      filled_same g
      (laid_filled
      (W.fills (environment_row (separated_of g)) (entries_of g) laid_table
      (λ h o x b y. agrees h o (ltb-true h M (sym (e h) ∙ x)) (omega (arith, Z.width)) y)))
      (λ a h o la lh lo p. (p.0, every_counter g M n every h R e lh, p.1))
