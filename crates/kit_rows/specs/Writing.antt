-- What the functions that write the kit's table read and write. n is the table of a drive's commands, T the controller's entries, I the count of
-- old modes, U that of old commands.
--
--   lowest_in n c o t             == the lowest of the first c commands that leads from o to t, c where none does
--   commands_of n c o             == that of each mode
--   translated to e              == what the entry e says by a mode, said by a command of to
--   command_row n to T base i u   == the row of old mode i and old command u, where the controller's rows of its output and counter begin at base
--   Said to T base done l m      == from l to m the entries of the first `done` of those rows were written to the front, said by commands of to
--   told n S i u                 == the row of old mode i and old command u, where S has the entries of the old modes
--   ReadsIn n S i u              == what that row reads is there
--   Into E l m a b               == from l to m entries of E were written, each at its place, those from a up to b among them
--   Lent n l m                   == from l to m the first n words at most have changed
--
-- of the rows of old mode i, at the places from `at` on:
--   ModeFits n U S i at r               == what they read is there, and they fit r entries
--   ModeAgrees E n U S i at             == E has them there
--   Moded n U S i at done l m           == from l to m those of the first `done` commands were written, for every such E
-- of the rows of one output and counter, from block number first on:
--   CountFits n I U S first r           == what they read is there, and they fit r entries
--   CountAgrees E n I U S first         == E has them there
--   Counted n I U S first done l m      == from l to m those of the first `done` old modes were written, for every such E
-- of the whole table:
--   Outputs k T a b l m          == from l to m the rows of the outputs from a up to b were written
use Rattle.std.specs.Prelude.{ℕ, ◌+◌, ◌*◌, ◌≤◌, ◌<◌, ◌≡◌, true, false, List, ◌≢◌, eqb, length, get_or, drop}
use Rattle.finite.specs.Bounded.{least}
use Rattle.finite.specs.Tabulate.{tabulate}
use Rattle.sets.specs.Words.{capacity}
use Rattle.theory.specs.Entries.{none_entry, entry_state, entry_counter}
use Rattle.table_filling.specs.Grows.{Right, Grows}
use Rattle.kit_drives.specs.declared.Kit.{Kit}
use Rattle.kit_drives.specs.Drive.{next_in}
use Rattle.kit_rows.specs.Rows.{counters, kit_entries}

unfoldable pub lowest_in : List ℕ → ℕ → ℕ → ℕ → ℕ
lowest_in n c o t = least c (λ u. eqb (next_in n o u) t)

unfoldable pub commands_of : List ℕ → ℕ → ℕ → List ℕ
commands_of n c o = tabulate capacity (lowest_in n c o)

unfoldable pub translated : List ℕ → ℕ → ℕ
translated to e = elim (eqb e none_entry) [ true ↦ none_entry | false ↦ get_or to (entry_state e) 0 + 16 * entry_counter e ]

unfoldable pub command_row : (n to T : List ℕ) (base i u : ℕ) → ℕ
command_row n to T base i u =
    elim (eqb (next_in n i u) 255) [ true ↦ none_entry | false ↦ translated to (get_or T (base + next_in n i u) 0) ]

pub record Said (to T : List ℕ) (base done : ℕ) (l m : List ℕ) : Type 0 where
  pub long : length m ≡ length l
  pub entry : (j : ℕ) → j < done → get_or m j 0 ≡ translated to (get_or T (base + j) 0)
  pub small : (j : ℕ) → j < done → get_or m j 0 < 65536
  pub rest : (n : ℕ) → done ≤ n → drop n m ≡ drop n l

unfoldable pub told : (n S : List ℕ) (i u : ℕ) → ℕ
told n S i u = elim (eqb (next_in n i u) 255) [ true ↦ none_entry | false ↦ get_or S (next_in n i u) 0 ]

pub record ReadsIn (n S : List ℕ) (i u : ℕ) : Type 0 where
  pub below : next_in n i u ≢ 255 → next_in n i u < length S
  pub small : next_in n i u ≢ 255 → get_or S (next_in n i u) 0 < 65536

pub record Lent (n : ℕ) (l m : List ℕ) : Type 0 where
  pub long : length m ≡ length l
  pub rest : drop n m ≡ drop n l

pub record Into (E l m : List ℕ) (a b : ℕ) : Type 0 where
  pub grows : Grows E l m
  pub below : b ≤ length E
  pub right : (k : ℕ) → a ≤ k → k < b → Right E m k

pub record ModeFits (n : List ℕ) (U : ℕ) (S : List ℕ) (i at r : ℕ) : Type 0 where
  pub mode : i < capacity
  pub few : U ≤ 16
  pub reads : (u : ℕ) → u < U → ReadsIn n S i u
  pub room : at + U ≤ r

pub record ModeAgrees (E n : List ℕ) (U : ℕ) (S : List ℕ) (i at : ℕ) : Type 0 where
  pub below : at + U ≤ length E
  pub entry : (u : ℕ) → u < U → told n S i u ≡ get_or E (at + u) 0

pub record Moded (n : List ℕ) (U : ℕ) (S : List ℕ) (i at done : ℕ) (l m : List ℕ) : Type 0 where
  pub long : length m ≡ length l
  pub fills : (E : List ℕ) → ModeAgrees E n U S i at → Into E l m at (at + done)

pub record CountFits (n : List ℕ) (I U : ℕ) (S : List ℕ) (first r : ℕ) : Type 0 where
  pub modes : I ≤ capacity
  pub few : U ≤ 16
  pub small : first + I ≤ 524288
  pub reads : (i u : ℕ) → i < I → u < U → ReadsIn n S i u
  pub room : I + (first + I) * U ≤ r

pub record CountAgrees (E n : List ℕ) (I U : ℕ) (S : List ℕ) (first : ℕ) : Type 0 where
  pub below : I + (first + I) * U ≤ length E
  pub entry : (i u : ℕ) → i < I → u < U → told n S i u ≡ get_or E (I + ((first + i) * U + u)) 0

pub record Counted (n : List ℕ) (I U : ℕ) (S : List ℕ) (first done : ℕ) (l m : List ℕ) : Type 0 where
  pub long : length m ≡ length l
  pub fills : (E : List ℕ) → CountAgrees E n I U S first → Into E l m (I + first * U) (I + (first + done) * U)

pub record Outputs (k : Kit) (T : List ℕ) (a b : ℕ) (l m : List ℕ) : Type 0 where
  pub into :
      Into (kit_entries k T) l m (k.old.modes + a * counters k * k.old.modes * k.old.commands)
      (k.old.modes + b * counters k * k.old.modes * k.old.commands)
