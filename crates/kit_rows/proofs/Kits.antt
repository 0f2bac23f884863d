-- What belongs where in the kit's table.
--
--   entries_long      : how many entries it has
--   start_in, row_in  : what stands at the place of a start and of a row
--   counters_small, first_small, rows_below, count_fits_lem : what the rows of one output and counter ask
--   outputs-*         : the rows of one output, of one after the other, and of all
use Prim.Native.Nat.{ℕ, ◌+◌, ◌*◌, ◌/◌, ◌%◌, ◌≤◌, ◌<◌}
use native.Mathlib.Nat.{zero-mul, add-zero, add_assoc, mul-le-mul, mul-le-mul_right}
use mathlib.Core.Path.{◌≡◌, refl, sym, ◌∙◌, ap, ap₂, subst}
use mathlib.Core.Bool.{true, false}
use mathlib.Core.List.{List, ◌++◌}
use mathlib.Core.Logic.{◌⊎◌, inl, inr, ◌≢◌}
use native.Mathlib.Omega.{arith}
use native.Mathlib.Decide.{ℕ_discrete}
use lib.Dec.{eqb}
use lib.Arith.{digits_lt, digits_div, digits_mod}
use lib.ListN.{length, get_or, take, drop, length-append, get_or-append}
use lib.Seq.{length-take-le, get_or-take, get_or-append-add}
use borrow.Author.Tests.{eq-eqb}
use Rattle.finite.proofs.Lists.{any_default}
use Rattle.finite.specs.Tabulate.{tabulate}
use Rattle.finite.proofs.Truth.{decide, clash}
use Rattle.finite.proofs.Tabulate.{length_tabulate, get_d_tabulate}
use Rattle.sets.specs.Words.{capacity}
use Rattle.theory.specs.Entries.{none_entry, answer, controller_table}
use Rattle.table_entries.proofs.Packed.{answer_none, answer_read}
use Rattle.compact_rows.specs.Copying.{Started}
use Rattle.compact_rows.proofs.Copying.{next_row}
use Rattle.kit_drives.specs.declared.Drive.{Drive}
use Rattle.kit_drives.specs.declared.Kit.{Kit}
use Rattle.kit_drives.specs.Drive.{next_in, command_for}
use Rattle.kit_rows.specs.Rows.{counters, kit_length, commanded, kit_row, kit_entries, KitReady}
use Rattle.kit_rows.specs.Writing.{lowest_in, commands_of, translated, command_row, Said, Into, CountFits, Outputs}
use Rattle.kit_rows.proofs.Search.{translated_none, translated_some}
use Rattle.kit_rows.proofs.Blocks.{CountSays, Rounds, into_none, into_join, into_front, into_done}

-- the entries

module _ (k : Kit) (T : List ℕ) (b : k.old.modes ≤ length T) where
  abbrev row_at : ℕ → ℕ
  row_at r =
      kit_row k (controller_table k.old.modes (counters k) T) (r / k.old.commands / k.old.modes / counters k)
      (r / k.old.commands / k.old.modes % counters k) (r / k.old.commands % k.old.modes) (r % k.old.commands)

  abbrev rows : List ℕ
  rows = tabulate (k.new.modes * counters k * k.old.modes * k.old.commands) row_at

  pub entries_long : length (kit_entries k T) ≡ kit_length k
  unfolding kit_entries kit_length
  entries_long =
      length-append (take k.old.modes T) rows
      ∙ ap₂ ◌+◌ (length-take-le k.old.modes T b) (length_tabulate row_at (k.new.modes * counters k * k.old.modes * k.old.commands))

  pub start_in : (d i : ℕ) → i < k.old.modes → get_or T i d ≡ get_or (kit_entries k T) i d
  unfolding kit_entries
  start_in d i l =
      sym (get_or-append (take k.old.modes T) rows d i (rw (length-take-le k.old.modes T b) l) ∙ get_or-take k.old.modes T i d l)

  module _ (o c i u : ℕ) (lo : o < k.new.modes) (lc : c < counters k) (li : i < k.old.modes) (lu : u < k.old.commands) where
    digits : row_at (((o * counters k + c) * k.old.modes + i) * k.old.commands + u) ≡ kit_row k (controller_table k.old.modes (counters k) T) o c i u
    digits =
        rw (
          digits_div ((o * counters k + c) * k.old.modes + i) lu,
          digits_mod ((o * counters k + c) * k.old.modes + i) lu,
          digits_div (o * counters k + c) li,
          digits_mod (o * counters k + c) li,
          digits_div o lc,
          digits_mod o lc,
        ) refl

    pub row_in : (d : ℕ) → get_or (kit_entries k T) (k.old.modes + (((o * counters k + c) * k.old.modes + i) * k.old.commands + u)) d
        ≡ kit_row k (controller_table k.old.modes (counters k) T) o c i u
    unfolding kit_entries
    row_in d =
        let r : ℕ = ((o * counters k + c) * k.old.modes + i) * k.old.commands + u in
        ap (λ (x : ℕ). get_or (take k.old.modes T ++ rows) (x + r) d) (sym (length-take-le k.old.modes T b))
        ∙ get_or-append-add (take k.old.modes T) rows r d
        ∙ get_d_tabulate row_at (k.new.modes * counters k * k.old.modes * k.old.commands) r d (digits_lt (digits_lt (digits_lt lo lc) li) lu)
        ∙ digits

-- an entry of the controller's, said by a command
said : (d : Drive) (o e : ℕ) → translated (commands_of d.next d.commands o) e ≡ commanded d o (answer e)
unfolding commanded command_for lowest_in
said d o e = elim (ℕ_discrete e none_entry) [
  | yes h ↦ sym (translated_none (commands_of d.next d.commands o) e h) ∙ ap (commanded d o) (answer_none e h)
  | no h ↦ sym (translated_some d.next d.commands o e h refl refl refl) ∙ ap (commanded d o) (answer_read e h refl refl)
]

module _ (k : Kit) (T : List ℕ) (M n : ℕ) (R : KitReady k M (length T) n) where
  pub modes_in : k.old.modes ≤ length T
  modes_in = omega (arith, R.controller)

  pub modes_room : k.old.modes ≤ n
  unfolding kit_length
  modes_room = omega (arith, R.room)

  pub ready_long : (m : ℕ) → m ≡ n → KitReady k M (length T) m
  ready_long m e = subst (KitReady k M (length T)) (sym e) R

  -- the controller's row that is read
  read_below : (o c i u : ℕ) → o < k.new.modes → c < M → i < k.old.modes → u < k.old.commands → next_in k.old.next i u ≢ 255
      → k.old.modes + (o * M + c) * k.old.modes + next_in k.old.next i u < length T
  read_below o c i u lo lc li lu ne =
      omega (arith, R.controller, digits_lt (digits_lt lo lc) (R.named i u li lu ne))

  -- the commands of the new drive at output o
  abbrev commands_to : ℕ → List ℕ
  commands_to o = commands_of k.new.next k.new.commands o

  -- a row as it is worked out
  row_commands : (o c i u : ℕ) → o < k.new.modes → c < counters k → i < k.old.modes → u < k.old.commands
      → command_row k.old.next (commands_to o) T (k.old.modes + (o * counters k + c) * k.old.modes) i u ≡ kit_row k
      (controller_table k.old.modes (counters k) T) o c i u
  unfolding command_row kit_row controller_table
  row_commands o c i u lo lc li lu = go (decide (eqb (next_in k.old.next i u) 255))
    where
      below : next_in k.old.next i u ≢ 255 → k.old.modes + ((o * counters k + c) * k.old.modes + next_in k.old.next i u) < length T
      below ne =
          omega (
            arith,
            subst (λ (x : ℕ). k.old.modes + (o * x + c) * k.old.modes + next_in k.old.next i u < length T) R.counters
                (read_below o c i u lo (omega (arith, R.counters)) li lu ne),
          )

      go : (eqb (next_in k.old.next i u) 255 ≡ true) ⊎ (eqb (next_in k.old.next i u) 255 ≡ false)
          → command_row k.old.next (commands_to o) T (k.old.modes + (o * counters k + c) * k.old.modes) i u
          ≡ kit_row k (controller_table k.old.modes (counters k) T) o c i u
      go (inl q) = rw (q, command_row, kit_row) refl
      go (inr q) =
          let at : ℕ = k.old.modes + ((o * counters k + c) * k.old.modes + next_in k.old.next i u) in
          rw (q, command_row, kit_row)
          (ap (translated (commands_to o))
          (ap (λ (x : ℕ). get_or T x 0) (add_assoc k.old.modes ((o * counters k + c) * k.old.modes) (next_in k.old.next i u))
          ∙ any_default T at 0 none_entry (below (λ h. clash (eq-eqb (next_in k.old.next i u) 255 h) q)))
          ∙ said k.new o (get_or T at none_entry))

  module _ (o : ℕ) (lo : o < k.new.modes) where
    -- the blocks of one output lie below all of them
    blocks_below : (x : ℕ) → x ≤ o * M + M → k.old.modes + x * k.old.modes * k.old.commands ≤ kit_length k
    unfolding kit_length
    blocks_below x b =
        let most : x ≤ k.new.modes * M = omega (arith, next_row o M, mul-le-mul_right {m = o + 1} {n = k.new.modes} M (omega arith)) in
        subst (λ (y : ℕ). k.old.modes + x * k.old.modes * k.old.commands ≤ k.old.modes + k.new.modes * y * k.old.modes * k.old.commands)
        R.counters
        (omega (arith, mul-le-mul_right k.old.commands (mul-le-mul_right k.old.modes most)))

    block_end : (c : ℕ) → c < M → k.old.modes + ((o * M + c) * k.old.modes + k.old.modes) * k.old.commands ≤ kit_length k
    block_end c b =
        rw (next_row (o * M + c) k.old.modes) (blocks_below (o * M + c + 1) (omega arith))

    pub counters_small : (c : ℕ) → c < M → o * M + c < 4096
    counters_small c b =
        omega (arith, digits_lt lo b, mul-le-mul {n₂ = capacity} {m₂ = 32} R.new.modes R.few)

    pub first_small : (c : ℕ) → c < M → (o * M + c) * k.old.modes + k.old.modes ≤ 524288
    first_small c b =
        rw (next_row (o * M + c) k.old.modes)
        (mul-le-mul {n₂ = 4096} {m₂ = capacity} (omega (arith, counters_small c b)) R.old.modes)

    -- the controller's rows of one output and counter
    pub rows_below : (c : ℕ) → c < M → k.old.modes + (o * M + c) * k.old.modes + k.old.modes ≤ length T
    rows_below c b =
        let next : o * M + c + 1 ≤ k.new.modes * M = omega (arith, digits_lt lo b) in
        omega (arith, R.controller, next_row (o * M + c) k.old.modes, mul-le-mul_right k.old.modes next)

    pub count_fits_lem : (c r : ℕ) {l S : List ℕ} → c < M → r ≡ n → k.old.modes ≤ length S
        → Said (commands_to o) T (k.old.modes + (o * M + c) * k.old.modes) k.old.modes l S
        → CountFits k.old.next k.old.modes k.old.commands S ((o * M + c) * k.old.modes) r
    count_fits_lem c r b e s W = record {
      modes = R.old.modes;
      few = R.old.commands;
      small = first_small c b;
      reads = λ i u li lu. record {
        below = λ ne. omega (arith, R.named i u li lu ne);
        small = λ ne. W.small (next_in k.old.next i u) (R.named i u li lu ne);
      };
      room = omega (arith, block_end c b, R.room);
    }

    count_says : (c : ℕ) → c < M
        → CountSays (kit_entries k T) k.old.next k.old.modes k.old.commands (commands_to o) T ((o * M + c) * k.old.modes)
    count_says c b = record {
      below = omega (arith, block_end c b, entries_long k T modes_in);
      entry = λ i u li lu.
          subst (λ (x : ℕ). command_row k.old.next (commands_to o) T (k.old.modes + (o * x + c) * k.old.modes) i u
          ≡ get_or (kit_entries k T) (k.old.modes + (((o * x + c) * k.old.modes + i) * k.old.commands + u)) 0) (sym R.counters)
          (row_commands o c i u lo (omega (arith, R.counters)) li lu ∙ sym (row_in k T modes_in o c i u lo (omega (arith, R.counters)) li lu 0));
    }

    pub outputs_one : {l m : List ℕ} → Rounds k.old M o (commands_to o) T M l m → Outputs k T o (o + 1) l m
    outputs_one {l} {m} D = record {
      into =
          subst (λ (y : ℕ). Into (kit_entries k T) l m (k.old.modes + o * counters k * k.old.modes * k.old.commands)
          (k.old.modes + y * k.old.modes * k.old.commands)) (next_row o (counters k))
          (subst (λ (x : ℕ). Into (kit_entries k T) l m (k.old.modes + o * x * k.old.modes * k.old.commands)
          (k.old.modes + (o * x + x) * k.old.modes * k.old.commands)) R.counters
          (D.fills (kit_entries k T) (omega (arith, blocks_below (o * M) (omega arith), entries_long k T modes_in)) count_says));
    }

  -- all outputs

  rows_begin : k.old.modes + 0 * counters k * k.old.modes * k.old.commands ≡ k.old.modes
  rows_begin =
      ap (λ (x : ℕ). k.old.modes + x) (ap (λ (x : ℕ). x * k.old.modes * k.old.commands) (zero-mul (counters k))
      ∙ ap (λ (x : ℕ). x * k.old.commands) (zero-mul k.old.modes) ∙ zero-mul k.old.commands)
      ∙ add-zero k.old.modes

  modes_below : k.old.modes ≤ length (kit_entries k T)
  unfolding kit_length
  modes_below = omega (arith, entries_long k T modes_in)

  pub outputs_none : (l : List ℕ) → Outputs k T 0 0 l l
  outputs_none l = record { into = rw rows_begin (into_none (kit_entries k T) l k.old.modes modes_below) }

  pub outputs_next : (o : ℕ) {l m r s : List ℕ} → Outputs k T 0 o l m → Outputs k T o (o + 1) m r → s ≡ r → Outputs k T 0 (o + 1) l s
  outputs_next o D S e = record { into = rw e (into_join (kit_entries k T) D.into S.into) }

  pub outputs_long : {a b : ℕ} {l m : List ℕ} → Outputs k T a b l m → length m ≡ length l
  outputs_long D = D.into.grows.long

  pub outputs_all : (o : ℕ) {l m r s : List ℕ} → length l ≡ n → o ≤ k.new.modes → k.new.modes ≤ o
      → Started T k.old.modes k.old.modes l s → m ≡ s → Outputs k T 0 o m r → r ≡ kit_entries k T ++ drop (kit_length k) l
  unfolding kit_length
  outputs_all o {l} {m} {r} {s} e a b S q D =
      rw (← entries_long k T modes_in)
      (into_done (kit_entries k T) l r (omega (arith, entries_long k T modes_in, R.room))
      (subst (Into (kit_entries k T) l r 0) last
      (into_join (kit_entries k T) begun D.into)))
    where
      begun : Into (kit_entries k T) l m 0 (k.old.modes + 0 * counters k * k.old.modes * k.old.commands)
      begun = rw (q, rows_begin) (into_front (kit_entries k T) modes_below (S.fills (kit_entries k T) modes_below (start_in k T modes_in 0)))

      last : k.old.modes + o * counters k * k.old.modes * k.old.commands ≡ length (kit_entries k T)
      last =
          let f : o ≡ k.new.modes = omega arith in
          ap (λ (x : ℕ). k.old.modes + x * counters k * k.old.modes * k.old.commands) f ∙ sym (entries_long k T modes_in)
