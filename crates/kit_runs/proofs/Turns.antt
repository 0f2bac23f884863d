-- What the kit's table does is what the controller's does: the same configurations, the moves being made by commands.
--
--   Reads k l t        == the table t has the starts of the controller's table l, and the kit's rows
--   kit_reads          : the kit's entries are such a table
--   reply_read         : a command and a counter in range are read back from their entry
--   step_at            : the row of an allowed command in a configuration that the controller comes to
--   first_kit, first_controller, turn_kit, turn_controller    : first configurations and turns of one are those of the other
use Prim.Native.Nat.{ℕ, ◌+◌, ◌*◌, ◌≤◌, ◌<◌}
use native.Mathlib.Nat.{zero-add, add-mul-div_left, add-mul-mod_self_left, div-eq_of_lt, mod-eq_of_lt}
use mathlib.Core.Path.{◌≡◌, refl, sym, ◌∙◌, ap, ap₂, subst}
use mathlib.Core.Bool.{true}
use mathlib.Core.List.{List}
use mathlib.Core.Logic.{◌≢◌}
use native.Mathlib.Omega.{arith}
use lib.ListN.{length, get_or}
use lib.Dec.{ltb}
use borrow.Author.Tests.{ne_eqb, ltb-true}
use Rattle.sets.specs.Words.{bits_of}
use Rattle.bits.specs.Member.{has}
use Rattle.graphs.specs.Graph.{begins}
use Rattle.graphs.proofs.Walk.{extend}
use Rattle.arena.specs.Arena.{arena_of}
use Rattle.arena.specs.Table.{gives, Names, ControllerTable}
use Rattle.arena.specs.Play.{Configuration, ControllerFirst, ControllerTurn, Reachable}
use Rattle.arena.specs.Win.{ControllerWins}
use Rattle.arena.proofs.Bounds.{bounded_arena_of, inside_controller}
use Rattle.game.proofs.Laws.{accepted_fits}
use Rattle.play.specs.Play.{graph_of, separated_of}
use Rattle.theory.specs.Entries.{none_entry, answer, controller_table}
use Rattle.demands.specs.Demands.{play_of, controller_of}
use Rattle.demands.proofs.Sizes.{controller_few}
use Rattle.kit_drives.specs.declared.Drive.{Drive}
use Rattle.kit_drives.specs.declared.Kit.{Kit}
use Rattle.kit_drives.specs.Drive.{next_mode, allows, graph_from, game_from, command_for, Small}
use Rattle.kit_drives.specs.Acceptance.{entries_fit}
use Rattle.kit_drives.proofs.Acceptance.{Fitting, kit_small, drive_named}
use Rattle.finite.proofs.Truth.{and_left}
use Rattle.kit_rows.specs.Rows.{counters, commanded, kit_row, kit_place, kit_entries}
use Rattle.kit_rows.proofs.Kits.{start_in, row_in}
use Rattle.kit_runs.specs.Exchange.{starts_in, reply, KitFirst, KitTurn}
use Rattle.kit_runs.proofs.Commands.{allowed_below, allowed_open, allowed_intro, made_edge, edge_mode, command_below, command_leads}

pub record Reads (k : Kit) (l t : List ℕ) : Type 0 where
  pub starts : (i : ℕ) → i < k.old.modes → get_or t i none_entry ≡ get_or l i none_entry
  pub rows : (o c i u : ℕ) → o < k.new.modes → c < counters k → i < k.old.modes → u < k.old.commands
      → get_or t (kit_place k o c i u) none_entry ≡ kit_row k (controller_table k.old.modes (counters k) l) o c i u

pub kit_reads : (k : Kit) (l : List ℕ) → k.old.modes ≤ length l → Reads k l (kit_entries k l)
unfolding kit_place
kit_reads k l b = record {
  starts = λ i a. sym (start_in k l b none_entry i a);
  rows = λ o c i u lo lc li lu. row_in k l b o c i u lo lc li lu none_entry;
}

reply_read : (v m : ℕ) → v < 16 → m < 1024 → reply (v + 16 * m) ≡ gives m v
unfolding reply
reply_read v m a b =
    rw (ne_eqb (v + 16 * m) none_entry (omega arith), reply)
    (ap₂ gives (add-mul-div_left v m (omega arith) ∙ ap (λ (k : ℕ). k + m) (div-eq_of_lt a) ∙ zero-add m) (add-mul-mod_self_left v 16 m ∙ mod-eq_of_lt a))

-- the row of a command that is not barred, where the controller gives an answer
row_open : (k : Kit) (T : ControllerTable) (o c i u m s : ℕ) → next_mode k.old i u ≢ 255 → T.step c o (next_mode k.old i u) ≡ gives m s
    → kit_row k T o c i u ≡ command_for k.new o s + 16 * m
unfolding kit_row commanded
row_open k T o c i u m s n e = rw (ne_eqb (next_mode k.old i u) 255 n, kit_row) (ap (commanded k.new o) e)

module _ (k : Kit) (F : Fitting k) (l t : List ℕ) (R : Reads k l t) (W : ControllerWins (play_of (game_from k)) (controller_of (game_from k) l)) where
  small_old : Small k.old
  small_old = (kit_small k F.modes F.commands).0

  small_new : Small k.new
  small_new = (kit_small k F.modes F.commands).1

  few : counters k ≤ 32
  unfolding counters
  few = controller_few (game_from k) (accepted_fits (game_from k) F.game)

  abbrev pub Come : Configuration → Type 0
  Come x =
      Reachable (ControllerFirst (play_of (game_from k)) (controller_of (game_from k) l)) (ControllerTurn (play_of (game_from k)) (controller_of (game_from k) l)) x

  come_in : (x : Configuration) → Come x → (x.input < k.old.modes) × (x.output < k.new.modes) × (x.memory < counters k)
  unfolding play_of arena_of separated_of graph_of game_from graph_from controller_of controller_table counters
  come_in x r =
      let b = inside_controller (bounded_arena_of (separated_of (game_from k))) (controller_of (game_from k) l) x r in
      (b.input, b.output, b.memory)

  pub record StepAt (x : Configuration) (u : ℕ) : Type 0 where
    pub memory : ℕ
    pub output : ℕ
    pub move : (play_of (game_from k)).in_move x.input (next_mode k.old x.input u) ≡ true
    pub names : Names (controller_of (game_from k) l).memories ((play_of (game_from k)).reply (next_mode k.old x.input u) x.output)
        ((controller_of (game_from k) l).step x.memory x.output (next_mode k.old x.input u)) memory output
    pub row : Names (counters k) (allows k.new x.output) (reply (get_or t (kit_place k x.output x.memory x.input u) none_entry)) memory
        (command_for k.new x.output output)
    pub leads : next_mode k.new x.output (command_for k.new x.output output) ≡ output

  pub step_at : (x : Configuration) → Come x → (u : ℕ) → allows k.old x.input u ≡ true → StepAt x u
  unfolding play_of arena_of separated_of game_from graph_from controller_of controller_table counters
  step_at x r u a =
      let b = come_in x r in
      let below = allowed_below k.old small_old x.input u a in
      let free = allowed_open k.old small_old x.input u a in
      let mode = drive_named k.old small_old (and_left (entries_fit k.old) (entries_fit k.new) F.entries) x.input u b.0 below free in
      let move = made_edge k.old small_old x.input u (next_mode k.old x.input u) b.0 below refl mode in
      let w = W.steps x r (next_mode k.old x.input u) move in
      let v = command_below k.new small_new x.output w.state w.names.state in
      let leads = command_leads k.new small_new x.output w.state w.names.state in record {
        memory = w.memory;
        output = w.state;
        move = move;
        names = w.names;
        row = record {
          is = ap reply (R.rows x.output x.memory x.input u b.1 b.2 b.0 below
              ∙ row_open k (controller_table k.old.modes (counters k) l) x.output x.memory x.input u w.memory w.state free w.names.is)
              ∙ reply_read (command_for k.new x.output w.state) w.memory (omega (arith, v, small_new.commands))
              (omega (arith, few, w.names.memory));
          memory = w.names.memory;
          state = allowed_intro k.new small_new x.output (command_for k.new x.output w.state) v
              (λ h. omega (arith, h, leads, edge_mode k.new small_new x.output w.state w.names.state, small_new.modes));
        };
        leads = leads;
      }

  pub turn_kit : (x : Configuration) (u : ℕ) → allows k.old x.input u ≡ true → (s : StepAt x u)
      → KitTurn k t u x (record { input = next_mode k.old x.input u; output = s.output; memory = s.memory })
  turn_kit x u a s = record {
    allowed = a;
    input = refl;
    command = command_for k.new x.output s.output;
    row = s.row;
    output = sym s.leads;
  }

  pub turn_controller : (x y : Configuration) (u : ℕ) → Come x → KitTurn k t u x y
      → ControllerTurn (play_of (game_from k)) (controller_of (game_from k) l) x y
  turn_controller x y u r v =
      let s = step_at x r u v.allowed in
      let e : gives s.memory (command_for k.new x.output s.output) ≡ gives y.memory v.command = sym s.row.is ∙ v.row.is in
      let m : s.memory ≡ y.memory = cc in
      let c : command_for k.new x.output s.output ≡ v.command = cc in
      let o : s.output ≡ y.output = sym s.leads ∙ ap (next_mode k.new x.output) c ∙ sym v.output in record {
        move = rw v.input s.move;
        step = rw (v.input, sym m, sym o) s.names;
      }

  pub onward : (x y : Configuration) (u : ℕ) → Come x → KitTurn k t u x y → Come y
  onward x y u r v = record { origin = r.origin; first = r.first; walk = extend r.walk (turn_controller x y u r v) }

  start_below : (d : Drive) (i : ℕ) → starts_in d i ≡ true → i < d.modes
  unfolding starts_in
  start_below d i e = ltb-true i d.modes (and_left (ltb i d.modes) (has (bits_of d.initial) i) e)

  pub first_controller : (x : Configuration) → KitFirst k t x → ControllerFirst (play_of (game_from k)) (controller_of (game_from k) l) x
  unfolding play_of arena_of separated_of graph_of game_from graph_from controller_of controller_table counters starts_in begins
  first_controller x f = record {
    initial = f.initial;
    start =
        subst (λ (e : ℕ). Names (counters k) (starts_in k.new) (answer e) x.memory x.output)
        (R.starts x.input (start_below k.old x.input f.initial)) f.start;
  }

  pub first_kit : (i : ℕ) → starts_in k.old i ≡ true → (x : Configuration) × KitFirst k t x × (x.input ≡ i)
  unfolding play_of arena_of separated_of graph_of game_from graph_from controller_of controller_table counters starts_in begins
  first_kit i e =
      let w = W.starts i e in (
        record { input = i; output = w.state; memory = w.memory },
        record {
          initial = e;
          start =
              subst (λ (n : ℕ). Names (counters k) (starts_in k.new) (answer n) w.memory w.state) (sym (R.starts i (start_below k.old i e)))
              w.names;
        },
        refl,
      )
