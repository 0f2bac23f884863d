-- The print of the table that the solver hands over is the game's print.
use Prim.Native.Nat.{ℕ, ◌≤◌, ◌<◌, max}
use native.Mathlib.Omega.{arith}
use mathlib.Core.Bool.{Bool, true, false}
use mathlib.Core.Logic.{◌≢◌}
use mathlib.Core.List.{List}
use mathlib.Core.Path.{◌≡◌, refl, sym, ◌∙◌, ap, subst}
use lib.ListN.{length, get_or, take, drop, length-append}
use lib.Seq.{take_at}
use borrow.Author.Tests.{le-leb, eq-eqb}
use Rattle.scratch.proofs.Most.{most_scratch_lem}
use Rattle.finite.proofs.Truth.{and_intro, clash}
use Rattle.game.specs.declared.Game.{Game}
use Rattle.game.specs.declared.Refusal.{Refusal}
use Rattle.game.specs.Refusals.{number}
use Rattle.game.specs.Acceptance.{accepted, acceptance}
use Rattle.game.proofs.Laws.{accepted_fits}
use Rattle.play.specs.Play.{separated_of}
use Rattle.theory.specs.Choice.{guarantees, assumptions}
use Rattle.theory.specs.Entries.{controller_counters, environment_counters, controller_entries, environment_entries}
use Rattle.demands.proofs.Sizes.{controller_few, environment_few}
use Rattle.table_sizes.proofs.Lengths.{controller_length_lem, environment_length_lem, inputs_most, outputs_most}
use Rattle.solver.specs.Verdict.{Verdict}
use Rattle.solver.specs.declared.Winner.TheVariants.{System, Environment}
use Rattle.solver.specs.Promise.{verdict_answer}
use Rattle.scratch.specs.Scratch.{scratch_length, most_scratch}
use Rattle.solver.proofs.Verdicts.{controller_long, environment_long, more_scratch}
use Rattle.handover.specs.Handed.{side, front, Handed}
use Rattle.handover.proofs.Handing.{Told, told_answer}
use Rattle.text.specs.declared.Unread.{Unread}
use Rattle.text.specs.declared.Unread.TheVariants.{Misshapen, Refused}
use Rattle.text.specs.Reading.{Reading}
use Rattle.text.specs.Read.{Reads}
use Rattle.text_put.specs.Put.{Puts, PutsWithin}
use Rattle.text_put.proofs.Buffer.{puts_fills}
use Rattle.print_tables.specs.Print.{in_range, controller_fits, environment_fits, only_if, controller_print, environment_print}
use Rattle.print_tables.specs.Print.{controller_answer, environment_answer}
use Rattle.print_lines.specs.Line.{refused_line, misshapen_line}
use Rattle.print_tables.proofs.Room.{controller_room, environment_room, refused_room, misshapen_room, entries_small}
use Rattle.prints.specs.Prints.{table_print, game_print, reading_print, room_entries}
use Rattle.solve.specs.Printed.{print_bytes, PrintOf, Printed}
use Rattle.std.specs.declared.result.Result.TheVariants.{Ok, Err}

-- the dimensions of an accepted game are in range

range : (i o c : ℕ) → i ≤ 128 → o ≤ 128 → max 1 c ≤ 32 → in_range i o c ≡ true
unfolding in_range
range i o c p q h = and_intro (le-leb i 128 p) (and_intro (le-leb o 128 q) (le-leb c 32 (omega (arith, h))))

module _ (g : Game) (a : acceptance g ≡ accepted) where
  controller_printed : controller_answer g.input.states g.output.states (length (guarantees (separated_of g))) (controller_entries (separated_of g)) ≡
      table_print g (Ok (System 0))
  unfolding controller_answer controller_fits only_if table_print controller_counters
  controller_printed =
      ap (λ (b : Bool). only_if b (controller_print g.input.states g.output.states (length (guarantees (separated_of g)))
      (controller_entries (separated_of g))))
      (and_intro (range _ _ _ (inputs_most g a) (outputs_most g a) (controller_few g (accepted_fits g a))) (eq-eqb _ _ (sym (controller_length_lem g _ refl))))

  environment_printed : environment_answer g.input.states g.output.states (length (assumptions (separated_of g)))
      (environment_entries (separated_of g)) ≡ table_print g (Ok (Environment 0))
  unfolding environment_answer environment_fits only_if table_print environment_counters
  environment_printed =
      ap (λ (b : Bool). only_if b (environment_print g.input.states g.output.states (length (assumptions (separated_of g)))
      (environment_entries (separated_of g))))
      (and_intro (range _ _ _ (inputs_most g a) (outputs_most g a) (environment_few g (accepted_fits g a)))
      (eq-eqb _ _ (sym (environment_length_lem g _ refl))))

made_as : {d t u : List ℕ} {n : ℕ} {e : List ℕ} → t ≡ u → PutsWithin print_bytes d t n e → PutsWithin print_bytes d u n e
made_as {d} {n = n} {e} h M = subst (λ (x : List ℕ). PutsWithin print_bytes d x n e) h M

-- the sets that were counted, and the entries that were lent
module _ {d : List ℕ} {r : ℕ} {f : List ℕ} where
  pub makes_controller : (i o : ℕ) {m k : ℕ} (l : List ℕ) → ((j : ℕ) → get_or l j 0 < 65536) → length l ≤ room_entries → m ≡ k
      → Puts d 0 (controller_answer i o m l) r f → PutsWithin print_bytes d (controller_answer i o k l) r f
  makes_controller i o {m} l b h e P =
      made_as (ap (λ (j : ℕ). controller_answer i o j l) e)
      record { puts = P; fits = controller_room l (entries_small l b) i o m h }

  pub makes_environment : (i o : ℕ) {m k : ℕ} (l : List ℕ) → ((j : ℕ) → get_or l j 0 < 65536) → length l ≤ room_entries → m ≡ k
      → Puts d 0 (environment_answer i o m l) r f → PutsWithin print_bytes d (environment_answer i o k l) r f
  makes_environment i o {m} l b h e P =
      made_as (ap (λ (j : ℕ). environment_answer i o j l) e)
      record { puts = P; fits = environment_room l (entries_small l b) i o m h }

  makes_refused : (n : ℕ) → n < 256 → Puts d 0 (refused_line n) r f → PutsWithin print_bytes d (refused_line n) r f
  makes_refused n h P = record { puts = P; fits = refused_room n h }

  makes_misshapen : (p : ℕ) → p < 18446744073709551616 → Puts d 0 (misshapen_line p) r f → PutsWithin print_bytes d (misshapen_line p) r f
  makes_misshapen p h P = record { puts = P; fits = misshapen_room p h }

-- ---- what is handed over, by the answer

module _ {g : Game} {s s' : List ℕ} {n : ℕ} {b b' : Bool} {x y p : ℕ × ℕ} {t : List ℕ} where
  short_of : {c e m : ℕ} (v : Verdict) → Told g c e v → Handed g v s s' n b b' x y p t → c ≤ m → e ≤ m → length t ≤ m
  unfolding Told front
  short_of (Ok (System k)) T H h l = omega (arith, ap length H.part, controller_long g, T.0, T.1)
  short_of (Ok (Environment k)) T H h l = omega (arith, ap length H.part, environment_long g, T.0, T.1)
  short_of (Err k) T H h l = omega (arith, ap length H.part)

  module _ {d : List ℕ} {r : ℕ} {f : List ℕ} where
    system_of : (c e : ℕ) (v : Verdict) → Told g c e v → Handed g v s s' n b b' x y p t → acceptance g ≡ accepted → n ≡ 0 → b' ≡ true
        → PutsWithin print_bytes d (controller_answer g.input.states g.output.states (length (guarantees (separated_of g))) t) r f
        → PutsWithin print_bytes d (table_print g v) r f
    unfolding Told side front table_print
    system_of c e (Ok (System k)) T H a z w M =
        made_as
        (ap (controller_answer g.input.states g.output.states (length (guarantees (separated_of g)))) H.part ∙ controller_printed g a) M
    system_of c e (Ok (Environment k)) T H a z w M = clash w H.system
    system_of c e (Err k) T H a z w M = absurd (omega (arith, H.refusal, T.0))

    environment_of_lem : (c e : ℕ) (v : Verdict) → Told g c e v → Handed g v s s' n b b' x y p t → acceptance g ≡ accepted → n ≡ 0 → b' ≡ false
        → PutsWithin print_bytes d (environment_answer g.input.states g.output.states (length (assumptions (separated_of g))) t) r f
        → PutsWithin print_bytes d (table_print g v) r f
    unfolding Told side front table_print
    environment_of_lem c e (Ok (System k)) T H a z w M = clash H.system w
    environment_of_lem c e (Ok (Environment k)) T H a z w M =
        made_as
        (ap (environment_answer g.input.states g.output.states (length (assumptions (separated_of g)))) H.part ∙ environment_printed g a) M
    environment_of_lem c e (Err k) T H a z w M = absurd (omega (arith, H.refusal, T.0))

    refused_of : (c e : ℕ) (v : Verdict) → Told g c e v → Handed g v s s' n b b' x y p t → n ≢ 0 → Puts d 0 (refused_line n) r f
        → PutsWithin print_bytes d (table_print g v) r f
    unfolding Told table_print
    refused_of c e (Ok (System k)) T H z P = absurd (z H.refusal)
    refused_of c e (Ok (Environment k)) T H z P = absurd (z H.refusal)
    refused_of c e (Err k) T H z P = made_as (ap refused_line H.refusal) (makes_refused n (omega (arith, H.refusal, T.1)) P)

module _ {g : Game} {s s' : List ℕ} {n : ℕ} {b b' : Bool} {x y p : ℕ × ℕ} {t : List ℕ} where
  pub part_short : (k c e : ℕ) → Handed g (verdict_answer g k c e) s s' n b b' x y p t → c ≤ room_entries → e ≤ room_entries → length t ≤ room_entries
  part_short k c e H h l = short_of (verdict_answer g k c e) (told_answer g k c e) H h l

  -- of the lengths that the program lends
  module _ {k c e : ℕ} (u : most_scratch ≤ k) (v : c ≡ room_entries) (w : e ≡ room_entries) (H : Handed g (verdict_answer g k c e) s s' n b b' x y p t)
      {d : List ℕ} {r : ℕ} {f : List ℕ} where
    printed_as : acceptance g ≡ accepted → PutsWithin print_bytes d (table_print g (verdict_answer g k c e)) r f → PutsWithin print_bytes d (game_print g) r f
    unfolding game_print
    printed_as a M =
        let b : scratch_length g ≤ k = omega (arith, u, most_scratch_lem g a) in
        made_as (ap (table_print g) (more_scratch g k c e b) ∙ λ i. table_print g (verdict_answer g (scratch_length g) (v i) (w i))) M

    pub prints_system : acceptance g ≡ accepted → n ≡ 0 → b' ≡ true
        → PutsWithin print_bytes d (controller_answer g.input.states g.output.states (length (guarantees (separated_of g))) t) r f
        → PutsWithin print_bytes d (game_print g) r f
    prints_system a z q M = printed_as a (system_of c e (verdict_answer g k c e) (told_answer g k c e) H a z q M)

    pub prints_environment : acceptance g ≡ accepted → n ≡ 0 → b' ≡ false
        → PutsWithin print_bytes d (environment_answer g.input.states g.output.states (length (assumptions (separated_of g))) t) r f
        → PutsWithin print_bytes d (game_print g) r f
    prints_environment a z q M = printed_as a (environment_of_lem c e (verdict_answer g k c e) (told_answer g k c e) H a z q M)

    pub prints_refused : acceptance g ≡ accepted → n ≢ 0 → Puts d 0 (refused_line n) r f → PutsWithin print_bytes d (game_print g) r f
    prints_refused a z P = printed_as a (refused_of c e (verdict_answer g k c e) (told_answer g k c e) H z P)

module _ {s d : List ℕ} {r : ℕ} {f : List ℕ} (room : print_bytes ≤ length d) where
  printed : {x : Reading} → Reads s x → PutsWithin print_bytes d (reading_print x) r f → Printed s d r f
  printed {x} R M =
      record {
        text = reading_print x;
        print = record { reading = x; reads = R; print = refl };
        fills = puts_fills M.puts (omega (arith, M.fits, room));
      }

  pub answers_game : (g : Game) → Reads s (Ok g) → PutsWithin print_bytes d (game_print g) r f → Printed s d r f
  unfolding reading_print
  answers_game g R M = printed R M

  module _ {u : Unread} (R : Reads s (Err u)) where
    pub answers_misshapen : (p : ℕ) → u ≡ Misshapen p → p < 18446744073709551616 → Puts d 0 (misshapen_line p) r f → Printed s d r f
    unfolding reading_print
    answers_misshapen p h b P = printed R (made_as (sym (ap (λ (v : Unread). reading_print (Err v)) h)) (makes_misshapen p b P))

    pub answers_refused : (k : Refusal) {n : ℕ} → u ≡ Refused k → n ≡ number k → n < 256 → Puts d 0 (refused_line n) r f → Printed s d r f
    unfolding reading_print
    answers_refused k {n} h e b P =
        printed R (made_as (ap refused_line e ∙ sym (ap (λ (v : Unread). reading_print (Err v)) h)) (makes_refused n b P))

pub printed_of : {s t d : List ℕ} {n : ℕ} {e : List ℕ} → s ≡ t → Printed s d n e → Printed t d n e
printed_of {d = d} {n = n} {e = e} h P = subst (λ (x : List ℕ). Printed x d n e) h P

-- the front that was written is the print
module _ {s d : List ℕ} {n : ℕ} {e : List ℕ} (P : Printed s d n e) where
  pub printed_within : n ≤ length e
  printed_within = omega (arith, P.fills.bytes, ap length P.fills.buffer, length-append P.text (drop n d))

  pub printed_front : PrintOf s (take n e)
  printed_front = subst (PrintOf s) (sym (ap (take n) P.fills.buffer ∙ take_at P.text (drop n d) n (sym P.fills.bytes))) P.print
