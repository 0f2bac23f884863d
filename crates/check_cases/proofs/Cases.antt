-- Each case of the table has the file and the print that stand there, and is accepted: by computing.
--
--   files, acceptances, prints, shorts, records : the five facts that are computed, each of the whole table
--   proved                                      : the table, case by case
--   waits                                       : the right to wait of each case
--   eight_rows                                  : case 8's rows by name
use Prim.Native.Nat.{ℕ, suc, zero, ◌≤◌, ◌<◌, ◌^◌}
use mathlib.Core.Path.{◌≡◌, refl, sym, ◌∙◌, ap, subst⁻¹}
use mathlib.Core.Bool.{Bool, true, ◌&&◌}
use mathlib.Core.Logic.{inl, inr}
use mathlib.Core.List.Memᴰ
use mathlib.Core.List.{List, [], ◌∷◌, ◌++◌, map, Memᴰ}
use lib.Dec.{eqb, ltb, leb}
use lib.ListN.{length, get_or}
use borrow.Author.Tests.{eqb-true, ltb-true, leb-true}
use Rattle.finite.proofs.Truth.{and_left, and_right, and_both}
use Rattle.finite.proofs.Bounded.{all_elim}
use Rattle.finite.proofs.Lists.{all_of_elim}
use Rattle.finite.specs.Bounded.{all, any, least, least_from, count, one}
use Rattle.finite.specs.Lists.{all_of, any_of}
use Rattle.finite.specs.Tabulate.{tabulate, tabulate_from}
use Rattle.bits.specs.Member.{has, pack, within}
use Rattle.sets.specs.declared.Set.{Set}
use Rattle.sets.specs.Words.{row_words, value, bits_of, set_of, sets_in, words_of, WordsFit}
use Rattle.graphs.specs.Graph.{edge, begins, stuck}
use Rattle.graphs.specs.Rows.{rel, rows_of}
use Rattle.graphs.specs.Closure.{nearby, joins, via, reaches}
use Rattle.graphs.specs.Component.{joined, number, nontrivial, leaves, meets_at}
use Rattle.graphs.specs.Way.{widens, layer, near, approach, shortest, prefer, toward}
use Rattle.game.specs.declared.InSet.{InSet}
use Rattle.game.specs.declared.OutSet.{OutSet}
use Rattle.game.specs.declared.Requirement.{Requirement}
use Rattle.game.specs.declared.Game.{Game}
use Rattle.game.specs.Access.{no_input, no_output, no_requirement, requirement_at, assumption_at, guarantee_at}
use Rattle.game.specs.Acceptance.{accepted, Acceptance}
use Rattle.game.specs.Acceptance.{
  limit,
  count_fits,
  row_fits,
  states_fit,
  has_initial,
  few_sets,
  in_set_fits,
  out_set_fits,
  in_use,
  requirement_fits,
  few_sets_at,
  requirement_fits_at,
  counts_fit,
  states_in_count,
  initials_exist,
  few_requirements,
  lengths_fit,
  sets_fit,
  tests,
  first_failing,
  acceptance,
}
use Rattle.play.specs.Play.{graph_of, requirement_of, requirements_of, separated_of}
use Rattle.arena.specs.Table.{Answer, gives}
use Rattle.theory.specs.Region.{due, served, accepting, safe, home_for, settles, answers, replies, rule, region_rows, region, opens, verdict}
use Rattle.theory.specs.Tour.{goal_at, around, inside, ahead, goal, has_goal, target, arrive, tour}
use Rattle.theory.specs.Choice.{
  sets_of,
  guarantees,
  assumptions,
  home,
  homeward,
  settled,
  controller_row,
  controller_start,
  lost,
  way_out,
  gate,
  outward,
  escapes,
  pressing,
  pushing,
  opposing,
  environment_row,
  refused,
  environment_start,
}
use Rattle.theory.specs.Entries.{entry, controller_counters, environment_counters, row_of, controller_entries, environment_entries}
use Rattle.text_grammar.specs.Number.{digits, decimal}
use Rattle.text_shape.specs.Text.{
  words,
  word,
  gap_text,
  items,
  bracket,
  line,
  members,
  set_text,
  cells,
  sets_text,
  header_line,
  plain,
  state_line,
  state_lines,
  requirement_line,
  empty_requirement,
  requirement_lines,
  game_text,
}
use Rattle.print_lines.specs.Line.{unless_none, winner_word, wins_line, start_line, environment_start_line as panelStart, row_line, step_line}
use Rattle.print_tables.specs.Print.{start_lines, step_lines, controller_print, environment_print}
use Rattle.solver.specs.Promise.{controller_length, environment_length, named, environment_tested, controller_tested, scratch_tested, verdict_answer}
use Rattle.text.specs.Read.{Reads}
use Rattle.text.proofs.Arrays.{Arrays}
use Rattle.text.proofs.OneText.{accepted_shaped, one_text_holds}
use Rattle.waiting.specs.Waiting.{RightToWait}
use Rattle.waiting.proofs.Waiting.{right_to_wait}
use Rattle.prints.specs.Prints.{table_print, game_print, reading_print}
use Rattle.check_cases.specs.Bytes.{line_bytes, file_bytes}
use Rattle.check_cases.specs.Cases.{Case, padded, graph, if_then, game, case8, table, Proved}

-- the games and bytes of the table, with all that they are made by
made : Case → Case
unfolding line_bytes file_bytes padded set_of words_of empty_requirement graph if_then game
made c = c

text : Game → List ℕ
unfolding one value bits_of sets_in plain has words word gap_text items bracket line members decimal digits set_text cells sets_text header_line state_line
    state_lines requirement_line requirement_lines game_text
text g = game_text g

answer : Game → Acceptance
unfolding all value bits_of sets_in within limit count_fits row_fits states_fit has_initial few_sets in_set_fits out_set_fits in_use requirement_fits
    few_sets_at requirement_fits_at counts_fit states_in_count initials_exist few_requirements lengths_fit sets_fit tests first_failing acceptance
answer g = acceptance g

-- the tables, with all that document 01's choices are computed by
chosen : Game → List ℕ
unfolding all any least least_from count one all_of any_of tabulate tabulate_from value bits_of sets_in has pack edge begins stuck rel rows_of nearby joins
    via reaches joined number nontrivial leaves meets_at widens layer near approach shortest prefer toward due served accepting safe home_for settles
    answers replies rule region_rows region opens verdict goal_at around inside ahead goal has_goal target arrive tour sets_of guarantees assumptions home
    homeward settled controller_row controller_start lost way_out gate outward escapes pressing pushing opposing environment_row refused environment_start
    entry controller_counters environment_counters row_of controller_entries environment_entries graph_of requirement_of requirements_of separated_of
chosen g = controller_entries (separated_of g) ++ environment_entries (separated_of g)

print : Game → List ℕ
unfolding text answer chosen unless_none winner_word wins_line start_line panelStart row_line step_line start_lines step_lines controller_print
    environment_print controller_length environment_length named environment_tested controller_tested scratch_tested verdict_answer table_print game_print
print g = game_print g

files : map (λ (c : Case). game_text c.game) table ≡ map (λ (c : Case). c.file) table
unfolding made text table
files = refl

acceptances : map (λ (c : Case). acceptance c.game) table ≡ map (λ (c : Case). accepted) table
unfolding made answer table
acceptances = refl

prints : map (λ (c : Case). game_print c.game) table ≡ map (λ (c : Case). c.print) table
unfolding made print table
prints = refl

-- a file may be as long as each of them
shorts : all_of (λ (c : Case). leb (length c.file) 40960) table ≡ true
unfolding made all_of table
shorts = refl

-- whether the lists of a game have the lengths of arrays
fours : Requirement → Bool
fours q = eqb (length q.assumptions) 4 && eqb (length q.guarantees) 4

lengths : Game → Bool
lengths g =
    (eqb (length g.input.moves) row_words && eqb (length g.output.moves) row_words)
    && (eqb (length g.requirements) 8 && all 8 (λ r. fours (requirement_at g r)))

-- whether its words have 64 bits
narrow : ℕ → Bool
narrow w = ltb w (2 ^ 64)

narrow_set : Set → Bool
narrow_set x = narrow x.low && narrow x.high

narrow_sets : Requirement → Bool
narrow_sets q = all_of (λ (x : InSet). narrow_set x.0) q.assumptions && all_of (λ (x : OutSet). narrow_set x.0) q.guarantees

narrow_words : Game → Bool
narrow_words g =
    (all_of narrow g.input.moves && all_of narrow g.output.moves)
    && ((narrow_set g.input.initial && narrow_set g.output.initial) && all_of narrow_sets g.requirements)

records : all_of (λ (c : Case). lengths c.game && narrow_words c.game) table ≡ true
unfolding made all all_of fours lengths narrow narrow_set narrow_sets narrow_words table
records = refl

-- a test that holds of every member and of what is read past the end
each : {A : Type 0} (p : A → Bool) (d : A) → p d ≡ true → (l : List A) → all_of p l ≡ true → (i : ℕ) → p (get_or l i d) ≡ true
unfolding all_of
each p d h [] q i = h
each p d h (a ∷ l) q zero = and_left (p a) (all_of p l) q
each p d h (a ∷ l) q (suc i) = each p d h l (and_right (p a) (all_of p l) q) i

fits : (x : Set) → narrow_set x ≡ true → WordsFit x
unfolding narrow narrow_set
fits x h =
    let v = and_both (narrow x.low) (narrow x.high) h in
    (ltb-true x.low (2 ^ 64) v.0, ltb-true x.high (2 ^ 64) v.1)

row_fits_lem : (l : List ℕ) → all_of narrow l ≡ true → (i : ℕ) → get_or l i 0 < 2 ^ 64
unfolding narrow
row_fits_lem l h i = ltb-true (get_or l i 0) (2 ^ 64) (each narrow 0 refl l h i)

sets_fit_lem : (g : Game) → all_of narrow_sets g.requirements ≡ true → (r j : ℕ)
    → WordsFit (assumption_at g r j).0 × WordsFit (guarantee_at g r j).0
unfolding narrow narrow_set narrow_sets all_of
sets_fit_lem g h r j =
    let q = requirement_at g r in
    let v = and_both (all_of (λ (x : InSet). narrow_set x.0) q.assumptions) (all_of (λ (x : OutSet). narrow_set x.0) q.guarantees)
    (each narrow_sets no_requirement refl g.requirements h r) in (
      fits (assumption_at g r j).0 (each (λ (x : InSet). narrow_set x.0) no_input refl q.assumptions v.0 j),
      fits (guarantee_at g r j).0 (each (λ (x : OutSet). narrow_set x.0) no_output refl q.guarantees v.1 j),
    )

four_sets : (g : Game) → all 8 (λ r. fours (requirement_at g r)) ≡ true → (r : ℕ) → r < 8
    → (length (requirement_at g r).assumptions ≡ 4) × (length (requirement_at g r).guarantees ≡ 4)
unfolding fours
four_sets g h r l =
    let ins = length (requirement_at g r).assumptions in
    let outs = length (requirement_at g r).guarantees in
    let v = and_both (eqb ins 4) (eqb outs 4) (all_elim 8 (λ k. fours (requirement_at g k)) h r l) in
    (eqb-true ins 4 v.0, eqb-true outs 4 v.1)

are_arrays : (g : Game) → (lengths g && narrow_words g) ≡ true → Arrays g
unfolding lengths narrow_words
are_arrays g h =
    let four : ℕ → Bool = λ r. fours (requirement_at g r) in
    let parts = and_both (lengths g) (narrow_words g) h in
    let halves = and_both (eqb (length g.input.moves) row_words && eqb (length g.output.moves) row_words)
    (eqb (length g.requirements) 8 && all 8 four) parts.0 in
    let rows = and_both (eqb (length g.input.moves) row_words) (eqb (length g.output.moves) row_words) halves.0 in
    let qs = and_both (eqb (length g.requirements) 8) (all 8 four) halves.1 in
    let words = and_both (all_of narrow g.input.moves && all_of narrow g.output.moves)
    ((narrow_set g.input.initial && narrow_set g.output.initial) && all_of narrow_sets g.requirements) parts.1 in
    let moves = and_both (all_of narrow g.input.moves) (all_of narrow g.output.moves) words.0 in
    let sets = and_both (narrow_set g.input.initial && narrow_set g.output.initial) (all_of narrow_sets g.requirements) words.1 in
    let initial = and_both (narrow_set g.input.initial) (narrow_set g.output.initial) sets.0 in
    record {
      input = record {
        rows = eqb-true (length g.input.moves) row_words rows.0;
        words = row_fits_lem g.input.moves moves.0;
        initial = fits g.input.initial initial.0;
      };
      output = record {
        rows = eqb-true (length g.output.moves) row_words rows.1;
        words = row_fits_lem g.output.moves moves.1;
        initial = fits g.output.initial initial.1;
      };
      requirements = eqb-true (length g.requirements) 8 qs.0;
      requirement = λ r l. record {
        assumptions = (four_sets g qs.1 r l).0;
        guarantees = (four_sets g qs.1 r l).1;
        in_sets_lem = λ j. (sets_fit_lem g sets.1 r j).0;
        out_sets_lem = λ j. (sets_fit_lem g sets.1 r j).1;
      };
    }

-- what two functions have in common on a list
at : {B : Type 0} (f g : Case → B) (l : List Case) → map f l ≡ map g l → (c : Case) → Memᴰ c l → f c ≡ g c
at f g [] h c m = absurd (Memᴰ.not-nil m)
at f g (b ∷ l) h c m = elim (Memᴰ.cases_cons m) [ inl e ↦ ap f e ∙ first ∙ sym (ap g e) | inr n ↦ at f g l rest c n ]
  where
    first : f b ≡ g b
    first = cc

    rest : map f l ≡ map g l
    rest = cc

-- The table, proved of the definitions.
proved : (c : Case) → Memᴰ c table → Proved c
unfolding reading_print
proved c m =
    let arrays = are_arrays c.game (all_of_elim (λ (d : Case). lengths d.game && narrow_words d.game) table records c m) in
    let file = at (λ (d : Case). game_text d.game) (λ (d : Case). d.file) table files c m in
    let accepted = at (λ (d : Case). acceptance d.game) (λ (d : Case). accepted) table acceptances c m in
    let shaped = accepted_shaped c.game accepted arrays in
    let short : length (game_text c.game) ≤ 40960 =
    subst⁻¹ (λ (s : List ℕ). length s ≤ 40960) file
    (leb-true (length c.file) 40960 (all_of_elim (λ (d : Case). leb (length d.file) 40960) table shorts c m)) in
    let print = at (λ (d : Case). game_print d.game) (λ (d : Case). d.print) table prints c m in
    record {
      shaped = shaped;
      file = file;
      accepted = accepted;
      print = print;
      reads = λ r R. ap reading_print (one_text_holds.read_back c.game r accepted shaped short (subst⁻¹ (λ (s : List ℕ). Reads s r) file R)) ∙ print;
    }

-- "Shown over all accepted games", "here with dead ends" (M-110): so of each case.
pub waits : (c : Case) → Memᴰ c table → RightToWait c.game
waits c m = right_to_wait c.game (proved c m).accepted

-- "Row (0, 0, 1) gives 1, counter 0; (1, 0, 1) gives 0, 1; (0, 1, 1) gives 1, 2; (1, 2, 1) gives 0, 1; (0, 0, 2) gives 2, 0."
abbrev row : ℕ → ℕ → ℕ → Answer
row o g j = controller_row (separated_of case8.game) o g j

pub eight_rows : row 0 0 1 ∷ row 1 0 1 ∷ row 0 1 1 ∷ row 1 2 1 ∷ row 0 0 2 ∷ [] ≡ gives 0 1 ∷ gives 1 0 ∷ gives 2 1 ∷ gives 1 0 ∷ gives 0 2 ∷ []
unfolding made chosen case8
eight_rows = refl
