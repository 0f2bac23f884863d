-- Counting what a map marks, and what the solver's answer comes to.
use Prim.Native.Nat.{ℕ, ◌+◌, ◌*◌, ◌≤◌}
use native.Mathlib.Omega.{arith}
use native.Mathlib.Nat.{mul-le-mul}
use native.Mathlib.Numerals.{add-one}
use mathlib.Core.Bool.{Bool, true, false}
use mathlib.Core.List.{List}
use mathlib.Core.Path.{◌≡◌, refl, sym, ◌∙◌, ap, subst}
use lib.ListN.{length, get_or}
use Rattle.scratch.proofs.Most.{most_scratch_lem}
use Rattle.prints.specs.Prints.{room_entries}
use Rattle.finite.specs.Bounded.{one, count}
use Rattle.bits.specs.Member.{has}
use Rattle.sets.specs.Words.{row_words, sets_in, set_count, words_for}
use Rattle.sets.proofs.Rows.{words_held}
use borrow.Author.Tests.{le-leb}
use Rattle.finite.proofs.Truth.{and_intro}
use Rattle.game.specs.declared.Game.{Game}
use Rattle.game.specs.Acceptance.{accepted, acceptance}
use Rattle.table_sizes.proofs.Lengths.{inputs_most, outputs_most}
use Rattle.map_marks.specs.Mapped.{made, Mapped}
use Rattle.map.specs.Map.{map_fits, map_room, map_answer, MapMade}
use Rattle.scratch.specs.Scratch.{scratch_length, most_scratch}
use Rattle.solver.specs.Verdict.{Verdict}
use Rattle.solver.specs.declared.Winner.TheVariants.{System, Environment}
use Rattle.solver.specs.Promise.{verdict_answer, Solved}
use Rattle.solver.proofs.Verdicts.{more_scratch}
use Rattle.text.specs.declared.Unread.TheVariants.{Misshapen, Refused}
use Rattle.text.specs.Read.{Reads}
use Rattle.catalogue_tally.specs.Outcome.{Outcome}
use Rattle.catalogue_tally.specs.declared.Counted.TheVariants.{System as SystemGame, Environment as EnvironmentGame}
use Rattle.catalogue_tally.specs.Figures.{won_of, positions_of, Modest}
use Rattle.catalogue_verdict.specs.Judged.{positions, marks, Census, Comes, Answers, Judged}
use Rattle.std.specs.declared.result.Result.TheVariants.{Ok, Err}
use Rattle.game.specs.declared.Refusal.{Refusal}
use Rattle.game.specs.declared.Refusal.TheVariants.{NoGame}

-- a state more

module _ (p : ℕ → Bool) (s : ℕ) where
  pub count_start : 0 ≡ count 0 p
  unfolding count
  count_start = refl

  pub count_in : {c : ℕ} {b : Bool} → c ≡ count s p → b ≡ p s → b ≡ true → c + 1 ≡ count (s + 1) p
  unfolding count one
  count_in e q h =
      let t : one (p s) ≡ 1 = ap one (sym q ∙ h) in
      omega (arith, ap (λ (k : ℕ). count k p) (add-one s))

  pub count_out : {c : ℕ} {b : Bool} → c ≡ count s p → b ≡ p s → b ≡ false → c ≡ count (s + 1) p
  unfolding count one
  count_out e q h =
      let t : one (p s) ≡ 0 = ap one (sym q ∙ h) in
      omega (arith, ap (λ (k : ℕ). count k p) (add-one s))

-- a word more
module _ (l : List ℕ) (m : ℕ) where
  pub marks_start : 0 ≡ marks l m 0
  unfolding marks
  marks_start = refl

  pub marks_next : (i : ℕ) {c k : ℕ} → c ≡ marks l m i → k ≡ count m (has (get_or l i 0)) → c + k ≡ marks l m (i + 1)
  unfolding marks
  marks_next i e q = omega (arith, ap (λ (j : ℕ). marks l m j) (add-one i))

pub map_long : (g : Game) (m : List ℕ) → acceptance g ≡ accepted → length m ≡ row_words → g.input.states ≤ set_count m
map_long g m a q = words_held m g.input.states (omega (arith, q, inputs_most g a))

-- the map is made, so what it marks is what is won
module _ {g : Game} {s s' m m' : List ℕ} {r : Mapped} (a : acceptance g ≡ accepted) (M : MapMade g s s' m m' r) (p : length s ≡ most_scratch)
    (q : length m ≡ row_words) where
  map_fits_lem : map_fits g most_scratch row_words ≡ true
  unfolding map_fits
  map_fits_lem =
      and_intro (le-leb (scratch_length g) most_scratch (most_scratch_lem g a))
      (le-leb (words_for g.input.states) row_words (omega (arith, inputs_most g a)))

  map_done : r ≡ made
  unfolding map_answer map_room
  map_done = M.answer ∙ (λ i. map_answer g (p i) (q i)) ∙ rw (a, map_answer) (rw (map_fits_lem, map_room) refl)

  pub map_census : {w : ℕ} → w ≡ marks (sets_in m') g.output.states g.input.states → Census g w
  map_census e = record { map = sets_in m'; won = M.won map_done; sum = e }

-- the solver's answer for the rooms of the solve program
module _ {g : Game} {s s' c c' e e' : List ℕ} {v : Verdict} (a : acceptance g ≡ accepted) (S : Solved g s s' c c' e e' v) (p : length s ≡ most_scratch)
    (q : length c ≡ room_entries) (h : length e ≡ room_entries) where
  answered : v ≡ verdict_answer g (scratch_length g) room_entries room_entries
  answered = S.answer ∙ (λ i. verdict_answer g (p i) (q i) (h i)) ∙ more_scratch g most_scratch room_entries room_entries (most_scratch_lem g a)

  comes_as : (o : Outcome) (u : Verdict) → v ≡ u → Comes g u o → Comes g (verdict_answer g (scratch_length g) room_entries room_entries) o
  comes_as o u k C = subst (λ (x : Verdict). Comes g x o) (sym k ∙ answered) C

  pub comes_refused : {n : Refusal} → v ≡ Err n → Comes g (verdict_answer g (scratch_length g) room_entries room_entries) (Err n) × Modest (Err n)
  unfolding Comes won_of positions_of
  comes_refused {n} k = (comes_as _ (Err n) k refl, record { won = omega arith; positions = omega arith })

  module _ {w : ℕ} (C : Census g w) (b : w ≤ 16384) where
    pub comes_system : {n : ℕ} → v ≡ Ok (System n)
        → Comes g (verdict_answer g (scratch_length g) room_entries room_entries) (Ok (SystemGame w (g.input.states * g.output.states)))
        × Modest (Ok (SystemGame w (g.input.states * g.output.states)))
    unfolding Comes won_of positions_of positions
    comes_system {n} k =
        (comes_as _ (Ok (System n)) k (w, C, refl), record { won = b; positions = mul-le-mul (inputs_most g a) (outputs_most g a) })

    pub comes_environment : {n : ℕ} → v ≡ Ok (Environment n)
        → Comes g (verdict_answer g (scratch_length g) room_entries room_entries) (Ok (EnvironmentGame w (g.input.states * g.output.states)))
        × Modest (Ok (EnvironmentGame w (g.input.states * g.output.states)))
    unfolding Comes won_of positions_of positions
    comes_environment {n} k =
        (comes_as _ (Ok (Environment n)) k (w, C, refl), record { won = b; positions = mul-le-mul (inputs_most g a) (outputs_most g a) })

-- the answer to a file
module _ {s : List ℕ} where
  pub judged_game : {g : Game} {o : Outcome} → Reads s (Ok g) → Comes g (verdict_answer g (scratch_length g) room_entries room_entries) o → Judged s o
  unfolding Answers
  judged_game {g} R C = record { reading = Ok g; reads = R; answers = C }

  pub judged_misshapen : {p : ℕ} → Reads s (Err (Misshapen p)) → Judged s (Err NoGame) × Modest (Err NoGame)
  unfolding Answers won_of positions_of
  judged_misshapen {p} R =
      (record { reading = Err (Misshapen p); reads = R; answers = refl }, record { won = omega arith; positions = omega arith })

  pub judged_refused : {r : Refusal} → Reads s (Err (Refused r)) → Judged s (Err r) × Modest (Err r)
  unfolding Answers won_of positions_of
  judged_refused {r} R =
      (record { reading = Err (Refused r); reads = R; answers = refl }, record { won = omega arith; positions = omega arith })
