-- What the entries answer, case by case.
--
--   fault_outside, fault_many, fault_bars, fault_scratch, fault_none    : the first fault
--   map_faulty, map_fault, map_short, map_done             : the map
--   judged_faulty, judged_fault, judged_system, judged_environment    : the verdict
--   kept_rest                                             : the words past scratch's first 4,096
use Prim.Native.Nat.{ℕ, ◌+◌, ◌-◌, ◌^◌, ◌≤◌, ◌<◌}
use mathlib.Core.Path.{◌≡◌, refl, sym, ◌∙◌, ap, subst}
use mathlib.Core.Bool.{Bool, true, false, ◌&&◌}
use mathlib.Core.List.{List, [], ◌∷◌}
use native.Mathlib.Omega.{arith}
use lib.Dec.{leb}
use lib.ListN.{length, get_or, drop, length-drop}
use lib.Seq.{drop-drop, ext_get_or, get_or-drop}
use borrow.Author.Tests.{leb-true, le-leb, lt-leb}
use Rattle.std.specs.declared.result.Result.TheVariants.{Ok, Err}
use Rattle.map_marks.proofs.Answer.{not_done}
use Rattle.map_marks.specs.Answer.{map_number, MapAfter}
use Rattle.finite.proofs.Truth.{clash, and_intro}
use Rattle.finite.proofs.Front.{front_rest}
use Rattle.finite.specs.But.{ButFor}
use Rattle.sets.specs.Words.{sets_in, set_count, words_for}
use Rattle.sets.proofs.Rows.{rest_words, words_held}
use Rattle.theory.specs.Region.{verdict}
use Rattle.game.specs.declared.Game.{Game}
use Rattle.game.specs.declared.Refusal.{Refusal}
use Rattle.game.specs.declared.Refusal.TheVariants.{BarOutside, NotOneRequirement, ShortScratch}
use Rattle.game.specs.Acceptance.{Acceptance, accepted, first_failing, acceptance, acceptance_number}
use Rattle.game.specs.Fits.{Fits}
use Rattle.game.specs.Numbers.{numbered, first_of}
use Rattle.game.proofs.Laws.{accepted_fits}
use Rattle.game.proofs.Numbers.{after, game_after}
use Rattle.play.specs.Play.{separated_of}
use Rattle.scratch_clearing.specs.Clearing.{cleared}
use Rattle.scratch_clearing.proofs.Clearing.{cleared_same}
use Rattle.scratch.specs.Scratch.{scratch_length}
use Rattle.map_marks.specs.Marks.{MapFilled}
use Rattle.map_marks.specs.Mapped.{made, Mapped}
use Rattle.map.specs.Map.{
  map_answer as plainAnswer,
  map_room as plainRoom,
  map_fits as plainFits,
  map_scratch as plainScratch,
  MapMade,
}
use Rattle.interlock.specs.Judged.{Judged}
use Rattle.interlock.specs.declared.Side.TheVariants.{System, Environment}
use Rattle.interlock.specs.Bars.{bars_inside, one_requirement, system_wins, BarredFilled}
use Rattle.interlock.specs.Interlock.{
  bars_fit,
  bar_refusals,
  bar_tests,
  room_refusals,
  room_tests,
  barred_map_tests,
  barred_map_answer,
  BarredMapAfter,
  barred_map_scratch,
  BarredMap,
  verdict_tests,
  barred_judged,
  barred_verdict_answer,
  barred_number,
  barred_verdict_scratch,
  BarredJudged,
}
use Rattle.interlock.proofs.Bars.{marks_won, filled_unbarred, wins_none, system_wins_lem}

-- ---- scratch

-- what is past the sets that the region uses is as it was
pub kept_rest : (s t u : List ℕ) (b : ℕ) → b ≤ 768 → ButFor 0 b (sets_in s) (sets_in t) → length t ≡ length s → ((i : ℕ) → get_or s i 0 < 2 ^ 64)
    → ((i : ℕ) → get_or t i 0 < 2 ^ 64) → u ≡ cleared 4096 t → u ≡ cleared 4096 s
kept_rest s t u b h A e x y q = q ∙ cleared_same 4096 s t rest
  where
    later : drop 768 (sets_in t) ≡ drop 768 (sets_in s)
    later =
        ext_get_or 0 (drop 768 (sets_in t)) (drop 768 (sets_in s))
        (length-drop 768 (sets_in t) ∙ ap (λ (k : ℕ). k - 768) A.long ∙ sym (length-drop 768 (sets_in s)))
        (λ k c. get_or-drop 768 (sets_in t) k 0 ∙ A.high (768 + k) (omega arith) ∙ sym (get_or-drop 768 (sets_in s) k 0))

    rest : drop 4096 t ≡ drop 4096 s
    rest =
        let w : words_for 768 + (4096 - words_for 768) ≡ 4096 = omega arith in
        ap (λ (k : ℕ). drop k t) (sym w) ∙ sym (drop-drop (4096 - words_for 768) (words_for 768) t)
        ∙ ap (drop (4096 - words_for 768)) (rest_words 768 t s y x e later) ∙ drop-drop (4096 - words_for 768) (words_for 768) s
        ∙ ap (λ (k : ℕ). drop k s) w

pub scratch_sets_lem : (s : List ℕ) → 4096 ≤ length s → 768 ≤ set_count s
scratch_sets_lem s h = words_held s 768 (omega arith)

-- the same where the region without bars has been worked out
shorter : (g : Game) → Fits g → (s t : List ℕ) → drop (scratch_length g) t ≡ drop (scratch_length g) s → drop 4096 t ≡ drop 4096 s
shorter g F s t e =
    let w : scratch_length g + (4096 - scratch_length g) ≡ 4096 = omega (arith, F.input.most, F.output.most) in
    ap (λ (k : ℕ). drop k t) (sym w) ∙ sym (drop-drop (4096 - scratch_length g) (scratch_length g) t) ∙ ap (drop (4096 - scratch_length g)) e
    ∙ drop-drop (4096 - scratch_length g) (scratch_length g) s ∙ ap (λ (k : ℕ). drop k s) w

pub prepared_rest : (g : Game) → Fits g → (s t u : List ℕ) → drop (scratch_length g) t ≡ drop (scratch_length g) s → u ≡ cleared 4096 t → u ≡ cleared 4096 s
prepared_rest g F s t u e q = q ∙ cleared_same 4096 s t (shorter g F s t e)

pub map_made : (g : Game) (s s' m m' t : List ℕ) (r : Mapped) → acceptance g ≡ accepted → 4096 ≤ length s → words_for g.input.states ≤ length m
    → MapMade g s s' m m' r → t ≡ cleared 4096 s' → (t ≡ cleared 4096 s) × MapFilled g m m'
unfolding plainAnswer plainRoom plainFits MapAfter plainScratch cleared
map_made g s s' m m' t r a h k M c =
    let F = accepted_fits g a in
    let fits : plainFits g (length s) (length m) ≡ true =
    and_intro (le-leb (scratch_length g) (length s) (omega (arith, F.input.most, F.output.most))) (le-leb (words_for g.input.states) (length m) k) in
    let done : r ≡ made = M.answer ∙ rw (a, plainAnswer) (rw (fits, plainRoom) refl) in (
      prepared_rest g F s s' t
          (ap (drop (scratch_length g)) (M.scratch ∙ ap (λ (x : Mapped). plainScratch g x s) done) ∙ front_rest (λ k. 0) s (scratch_length g)) c,
      subst (λ (x : Mapped). MapAfter g x m m') done M.map,
    )

-- ---- the first fault

-- the number of the first test that fails is that of its refusal
tests_number : (ts : List (Refusal × Bool)) → acceptance_number (first_failing ts) ≡ first_of (numbered ts)
unfolding first_failing numbered first_of
tests_number [] = refl
tests_number ((r, true) ∷ ts) = tests_number ts
tests_number ((r, false) ∷ ts) = refl

module _ (g : Game) (b : List ℕ) (s : ℕ) where
  pub fault_outside : bars_inside g b ≡ false → Err BarOutside ≡ first_failing (bar_refusals g b s)
  unfolding bar_refusals first_failing
  fault_outside e = rw e refl

  pub fault_many : bars_inside g b ≡ true → one_requirement g b ≡ false → Err NotOneRequirement ≡ first_failing (bar_refusals g b s)
  unfolding bar_refusals first_failing
  fault_many e f = rw (e, f) refl

  pub fault_bars : bars_inside g b ≡ true → one_requirement g b ≡ true → length b < words_for g.input.states
      → Err ShortScratch ≡ first_failing (bar_refusals g b s)
  unfolding bar_refusals first_failing bars_fit
  fault_bars e f h = rw (e, f, lt-leb (words_for g.input.states) (length b) h) refl

  pub fault_scratch : bars_inside g b ≡ true → one_requirement g b ≡ true → words_for g.input.states ≤ length b → s < 4096
      → Err ShortScratch ≡ first_failing (bar_refusals g b s)
  unfolding bar_refusals first_failing bars_fit
  fault_scratch e f h k = rw (e, f, le-leb (words_for g.input.states) (length b) h, lt-leb 4096 s k) refl

  pub fault_none : bars_inside g b ≡ true → one_requirement g b ≡ true → words_for g.input.states ≤ length b → 4096 ≤ s
      → accepted ≡ first_failing (bar_refusals g b s)
  unfolding bar_refusals first_failing bars_fit
  fault_none e f h k = rw (e, f, le-leb (words_for g.input.states) (length b) h, le-leb 4096 s k) refl

  -- where there is none, all tests hold
  pub none_tests : first_failing (bar_refusals g b s) ≡ accepted → (one_requirement g b ≡ true) × (words_for g.input.states ≤ length b) × (4096 ≤ s)
  unfolding bar_refusals first_failing bars_fit
  none_tests e = go (bars_inside g b) (one_requirement g b) refl (leb (words_for g.input.states) (length b)) refl (leb 4096 s) refl e
    where
      go : (p q : Bool) → one_requirement g b ≡ q → (u : Bool) → leb (words_for g.input.states) (length b) ≡ u → (v : Bool) → leb 4096 s ≡ v
          → first_failing ((BarOutside, p) ∷ (NotOneRequirement, q) ∷ (ShortScratch, u && v) ∷ []) ≡ accepted
          → (one_requirement g b ≡ true) × (words_for g.input.states ≤ length b) × (4096 ≤ s)
      go true true f true x true y z = (f, leb-true (words_for g.input.states) (length b) x, leb-true 4096 s y)
      go true true f true x false y z = not_done z
      go true true f false x v y z = not_done z
      go true false f u x v y z = not_done z
      go false q f u x v y z = not_done z

-- ---- the map

module _ (g : Game) (b s m : List ℕ) where
  map_number_lem : map_number (barred_map_answer g b (length s) (length m)) ≡ first_of (barred_map_tests g b (length s) (length m))
  unfolding barred_map_tests barred_map_answer room_tests room_refusals numbered
  map_number_lem = go (acceptance g) ∙ sym (game_after g (room_tests g b (length s) (length m)))
    where
      same : (a : Acceptance) → map_number a ≡ acceptance_number a
      same (Ok u) = refl
      same (Err r) = refl

      go : (a : Acceptance)
          → map_number (elim a as (λ x. Mapped) [ Ok u ↦ first_failing (room_refusals g b (length s) (length m)) | Err r ↦ Err r ])
          ≡ after a (first_of (room_tests g b (length s) (length m)))
      go (Ok u) = same (first_failing (room_refusals g b (length s) (length m))) ∙ tests_number (room_refusals g b (length s) (length m))
      go (Err r) = refl

  refused : (r : Refusal) → Err r ≡ barred_map_answer g b (length s) (length m) → BarredMap g b s s m m (Err r)
  unfolding BarredMapAfter barred_map_scratch
  refused r e = record {
    answer = e;
    number = ap map_number e ∙ map_number_lem;
    map = refl;
    scratch = refl;
    won = λ q. not_done q;
    unbarred = λ q. not_done q;
  }

  pub map_faulty : (r : Refusal) → acceptance g ≡ Err r → BarredMap g b s s m m (Err r)
  unfolding barred_map_answer
  map_faulty r e = refused r (rw (e, barred_map_answer) refl)

  -- the tests of the room come after those of bars and scratch
  pub map_fault : (r : Refusal) → acceptance g ≡ accepted → first_failing (bar_refusals g b (length s)) ≡ Err r → BarredMap g b s s m m (Err r)
  unfolding barred_map_answer room_refusals bar_refusals first_failing
  map_fault r a e = refused r (rw (a, barred_map_answer) (go (bars_inside g b) (one_requirement g b) (bars_fit g (length b) (length s)) e))
    where
      go : (p q u : Bool) → first_failing ((BarOutside, p) ∷ (NotOneRequirement, q) ∷ (ShortScratch, u) ∷ []) ≡ Err r
          → Err r
          ≡ first_failing
          ((BarOutside, p) ∷ (NotOneRequirement, q) ∷ (ShortScratch, u) ∷ (ShortScratch, leb (words_for g.input.states) (length m)) ∷ [])
      go true true true h = not_done (sym h)
      go true true false h = sym h
      go true false u h = sym h
      go false q u h = sym h

  module _ (a : acceptance g ≡ accepted) (z : first_failing (bar_refusals g b (length s)) ≡ accepted) where
    room : (v : Bool) → leb (words_for g.input.states) (length m) ≡ v → (r : Mapped)
        → r ≡ first_failing ((ShortScratch, v) ∷ []) → r ≡ barred_map_answer g b (length s) (length m)
    unfolding barred_map_answer room_refusals bar_refusals first_failing
    room v e r h = rw (a, barred_map_answer) (go (bars_inside g b) (one_requirement g b) (bars_fit g (length b) (length s)) z)
      where
        go : (p q u : Bool) → first_failing ((BarOutside, p) ∷ (NotOneRequirement, q) ∷ (ShortScratch, u) ∷ []) ≡ accepted
            → r
            ≡ first_failing
            ((BarOutside, p) ∷ (NotOneRequirement, q) ∷ (ShortScratch, u) ∷ (ShortScratch, leb (words_for g.input.states) (length m)) ∷ [])
        go true true true k = rw e h
        go true true false k = not_done k
        go true false u k = not_done k
        go false q u k = not_done k

    pub map_short : length m < words_for g.input.states → BarredMap g b s s m m (Err ShortScratch)
    unfolding first_failing
    map_short h = refused ShortScratch (room false (lt-leb (words_for g.input.states) (length m) h) (Err ShortScratch) refl)

    pub map_done : (s' m' : List ℕ) → words_for g.input.states ≤ length m → s' ≡ cleared 4096 s → BarredFilled g b m m' → BarredMap g b s s' m m' made
    unfolding BarredMapAfter barred_map_scratch first_failing
    map_done s' m' h e R = record {
      answer = done;
      number = ap map_number done ∙ map_number_lem;
      map = R;
      scratch = e;
      won = λ q. marks_won g b m m' a (none_tests g b (length s) z).0 R;
      unbarred = λ q k. filled_unbarred g b m m' k R;
    }
      where
        done : made ≡ barred_map_answer g b (length s) (length m)
        done = room true (le-leb (words_for g.input.states) (length m) h) made refl

-- ---- the verdict

module _ (g : Game) (b s : List ℕ) where
  verdict_number_lem : (w : Bool) → barred_number (barred_verdict_answer g b (length s) w) ≡ first_of (verdict_tests g b (length s))
  unfolding verdict_tests barred_verdict_answer barred_judged bar_tests bar_refusals numbered
  verdict_number_lem w = go (acceptance g) ∙ sym (game_after g (bar_tests g b (length s)))
    where
      told : (a : Acceptance) (w : Bool) → barred_number (barred_judged a w) ≡ acceptance_number a
      told (Ok u) true = refl
      told (Ok u) false = refl
      told (Err r) w = refl

      go : (a : Acceptance)
          → barred_number (elim a as (λ x. Judged) [ Ok u ↦ barred_judged (first_failing (bar_refusals g b (length s))) w | Err r ↦ Err r ])
          ≡ after a (first_of (bar_tests g b (length s)))
      go (Ok u) = told (first_failing (bar_refusals g b (length s))) w ∙ tests_number (bar_refusals g b (length s))
      go (Err r) = refl

  turned_down : (r : Refusal) → ((w : Bool) → Err r ≡ barred_verdict_answer g b (length s) w) → BarredJudged g b s s (Err r)
  unfolding barred_verdict_scratch
  turned_down r e = record {
    answer = e (system_wins g b);
    number = ap barred_number (e true) ∙ verdict_number_lem true;
    scratch = refl;
    system = λ q. not_won q;
    environment = λ q. not_lost q;
    unbarred = λ k. e (verdict (separated_of g));
  }
    where
      not_won : {A : Type 0} → Err r ≡ Ok System → A
      not_won q = let z : ◌≡◌ {A = ℕ} 0 1 = cc in absurd (omega arith)

      not_lost : {A : Type 0} → Err r ≡ Ok Environment → A
      not_lost q = let z : ◌≡◌ {A = ℕ} 0 1 = cc in absurd (omega arith)

  pub judged_faulty : (r : Refusal) → acceptance g ≡ Err r → BarredJudged g b s s (Err r)
  unfolding barred_verdict_answer
  judged_faulty r e = turned_down r (λ w. rw (e, barred_verdict_answer) refl)

  pub judged_fault : (r : Refusal) → acceptance g ≡ accepted → first_failing (bar_refusals g b (length s)) ≡ Err r → BarredJudged g b s s (Err r)
  unfolding barred_verdict_answer barred_judged
  judged_fault r a e = turned_down r (λ w. rw (a, barred_verdict_answer) (sym (ap (λ (x : Acceptance). barred_judged x w) e)))

  module _ (a : acceptance g ≡ accepted) (z : first_failing (bar_refusals g b (length s)) ≡ accepted) (s' : List ℕ) (c : s' ≡ cleared 4096 s) where
    pub judged_system : system_wins g b ≡ true → BarredJudged g b s s' (Ok System)
    unfolding barred_verdict_answer barred_judged barred_verdict_scratch
    judged_system w = record {
      answer = rw (a, barred_verdict_answer) (rw (z, w) refl);
      number = sym (z');
      scratch = c;
      system = λ q. (system_wins_lem g b (none_tests g b (length s) z).0).0 w;
      environment = λ q. not_both q;
      unbarred = λ k. rw (a, barred_verdict_answer) (rw (z, wins_none g b k, w) refl);
    }
      where
        z' : first_of (verdict_tests g b (length s)) ≡ 0
        z' = sym (verdict_number_lem true) ∙ rw (a, barred_verdict_answer) (rw z refl)

        not_both : {A : Type 0} → ◌≡◌ {A = Judged} (Ok System) (Ok Environment) → A
        not_both q = let z : ◌≡◌ {A = ℕ} 0 1 = cc in absurd (omega arith)

    pub judged_environment : system_wins g b ≡ false → BarredJudged g b s s' (Ok Environment)
    unfolding barred_verdict_answer barred_judged barred_verdict_scratch
    judged_environment w = record {
      answer = rw (a, barred_verdict_answer) (rw (z, w) refl);
      number = sym (z');
      scratch = c;
      system = λ q. not_both q;
      environment = λ q k. clash ((system_wins_lem g b (none_tests g b (length s) z).0).1 k) w;
      unbarred = λ k. rw (a, barred_verdict_answer) (rw (z, wins_none g b k, w) refl);
    }
      where
        z' : first_of (verdict_tests g b (length s)) ≡ 0
        z' = sym (verdict_number_lem true) ∙ rw (a, barred_verdict_answer) (rw z refl)

        not_both : {A : Type 0} → ◌≡◌ {A = Judged} (Ok Environment) (Ok System) → A
        not_both q = let z : ◌≡◌ {A = ℕ} 0 1 = cc in absurd (omega arith)
