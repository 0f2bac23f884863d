-- What the checker answers, case by case.
--
--   faulty, misfit, many, short    : the refusals
--   checked                        : the answer to a table of the controller's length, the game being small enough and the room long enough
--   ready                          : what the check of a table asks for
--   places_counted                 : how many places a table of the controller's length has
use Prim.Native.Nat.{ℕ, ◌+◌, ◌-◌, ◌*◌, ◌≤◌, ◌<◌}
use native.Mathlib.Nat.{mul_comm, mul_assoc}
use mathlib.Core.Path.{◌≡◌, refl, sym, ◌∙◌, ap, subst}
use mathlib.Core.Bool.{Bool, true, false}
use mathlib.Core.List.{List, [], ◌∷◌}
use mathlib.Core.Logic.{◌≢◌, ◌↔◌}
use native.Mathlib.Omega.{arith}
use lib.Dec.{leb}
use lib.ListN.{length}
use borrow.Author.Tests.{eq-eqb, ne_eqb, le-leb, lt-leb}
use Rattle.arena.specs.Arena.{arena_of}
use Rattle.arena.specs.Win.{ControllerWins, SystemWins, DemandThree}
use Rattle.game.specs.declared.Game.{Game}
use Rattle.game.specs.Access.{requirement_at}
use Rattle.game.specs.Acceptance.{accepted, acceptance}
use Rattle.game.specs.Numbers.{first_of}
use Rattle.game.proofs.Numbers.{after, game_after}
use Rattle.game.proofs.Refusals.{refused_code}
use Rattle.play.specs.Play.{graph_of, requirement_of, separated_of}
use Rattle.theory.specs.Entries.{controller_counters, controller_entries}
use Rattle.theory.proofs.Entries.{controller_long}
use Rattle.theory.proofs.Demands.{wins_verdict}
use Rattle.demands.specs.Demands.{play_of, controller_of}
use Rattle.demands.proofs.Demands.{demand_three_system}
use Rattle.player.specs.Player.{fitting}
use Rattle.checker_places.specs.Place.{place_count}
use Rattle.checker_rows.specs.Rows.{Ready}
use Rattle.checker_places.proofs.Refute.{refute_start, refute_row, refute_round}
use Rattle.checker.specs.Checked.{Checked}
use Rattle.checker.specs.declared.Finding.TheVariants.{Accepted, BadStart, BadRow, BadRound}
use Rattle.checker.specs.Check.{places_fit, check_tests, checker_number, walk_at, Told, Checks}
use Rattle.checker.specs.Steps.{Found}
use Rattle.std.specs.declared.result.Result.TheVariants.{Ok, Err}
use Rattle.game.specs.Refusals.{number}
use Rattle.game.specs.declared.Refusal.{Refusal}
use Rattle.game.specs.declared.Refusal.TheVariants.{NotControllers, ShortScratch, TooManyRows}

-- ---- sizes

module _ (g : Game) where
  -- "inputs × outputs × max(1, G)" is how many places there are
  counted_places : g.input.states * g.output.states * controller_counters (separated_of g) ≡ place_count (play_of g) (controller_counters (separated_of g))
  unfolding place_count play_of arena_of separated_of graph_of
  counted_places =
      mul_assoc g.input.states g.output.states (controller_counters (separated_of g))
      ∙ mul_comm g.input.states (g.output.states * controller_counters (separated_of g))

  pub entries_counted : length (controller_entries (separated_of g)) ≡ g.input.states + place_count (play_of g) (controller_counters (separated_of g))
  unfolding place_count play_of arena_of separated_of graph_of
  entries_counted = controller_long (separated_of g)

  places_counted : {n : ℕ} → n ≡ length (controller_entries (separated_of g))
      → n - g.input.states ≡ place_count (play_of g) (controller_counters (separated_of g))
  places_counted e = omega (arith, e, entries_counted)

  fit : {n : ℕ} → n ≡ length (controller_entries (separated_of g)) → n - g.input.states ≤ 4096 → places_fit g ≡ true
  unfolding places_fit
  fit e b =
      le-leb (g.input.states * g.output.states * controller_counters (separated_of g)) 4096 (omega (arith, counted_places, places_counted e, b))

  unfit : {n : ℕ} → n ≡ length (controller_entries (separated_of g)) → 4096 < n - g.input.states → places_fit g ≡ false
  unfolding places_fit
  unfit e b =
      lt-leb (g.input.states * g.output.states * controller_counters (separated_of g)) 4096 (omega (arith, counted_places, places_counted e, b))

-- what the check of a table asks for
pub ready : (g : Game) (l : List ℕ) {n m w : ℕ} → acceptance g ≡ accepted → n ≡ length (controller_entries (separated_of g)) → length l ≡ n
    → n - g.input.states ≤ 4096 → m ≡ controller_counters (separated_of g) → 24576 ≤ w
    → Ready g m l × (n - g.input.states ≡ place_count (play_of g) m) × (24576 ≤ w)
ready g l {n} {m} a e h b c s =
    let p : n - g.input.states ≡ place_count (play_of g) m = places_counted g e ∙ ap (place_count (play_of g)) (sym c) in
    (record { accepted = a; counters = c; long = h ∙ e; few = omega (arith, p, b) }, p, s)

-- ---- a finding refutes that the table wins

exactly : (g : Game) (l w : List ℕ) (r : Checked) → Told g l w r → checker_number r ≡ 0 → (r ≡ Ok Accepted) ↔ ControllerWins (play_of g) (controller_of g l)
unfolding Told
exactly g l w (Ok Accepted) t z = (λ e. t, λ v. refl)
exactly g l w (Ok (BadStart i)) t z = (
  λ e. let z : ◌≡◌ {A = ℕ} 0 1 = cc in absurd (omega arith),
  λ v. absurd (refute_start (play_of g) (controller_of g l) i.0 t v),
)
exactly g l w (Ok (BadRow n j)) t z = (
  λ e. let z : ◌≡◌ {A = ℕ} 0 1 = cc in absurd (omega arith),
  λ v. absurd (refute_row (play_of g) (controller_of g l) (walk_at g w) n j.0 t v),
)
exactly g l w (Ok (BadRound n b q)) t z = (
  λ e. let z : ◌≡◌ {A = ℕ} 0 1 = cc in absurd (omega arith),
  λ v. absurd (refute_round (play_of g) (controller_of g l) (walk_at g w) n b (requirement_of (requirement_at g q)) t.1 v),
)
exactly g l w (Err n) t z = (λ e. let z : ◌≡◌ {A = ℕ} 0 1 = cc in absurd (omega arith), λ v. absurd (omega (arith, t, z)))

-- "Every controller of ours in a game of this size is accepted.": it wins
won : (g : Game) → acceptance g ≡ accepted → SystemWins (play_of g) → ControllerWins (play_of g) (controller_of g (controller_entries (separated_of g)))
unfolding play_of DemandThree
won g a v = (demand_three_system g a (wins_verdict (separated_of g) v)).0

-- ---- refusals

module _ (g : Game) (l w : List ℕ) where
  refused : (r : Refusal) → 1 ≤ number r → number r ≡ first_of (check_tests g l (length w)) → Checks g l w w (Err r)
  unfolding Told
  refused r b e = record {
    number = e;
    accepts = λ z. absurd (omega (arith, z));
    told = b;
    ours = λ z. absurd (omega (arith, z));
    fits = omega arith;
    long = refl;
    rest = λ k h. refl;
    whole = λ h. refl;
  }

  first : first_of (check_tests g l (length w)) ≡ after (acceptance g) (first_of ((19, fitting g l) ∷ (20, places_fit g) ∷ (8, leb 24576 (length w)) ∷ []))
  unfolding check_tests
  first = game_after g ((19, fitting g l) ∷ (20, places_fit g) ∷ (8, leb 24576 (length w)) ∷ [])

  pub faulty : (r : Refusal) → acceptance g ≡ Err r → Checks g l w w (Err r)
  faulty r e = refused r (refused_code g r e).0 (sym (first ∙ rw e))

  module _ (a : acceptance g ≡ accepted) where
    tried : first_of (check_tests g l (length w)) ≡ first_of ((19, fitting g l) ∷ (20, places_fit g) ∷ (8, leb 24576 (length w)) ∷ [])
    tried = first ∙ rw a

    no_fit : {n : ℕ} → n ≡ length (controller_entries (separated_of g)) → length l ≢ n → fitting g l ≡ false
    unfolding fitting
    no_fit e d = ne_eqb (length l) (length (controller_entries (separated_of g))) (λ z. d (z ∙ sym e))

    pub misfit : {n : ℕ} → n ≡ length (controller_entries (separated_of g)) → length l ≢ n → Checks g l w w (Err NotControllers)
    unfolding first_of
    misfit e d = refused NotControllers (omega arith) (sym (tried ∙ numbers (fitting g l) (places_fit g) (leb 24576 (length w)) (no_fit e d)))
      where
        numbers : (a b c : Bool) → a ≡ false → first_of ((19, a) ∷ (20, b) ∷ (8, c) ∷ []) ≡ 19
        numbers a b c h = ap (λ (x : Bool). first_of ((19, x) ∷ (20, b) ∷ (8, c) ∷ [])) h

    module _ {n : ℕ} (e : n ≡ length (controller_entries (separated_of g))) (h : length l ≡ n) where
      fits : fitting g l ≡ true
      unfolding fitting
      fits = eq-eqb (length l) (length (controller_entries (separated_of g))) (h ∙ e)

      many_number : first_of (check_tests g l (length w)) ≡ first_of ((20, places_fit g) ∷ (8, leb 24576 (length w)) ∷ [])
      unfolding first_of
      many_number = tried ∙ ap (λ (x : Bool). first_of ((19, x) ∷ (20, places_fit g) ∷ (8, leb 24576 (length w)) ∷ [])) fits

      pub many : 4096 < n - g.input.states → Checks g l w w (Err TooManyRows)
      unfolding first_of
      many b = refused TooManyRows (omega arith) (sym (many_number ∙ ap (λ (x : Bool). first_of ((20, x) ∷ (8, leb 24576 (length w)) ∷ [])) (unfit g e b)))

      module _ (b : n - g.input.states ≤ 4096) where
        short_number : first_of (check_tests g l (length w)) ≡ first_of ((8, leb 24576 (length w)) ∷ [])
        unfolding first_of
        short_number = many_number ∙ ap (λ (x : Bool). first_of ((20, x) ∷ (8, leb 24576 (length w)) ∷ [])) (fit g e b)

        pub short : length w < 24576 → Checks g l w w (Err ShortScratch)
        unfolding first_of
        short s = refused ShortScratch (omega arith) (sym (short_number ∙ ap (λ (x : Bool). first_of ((8, x) ∷ [])) (lt-leb 24576 (length w) s)))

        pub checked : {w' : List ℕ} {r : Checked} → 24576 ≤ length w → Found g l w w' r → Checks g l w w' r
        unfolding first_of
        checked {w'} {r} s F = record {
          number = F.number ∙ sym (short_number ∙ ap (λ (x : Bool). first_of ((8, x) ∷ [])) (le-leb 24576 (length w) s));
          accepts = λ z. exactly g l w' r F.told F.number;
          told = F.told;
          ours = λ z v i. (exactly g l w' r F.told F.number).1 (ours_win v i);
          fits = F.fits;
          long = F.long;
          rest = F.rest;
          whole = F.whole;
        }
          where
            ours_win : SystemWins (play_of g) → l ≡ controller_entries (separated_of g) → ControllerWins (play_of g) (controller_of g l)
            ours_win v i = subst (λ (x : List ℕ). ControllerWins (play_of g) (controller_of g x)) (sym i) (won g a v)
