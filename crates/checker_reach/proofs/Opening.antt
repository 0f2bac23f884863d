-- The first configurations in the queue, one input after the other.
--
--   start_below        : a start that is not none leads to a place
--   Opening            == the inputs below i are looked at
--   opening-*          : how that begins, goes on and ends
use Prim.Native.Nat.{ℕ, ◌+◌, ◌%◌, ◌≤◌, ◌<◌}
use mathlib.Core.Path.{◌≡◌, refl, sym, ◌∙◌, ap}
use mathlib.Core.Bool.{Bool, true, false}
use mathlib.Core.List.{List}
use mathlib.Core.Logic.{◌≢◌, inl, inr}
use native.Mathlib.Omega.{arith}
use borrow.Author.Tests.{eq-eqb}
use Rattle.std.specs.declared.option.Option.TheVariants.{None, Some}
use Rattle.finite.proofs.Truth.{clash, and_intro}
use Rattle.finite.proofs.Bounded.{below_suc}
use Rattle.graphs.specs.Graph.{begins}
use Rattle.arena.specs.Arena.{arena_of}
use Rattle.game.specs.declared.Game.{Game}
use Rattle.play.specs.Play.{graph_of, separated_of}
use Rattle.theory.specs.Entries.{controller_counters, controller_table}
use Rattle.demands.specs.Demands.{play_of, controller_of}
use Rattle.checker_places.specs.Place.{place_count, starting}
use Rattle.checker_places.proofs.Place.{place_below, lead_cases, named_inside}
use Rattle.checker_places.proofs.Found.{starting_input}
use Rattle.checker_places.proofs.Listed.{listed_none}
use Rattle.checker_search.specs.Turns.{marked}
use Rattle.checker_search.specs.Queues.{at, InQueue, Queued, FinderFits, Visited}
use Rattle.checker_rows.proofs.Leads.{playing}
use Rattle.checker_reach.specs.Reach.{starts, OpenFits, Opens}

pub memories : (g : Game) (l : List ℕ) → (controller_of g l).memories ≡ controller_counters (separated_of g)
unfolding controller_of controller_table
memories g l = refl

pub states : (g : Game) → (play_of g).inputs ≡ g.input.states
unfolding play_of arena_of separated_of graph_of
states g = refl

initially : (g : Game) (i : ℕ) → (play_of g).in_initial i ≡ begins (graph_of g.input) i
unfolding play_of arena_of separated_of
initially g i = refl

pub record Opening (g : Game) (N : ℕ) (l mark queue from : List ℕ) (n i : ℕ) : Type 0 where
  pub queued : Queued N mark queue from n
  pub upto : i ≤ g.input.states
  pub listed : (s : ℕ → ℕ → Bool) → InQueue (starts g l) s N mark queue from n
  pub first : (j : ℕ) → j < i → (play_of g).in_initial j ≡ true → marked mark (starting (play_of g) (controller_of g l) j) ≡ true

module _ (g : Game) (M N : ℕ) (l all mark₀ queue₀ from₀ : List ℕ) (F : OpenFits g M N l all mark₀ queue₀ from₀) where
  count_places : N ≡ place_count (play_of g) (controller_of g l).memories
  count_places = F.places ∙ ap (place_count (play_of g)) (F.ready.counters ∙ sym (memories g l))

  short : place_count (play_of g) (controller_of g l).memories ≤ 65535
  short = omega (arith, count_places, F.places, F.ready.few)

  module _ (i : ℕ) (b : i < g.input.states) (d : starting (play_of g) (controller_of g l) i ≢ 65535) where
    inside : i < (play_of g).inputs
    inside = omega (arith, b, states g)

    pub start_below : starting (play_of g) (controller_of g l) i < N
    unfolding starting
    start_below =
        elim (lead_cases (play_of g) (controller_of g l).memories ((play_of g).opening i) i ((controller_of g l).start i)) [
          | inl x ↦ let c = place_below (play_of g) (controller_of g l).memories (record { input = i; output = x.0.state; memory = x.0.memory })
              (named_inside (play_of g) (controller_of g l).memories ((play_of g).opening i) i ((playing g).opening i) short inside x.0.names) in
              omega (arith, x.1, c, count_places)
          | inr e ↦ absurd (d e)
        ]

    start_starts : (play_of g).in_initial i ≡ true → starts g l (starting (play_of g) (controller_of g l) i) ≡ true
    unfolding starts
    start_starts h =
        let s : ℕ = starting (play_of g) (controller_of g l) i in
        let e : s % g.input.states ≡ i = ap (λ (x : ℕ). s % x) (sym (states g))
        ∙ starting_input (play_of g) (controller_of g l) (playing g) short i inside (omega (arith, start_below, short, count_places)) in
        and_intro (ap (play_of g).in_initial e ∙ h)
        (eq-eqb (starting (play_of g) (controller_of g l) (s % g.input.states)) s (ap (starting (play_of g) (controller_of g l)) e))

  pub opening_start : Opening g N l mark₀ queue₀ from₀ 0 0
  opening_start = record {
    queued = record {
      sized = F.sized;
      places = omega (arith, F.places, F.ready.few);
      few = omega arith;
      below = λ k b. absurd (omega (arith, b));
    };
    upto = omega arith;
    listed = λ s. listed_none (λ a. starts g l a ≡ true) (λ a b. s a b ≡ true) N (at queue₀) (at from₀) (marked mark₀) F.unmarked.none;
    first = λ j b. absurd (omega (arith, b));
  }

  module _ (mark queue from : List ℕ) (n i : ℕ) (O : Opening g N l mark queue from n i) where
    pub opening_skip : i < g.input.states → {r : Bool} → r ≡ begins (graph_of g.input) i → r ≡ false → Opening g N l mark queue from n (i + 1)
    opening_skip b {r} e h = record {
      queued = O.queued;
      upto = omega (arith, b);
      listed = O.listed;
      first = λ j l' m. elim (below_suc j i (omega (arith, l'))) [
        | inl z ↦ clash (ap (play_of g).in_initial (sym z) ∙ m) (initially g i ∙ sym e ∙ h)
        | inr k ↦ O.first j k m
      ];
    }

    pub opening_fits : FinderFits N 0 mark queue from n
    opening_fits = record { queued = O.queued; finder = omega arith }

    pub opening_bad : i < g.input.states → {r : Bool} → r ≡ begins (graph_of g.input) i → r ≡ true → (s : ℕ)
        → s ≡ starting (play_of g) (controller_of g l) i → s ≡ 65535 → Opens g N l mark queue from (record { found = n; bad = Some i })
    opening_bad b {r} e h s f z = record {
      queued = O.queued;
      listed = O.listed;
      first = λ m. absurd cc;
      bad = λ j m.
          let x : i ≡ j = cc in (
            omega (arith, b, x),
            ap (play_of g).in_initial (sym x) ∙ initially g i ∙ sym e ∙ h,
            ap (starting (play_of g) (controller_of g l)) (sym x) ∙ sym f ∙ z,
          );
    }

    pub opening_next : i < g.input.states → {r : Bool} → r ≡ begins (graph_of g.input) i → r ≡ true → (s : ℕ)
        → s ≡ starting (play_of g) (controller_of g l) i → s ≢ 65535 → (mark' queue' from' : List ℕ) (n' : ℕ)
        → Visited N all 0 s mark queue from n mark' queue' from' n' → Opening g N l mark' queue' from' n' (i + 1)
    opening_next b {r} e h s f d mark' queue' from' n' v = record {
      queued = v.grown.queued;
      upto = omega (arith, b);
      listed = λ t. v.listed (starts g l) t (λ m x z. ap (starts g l) f ∙ start_starts i b ne initial) (λ m k x z. absurd (omega (arith, z)))
          (O.listed t);
      first = λ j l' m. elim (below_suc j i (omega (arith, l'))) [
        | inl z ↦ ap (λ (y : ℕ). marked mark' (starting (play_of g) (controller_of g l) y)) z ∙ ap (marked mark') (sym f)
            ∙ v.there small (F.every s small)
        | inr k ↦ v.grown.marks (starting (play_of g) (controller_of g l) j) (O.first j k m)
      ];
    }
      where
        ne : starting (play_of g) (controller_of g l) i ≢ 65535
        ne z = d (f ∙ z)

        initial : (play_of g).in_initial i ≡ true
        initial = initially g i ∙ sym e ∙ h

        small : s < N
        small = omega (arith, f, start_below i b ne)

    pub opening_end : g.input.states ≤ i → Opens g N l mark queue from (record { found = n; bad = None })
    opening_end b = record {
      queued = O.queued;
      listed = O.listed;
      first = λ m j h. O.first j (omega (arith, (playing g).initial j h, states g, b)) h;
      bad = λ j m. absurd cc;
    }
