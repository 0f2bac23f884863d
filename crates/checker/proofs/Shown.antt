-- What the searches of a table show.
--
--   every, unmarked      : the arrays before the searches
--   first_found, written : a round behind the way to its first place
--   start_shown          : a start that is none
--   row_shown            : a row that is none, after the way to its place
--   wins_shown           : the table wins
--   round_shown          : a round that breaks a requirement, behind the way to its first place
use Prim.Native.Nat.{ℕ, zero, ◌+◌, ◌-◌, ◌*◌, ◌/◌, ◌%◌, ◌≤◌, ◌<◌}
use native.Mathlib.Nat.{mod-lt}
use mathlib.Core.Path.{◌≡◌, refl, sym, ◌∙◌, ap, subst}
use mathlib.Core.Bool.{true}
use mathlib.Core.List.{List}
use native.Mathlib.Omega.{arith}
use lib.ListN.{length, get_or, replicate, length-replicate, get_or-replicate}
use borrow.Author.Tests.{eq-eqb}
use Rattle.finite.proofs.Lists.{all_default}
use Rattle.finite.proofs.Bounded.{count_le}
use Rattle.arena.specs.Arena.{arena_of}
use Rattle.arena.specs.Play.{Configuration}
use Rattle.game.specs.declared.Game.{Game}
use Rattle.game.specs.Access.{requirement_at}
use Rattle.game.proofs.Laws.{accepted_fits}
use Rattle.play.specs.Play.{graph_of, requirement_of, separated_of}
use Rattle.theory.specs.Entries.{controller_counters, controller_table}
use Rattle.demands.specs.Demands.{play_of, controller_of}
use Rattle.checker_places.specs.Place.{place_count, placed}
use Rattle.checker_places.specs.Finding as finding
use Rattle.checker_search.specs.Turns.{marked, enters, Grid}
use Rattle.checker_search.proofs.Turns.{marked_not}
use Rattle.checker_search.specs.Queues.{at, InQueue, Queued, Unmarked, Exhausted, Finders, Copied, FirstAt}
use Rattle.checker_pairs.specs.Pairs.{Broken, JudgeFits, Judged}
use Rattle.checker_pairs.specs.declared.Verdict.{Verdict}
use Rattle.checker_rows.specs.Rows.{Ready, Filled}
use Rattle.checker_rows.proofs.Leads as rows
use Rattle.checker_reach.specs.Reach.{starts, OpenFits, Opens, Scanned, ScanFits, Stem, StemFits}
use Rattle.checker_reach.specs.declared.Opened.{Opened}
use Rattle.checker_reach.specs.declared.Gap.{Gap}
use Rattle.std.specs.Prelude.{Option, IsSome}
use Rattle.std.specs.declared.option.Option.TheVariants.{None, Some}
use Rattle.checker_reach.proofs.Opening.{states}
use Rattle.checker_table.proofs.Table.{grid, row_input}
use Rattle.checker_table.proofs.Wins as wins
use Rattle.checker_table.proofs.Findings as findings
use Rattle.checker.specs.declared.Finding.TheVariants.{Accepted, BadStart, BadRow, BadRound}
use Rattle.checker.specs.Check.{walk_at, Told}
use Rattle.checker.specs.Steps.{RoundFits, RoundWritten, Found}
use Rattle.std.specs.declared.result.Result.TheVariants.{Ok}

-- ---- the arrays

every : (a : ℕ) → a < 4096 → marked (replicate 4096 1) a ≡ true
unfolding marked
every a b = eq-eqb (get_or (replicate 4096 1) a 0) 1 (get_or-replicate 4096 a 1 0 b)

unmarked : Unmarked (replicate 4096 0)
unmarked = record { long = length-replicate 4096 zero; none = λ a. marked_not (replicate 4096 0) a (λ e. omega (arith, e, all_default {A = ℕ} 4096 a 0)) }

-- ---- a round written behind the way to its first place

module _ {queue from : List ℕ} {n : ℕ} {walk : List ℕ} {c : ℕ} {room : List ℕ} (P : RoundFits queue from n walk c room) {v : ℕ} (e : v ≡ at walk 0) where
  pub first_some : (o : Option ℕ) → FirstAt queue n v o → IsSome o
  first_some None A = absurd (A P.there.0 P.there.1 (P.there.2 ∙ sym e))
  first_some (Some k) A = refl

  module _ {k : ℕ} (A : FirstAt queue n v (Some k)) where
    pub way_fits : {way : List ℕ} → length way ≡ 4096 → StemFits from k way room
    way_fits h = record { place = omega (arith, A.0, P.few); finders = P.finders k A.0; way_long = h; room_long = P.room_long }

    pub round_room : {way : List ℕ} {m : ℕ} → Stem queue from k room way m → (1 ≤ c) × (c ≤ length walk) × (m + (c - 1) ≤ length way)
    round_room S = (
      omega (arith, P.turns),
      omega (arith, P.walk_long, P.short),
      omega (arith, S.short, S.long, A.0, P.few, P.short, P.room_long),
    )

    pub written : {way room' : List ℕ} {m : ℕ} → Stem queue from k room way m → Copied walk 1 c way m room'
        → RoundWritten queue from n walk c room room' m
    written {way} S C = record {
      place = k;
      found = A.0;
      short = omega (arith, S.short, A.0, P.few);
      same = A.1 ∙ e;
      way = way;
      stem = S;
      round = C;
    }

-- ---- a table of the controller's length

module _ (g : Game) (M N : ℕ) (l : List ℕ) (R : Ready g M l) (e : N ≡ place_count (play_of g) M) where
  pub few : N ≤ 4096
  few = omega (arith, e, R.few)

  pub opens_fit : OpenFits g M N l (replicate 4096 1) (replicate 4096 0) (replicate 4096 0) (replicate 4096 0)
  opens_fit = record {
    ready = R;
    places = e;
    every = λ a b. every a (omega (arith, b, few));
    sized = record { marks = length-replicate 4096 zero; places = length-replicate 4096 zero; finders = length-replicate 4096 zero };
    unmarked = unmarked;
  }

  module _ (to : List ℕ) (F : Filled g l to N) where
    pub start_shown : (w : List ℕ) {m q f : List ℕ} {o : Opened} → Opens g N l m q f o → (i : ℕ) → o.bad ≡ Some i
        → Found g l w w (Ok (BadStart (record { 0 = i })))
    unfolding Told
    start_shown w O i b = record {
      number = refl;
      told = let x = O.bad i b in findings.start_found g M N l to R e F i x.1 x.2;
      fits = omega arith;
      long = refl;
      rest = λ k h. refl;
      whole = λ h. refl;
    }

    pub exhaust_fits : {m q f : List ℕ} {o : Opened} → Opens g N l m q f o
        → Grid g.input.states N g.input.moves to × Queued N m q f o.found
    exhaust_fits O = (grid g M N l to R e F, O.queued)

    -- the search from the starts, inside all places
    module _ (mark₀ queue₀ from₀ mark queue from : List ℕ) (o : Opened) (n : ℕ) (O : Opens g N l mark₀ queue₀ from₀ o)
        (E : Exhausted g.input.states N g.input.moves to (replicate 4096 1) mark₀ queue₀ from₀ o.found mark queue from n) where
      listed : InQueue (starts g l) (enters g.input.states g.input.moves to (replicate 4096 1)) N mark queue from n
      listed = E.listed (starts g l) (O.listed (enters g.input.states g.input.moves to (replicate 4096 1)))

      queue_few : n ≤ 4096
      queue_few = omega (arith, E.grown.queued.few, count_le N (marked mark), few)

      pub scan_fits : Grid g.input.states N g.input.moves to × ScanFits N queue n
      scan_fits = (grid g M N l to R e F, record { short = queue_few; below = E.grown.queued.below })

      finders : (k : ℕ) → k < n → Finders k from
      finders k b = record { earlier = λ i h. listed.queue.earlier i (omega (arith, b, h)) }

      pub stem_fits : (k : ℕ) (way room : List ℕ) → k < n → length way ≡ 4096 → 24576 ≤ length room → StemFits from k way room
      stem_fits k way room b v w = record { place = omega (arith, b, queue_few); finders = finders k b; way_long = v; room_long = w }

      -- a walk in the room is told by the game's counts
      walks : (room : List ℕ) → (λ i. placed (play_of g).inputs (controller_of g l).memories (at room i)) ≡ walk_at g room
      unfolding walk_at play_of arena_of separated_of graph_of controller_of controller_table
      walks room = refl

      pub row_shown : (s : Gap) (w w' : List ℕ) (m : ℕ) → Scanned g.input.states g.input.moves to queue n (Some s)
          → 24576 ≤ length w → Stem queue from s.at w w' m → Found g l w w' (Ok (BadRow m (record { 0 = s.input })))
      unfolding Told
      row_shown s w w' m S v Z = record {
        number = refl;
        told = subst (λ (x : ℕ → Configuration). finding.BadRow (play_of g) (controller_of g l) x m s.input) (walks w')
            (subst (finding.BadRow (play_of g) (controller_of g l) (λ i. placed (play_of g).inputs (controller_of g l).memories (at w' i)) m) input
            (findings.row_found g M N l to R e F (replicate 4096 1) mark queue from n listed s.at S.0 w w' m Z s.input S.1 S.2));
        fits = omega (arith, Z.short, S.0, queue_few, v);
        long = Z.long;
        rest = Z.rest;
        whole = λ z. absurd (omega (arith, z, Z.some));
      }
        where
          below : s.input < g.input.states
          below = (grid g M N l to R e F).move (at queue s.at % g.input.states) s.input
              (mod-lt (at queue s.at) (grid g M N l to R e F).some) S.1

          input : (at queue s.at / g.input.states * g.input.states + s.input) % (play_of g).inputs ≡ s.input
          input = ap (λ (x : ℕ). (at queue s.at / g.input.states * g.input.states + s.input) % x) (states g)
              ∙ row_input g M N l to R e F (at queue s.at) s.input below

      pub judge_fits : (walk : List ℕ) → length walk ≡ 24576 → JudgeFits g.input.states N g.input.moves to M g walk
      unfolding controller_counters
      judge_fits walk h = record {
        grid = grid g M N l to R e F;
        counters = omega (arith, R.counters);
        output = λ c b. omega (arith, rows.row_output g M l R c (rows.row_below g M l R N c e b), rows.outputs_most g M l R);
        few = (accepted_fits g R.accepted).few;
        assumed = λ r b. ((accepted_fits g R.accepted).requirement r b).few_assumed;
        guaranteed = λ r b. ((accepted_fits g R.accepted).requirement r b).few_guaranteed;
        walk_long = h;
      }

      module _ (good : o.bad ≡ None) (S : Scanned g.input.states g.input.moves to queue n None) (walk : List ℕ) where
        pub wins_shown : (w : List ℕ) → Judged g.input.states N g.input.moves to M g mark walk None → Found g l w w (Ok Accepted)
        unfolding Told
        wins_shown w J = record {
          number = refl;
          told = wins.wins g M N l to R e F (replicate 4096 1) mark₀ queue₀ from₀ mark queue from o n
              (λ a b. every a (omega (arith, b, few))) O good E S J.found;
          fits = omega arith;
          long = refl;
          rest = λ k h. refl;
          whole = λ h. refl;
        }

        module _ (v : Verdict) (J : Judged g.input.states N g.input.moves to M g mark walk (Some v)) where
          pub broken : Broken g.input.states N g.input.moves to M (requirement_at g v.requirement) J.found.1.0 mark walk v.round
          broken = J.found.1.2

          pub round_fits : (w : List ℕ) → 24576 ≤ length w → RoundFits queue from n walk v.round w
          round_fits w h =
              let D = broken.round in
              let W = D.walking in
              let first : 0 < v.round = omega (arith, D.turns) in
              record {
                few = queue_few;
                finders = finders;
                there = listed.found (at walk 0) (broken.reaches (at walk 0) (W.below 0 first) (W.inside 0 first));
                walk_long = J.walk_long;
                turns = D.turns;
                short = D.short;
                room_long = h;
              }

          pub round_shown : (w w' : List ℕ) (m : ℕ) → 24576 ≤ length w → RoundWritten queue from n walk v.round w w' m
              → Found g l w w' (Ok (BadRound (m + v.round - 1) (m - 1) v.requirement))
          unfolding Told
          round_shown w w' m u D =
              let Z = D.stem in
              let C = D.round in
              let c = broken.round.turns in
              record {
                number = refl;
                told = (
                  J.found.0,
                  subst
                      (λ (x : ℕ → Configuration). finding.BadRound (play_of g) (controller_of g l) x (m + v.round - 1) (m - 1)
                      (requirement_of (requirement_at g v.requirement))) (walks w')
                      (findings.round_found g M N l to R e F (replicate 4096 1) mark queue from n listed D.place D.found w D.way m Z
                      v.requirement J.found.1.0 walk w' v.round mark broken J.found.0 J.found.1.1 D.same C),
                );
                fits = omega (arith, D.short, broken.round.short, u);
                long = C.long ∙ Z.long;
                rest = λ k h. C.after k (omega (arith, h, c)) ∙ Z.rest k (omega (arith, h, c));
                whole = λ z. absurd (omega (arith, z, c));
              }
