-- The table wins where every start and every row followed is legal, and every pair of a requirement and a guarantee is cleared.
--
--   reached_marked     : what the search from the starts marks
--   removals_hold      : what is taken out holds no round of interest
--   wins               : the table wins
use Prim.Native.Nat.{ℕ, ◌+◌, ◌*◌, ◌/◌, ◌%◌, ◌≤◌, ◌<◌}
use mathlib.Core.Path.{◌≡◌, sym, ◌∙◌, ap, subst}
use mathlib.Core.Bool.{Bool, true, false}
use mathlib.Core.List.{List, Memᴰ}
use mathlib.Core.Logic.{◌⊎◌, ◌≢◌, inl, inr}
use native.Mathlib.Nat.{mod-lt}
use native.Mathlib.Omega.{arith}
use lib.ListN.{get_or}
use Rattle.finite.specs.Tabulate.{tabulate}
use Rattle.bits.specs.Member.{has}
use Rattle.sets.specs.Words.{sets_in}
use Rattle.arena.specs.Arena.{Requirement, arena_of}
use Rattle.arena.specs.Table.{ControllerTable}
use Rattle.arena.specs.Play.{ControllerFirst, ControllerTurn, Cycle, configurations}
use Rattle.arena.specs.Win.{ControllerWins}
use Rattle.game.specs.declared.Requirement.{Requirement as RequirementRecord}
use Rattle.game.specs.declared.Game.{Game}
use Rattle.game.specs.Access.{requirement_at}
use Rattle.play.specs.Play.{requirement_of, requirements_of, separated_of}
use Rattle.demands.specs.Demands.{play_of, controller_of}
use Rattle.checker_places.specs.Place.{place_count, starting, leads, turns}
use Rattle.checker_places.specs.Suspect.{on_places, Suspect, Holds}
use Rattle.checker_places.specs.Marked.{Marked}
use Rattle.checker_places.proofs.WalkPart.{entry_in, entry_of}
use Rattle.checker_places.proofs.Accept.{places_start, places_cut, places_drop, places_none, accepted}
use Rattle.checker_search.specs.Turns.{marked, follows, enters}
use Rattle.checker_search.specs.Queues.{InQueue, Exhausted}
use Rattle.checker_search.proofs.Turns.{enters_here}
use Rattle.checker_rounds.specs.Rounds.{assumption, Removed}
use Rattle.checker_pairs.specs.Pairs.{guarantee, Removals, whole, next, Cleared}
use Rattle.checker_rows.specs.Rows.{Ready, Filled}
use Rattle.checker_rows.proofs.Leads.{playing}
use Rattle.checker_reach.specs.Reach.{starts, Opens, Scanned}
use Rattle.checker_reach.specs.declared.Opened.{Opened}
use Rattle.std.specs.declared.option.Option.TheVariants.{None}
use Rattle.checker_reach.proofs.Opening.{memories, states}
use Rattle.checker_table.proofs.Table.{count_places, few_places, row_input, row_leads, leads_below, grid, moves, follows_turns}

assumption_in : (q : RequirementRecord) (j : ℕ) → j < q.assumed → Memᴰ (has (assumption q j)) (requirement_of q).assumptions
unfolding requirement_of tabulate
assumption_in q j b = entry_in (λ k. has (assumption q k)) 0 q.assumed j (omega arith) (omega (arith, b))

guarantee_of : (q : RequirementRecord) (Q : ℕ → Bool) → Memᴰ Q (requirement_of q).guarantees → (b : ℕ) × (b < q.guaranteed) × (Q ≡ has (guarantee q b))
unfolding requirement_of tabulate
guarantee_of q Q m = let v = entry_of (λ k. has (guarantee q k)) 0 q.guaranteed Q m in (v.0, omega (arith, v.2), v.3)

requirement_of_lem : (g : Game) (q : Requirement) → Memᴰ q (play_of g).requirements → (r : ℕ) × (r < g.k) × (q ≡ requirement_of (requirement_at g r))
unfolding play_of arena_of separated_of requirements_of tabulate
requirement_of_lem g q m = let v = entry_of (λ r. requirement_of (requirement_at g r)) 0 g.k q m in (v.0, omega (arith, v.2), v.3)

module _ (g : Game) (M N : ℕ) (l to : List ℕ) (R : Ready g M l) (e : N ≡ place_count (play_of g) M) (F : Filled g l to N) where
  abbrev I : ℕ
  I = g.input.states

  abbrev T : ControllerTable
  T = controller_of g l

  within_count : (k : ℕ) → k < place_count (play_of g) (controller_of g l).memories → k < N
  within_count k b = omega (arith, b, count_places g M N l to R e F)

  turned : (c d : ℕ) → c < N → turns (play_of g) (controller_of g l) c d ≡ true → follows g.input.states g.input.moves to c d ≡ true
  turned c d b h = follows_turns g M N l to R e F c d b ∙ h

  few : place_count (play_of g) (controller_of g l).memories ≤ 65535
  few = few_places g M N l to R e F

  counters : M ≡ (controller_of g l).memories
  counters = R.counters ∙ sym (memories g l)

  module _ (q : RequirementRecord) (Q : ℕ → Bool) where
    abbrev Free : List ℕ → Type 0
    Free X =
        Holds (ControllerFirst (play_of g) (controller_of g l)) (ControllerTurn (play_of g) (controller_of g l)) (requirement_of q) Q
        (on_places (play_of g) (controller_of g l).memories (marked X))

    removed_hold : {X Y : List ℕ} → Free X → Removed g.input.states N g.input.moves to q X Y → Free Y
    removed_hold {X} {Y} H D = go D.why
      where
        pivot_below : D.pivot < place_count (play_of g) (controller_of g l).memories
        pivot_below = omega (arith, D.below, count_places g M N l to R e F)

        enter : (k : ℕ) → k < place_count (play_of g) (controller_of g l).memories → turns (play_of g) (controller_of g l) D.pivot k ≡ true
            → marked X k ≡ true → D.found k ≡ true
        enter k b t x = D.enter k (within_count k b) (turned D.pivot k D.below t) x

        on : (k m : ℕ) → k < place_count (play_of g) (controller_of g l).memories → m < place_count (play_of g) (controller_of g l).memories
            → D.found k ≡ true → turns (play_of g) (controller_of g l) k m ≡ true → marked X m ≡ true → D.found m ≡ true
        on k m a b f t x = D.on k m (within_count k a) (within_count m b) f (turned k m (within_count k a) t) x

        go : ((j : ℕ) × (j < q.assumed) × ((k : ℕ) → k < N → D.found k ≡ true → has (assumption q j) (k % g.input.states) ≡ false)
            × ((k : ℕ) → k < N → marked X k ≡ true → marked Y k ≡ false → (D.found k ≡ true) ⊎ (k ≡ D.pivot)))
            ⊎ ((D.found D.pivot ≡ false) × ((k : ℕ) → k < N → marked X k ≡ true → marked Y k ≡ false → k ≡ D.pivot))
            → Holds (ControllerFirst (play_of g) (controller_of g l)) (ControllerTurn (play_of g) (controller_of g l)) (requirement_of q) Q
            (on_places (play_of g) (controller_of g l).memories (marked Y))
        go (inl w) =
            places_cut (play_of g) T (playing g) few (requirement_of q) Q (marked X) (marked Y) D.found D.pivot H pivot_below enter on
            (has (assumption q w.0)) (assumption_in q w.0 w.1)
            (λ k b f. ap (λ (x : ℕ). has (assumption q w.0) (k % x)) (states g) ∙ w.2 k (within_count k b) f)
            (λ k b. w.3 k (within_count k b))
        go (inr w) =
            places_drop (play_of g) T (playing g) few (requirement_of q) Q (marked X) (marked Y) D.found D.pivot H pivot_below enter on w.0
            (λ k b. w.1 k (within_count k b))

    removals_hold : {X Y : List ℕ} → Free X → Removals g.input.states N g.input.moves to q X Y → Free Y
    removals_hold H whole = H
    removals_hold H (next S D) = removed_hold (removals_hold H S) D

  -- the search from the starts, inside all places, and no row after what it found is none
  module _ (all mark₀ queue₀ from₀ mark queue from : List ℕ) (o : Opened) (n : ℕ) (every : (a : ℕ) → a < N → marked all a ≡ true)
      (O : Opens g N l mark₀ queue₀ from₀ o) (good : o.bad ≡ None)
      (E : Exhausted g.input.states N g.input.moves to all mark₀ queue₀ from₀ o.found mark queue from n)
      (S : Scanned g.input.states g.input.moves to queue n None) where
    pub listed : InQueue (starts g l) (enters g.input.states g.input.moves to all) N mark queue from n
    listed = E.listed (starts g l) (O.listed (enters I g.input.moves to all))

    reached_marked : Marked (play_of g) (controller_of g l) (marked mark)
    reached_marked = record {
      below = λ k h. omega (arith, listed.below k h, count_places g M N l to R e F);
      first = λ i h. E.grown.marks (starting (play_of g) T i) (O.first good i h);
      on = λ k j h m. subst (λ (x : ℕ). marked mark (leads (play_of g) T (k / x * x + j)) ≡ true) (sym (states g))
          (on k j h (ap (λ (x : ℕ). (play_of g).in_move (k % x) j) (sym (states g)) ∙ m));
    }
      where
        on : (k j : ℕ) → marked mark k ≡ true → (play_of g).in_move (k % I) j ≡ true → marked mark (leads (play_of g) T (k / I * I + j)) ≡ true
        on k j h m =
            let v = listed.found k h in
            let b : k < N = listed.below k h in
            let i : j < I = omega (arith, (playing g).move (k % I) j m, states g) in
            let row = moves g M N l to R e F (k % I) j (mod_small k) ∙ m in
            let z = row_leads g M N l to R e F k j b i in
            let some : get_or to (k / I * I + j) 0 ≢ 65535 = subst (λ (x : ℕ). get_or to (x / I * I + j) 0 ≢ 65535) v.2
            (S v.0 v.1 j (ap (λ (x : ℕ). has (get_or (sets_in g.input.moves) (x % I) 0) j) v.2 ∙ row)) in
            let small : leads (play_of g) T (k / I * I + j) < N = leads_below g M N l to R e F (k / I * I + j)
            (omega (arith, row_input g M N l to R e F k j i, i)) (λ y. some (z ∙ y)) in
            let t = enters_here I N g.input.moves to all (grid g M N l to R e F) k j b row (omega (arith, z, small))
            (every (get_or to (k / I * I + j) 0) (omega (arith, z, small))) in
            ap (marked mark) (sym z)
            ∙ E.on v.0 (get_or to (k / I * I + j) 0) v.1 (omega (arith, z, small))
            (ap (λ (x : ℕ). enters I g.input.moves to all x (get_or to (k / I * I + j) 0)) v.2 ∙ t)
          where
            mod_small : (k : ℕ) → k % I < I
            mod_small k = mod-lt k (grid g M N l to R e F).some

    -- every pair is cleared: no round breaks a requirement
    module _ (clear : (i : ℕ) → i < g.k → (b : ℕ) → b < (requirement_at g i).guaranteed
        → Cleared g.input.states N g.input.moves to M (requirement_at g i) b mark) where
      none : (i : ℕ) → i < g.k → (b : ℕ) → b < (requirement_at g i).guaranteed
          → (r : Cycle (ControllerFirst (play_of g) (controller_of g l)) (ControllerTurn (play_of g) (controller_of g l)))
          → Suspect (requirement_of (requirement_at g i)) (has (guarantee (requirement_at g i) b))
          (configurations (ControllerFirst (play_of g) (controller_of g l)) (ControllerTurn (play_of g) (controller_of g l)) r) → ⊥
      none i a b c r s =
          let q : RequirementRecord = requirement_at g i in
          let Q : ℕ → Bool = has (guarantee q b) in
          let C = clear i a b c in
          let first = places_start (play_of g) T (playing g) few (marked mark) reached_marked (requirement_of q) Q (marked C.all)
          (λ k h o. C.outside k (listed.below k h) h
          (ap (λ (x : ℕ). has (guarantee q b) (k / x / M)) (sym (states g)) ∙ ap (λ (x : ℕ). has (guarantee q b) (k / (play_of g).inputs / x)) counters ∙ o)) in
          places_none (play_of g) T (playing g) few (requirement_of q) Q (marked C.rest) (removals_hold q Q first C.removals)
          (λ k h. C.none k (within_count k h)) r s

      pub wins : ControllerWins (play_of g) (controller_of g l)
      wins =
          accepted (play_of g) T (playing g) few (marked mark) reached_marked
          (λ q m Q n r s. let u = requirement_of_lem g q m in
          let v = guarantee_of (requirement_at g u.0) Q (subst (λ (x : Requirement). Memᴰ Q x.guarantees) u.2 n) in
          none u.0 u.1 v.0 v.1 r
          (subst (λ (x : ℕ → Bool). Suspect (requirement_of (requirement_at g u.0)) x
          (configurations (ControllerFirst (play_of g) T) (ControllerTurn (play_of g) T) r))
          v.2
          (subst (λ (x : Requirement). Suspect x Q (configurations (ControllerFirst (play_of g) T) (ControllerTurn (play_of g) T) r)) u.2 s)))
