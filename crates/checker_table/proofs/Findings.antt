-- What the checker's searches find is true of the table.
--
--   start_found     : a start that is none
--   stem_stepped    : the way to a queue place is a walk of the table
--   row_found       : such a walk, and the row after it that is none
--   round_found     : such a walk that goes on in a round, and the requirement that the round breaks
use Prim.Native.Nat.{ℕ, suc, ◌+◌, ◌-◌, ◌*◌, ◌/◌, ◌%◌, ◌≤◌, ◌<◌}
use native.Mathlib.Nat.{mod-lt}
use mathlib.Core.Path.{◌≡◌, sym, ◌∙◌, ap}
use mathlib.Core.Bool.{Bool, true, false}
use mathlib.Core.List.{List, Memᴰ}
use native.Mathlib.Omega.{arith}
use native.Mathlib.Decide.{ℕ_discrete, dec_lt}
use lib.Arith.{digits_div}
use lib.Dec.{eqb}
use lib.ListN.{get_or}
use borrow.Author.Tests.{eqb-true}
use Rattle.finite.proofs.Truth.{and_left, and_right}
use Rattle.bits.specs.Member.{has}
use Rattle.sets.specs.Words.{sets_in}
use Rattle.finite.specs.Tabulate.{tabulate}
use Rattle.arena.specs.Arena.{arena_of}
use Rattle.arena.specs.Table.{ControllerTable}
use Rattle.game.specs.declared.Requirement.{Requirement as RequirementRecord}
use Rattle.game.specs.declared.Game.{Game}
use Rattle.game.specs.Access.{requirement_at}
use Rattle.play.specs.Play.{requirement_of, requirements_of, separated_of}
use Rattle.demands.specs.Demands.{play_of, controller_of}
use Rattle.checker_places.specs.Place.{place_count, placed, starting, turns}
use Rattle.checker_places.specs.Finding.{BadStart, BadRow, BadRound}
use Rattle.checker_places.specs.Marked.{Stepped}
use Rattle.checker_places.proofs.WalkPart.{entry_in, entry_of}
use Rattle.checker_places.proofs.Found as found
use Rattle.checker_search.specs.Turns.{enters}
use Rattle.checker_search.specs.Queues.{at, InQueue, Copied}
use Rattle.checker_search.proofs.Turns.{enters_follows}
use Rattle.checker_rounds.specs.Rounds.{assumption, Walking}
use Rattle.checker_pairs.specs.Pairs.{guarantee, Broken}
use Rattle.checker_rows.specs.Rows.{Ready, Filled}
use Rattle.checker_rows.proofs.Leads.{playing}
use Rattle.checker_reach.specs.Reach.{starts, Stem}
use Rattle.checker_reach.proofs.Opening.{memories, states}
use Rattle.checker_table.proofs.Table.{count_places, few_places, row_input, row_leads, grid, moves, follows_turns}

guarantee_in : (q : RequirementRecord) (b : ℕ) → b < q.guaranteed → Memᴰ (has (guarantee q b)) (requirement_of q).guarantees
unfolding requirement_of tabulate
guarantee_in q b h = entry_in (λ k. has (guarantee q k)) 0 q.guaranteed b (omega arith) (omega (arith, h))

assumption_of : (q : RequirementRecord) (s : ℕ → Bool) → Memᴰ s (requirement_of q).assumptions → (j : ℕ) × (j < q.assumed) × (s ≡ has (assumption q j))
unfolding requirement_of tabulate
assumption_of q s m = let v = entry_of (λ k. has (assumption q k)) 0 q.assumed s m in (v.0, omega (arith, v.2), v.3)

requirement_in : (g : Game) (r : ℕ) → r < g.k → Memᴰ (requirement_of (requirement_at g r)) (play_of g).requirements
unfolding play_of arena_of separated_of requirements_of tabulate
requirement_in g r h = entry_in (λ k. requirement_of (requirement_at g k)) 0 g.k r (omega arith) (omega (arith, h))

module _ (g : Game) (M N : ℕ) (l to : List ℕ) (R : Ready g M l) (e : N ≡ place_count (play_of g) M) (F : Filled g l to N) where
  abbrev I : ℕ
  I = g.input.states

  abbrev T : ControllerTable
  T = controller_of g l

  counters : (controller_of g l).memories ≡ M
  counters = memories g l ∙ sym R.counters

  few : place_count (play_of g) (controller_of g l).memories ≤ 65535
  few = few_places g M N l to R e F

  pub start_found : (i : ℕ) → (play_of g).in_initial i ≡ true → starting (play_of g) (controller_of g l) i ≡ 65535 → BadStart (play_of g) (controller_of g l) i
  start_found i h z = found.found_start (play_of g) T (playing g) few i h z

  module _ (all mark queue from : List ℕ) (n : ℕ)
      (L : InQueue (starts g l) (enters g.input.states g.input.moves to all) N mark queue from n) (k : ℕ) (b : k < n)
      (room room' : List ℕ) (m : ℕ) (S : Stem queue from k room room' m) where
    place_below : (i : ℕ) → i < n → at queue i < N
    place_below i c = L.below (at queue i) (L.known i c)

    -- each entry of the way is a queue place
    entry : (i : ℕ) → i < m → (j : ℕ) × (j < n) × (at room' i ≡ at queue j)
    entry i c = go (ℕ_discrete i 0)
      where
        go : Dec (i ≡ 0) → (j : ℕ) × (j < n) × (at room' i ≡ at queue j)
        go (yes z) = (S.first.found, omega (arith, S.first.below, b), ap (at room') z ∙ S.first.here)
        go (no d) =
            let p : suc (i - 1) ≡ i = omega (arith, d) in
            let s = S.link (i - 1) (omega (arith, p, c)) in
            (s.found, omega (arith, s.below, b), ap (at room') (sym p) ∙ s.next)

    begin : starts g l (at room' 0) ≡ true
    begin =
        let r = S.first in
        ap (starts g l) r.here ∙ L.queue.first r.found (omega (arith, r.below, b)) r.by

    stem_stepped : Stepped (play_of g) (controller_of g l) (at room') m
    unfolding starts
    stem_stepped = record {
      some = S.some;
      below = λ i c. let v = entry i c in omega (arith, v.2, place_below v.0 v.1, count_places g M N l to R e F);
      initial = ap (λ (x : ℕ). (play_of g).in_initial (at room' 0 % x)) (states g)
          ∙ and_left ((play_of g).in_initial (at room' 0 % I)) (eqb (starting (play_of g) T (at room' 0 % I)) (at room' 0)) begin;
      start = ap (λ (x : ℕ). starting (play_of g) T (at room' 0 % x)) (states g)
          ∙ eqb-true (starting (play_of g) T (at room' 0 % I)) (at room' 0)
          (and_right ((play_of g).in_initial (at room' 0 % I)) (eqb (starting (play_of g) T (at room' 0 % I)) (at room' 0)) begin);
      turn = λ i c.
          let s = S.link i c in
          let y = s.finder in
          let t = enters_follows I N g.input.moves to all (at queue y) (at queue s.found)
          (L.queue.later s.found y (omega (arith, s.below, b)) s.by) in
          let v : at queue y < N = let w = entry i (omega (arith, c)) in omega (arith, s.here, w.2, place_below w.0 w.1) in
          (λ x. turns (play_of g) T (s.here x) (s.next x)) ∙ sym (follows_turns g M N l to R e F (at queue y) (at queue s.found) v) ∙ t;
    }

    -- the row after the way, for the next input j
    module _ (j : ℕ) (h : has (get_or (sets_in g.input.moves) (at queue k % g.input.states) 0) j ≡ true)
        (z : at to (at queue k / g.input.states * g.input.states + j) ≡ 65535) where
      u : ℕ
      u = at queue k

      u_below : at queue k < N
      u_below = place_below k b

      input : j < g.input.states
      input = (grid g M N l to R e F).move (at queue k % I) j (mod-lt (at queue k) (grid g M N l to R e F).some) h

      pub row_found : BadRow (play_of g) (controller_of g l) (λ i. placed (play_of g).inputs (controller_of g l).memories (at room' i)) m
          ((at queue k / g.input.states * g.input.states + j) % (play_of g).inputs)
      row_found =
          found.found_row (play_of g) T (playing g) few (at room') m stem_stepped (at queue k / I * I + j)
          (ap (λ (x : ℕ). (at queue k / I * I + j) / x) (states g) ∙ digits_div (at queue k / I) input ∙ ap (λ (x : ℕ). x / I) (sym S.last)
          ∙ ap (λ (x : ℕ). at room' (m - 1) / x) (sym (states g)))
          ((λ i. (play_of g).in_move ((ap (λ (x : ℕ). at room' (m - 1) % x) (states g) ∙ ap (λ (x : ℕ). x % I) S.last) i)
          ((ap (λ (x : ℕ). (at queue k / I * I + j) % x) (states g) ∙ row_input g M N l to R e F (at queue k) j input) i))
          ∙ sym (moves g M N l to R e F (at queue k % I) j (mod-lt (at queue k) (grid g M N l to R e F).some)) ∙ h)
          (sym (row_leads g M N l to R e F (at queue k) j u_below input) ∙ z)

    -- a round from queue place k, outside a guarantee, written behind the way
    module _ (r b' : ℕ) (walk room'' : List ℕ) (c : ℕ) (reached : List ℕ)
        (B : Broken g.input.states N g.input.moves to M (requirement_at g r) b' reached walk c) (rk : r < g.k)
        (gb : b' < (requirement_at g r).guaranteed) (same : at queue k ≡ at walk 0) (C : Copied walk 1 c room' m room'') where
      W : Walking g.input.states N g.input.moves to B.set B.round.place B.round.place walk c
      W = B.round.walking

      -- an entry from the end of the way on is one of the round
      behind : (i : ℕ) → m ≤ i + 1 → i + 1 < m + c → at room'' i ≡ at walk (i + 1 - m)
      behind i a d = go (ℕ_discrete (i + 1) m)
        where
          go : Dec (i + 1 ≡ m) → at room'' i ≡ at walk (i + 1 - m)
          go (yes z) =
              let p : i ≡ m - 1 = omega (arith, z) in
              let o : i + 1 - m ≡ 0 = omega (arith, z) in
              C.before i (omega (arith, z)) ∙ ap (at room') p ∙ S.last ∙ same ∙ ap (at walk) (sym o)
          go (no y) =
              let p : m + (i - m) ≡ i = omega (arith, a, y) in
              let o : 1 + (i - m) ≡ i + 1 - m = omega (arith, a, y) in
              ap (at room'') (sym p) ∙ C.here (i - m) (omega (arith, a, d, y)) ∙ ap (at walk) o

      within : (i : ℕ) → i < m + c - 1 → at room'' i < place_count (play_of g) (controller_of g l).memories
      within i a = go (dec_lt i m)
        where
          go : Dec (i < m) → at room'' i < place_count (play_of g) (controller_of g l).memories
          go (yes z) = omega (arith, C.before i z, stem_stepped.below i z)
          go (no d) =
              omega (arith, behind i (omega (arith, d)) (omega (arith, a)), W.below (i + 1 - m) (omega (arith, a, d)), count_places g M N l to R e F)

      turn : (i : ℕ) → suc i < m + c - 1 → turns (play_of g) (controller_of g l) (at room'' i) (at room'' (suc i)) ≡ true
      turn i a = go (dec_lt (suc i) m)
        where
          go : Dec (suc i < m) → turns (play_of g) (controller_of g l) (at room'' i) (at room'' (suc i)) ≡ true
          go (yes z) = (λ x. turns (play_of g) T (C.before i (omega (arith, z)) x) (C.before (suc i) z x)) ∙ stem_stepped.turn i z
          go (no d) =
              let o : suc i + 1 - m ≡ suc (i + 1 - m) = omega (arith, d) in
              let h = behind i (omega (arith, d)) (omega (arith, a)) in
              let j = behind (suc i) (omega (arith, d)) (omega (arith, a)) ∙ ap (at walk) o in
              (λ x. turns (play_of g) T (h x) (j x))
              ∙ sym (follows_turns g M N l to R e F (at walk (i + 1 - m)) (at walk (suc (i + 1 - m))) (W.below (i + 1 - m) (omega (arith, a, d))))
              ∙ W.turn (i + 1 - m) (omega (arith, a, d))

      round_stepped : Stepped (play_of g) (controller_of g l) (at room'') (m + c - 1)
      round_stepped =
          let zeroth = C.before 0 S.some in
          record {
            some = omega (arith, S.some, B.round.turns);
            below = within;
            initial = ap (λ (x : ℕ). (play_of g).in_initial (x % (play_of g).inputs)) zeroth ∙ stem_stepped.initial;
            start = ap (λ (x : ℕ). starting (play_of g) T (x % (play_of g).inputs)) zeroth ∙ stem_stepped.start ∙ sym zeroth;
            turn = turn;
          }

      closes : at room'' (m + c - 1 - 1) ≡ at room'' (m - 1)
      closes =
          let t = B.round.turns in
          let s = S.some in
          let p : m + c - 1 - 1 + 1 - m ≡ c - 1 = omega (arith, t, s) in
          let o : m - 1 + 1 - m ≡ 0 = omega (arith, s) in
          behind (m + c - 1 - 1) (omega (arith, t, s)) (omega (arith, t, s)) ∙ ap (at walk) p ∙ W.last
          ∙ sym (behind (m - 1) (omega (arith, s)) (omega (arith, t, s)) ∙ ap (at walk) o ∙ W.first)

      outside : (i : ℕ) → m - 1 ≤ i → i < m + c - 1
          → has (guarantee (requirement_at g r) b') (at room'' i / (play_of g).inputs / (controller_of g l).memories) ≡ false
      outside i a d =
          let h = behind i (omega (arith, a, S.some)) (omega (arith, d)) in
          let j : i + 1 - m < c = omega (arith, a, d, S.some) in
          (λ x. has (guarantee (requirement_at g r) b') (h x / states g x / counters x))
          ∙ B.outside (at walk (i + 1 - m)) (W.below (i + 1 - m) j) (W.inside (i + 1 - m) j)

      visited : (s : ℕ → Bool) → Memᴰ s (requirement_of (requirement_at g r)).assumptions
          → (i : ℕ) × (m - 1 ≤ i) × (i < m + c - 1) × (s (at room'' i % (play_of g).inputs) ≡ true)
      visited s n' =
          let v = assumption_of (requirement_at g r) s n' in
          let w = B.round.visits v.0 v.1 in
          let p : w.0 + m - 1 + 1 - m ≡ w.0 = omega (arith, S.some) in
          let h = behind (w.0 + m - 1) (omega (arith, S.some)) (omega (arith, S.some, w.1)) ∙ ap (at walk) p in
          (w.0 + m - 1, omega (arith, S.some), omega (arith, S.some, w.1), (λ x. v.2 x (h x % states g x)) ∙ w.2)

      pub round_found : BadRound (play_of g) (controller_of g l) (λ i. placed (play_of g).inputs (controller_of g l).memories (at room'' i)) (m + c - 1) (m - 1)
          (requirement_of (requirement_at g r))
      round_found =
          found.found_round (play_of g) T (playing g) few (at room'') (m + c - 1) round_stepped (m - 1) (requirement_of (requirement_at g r))
          (has (guarantee (requirement_at g r) b')) (omega (arith, S.some, B.round.turns)) closes (requirement_in g r rk)
          (guarantee_in (requirement_at g r) b' gb) outside visited
