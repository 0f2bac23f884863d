-- Where scratch is ready, what is read is the region; so the start and the rows that need no walk are right.
--
--   known_won, known_core : the region, and the nontrivial components
--   start_found, start_none : the start
--   same-push              : rows that need no walk
--   none_entries, none_filled : those of one input that are none
--   trivials_of                : the inputs in trivial components
--   pushed_all, pushed_trivials, pushed_of, pushed_within : the inputs whose rows with an output need no walk: those, or all where it has no move
--   pushes-*, plain_join   : their pushes, output after output, and all rows that need no walk
use Prim.Native.Nat.{ℕ, ◌+◌, ◌*◌, ◌<◌, ◌≤◌}
use native.Mathlib.Nat.{zero-mul}
use mathlib.Core.Path.{◌≡◌, refl, sym, ◌∙◌, ap, ap₂}
use mathlib.Core.Bool.{Bool, true, false, ◌&&◌, not}
use mathlib.Core.List.{List}
use mathlib.Core.Logic.{◌⊎◌, inl, inr, ◌≢◌}
use native.Mathlib.Omega.{arith}
use lib.ListN.{get_or}
use lib.Dec.{eqb, ltb}
use borrow.Author.Tests.{lt-ltb, ltb-true, eqb-true, eqb-false, eq-eqb, ne_eqb}
use Rattle.play.proofs.Moves.{moved_edge}
use Rattle.theory.proofs.Demands.{environment_counts}
use Rattle.finite.specs.Bounded.{any, least}
use Rattle.finite.proofs.Truth.{decide, clash, and_intro, and_left, and_right, and_false_left, or_cases, or_right, or_none, not_true, true_of, false_of}
use Rattle.finite.proofs.Bounded.{any_same, least_same, least_any, least_found, least_member, least_before, least_unique}
use Rattle.bits.specs.Member.{has, pack, within, both, sets_meet}
use Rattle.bits.proofs.Membership.{has_zero_lem, has_pack_below, has_within, pack_below}
use Rattle.bits.proofs.Compare.{meets_intro, nonzero_member}
use Rattle.sets.specs.Words.{capacity, bits_of, sets_in, set_count}
use Rattle.graphs.specs.Graph.{edge, begins, stuck}
use Rattle.graphs.specs.Component.{nontrivial}
use Rattle.graphs.proofs.Graph.{stuck_not, stuck_moves}
use Rattle.game.specs.declared.Game.{Game}
use Rattle.game.specs.declared.InSet.{InSet}
use Rattle.game.specs.declared.OutSet.{OutSet}
use Rattle.game.specs.Access.{out_initial}
use Rattle.game.proofs.Laws.{accepted_fits}
use Rattle.play.specs.Play.{graph_of, separated_of}
use Rattle.theory.specs.Region.{region, answers, opens}
use Rattle.theory.specs.Choice.{environment_row, environment_start, refused}
use Rattle.arena.specs.Table.{none, gives}
use Rattle.theory.specs.Entries.{entry}
use Rattle.theory.proofs.EnvironmentRow.{unanswered, row_pushed}
use Rattle.scratch.specs.Stored.{won_at, some_won_at}
use Rattle.scratch.proofs.Read.{ready_won}
use Rattle.environment_table.specs.Table.{Known, Roomy, EnvironmentFilled, EnvironmentLayout, Pushes}
use Rattle.environment_table.specs.Reading.{Shaped, refused_at, open_at, unanswered_at, lost_at, TrivialInputs, unwalked, pushed_at, Pushed, plain}
use Rattle.environment_table.specs.Pressing.{lost_in}
use Rattle.table_layout.specs.declared.Layout.{Layout}
use Rattle.table_layout.specs.Rows.{Entries, Wrote}
use Rattle.environment_table.proofs.Laid.{laid_block}
use Rattle.environment_table.proofs.Places.{pushed_state, filled_none, filled_join, filled_same, below_next}
use Rattle.environment_table.proofs.Reading.{unanswered_both}

-- what is read of the game's sets
pub unanswered_of : (l : List ℕ) (n m inner : ℕ) {j : ℕ} {x x' : InSet} {y y' : OutSet} → x ≡ x' → y ≡ y'
    → j ≡ unanswered_at l n m inner (bits_of x.0) (bits_of y.0) → j ≡ unanswered_at l n m inner (bits_of x'.0) (bits_of y'.0)
unanswered_of l n m inner p q e = e ∙ ap₂ (λ (a : InSet) (b : OutSet). unanswered_at l n m inner (bits_of a.0) (bits_of b.0)) p q

-- the initial states as sets
begins_has : (g : Game) (o : ℕ) → o < g.output.states → has (bits_of g.output.initial) o ≡ begins (separated_of g).output o
unfolding begins separated_of graph_of
begins_has g o b = rw (lt-ltb o g.output.states b) refl

starts_has : (g : Game) (i : ℕ) → i < g.input.states → has (bits_of g.input.initial) i ≡ begins (separated_of g).input i
unfolding begins separated_of graph_of
starts_has g i b = rw (lt-ltb i g.input.states b) refl

module _ (g : Game) (s : List ℕ) (inner : ℕ) (K : Known g s inner) where
  pub shaped : Shaped (set_count s) g.input.states g.output.states
  shaped = record { inputs = K.ready.fits.input.most; outputs = K.ready.fits.output.most; long = K.ready.laid.long }

  pub known_won : (j o : ℕ) → j < g.input.states → o < g.output.states → won_at (sets_in s) g.input.states inner j o ≡ region (separated_of g) j o
  known_won j o a b = ready_won K.ready j o a b

  pub known_core : (i : ℕ) → i < g.input.states → has inner i ≡ nontrivial (separated_of g).input i
  unfolding separated_of
  known_core i a = ap (λ (x : ℕ). has x i) K.ready.inner ∙ has_pack_below g.input.states (nontrivial (graph_of g.input)) i a

  pub input_edge : (i j : ℕ) → i < g.input.states → has (get_or (sets_in g.input.moves) i 0) j ≡ edge (separated_of g).input i j
  unfolding separated_of
  input_edge i j a = moved_edge g.input (accepted_fits g K.accepted).input i j a

  output_edge : (o p : ℕ) → o < g.output.states → has (get_or (sets_in g.output.moves) o 0) p ≡ edge (separated_of g).output o p
  unfolding separated_of
  output_edge o p a = moved_edge g.output (accepted_fits g K.accepted).output o p a

  -- the moves and the initial states of the outputs are outputs
  pub moves_within : (o y : ℕ) → o < g.output.states → y ≡ get_or (sets_in g.output.moves) o 0 → within y g.output.states ≡ true
  moves_within o y b e =
      has_within y g.output.states (λ p h. K.ready.fits.output.row_below o p b (ap (λ (k : ℕ). has k p) (sym e) ∙ h))

  pub initial_within : {y : OutSet} → y ≡ out_initial g → within (bits_of y.0) g.output.states ≡ true
  initial_within {y} e =
      has_within (bits_of y.0) g.output.states
      (λ p h. K.ready.fits.output.initial_below p (ap (λ (k : OutSet). has (bits_of k.0) p) (sym e) ∙ h))

  known_answers : (j o : ℕ) → j < g.input.states → o < g.output.states
      → some_won_at (sets_in s) g.input.states g.output.states inner j (get_or (sets_in g.output.moves) o 0)
      ≡ answers (separated_of g) (region (separated_of g)) j o
  unfolding some_won_at answers separated_of graph_of
  known_answers j o a b =
      any_same g.output.states (λ p. has (get_or (sets_in g.output.moves) o 0) p && won_at (sets_in s) g.input.states inner j p)
      (λ p. edge (separated_of g).output o p && region (separated_of g) j p)
      (λ p c. ap₂ ◌&&◌ (output_edge o p b) (known_won j p a c))

  known_opens : (i : ℕ) → i < g.input.states
      → some_won_at (sets_in s) g.input.states g.output.states inner i (bits_of g.output.initial) ≡ opens (separated_of g) i
  unfolding some_won_at opens separated_of graph_of
  known_opens i a =
      any_same g.output.states (λ p. has (bits_of g.output.initial) p && won_at (sets_in s) g.input.states inner i p)
      (λ p. begins (separated_of g).output p && region (separated_of g) i p)
      (λ p c. ap₂ ◌&&◌ (begins_has g p c) (known_won i p a c))

  -- the start

  known_start : unanswered_at (sets_in s) g.input.states g.output.states inner (bits_of g.input.initial) (bits_of g.output.initial)
      ≡ least g.input.states
      (refused (separated_of g))
  unfolding unanswered_at open_at refused
  known_start =
      least_same g.input.states
      (λ i. has (bits_of g.input.initial) i && not (some_won_at (sets_in s) g.input.states g.output.states inner i (bits_of g.output.initial)))
      (λ i. begins (separated_of g).input i && not (opens (separated_of g) i))
      (λ i c. ap₂ ◌&&◌ (starts_has g i c) (ap not (known_opens i c)))

  pub start_found : (j : ℕ)
      → j ≡ unanswered_at (sets_in s) g.input.states g.output.states inner (bits_of g.input.initial) (bits_of g.output.initial)
      → j < g.input.states
      → entry (gives 0 j) ≡ entry (environment_start (separated_of g))
  unfolding environment_start separated_of graph_of
  start_found j e b =
      let f = e ∙ known_start in
      rw (least_any g.input.states (refused (separated_of g)) (rw f at b), environment_start) (ap (λ (k : ℕ). entry (gives 0 k)) f)

  pub start_none : (j : ℕ)
      → j ≡ unanswered_at (sets_in s) g.input.states g.output.states inner (bits_of g.input.initial) (bits_of g.output.initial)
      → g.input.states ≤ j
      → entry none ≡ entry (environment_start (separated_of g))
  unfolding environment_start separated_of graph_of
  start_none j e b =
      let f = e ∙ known_start in
      rw (
        false_of (any g.input.states (refused (separated_of g))) (λ t. omega (arith, f, least_found g.input.states (refused (separated_of g)) t)),
        environment_start,
      ) refl

  -- rows that need no walk

  module _ (i o : ℕ) (a : i < g.input.states) (b : o < g.output.states) where
    row_none : (first h : ℕ) → first ≡ entry none → won_at (sets_in s) g.input.states inner i o ≡ true
        → first + 0 * h ≡ entry (environment_row (separated_of g) i h o)
    unfolding environment_row
    row_none first h q e = omega (arith, zero-mul h, q, is)
      where
        is : entry none ≡ entry (environment_row (separated_of g) i h o)
        is = rw (sym (known_won i o a b) ∙ e, environment_row) refl

    known_push : unanswered_at (sets_in s) g.input.states g.output.states inner (get_or (sets_in g.input.moves) i 0)
        (get_or (sets_in g.output.moves) o 0)
        ≡ least g.input.states (λ j. edge (separated_of g).input i j && not (answers (separated_of g) (region (separated_of g)) j o))
    unfolding unanswered_at open_at
    known_push =
        least_same g.input.states
        (λ j. has (get_or (sets_in g.input.moves) i 0) j
        && not (some_won_at (sets_in s) g.input.states g.output.states inner j (get_or (sets_in g.output.moves) o 0)))
        (λ j. edge (separated_of g).input i j && not (answers (separated_of g) (region (separated_of g)) j o))
        (λ j c. ap₂ ◌&&◌ (input_edge i j a) (ap not (known_answers j o c b)))

    row_push : (h j : ℕ) → won_at (sets_in s) g.input.states inner i o ≡ false → unwalked g i o ≡ true
        → j ≡ unanswered_at (sets_in s) g.input.states g.output.states inner (get_or (sets_in g.input.moves) i 0) (get_or (sets_in g.output.moves) o 0)
        → environment_row (separated_of g) i h o ≡ gives h j
    unfolding unanswered unwalked separated_of graph_of
    row_push h j e t f = row_pushed (separated_of g) i h o (sym (known_won i o a b) ∙ e) t ∙ ap (gives h) (sym (f ∙ known_push))

    -- the lowest such input is a state
    pushed_below_n : (j : ℕ) → won_at (sets_in s) g.input.states inner i o ≡ false → unwalked g i o ≡ true
        → j ≡ unanswered_at (sets_in s) g.input.states g.output.states inner (get_or (sets_in g.input.moves) i 0) (get_or (sets_in g.output.moves) o 0)
        → j < g.input.states
    pushed_below_n j e t f =
        pushed_state g i 0 o a (environment_counts (separated_of g)) b K.accepted (sym (known_won i o a b) ∙ e) 0 j (row_push 0 j e t f)

  -- the rows of an input that are none

  module _ (i : ℕ) (a : i < g.input.states) (won : ℕ) (w : won ≡ pack g.output.states (won_at (sets_in s) g.input.states inner i)) where
    won_has : (o : ℕ) → o < g.output.states → has won o ≡ won_at (sets_in s) g.input.states inner i o
    won_has o b = ap (λ (x : ℕ). has x o) w ∙ has_pack_below g.output.states (won_at (sets_in s) g.input.states inner i) o b

    -- those of the won outputs

    pub none_entries : (M every first : ℕ) (z : Layout) → EnvironmentLayout g.input.states M g.output.states z → ((h : ℕ) → has every h ≡ ltb h M)
        → first < 65536 → Entries z every first 0
    none_entries M every first z Z e b = record {
      counters = λ h x. omega (arith, Z.counters, ltb-true h M (sym (e h) ∙ x));
      small = λ h x. omega (arith, zero-mul h);
    }

    -- so the won rows of i are written
    pub none_filled : {l m : List ℕ} (M n every first : ℕ) (z : Layout) → first ≡ entry none → Roomy g M n
        → EnvironmentLayout g.input.states M g.output.states z
        → ((h : ℕ) → has every h ≡ ltb h M) → Wrote z i won every first 0 l m → EnvironmentFilled g (λ x h o. (x ≡ i) × (region (separated_of g) x o ≡ true)) l m
    none_filled M n every first z q R Z e W =
        filled_same g
        (laid_block g M n z R Z i won every first 0 e (λ h o lh b y. row_none i o a b first h q (sym (won_has o b) ∙ y)) W)
        (λ x h o lx lh lo p. (p.0, won_has o lo ∙ known_won i o a lo ∙ ap (λ (y : ℕ). region (separated_of g) y o) (sym p.0) ∙ p.1))

  -- a stuck output has an empty row

  pub row_stuck : (o : ℕ) → o < g.output.states → stuck (separated_of g).output o ≡ eqb (get_or (sets_in g.output.moves) o 0) 0
  row_stuck o b =
      elim (decide (eqb (get_or (sets_in g.output.moves) o 0) 0)) [
        | inl e ↦ true_of (stuck (separated_of g).output o) (λ f. let v = stuck_moves (separated_of g).output o f in empty_row v.0 v.1 e) ∙ sym e
        | inr e ↦
            let v = nonzero_member (get_or (sets_in g.output.moves) o 0) (eqb-false (get_or (sets_in g.output.moves) o 0) 0 e) in
            stuck_not (separated_of g).output o v.0 (sym (output_edge o v.0 b) ∙ v.1) ∙ sym e
      ]
    where
      empty_row : (p : ℕ) → edge (separated_of g).output o p ≡ true → eqb (get_or (sets_in g.output.moves) o 0) 0 ≡ true → ⊥
      empty_row p f e =
          clash (output_edge o p b ∙ f) (ap (λ (x : ℕ). has x p) (eqb-true (get_or (sets_in g.output.moves) o 0) 0 e) ∙ has_zero_lem p)

  -- the inputs whose rows with o need no walk, from those in trivial components and the moves of o
  pub pushed_of : (trivials o y : ℕ) {x : ℕ} → TrivialInputs g.input.states inner trivials → o < g.output.states
      → y ≡ get_or (sets_in g.output.moves) o 0
      → ((i : ℕ) → has x i ≡ pushed_at y g.input.states trivials i) → Pushed g x o
  unfolding unwalked pushed_at
  pushed_of trivials o y {x} L b q e = record { each = λ i. e i ∙ go i (decide (eqb y 0)) (decide (ltb i g.input.states)) }
    where
      stops : stuck (separated_of g).output o ≡ eqb y 0
      stops = row_stuck o b ∙ ap (λ (z : ℕ). eqb z 0) (sym q)

      go : (i : ℕ) → (eqb y 0 ≡ true) ⊎ (eqb y 0 ≡ false) → (ltb i g.input.states ≡ true) ⊎ (ltb i g.input.states ≡ false)
          → pushed_at y g.input.states trivials i ≡ (ltb i g.input.states && unwalked g i o)
      go i (inl f) (inl m) = rw (f, pushed_at) (m ∙ sym (and_intro m (or_right (not (nontrivial (separated_of g).input i)) (stops ∙ f))))
      go i (inl f) (inr m) = rw (f, pushed_at) (m ∙ sym (and_false_left (unwalked g i o) m))
      go i (inr f) (inl m) =
          rw (f, pushed_at)
          (L.each i
          ∙ ap (λ (z : Bool). ltb i g.input.states && z)
          (ap not (known_core i (ltb-true i g.input.states m)) ∙ sym (or_none (not (nontrivial (separated_of g).input i)) (stops ∙ f))))
      go i (inr f) (inr m) = rw (f, pushed_at) (L.each i ∙ and_false_left (not (has inner i)) m ∙ sym (and_false_left (unwalked g i o) m))

  -- those of them that are not won

  module _ (x o : ℕ) (P : Pushed g x o) (b : o < g.output.states) where
    pushed_below : (i : ℕ) → has x i ≡ true → i < g.input.states
    pushed_below i e = ltb-true i g.input.states (and_left (ltb i g.input.states) (unwalked g i o) (sym (P.each i) ∙ e))

    pushed_unwalked : (i : ℕ) → has x i ≡ true → unwalked g i o ≡ true
    pushed_unwalked i e = and_right (ltb i g.input.states) (unwalked g i o) (sym (P.each i) ∙ e)

    pub pushed_within : within x g.input.states ≡ true
    pushed_within = has_within x g.input.states pushed_below

    module _ (which : ℕ) (w : which ≡ pack g.input.states (lost_in (sets_in s) g.input.states inner x o)) where
      which_below : (i : ℕ) → has which i ≡ true → i < g.input.states
      which_below i e = pack_below g.input.states (lost_in (sets_in s) g.input.states inner x o) i (ap (λ (y : ℕ). has y i) (sym w) ∙ e)

      which_has : (i : ℕ) → i < g.input.states → has which i ≡ (has x i && not (won_at (sets_in s) g.input.states inner i o))
      unfolding lost_in lost_at
      which_has i a = ap (λ (y : ℕ). has y i) w ∙ has_pack_below g.input.states (lost_in (sets_in s) g.input.states inner x o) i a

      which_in : (i : ℕ) → has which i ≡ true → has x i ≡ true
      which_in i e = and_left (has x i) (not (won_at (sets_in s) g.input.states inner i o)) (sym (which_has i (which_below i e)) ∙ e)

      which_lost : (i : ℕ) → has which i ≡ true → won_at (sets_in s) g.input.states inner i o ≡ false
      which_lost i e =
          not_true (won_at (sets_in s) g.input.states inner i o)
          (and_right (has x i) (not (won_at (sets_in s) g.input.states inner i o)) (sym (which_has i (which_below i e)) ∙ e))

      in_which : (i : ℕ) → i < g.input.states → unwalked g i o ≡ true → region (separated_of g) i o ≡ false → has which i ≡ true
      in_which i a u r =
          which_has i a ∙ and_intro (P.each i ∙ and_intro (lt-ltb i g.input.states a) u) (ap not (known_won i o a b ∙ r))

      at_o : (i p : ℕ) → i < g.input.states → p ≡ o → unwalked g i p ≡ true → region (separated_of g) i p ≡ false → has which i ≡ true
      at_o i p a q u r = in_which i a (ap (unwalked g i) (sym q) ∙ u) (ap (region (separated_of g) i) (sym q) ∙ r)

      -- they are pushes, v being the inputs that o refuses
      module _ {v y : ℕ} (q : y ≡ get_or (sets_in g.output.moves) o 0)
          (e : v ≡ pack g.input.states (refused_at (sets_in s) g.input.states g.output.states inner y)) (i : ℕ) (d : has which i ≡ true) where
        unanswered_is : least g.input.states (both (get_or (sets_in g.input.moves) i 0) v)
            ≡ unanswered_at (sets_in s) g.input.states g.output.states inner (get_or (sets_in g.input.moves) i 0) (get_or (sets_in g.output.moves) o 0)
        unanswered_is =
            unanswered_both (sets_in s) g.input.states g.output.states inner (get_or (sets_in g.input.moves) i 0) y e
            ∙ ap (unanswered_at (sets_in s) g.input.states g.output.states inner (get_or (sets_in g.input.moves) i 0)) q

        found : least g.input.states (both (get_or (sets_in g.input.moves) i 0) v) < g.input.states
        found =
            pushed_below_n i o (which_below i d) b (least g.input.states (both (get_or (sets_in g.input.moves) i 0) v)) (which_lost i d)
            (pushed_unwalked i (which_in i d)) unanswered_is

        lowest_is_lem : least capacity (both (get_or (sets_in g.input.moves) i 0) v) ≡ least g.input.states (both (get_or (sets_in g.input.moves) i 0) v)
        lowest_is_lem =
            least_unique capacity (both (get_or (sets_in g.input.moves) i 0) v) (least g.input.states (both (get_or (sets_in g.input.moves) i 0) v))
            (omega (arith, found, K.ready.fits.input.most)) (least_member g.input.states (both (get_or (sets_in g.input.moves) i 0) v) found)
            (λ k l. least_before g.input.states (both (get_or (sets_in g.input.moves) i 0) v) k l)

        push_move : sets_meet capacity (get_or (sets_in g.input.moves) i 0) v ≡ true
        unfolding both
        push_move =
            let j = least g.input.states (both (get_or (sets_in g.input.moves) i 0) v) in
            let m = least_member g.input.states (both (get_or (sets_in g.input.moves) i 0) v) found in
            meets_intro capacity (get_or (sets_in g.input.moves) i 0) v j (omega (arith, found, K.ready.fits.input.most))
            (and_left (has (get_or (sets_in g.input.moves) i 0) j) (has v j) m) (and_right (has (get_or (sets_in g.input.moves) i 0) j) (has v j) m)

        push_row : (h : ℕ) → environment_row (separated_of g) i h o ≡ gives h (least capacity (both (get_or (sets_in g.input.moves) i 0) v))
        push_row h =
            row_push i o (which_below i d) b h (least g.input.states (both (get_or (sets_in g.input.moves) i 0) v)) (which_lost i d)
            (pushed_unwalked i (which_in i d)) unanswered_is
            ∙ ap (gives h) (sym lowest_is_lem)

      pub pushes_of : {x y : ℕ} → y ≡ get_or (sets_in g.output.moves) o 0
          → x ≡ pack g.input.states (refused_at (sets_in s) g.input.states g.output.states inner y) → Pushes g which o x
      pushes_of q e = record { output = b; below = which_below; move = λ i d. push_move q e i d; row = λ i h d. push_row q e i d h }

      pub pushes_filled : {l m : List ℕ} → EnvironmentFilled g (λ a h p. (has which a ≡ true) × (p ≡ o)) l m
          → EnvironmentFilled g (λ a h p. (unwalked g a p ≡ true) × (p ≡ o) × (region (separated_of g) a p ≡ false)) l m
      pushes_filled F = filled_same g F (λ a h p la lh lp q. (at_o a p la q.1 q.0 q.2, q.1))

      -- there may be none
      pub pushes_none : (l : List ℕ) → which ≡ 0 → EnvironmentFilled g (λ a h p. (unwalked g a p ≡ true) × (p ≡ o) × (region (separated_of g) a p ≡ false)) l l
      pushes_none l z =
          filled_same g (filled_none g {P = λ a h p. ⊥} l (λ a h p q. q))
          (λ a h p la lh lp q. clash (at_o a p la q.1 q.0 q.2) (ap (λ (y : ℕ). has y a) z ∙ has_zero_lem a))

-- the rows of won positions and the pushes are the rows that need no walk
pub plain_join : (g : Game) {l m k : List ℕ} → EnvironmentFilled g (λ i h o. region (separated_of g) i o ≡ true) l m
    → EnvironmentFilled g (λ i h o. (unwalked g i o ≡ true) × (region (separated_of g) i o ≡ false)) m k → EnvironmentFilled g (λ i h o. plain g i o ≡ true) l k
unfolding plain
plain_join g F G =
    filled_join g F G
    (λ i h o li lh lo p.
    elim (decide (region (separated_of g) i o)) [
      | inl r ↦ inl r
      | inr r ↦ elim (or_cases (region (separated_of g) i o) (unwalked g i o) p) [ inl w ↦ inl w | inr u ↦ inr (u, r) ]
    ])

-- the inputs in trivial components, from all and those in the others
pub trivials_of : (n inner b : ℕ) {x : ℕ} → ((i : ℕ) → has b i ≡ ltb i n) → ((i : ℕ) → has x i ≡ (has b i && not (has inner i))) → TrivialInputs n inner x
trivials_of n inner b f d = record { each = λ i. d i ∙ ap (λ (y : Bool). y && not (has inner i)) (f i) }

pub pushed_all : (y n trivials x : ℕ) → y ≡ 0 → ((i : ℕ) → has x i ≡ ltb i n) → (i : ℕ) → has x i ≡ pushed_at y n trivials i
unfolding pushed_at
pushed_all y n trivials x z e i = rw (eq-eqb y 0 z, pushed_at) (e i)

pub pushed_trivials : (y n trivials : ℕ) → y ≢ 0 → (i : ℕ) → has trivials i ≡ pushed_at y n trivials i
unfolding pushed_at
pushed_trivials y n trivials z i = rw (ne_eqb y 0 z, pushed_at) refl

-- the pushes, output after output
pub pushes_next : (g : Game) (k : ℕ) {l m n : List ℕ} → EnvironmentFilled g
    (λ a h b. (b < k) × (unwalked g a b ≡ true) × (region (separated_of g) a b ≡ false)) l m
    → EnvironmentFilled g (λ a h b. (unwalked g a b ≡ true) × (b ≡ k) × (region (separated_of g) a b ≡ false)) m n
    → EnvironmentFilled g (λ a h b. (b < k + 1) × (unwalked g a b ≡ true) × (region (separated_of g) a b ≡ false)) l n
pushes_next g k F G = filled_join g F G (λ a h b la lh lb p. below_next b k p.0 (λ q. (q, p.1, p.2)) (λ q. (p.1, q, p.2)))
