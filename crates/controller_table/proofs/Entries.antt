-- The entries that are written are those of the table.
--
--   plain_entry     : the rows with no home in reach
--   start_entry_lem     : the starts
use Prim.Native.Nat.{ℕ, ◌+◌, ◌*◌, ◌≤◌, ◌<◌}
use native.Mathlib.Nat.{zero-mul, mul-zero, add-zero}
use mathlib.Core.Path.{◌≡◌, refl, sym, ◌∙◌, ap, ap₂}
use mathlib.Core.Bool.{Bool, true, false, ◌&&◌}
use mathlib.Core.List.{List}
use mathlib.Core.Logic.{◌⊎◌, inl, inr}
use native.Mathlib.Omega.{arith}
use native.Mathlib.Decide.{dec_lt}
use lib.ListN.{get_or}
use Rattle.finite.specs.Bounded.{least}
use Rattle.finite.proofs.Truth.{decide, clash, false_of, and_intro, and_left, and_right, and_false_left, and_false_right}
use Rattle.finite.proofs.Bounded.{least_below, least_member, least_before, least_unique}
use Rattle.bits.specs.Member.{has, pack, both}
use Rattle.bits.proofs.Membership.{has_pack_below}
use Rattle.graphs.specs.Graph.{edge, begins}
use Rattle.graphs.specs.Component.{joined, nontrivial}
use Rattle.graphs.proofs.Graph.{edge_to, begins_below}
use Rattle.graphs.proofs.Closure.{reaches_edge}
use Rattle.arena.specs.Arena.{Separated}
use Rattle.arena.specs.Table.{none, gives}
use Rattle.sets.specs.Words.{capacity}
use Rattle.scratch.specs.Stored.{row_at, out_reach_at, won_at}
use Rattle.theory.specs.Region.{home_for, settles, answers, region, opens}
use Rattle.theory.specs.Tour.{tour}
use Rattle.theory.specs.Choice.{guarantees, settled, controller_row, controller_start}
use Rattle.theory.specs.Entries.{none_entry, entry}
use Rattle.theory.proofs.Region.{answers_elim, answers_false, settles_intro, opens_elim, opens_false}
use Rattle.theory.proofs.ControllerRow.{row_answers, answers_settles, homeward_at}
use Rattle.controller_rows.specs.declared.Size.{Size}
use Rattle.controller_rows.specs.Writes.{first, more, settles_at, start_of}
use Rattle.controller_table.specs.Filled.{HasHome}
use Rattle.table_entries.proofs.Packed.{none_entry_lem, entry_steps}
use Rattle.controller_rows.proofs.Writes.{stays_state, stays_none}
use Rattle.controller_table.proofs.Told.{in_both, Told, unsettled, row_home}

-- ---- an answer whose counter stays

entry_state_lem : (p c : ℕ) → p < capacity → first p + more p * c ≡ entry (gives c p)
entry_state_lem p c l =
    let v = stays_state p (entry (gives 0 p)) l refl in
    rw (← v.first, ← v.more) (entry_steps c p)

entry_none : (p c : ℕ) → capacity ≤ p → first p + more p * c ≡ entry none
entry_none p c l =
    let v = stays_none p l in
    rw (← v.first, ← v.more) (ap (λ (k : ℕ). none_entry + k) (zero-mul c) ∙ none_entry_lem)

-- the lowest number that passes a test below the capacity, and below m
module _ (m : ℕ) (p q : ℕ → Bool) (few : m ≤ capacity) (same : (k : ℕ) → k < m → p k ≡ q k) (below : (k : ℕ) → p k ≡ true → k < m) where
  lowest_some : (k : ℕ) → k < m → q k ≡ true → least capacity p ≡ least m q
  lowest_some k b h =
      let l = least_below m q k b h in
      least_unique capacity p (least m q) (omega arith) (same (least m q) l ∙ least_member m q l) (λ i c. same i (omega arith) ∙ least_before m q i c)

  lowest_none : ((k : ℕ) → k < m → q k ≡ false) → capacity ≤ least capacity p
  lowest_none f = go (dec_lt (least capacity p) capacity)
    where
      go : Dec (least capacity p < capacity) → capacity ≤ least capacity p
      go (yes l) =
          let h = least_member capacity p l in
          let b = below (least capacity p) h in
          clash h (same (least capacity p) b ∙ f (least capacity p) b)
      go (no l) = omega arith

module _ (S : Separated) where
  row_none : (o c j : ℕ) → answers S (region S) j o ≡ false → controller_row S o c j ≡ none
  unfolding controller_row
  row_none o c j h = rw (h, controller_row) refl

  row_trivial : (o c j : ℕ) → answers S (region S) j o ≡ true → nontrivial S.input j ≡ false
      → controller_row S o c j ≡ gives c (least S.output.states (λ p. edge S.output o p && region S j p))
  unfolding settled
  row_trivial o c j h t = row_answers S o c j h ∙ rw (t, settled) refl

  start_none : (i : ℕ) → (begins S.input i && opens S i) ≡ false → controller_start S i ≡ none
  unfolding controller_start
  start_none i h = rw (h, controller_start) refl

  start_some : (i : ℕ) → (begins S.input i && opens S i) ≡ true
      → controller_start S i ≡ gives 0 (least S.output.states (λ o. begins S.output o && region S i o))
  unfolding controller_start
  start_some i h = rw (h, controller_start) refl

module _ (S : Separated) (s : List ℕ) (n inner : ℕ) (rows : List ℕ) (T : Told S s n inner rows) where
  -- ---- no home in reach

  module _ (j o : ℕ) (a : j < S.input.states) (b : o < S.output.states) where
    moved : (k : ℕ) → (both (get_or rows o 0) (row_at s n j)) k ≡ (edge S.output o k && has (row_at s n j) k)
    moved k = in_both (get_or rows o 0) (row_at s n j) k ∙ ap (λ (x : Bool). x && has (row_at s n j) k) (T.moves o k b)

    moved_below : (k : ℕ) → (both (get_or rows o 0) (row_at s n j)) k ≡ true → k < S.output.states
    moved_below k h = edge_to S.output o k (and_left (edge S.output o k) (has (row_at s n j) k) (sym (moved k) ∙ h))

    plain_trivial : nontrivial S.input j ≡ false → (c : ℕ)
        → first (least capacity (both (get_or rows o 0) (row_at s n j))) + more (least capacity (both (get_or rows o 0) (row_at s n j))) * c ≡
        entry (controller_row S o c j)
    plain_trivial t c = go (decide (answers S (region S) j o))
      where
        p : ℕ
        p = least capacity (both (get_or rows o 0) (row_at s n j))

        q : ℕ → Bool
        q k = edge S.output o k && region S j k

        same : (k : ℕ) → k < S.output.states → (both (get_or rows o 0) (row_at s n j)) k ≡ (edge S.output o k && region S j k)
        same k l = moved k ∙ ap (λ (x : Bool). edge S.output o k && x) (T.wins j k a t)

        go : (answers S (region S) j o ≡ true) ⊎ (answers S (region S) j o ≡ false)
            → first (least capacity (both (get_or rows o 0) (row_at s n j))) + more (least capacity (both (get_or rows o 0) (row_at s n j))) * c ≡
            entry (controller_row S o c j)
        go (inl h) =
            let v = answers_elim S (region S) j o h in
            let l = edge_to S.output o v.0 v.1 in
            let e = lowest_some S.output.states (both (get_or rows o 0) (row_at s n j)) q T.few_outputs same moved_below v.0 l
            (and_intro v.1 v.2) in
            rw (e, row_trivial S o c j h t) (entry_state_lem (least S.output.states q) c
            (omega (arith, least_below S.output.states q v.0 l (and_intro v.1 v.2), T.few_outputs)))
        go (inr h) =
            rw (row_none S o c j h)
            (entry_none p c
            (lowest_none S.output.states (both (get_or rows o 0) (row_at s n j)) q T.few_outputs same moved_below
            (λ k l. false_of (q k) (λ e. clash (and_right (edge S.output o k) (region S j k) e)
            (answers_false S (region S) j o k h (and_left (edge S.output o k) (region S j k) e))))))

    plain_nontrivial : nontrivial S.input j ≡ true → settles S (region S) j o ≡ false → (c : ℕ)
        → first (least capacity (both (get_or rows o 0) (row_at s n j))) + more (least capacity (both (get_or rows o 0) (row_at s n j))) * c ≡
        entry (controller_row S o c j)
    plain_nontrivial t h c =
        rw (row_none S o c j (false_of (answers S (region S) j o) (λ e. clash (answers_settles S j o t e) h)))
        (entry_none (least capacity (both (get_or rows o 0) (row_at s n j))) c
        (lowest_none S.output.states (both (get_or rows o 0) (row_at s n j)) (λ k. edge S.output o k && home_for S (region S) j k) T.few_outputs
        (λ k l. moved k ∙ ap (λ (x : Bool). edge S.output o k && x) (T.homes j k a t)) moved_below
        (λ k l. false_of (edge S.output o k && home_for S (region S) j k)
        (λ e. clash
        (settles_intro S (region S) j o k (reaches_edge S.output o k (and_left (edge S.output o k) (home_for S (region S) j k) e))
        (and_right (edge S.output o k) (home_for S (region S) j k) e))
        h))))

    pub plain_entry : settles_at inner j (row_at s n j) (out_reach_at s n o) ≡ false → (c : ℕ)
        → first (least capacity (both (get_or rows o 0) (row_at s n j))) + more (least capacity (both (get_or rows o 0) (row_at s n j))) * c ≡
        entry (controller_row S o c j)
    plain_entry h c =
        elim (decide (nontrivial S.input j)) [
          | inl t ↦ plain_nontrivial t (unsettled S s n inner rows T j o a b h t) c
          | inr t ↦ plain_trivial t c
        ]

  -- ---- starts

  module _ (z : Size) (e : z.inputs ≡ n) (m : z.outputs ≡ S.output.states) (ins outs i : ℕ) (a : i < S.input.states)
      (is : has ins i ≡ begins S.input i) (os : (o : ℕ) → has outs o ≡ begins S.output o) where
    chosen : ℕ → Bool
    chosen = both outs (pack S.output.states (won_at s n inner i))

    chosen_has : (o : ℕ) → o < S.output.states → chosen o ≡ (begins S.output o && region S i o)
    unfolding chosen
    chosen_has o b =
        in_both outs (pack S.output.states (won_at s n inner i)) o
        ∙ ap₂ ◌&&◌ (os o) (has_pack_below S.output.states (won_at s n inner i) o b ∙ T.won i o a b)

    chosen_below : (o : ℕ) → chosen o ≡ true → o < S.output.states
    unfolding chosen
    chosen_below o h =
        begins_below S.output o (sym (os o) ∙ and_left (has outs o) (has (pack S.output.states (won_at s n inner i)) o)
        (sym (in_both outs (pack S.output.states (won_at s n inner i)) o) ∙ h))

    start_out : has ins i ≡ false → start_of z s inner ins outs i ≡ entry none
    unfolding start_of
    start_out h = rw (h, start_of) refl

    start_in : has ins i ≡ true → start_of z s inner ins outs i ≡ first (least capacity chosen)
    unfolding start_of chosen
    start_in h = rw (h, start_of, e, m) refl

    first_only : (p : ℕ) → first p ≡ first p + more p * 0
    first_only p = rw (mul-zero (more p), add-zero (first p)) refl

    pub start_entry_lem : start_of z s inner ins outs i ≡ entry (controller_start S i)
    start_entry_lem = go (decide (begins S.input i)) (decide (opens S i))
      where
        q : ℕ → Bool
        q o = begins S.output o && region S i o

        go : (begins S.input i ≡ true) ⊎ (begins S.input i ≡ false) → (opens S i ≡ true) ⊎ (opens S i ≡ false)
            → start_of z s inner ins outs i ≡ entry (controller_start S i)
        go (inr f) h = start_out (is ∙ f) ∙ rw (start_none S i (and_false_left (opens S i) f)) refl
        go (inl t) (inl h) =
            let v = opens_elim S i h in
            let l = begins_below S.output v.0 v.1 in
            let k = and_intro v.1 v.2 in
            let u = lowest_some S.output.states chosen q T.few_outputs chosen_has chosen_below v.0 l k in
            start_in (is ∙ t) ∙ first_only (least capacity chosen)
            ∙ rw (u, start_some S i (and_intro t h)) (entry_state_lem (least S.output.states q) 0
            (omega (arith, least_below S.output.states q v.0 l k, T.few_outputs)))
        go (inl t) (inr h) =
            start_in (is ∙ t) ∙ first_only (least capacity chosen)
            ∙ rw (start_none S i (and_false_right (begins S.input i) h))
            (entry_none (least capacity chosen) 0
            (lowest_none S.output.states chosen q T.few_outputs chosen_has chosen_below
            (λ o b. false_of (q o) (λ k. clash (and_right (begins S.output o) (region S i o) k)
            (opens_false S i o h (and_left (begins S.output o) (region S i o) k))))))

-- ---- inputs with a home

module _ (S : Separated) (o d j : ℕ) (r : HasHome S o d j) (a : j < S.input.states) (few : S.output.states ≤ capacity) where
  module _ (h : joined S.output d o ≡ true) where
    pub at_home_lem : (c : ℕ) → controller_row S o c j ≡ tour S.output d (guarantees S) o c
    at_home_lem c = row_home S o d j r a c ∙ homeward_at S d o c h
