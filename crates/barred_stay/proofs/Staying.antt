-- Where the controller can stay, input after input.
--
--   left_lowest               : the lowest input that is left
--   rowsAllowed               == the outputs that have a move into a set
--   Staying g v w l x m       == from the sets l, the sets m are reached, and the inputs x are left to be followed; v is the goal, w is waited for
--   staying_start, staying_next, staying_falls, staying_end
use Prim.Native.Nat.{ℕ, ◌+◌, ◌*◌, ◌/◌, ◌%◌, ◌≤◌, ◌<◌}
use mathlib.Core.Path.{◌≡◌, refl, sym, ◌∙◌, ap}
use mathlib.Core.Bool.{Bool, true, false, ◌&&◌, ◌||◌, not}
use mathlib.Core.List.{List}
use mathlib.Core.Logic.{◌⊎◌, inl, inr, ◌≢◌}
use native.Mathlib.Nat.{zero-add, mul-le-mul, add-mul, div-lt_iff_lt-mul}
use native.Mathlib.Omega.{arith}
use native.Mathlib.Decide.{ℕ_discrete}
use lib.Arith.{digits_lt, digits_div, digits_mod}
use lib.Dec.{eqb, ltb}
use lib.ListN.{get_or}
use borrow.Author.Tests.{eq-eqb, ne_eqb, ltb-true, lt-ltb}
use Rattle.finite.specs.Bounded.{least, count, any}
use Rattle.finite.proofs.Truth.{decide, clash, false_of, and_intro, and_left, and_right, not_true, same_test}
use Rattle.finite.proofs.Bounded.{any_elim, any_false, count_le, count_mono, count_less, least_below, least_member}
use Rattle.finite.specs.But.{ButFor}
use Rattle.finite.proofs.But.{but_self, but_then}
use Rattle.bits.specs.Member.{has, sets_meet, pack}
use Rattle.bits.proofs.Membership.{has_zero_lem, has_pack_below}
use Rattle.bits.proofs.Compare.{nonzero_member, meets_intro, meets_elim}
use Rattle.sets.specs.Words.{capacity, sets_in}
use Rattle.graphs.specs.Graph.{edge}
use Rattle.graphs.proofs.Graph.{edge_to, edge_intro, edge_moves}
use Rattle.theory.specs.Region.{answers}
use Rattle.theory.proofs.Region.{answers_intro, answers_elim}
use Rattle.barred.specs.Arena.{Pairs}
use Rattle.barred.specs.Region.{barred_target, stay}
use Rattle.barred.proofs.Rounds.{Sub, sub_intro, sub_elim, target_goal, target_near, target_wait, target_elim, stay_in, stay_mono}
use Rattle.barred.proofs.Passes.{same_sets, stay_kept, stay_found}
use Rattle.game.specs.declared.Game.{Game}
use Rattle.game.specs.declared.Graph.{Graph as Record}
use Rattle.game.specs.Fits.{Fits, GraphFits}
use Rattle.play.specs.Play.{graph_of, separated_of}
use Rattle.barred_rows.specs.Areas.{kept_pairs, reached_pairs, staying_pairs, staying_at, Copied}
use Rattle.barred_stay.specs.Stay.{Within, Followed, Stayed}

pub left_lowest : (n x h : ℕ) → n ≤ capacity → ((j : ℕ) → has x j ≡ true → j < n) → x ≢ 0 → h ≡ least capacity (has x) → (h < n) × (has x h ≡ true)
left_lowest n x h b f ne e =
    let m = nonzero_member x ne in
    let q = least_below capacity (has x) m.0 (omega (arith, f m.0 m.1)) m.1 in
    let t : has x h ≡ true = ap (has x) e ∙ least_member capacity (has x) q in
    (f h t, t)

-- rows of moves, as the graph has them
pub row_edge : (h : Record) → GraphFits h → (k t : ℕ) → k < h.states → has (get_or (sets_in h.moves) k 0) t ≡ edge (graph_of h) k t
unfolding graph_of
row_edge h F k t a =
    same_test (has (get_or (sets_in h.moves) k 0) t) (edge (graph_of h) k t) (λ e. edge_intro (graph_of h) k t a (F.row_below k t a e) e)
    (λ e. edge_moves (graph_of h) k t e)

-- how many positions are staying
unfoldable pub staying_count : Game → List ℕ → ℕ
staying_count g m = count (g.input.states * g.output.states) (λ c. staying_pairs m (c / g.output.states) (c % g.output.states))

-- a position less, or an input less to be followed
unfoldable pub staying_measure : Game → ℕ → List ℕ → ℕ
staying_measure g x m = staying_count g m * g.input.states + staying_count g m + count g.input.states (has x)

pub lower_first : (n a b c d : ℕ) → a < b → c ≤ n → a * n + a + c < b * n + b + d
lower_first n a b c d h e = let k : (a + 1) * n ≤ b * n = mul-le-mul (omega arith) (omega arith) in omega (arith, k, add-mul a 1 n)

pub lower_second : (n a b c d : ℕ) → a ≤ b → c < d → a * n + a + c < b * n + b + d
lower_second n a b c d h e = let k : a * n ≤ b * n = mul-le-mul h (omega arith) in omega (arith, k)

module _ (g : Game) (v w : ℕ) (l : List ℕ) where
  abbrev goal : ℕ → Bool
  goal = has v

  abbrev wait : ℕ → Bool
  wait = has w

  abbrev Z : Pairs
  Z = kept_pairs l

  abbrev Y : Pairs
  Y = reached_pairs l

  -- what a reply is to enter, from the sets m
  abbrev entering : List ℕ → Pairs
  entering m = barred_target goal wait Z Y (staying_pairs m)

  pub record Staying (x : ℕ) (m : List ℕ) : Type 0 where
    pub apart : ButFor staying_at (staying_at + g.input.states) l m
    pub inside : (i o : ℕ) → i < g.input.states → staying_pairs m i o ≡ true → kept_pairs l i o ≡ true
    pub kept : Sub (separated_of g) (stay (separated_of g) goal wait Z Y) (staying_pairs m)
    -- where j is not left, what is staying with an input that moves to j has a reply to j
    pub clean : (i o j : ℕ) → i < g.input.states → o < g.output.states → edge (graph_of g.input) i j ≡ true → has x j ≡ false
        → staying_pairs m i o ≡ true → answers (separated_of g) (entering m) j o ≡ true
    pub inputs : (j : ℕ) → has x j ≡ true → j < g.input.states

module _ (g : Game) (F : Fits g) (v w : ℕ) (l : List ℕ) where
  pub staying_start : (x : ℕ) → ((i : ℕ) → i < g.input.states → get_or l (staying_at + i) 0 ≡ get_or l i 0)
      → ((s : ℕ) → has x s ≡ ltb s g.input.states) → Staying g v w l x l
  unfolding separated_of graph_of
  staying_start x B e = record {
    apart = but_self staying_at (staying_at + g.input.states) l;
    inside = λ i o b h. ap (λ (k : ℕ). has k o) (sym (B i b)) ∙ h;
    kept = sub_intro (separated_of g)
        (λ i o a b h. ap (λ (k : ℕ). has k o) (B i a) ∙ stay_in (separated_of g) (has v) (has w) (kept_pairs l) (reached_pairs l) i o h);
    clean = λ i o j a b q f h. clash (e j ∙ lt-ltb j g.input.states (edge_to (graph_of g.input) i j q)) f;
    inputs = λ j h. ltb-true j g.input.states (sym (e j) ∙ h);
  }

  module _ (x : ℕ) (m : List ℕ) (T : Staying g v w l x m) (x' : ℕ) (m' : List ℕ)
      (R : Followed (sets_in g.input.moves) g.input.states (sets_in g.output.moves) g.output.states v w x x' m m') (ne : x ≢ 0) where
    first : (R.input < g.input.states) × (has x R.input ≡ true)
    first = left_lowest g.input.states x R.input F.input.most T.inputs ne R.lowest

    abbrev allowed : ℕ
    allowed = pack g.output.states (λ o. sets_meet capacity (get_or (sets_in g.output.moves) o 0) R.entered)

    -- of the three rows of the target one changes as we go
    told : (p : ℕ) → has R.entered p ≡ entering g v w l m R.input p
    unfolding barred_target
    told p = R.target p ∙ same_target
      where
        kept_row : get_or m R.input 0 ≡ get_or l R.input 0
        kept_row = T.apart.low R.input (omega (arith, first.0, F.input.most))

        reached_row : get_or m (128 + R.input) 0 ≡ get_or l (128 + R.input) 0
        reached_row = T.apart.low (128 + R.input) (omega (arith, first.0, F.input.most))

        same_target : barred_target (has v) (has w) (kept_pairs m) (reached_pairs m) (staying_pairs m) R.input p ≡ entering g v w l m R.input p
        same_target = rw (kept_row, reached_row) refl

    allowed_answers : (o : ℕ) → o < g.output.states → has allowed o ≡ true → answers (separated_of g) (entering g v w l m) R.input o ≡ true
    unfolding separated_of
    allowed_answers o b h =
        let q = meets_elim capacity (get_or (sets_in g.output.moves) o 0) R.entered (sym (has_pack_below g.output.states _ o b) ∙ h) in
        answers_intro (separated_of g) (entering g v w l m) R.input o q.0 (sym (row_edge g.output F.output o q.0 b) ∙ q.2)
        (sym (told q.0) ∙ q.3)

    answers_allowed : (o : ℕ) → o < g.output.states → answers (separated_of g) (entering g v w l m) R.input o ≡ true → has allowed o ≡ true
    unfolding separated_of graph_of
    answers_allowed o b h =
        let q = answers_elim (separated_of g) (entering g v w l m) R.input o h in
        has_pack_below g.output.states _ o b
        ∙ meets_intro capacity (get_or (sets_in g.output.moves) o 0) R.entered q.0
        (omega (arith, edge_to (graph_of g.output) o q.0 q.1, F.output.most))
        (row_edge g.output F.output o q.0 b ∙ q.1) (told q.0 ∙ q.2)

    -- what is left in a row was there
    falls : (i o : ℕ) → i < g.input.states → staying_pairs m' i o ≡ true → staying_pairs m i o ≡ true
    falls i o b h = and_left (staying_pairs m i o) (not (has (get_or (sets_in g.input.moves) i 0) R.input) || has allowed o) (sym (R.shrunk.row i o b) ∙ h)

    -- a row of the target that is as it was
    moved : (k o : ℕ) → (has w k ≡ false → (p : ℕ) → staying_pairs m k p ≡ true → staying_pairs m' k p ≡ true)
        → answers (separated_of g) (entering g v w l m) k o ≡ true → answers (separated_of g) (entering g v w l m') k o ≡ true
    moved k o f h =
        let q = answers_elim (separated_of g) (entering g v w l m) k o h in
        answers_intro (separated_of g) (entering g v w l m') k o q.0 q.1
        (elim (target_elim (has v) (has w) (kept_pairs l) (reached_pairs l) (staying_pairs m) k q.0 q.2) [
          | inl a ↦ target_goal (has v) (has w) (kept_pairs l) (reached_pairs l) (staying_pairs m') k q.0 a.0 a.1
          | inr r ↦ elim r [
            | inl y ↦ target_near (has v) (has w) (kept_pairs l) (reached_pairs l) (staying_pairs m') k q.0 y
            | inr s ↦ target_wait (has v) (has w) (kept_pairs l) (reached_pairs l) (staying_pairs m') k q.0 s.0 (f s.0 q.0 s.1)
          ]
        ])

    pub staying_next : Staying g v w l x' m'
    unfolding separated_of graph_of
    staying_next = record {
      apart = but_then T.apart R.shrunk.apart;
      inside = λ i o b h. T.inside i o b (falls i o b h);
      kept = sub_intro (separated_of g) (λ i o a b h. kept i o a b h);
      clean = clean;
      inputs = λ k h. inputs k (R.shrunk.more k h);
    }
      where
        kept : (i o : ℕ) → i < g.input.states → o < g.output.states → stay (separated_of g) (has v) (has w) (kept_pairs l) (reached_pairs l) i o ≡ true
            → staying_pairs m' i o ≡ true
        kept i o a b h =
            R.shrunk.row i o a
            ∙ and_intro (sub_elim (separated_of g) T.kept i o a b h)
            (implied (has (get_or (sets_in g.input.moves) i 0) R.input) (has allowed o)
            (λ e. answers_allowed o b
            (stay_kept (separated_of g) (has v) (has w) (kept_pairs l) (reached_pairs l) (staying_pairs m) T.kept i o R.input a b
            (sym (row_edge g.input F.input i R.input a) ∙ e) h)))
          where
            implied : (p q : Bool) → (p ≡ true → q ≡ true) → (not p || q) ≡ true
            implied true q f = f refl
            implied false q f = refl

        clean : (i o k : ℕ) → i < g.input.states → o < g.output.states → edge (graph_of g.input) i k ≡ true → has x' k ≡ false
            → staying_pairs m' i o ≡ true → answers (separated_of g) (entering g v w l m') k o ≡ true
        clean i o k a b e f h = moved k o d.1 (go (ℕ_discrete k R.input))
          where
            d : (has R.rest k ≡ false) × (has w k ≡ false → (p : ℕ) → staying_pairs m k p ≡ true → staying_pairs m' k p ≡ true)
            d = R.shrunk.done k f

            go : Dec (k ≡ R.input) → answers (separated_of g) (entering g v w l m) k o ≡ true
            go (yes q) =
                rw q (allowed_answers o b
                (granted (has (get_or (sets_in g.input.moves) i 0) R.input) (has allowed o)
                (row_edge g.input F.input i R.input a ∙ ap (edge (graph_of g.input) i) (sym q) ∙ e)
                (and_right (staying_pairs m i o) (not (has (get_or (sets_in g.input.moves) i 0) R.input) || has allowed o)
                (sym (R.shrunk.row i o a) ∙ h))))
              where
                granted : (p q : Bool) → p ≡ true → (not p || q) ≡ true → q ≡ true
                granted true q f h = h
                granted false q f h = clash f refl
            go (no q) =
                T.clean i o k a b e
                (dropped (has x k) (sym (R.others k) ∙ d.0) (ne_eqb k R.input q)) (falls i o a h)
              where
                dropped : (p : Bool) {r : Bool} → (p && not r) ≡ false → r ≡ false → p ≡ false
                dropped true e f = clash (ap not f) e
                dropped false e f = refl

        inputs : (k : ℕ) → (has R.rest k ≡ true) ⊎ ((k < g.input.states) × ((o : ℕ) × (staying_pairs m k o ≡ true) × (staying_pairs m' k o ≡ false)))
            → k < g.input.states
        inputs k (inl h) = T.inputs k (and_left (has x k) (not (eqb k R.input)) (sym (R.others k) ∙ h))
        inputs k (inr v) = v.0

    pub staying_falls : Within g l → staying_measure g x' m' < staying_measure g x m
    unfolding staying_measure staying_count
    staying_falls W = go (decide (any g.input.states (λ k. has x' k && not (has R.rest k))))
      where
        fewer : (c : ℕ) → c < g.input.states * g.output.states
            → staying_pairs m' (c / g.output.states) (c % g.output.states) ≡ true → staying_pairs m (c / g.output.states) (c % g.output.states) ≡ true
        fewer c b h = falls (c / g.output.states) (c % g.output.states) ((div-lt_iff_lt-mul (omega (arith, F.output.some))).1 b) h

        go : (any g.input.states (λ k. has x' k && not (has R.rest k)) ≡ true) ⊎
            (any g.input.states (λ k. has x' k && not (has R.rest k)) ≡ false)
            → staying_count g m' * g.input.states + staying_count g m' + count g.input.states (has x')
            < staying_count g m * g.input.states + staying_count g m + count g.input.states (has x)
        go (inl h) =
            let a = any_elim g.input.states (λ k. has x' k && not (has R.rest k)) h in
            lower_first g.input.states (staying_count g m') (staying_count g m) (count g.input.states (has x')) (count g.input.states (has x))
            (lost a.0 (and_left (has x' a.0) (not (has R.rest a.0)) a.2)
            (not_true (has R.rest a.0) (and_right (has x' a.0) (not (has R.rest a.0)) a.2))) (count_le g.input.states (has x'))
          where
            lost : (q : ℕ) → has x' q ≡ true → has R.rest q ≡ false → staying_count g m' < staying_count g m
            lost q e f =
                elim (R.shrunk.more q e) [
                  | inl y ↦ clash y f
                  | inr u ↦
                      let d = W.outputs q u.1.0 u.0 (T.inside q u.1.0 u.0 u.1.1) in
                      count_less (g.input.states * g.output.states) (λ c. staying_pairs m' (c / g.output.states) (c % g.output.states))
                      (λ c. staying_pairs m (c / g.output.states) (c % g.output.states)) fewer (q * g.output.states + u.1.0) (digits_lt u.0 d)
                      (rw (digits_div q d, digits_mod q d) u.1.2) (rw (digits_div q d, digits_mod q d) u.1.1)
                ]
        go (inr h) =
            lower_second g.input.states (staying_count g m') (staying_count g m) (count g.input.states (has x')) (count g.input.states (has x))
            (count_mono (g.input.states * g.output.states) (λ c. staying_pairs m' (c / g.output.states) (c % g.output.states))
            (λ c. staying_pairs m (c / g.output.states) (c % g.output.states)) fewer)
            (count_less g.input.states (has x') (has x) (λ q b e. old q b e) R.input first.0 (false_of (has x' R.input) (λ e. gone e)) first.1)
          where
            in_rest : (q : ℕ) → q < g.input.states → has x' q ≡ true → has R.rest q ≡ true
            in_rest q b e =
                elim (decide (has R.rest q)) [
                  | inl y ↦ y
                  | inr f ↦ clash (and_intro e (ap not f)) (any_false g.input.states (λ k. has x' k && not (has R.rest k)) h q b)
                ]

            old : (q : ℕ) → q < g.input.states → has x' q ≡ true → has x q ≡ true
            old q b e = and_left (has x q) (not (eqb q R.input)) (sym (R.others q) ∙ in_rest q b e)

            gone : has x' R.input ≡ true → ⊥
            gone e =
                clash
                (and_right (has x R.input) (not (eqb R.input R.input)) (sym (R.others R.input) ∙ in_rest R.input first.0 e))
                (ap not (eq-eqb R.input R.input refl))

  pub staying_end : (x : ℕ) (m : List ℕ) → Staying g v w l x m → x ≡ 0 → Stayed g v w l m
  unfolding separated_of graph_of
  staying_end x m T z = record {
    apart = T.apart;
    inside = T.inside;
    found = stay_found (separated_of g) (has v) (has w) (kept_pairs l) (reached_pairs l) (staying_pairs m) T.kept
        (sub_intro (separated_of g) (λ i o a b h. T.inside i o a h))
        (λ i o j a b e h. T.clean i o j a b e (ap (λ (k : ℕ). has k j) z ∙ has_zero_lem j) h);
  }

-- what is kept and what is reached are as they were before the first step
module _ (g : Game) (F : Fits g) (l k : List ℕ) (B : Copied g.input.states 0 staying_at l k) where
  pub copied_within : Within g l → Within g k
  copied_within W = record { outputs = λ i o b h. W.outputs i o b (ap (λ (x : ℕ). has x o) (sym (same i b)) ∙ h) }
    where
      same : (i : ℕ) → i < g.input.states → get_or k i 0 ≡ get_or l i 0
      same i b = B.apart.low i (omega (arith, F.input.most))

  pub copied_rows : (i : ℕ) → i < g.input.states → get_or k (staying_at + i) 0 ≡ get_or k i 0
  copied_rows i b = B.row i b ∙ ap (λ (x : ℕ). get_or l x 0) (zero-add i) ∙ sym (B.apart.low i (omega (arith, F.input.most)))

  pub copied_stayed : (v w : ℕ) (m : List ℕ) → Stayed g v w k m → Stayed g v w l m
  unfolding separated_of graph_of
  copied_stayed v w m T = record {
    apart = but_then B.apart T.apart;
    inside = λ i o b h. ap (λ (x : ℕ). has x o) (sym (kept_row i b)) ∙ T.inside i o b h;
    found = λ i o a b. T.found i o a b
        ∙ same_sets (separated_of g)
        (stay_mono (separated_of g) (has v) (has w) (kept_pairs k) (kept_pairs l) (reached_pairs k) (reached_pairs l) (into kept_row) (into reached_row))
        (stay_mono (separated_of g) (has v) (has w) (kept_pairs l) (kept_pairs k) (reached_pairs l) (reached_pairs k) (back kept_row) (back reached_row)) i o a b;
  }
    where
      kept_row : (i : ℕ) → i < g.input.states → get_or k i 0 ≡ get_or l i 0
      kept_row i b = B.apart.low i (omega (arith, F.input.most))

      reached_row : (i : ℕ) → i < g.input.states → get_or k (128 + i) 0 ≡ get_or l (128 + i) 0
      reached_row i b = B.apart.low (128 + i) (omega (arith, F.input.most))

      into : {p q : ℕ → ℕ} → ((i : ℕ) → i < g.input.states → p i ≡ q i) → Sub (separated_of g) (λ i o. has (p i) o) (λ i o. has (q i) o)
      into e = sub_intro (separated_of g) (λ i o a b h. ap (λ (x : ℕ). has x o) (sym (e i a)) ∙ h)

      back : {p q : ℕ → ℕ} → ((i : ℕ) → i < g.input.states → p i ≡ q i) → Sub (separated_of g) (λ i o. has (q i) o) (λ i o. has (p i) o)
      back e = sub_intro (separated_of g) (λ i o a b h. ap (λ (x : ℕ). has x o) (e i a) ∙ h)
