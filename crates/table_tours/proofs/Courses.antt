-- What the rows of a tour are, and that they are written.
--
--   course_counters                        : where there is a goal, there are as many counters as sets
--   course_members, course_moving          : what the writing asks
--   Left, left_start, left_next, left_end  : with no goal, state after state
--   aim-first, aim-counters, aim_ground    : what the walk to a goal asks
--   aimed_done                             : what it gives
use Prim.Native.Nat.{ℕ, ◌^◌, ◌≤◌, ◌<◌}
use native.Mathlib.Nat.{zero-mul, add-zero, max-eq_right}
use mathlib.Core.Path.{◌≡◌, refl, sym, ◌∙◌, ap}
use mathlib.Core.Bool.{Bool, true, false, not, ◌&&◌}
use mathlib.Core.List.{List}
use mathlib.Core.Logic.{◌⊎◌, inl, inr, ◌≢◌}
use native.Mathlib.Omega.{arith}
use native.Mathlib.Decide.{ℕ_discrete}
use lib.Dec.{eqb, ltb}
use lib.ListN.{length, get_or}
use lib.Bits.{bit_and}
use borrow.Author.Tests.{ltb-true, lt-ltb, eqb-true, eq-eqb}
use Rattle.finite.specs.Bounded.{least, count}
use Rattle.finite.proofs.Truth.{decide, clash, and_intro, and_right}
use Rattle.bits.specs.Member.{has, pack, within}
use Rattle.bits.proofs.Membership.{ext, has_zero_lem, has_and, within_has, has_within, lt_within, pack_lt, has_pack_below, pack_below, pack_holds}
use Rattle.bits.proofs.Compare.{nonzero_member, member_nonzero}
use Rattle.bits.proofs.Remove.{less_in, less_other, less_falls}
use Rattle.bits.proofs.Visit.{small_word, lowest_below, lowest_in_lem, lowest_less}
use Rattle.sets.specs.Words.{capacity, bits_of}
use Rattle.graphs.specs.Component.{joined, nontrivial, meets_at}
use Rattle.graphs.specs.Way.{prefer, toward}
use Rattle.graphs.proofs.Way.{Leads}
use Rattle.graphs.proofs.Component.{joined_to, nontrivial_same}
use Rattle.graphs.proofs.Graph.{edge_moves}
use Rattle.theory.specs.Tour.{goal_at, inside, target}
use Rattle.theory.specs.Entries.{stride, entry}
use Rattle.arena.specs.Table.{gives}
use Rattle.table_entries.proofs.Packed.{entry_steps}
use Rattle.theory.proofs.Tour.{inside_move, inside_to, inside_edge}
use Rattle.graph_ways.specs.Kept.{kept}
use Rattle.table_goals.specs.Goal.{Goals, first_from, passed_counter, aimed_at}
use Rattle.table_goals.proofs.Goal.{passed_below}
use Rattle.table_goals.proofs.Tours.{
  goal_meets,
  goal_below,
  goals_none,
  goals_some,
  goal_word,
  inside_kept,
  comp_has,
  prefer_inside,
  target_word,
  target_leads,
  tour_rests,
  tour_aims,
}
use Rattle.table_layout.specs.declared.Layout.{Layout}
use Rattle.table_layout.specs.Rows.{LayoutFits, Filled, Wrote}
use Rattle.table_layout.proofs.Places.{filled_none, filled_join, filled_part}
use Rattle.table_walks.specs.declared.Stamp.{Stamp}
use Rattle.table_walks.specs.Walk.{first_entry, Stamps, Ground, Leading, Walks}
use Rattle.table_walks.proofs.Stamping.{first_hit, first_miss, choice_small}
use Rattle.table_tours.specs.Course.{Course, Moving, Stayed, Aimed}

module _ (z : Layout) (moves : List ℕ) (c over q : ℕ) (p : Course z moves c over q) where
  pub course_counters : q ≢ 0 → z.counters ≡ length p.sets
  course_counters ne =
      let v = nonzero_member q ne in
      p.counters ∙ max-eq_right (omega (arith, goal_below p.graph p.number p.sets q p.goals v.0 v.1))

  in_comp : (s : ℕ) → has c s ≡ true → joined p.graph p.number s ≡ true
  in_comp s e = ap (λ (k : ℕ → Bool). k s) (sym (comp_has p.graph p.number moves c p.same p.component)) ∙ e

  stays : (s : ℕ) → has c s ≡ true → nontrivial p.graph s ≡ true
  stays s e = sym (nontrivial_same p.graph p.number s (in_comp s e)) ∙ p.is_nontrivial

  pub course_members : within c z.states ≡ true
  course_members =
      let n = p.graph.states in
      rw (p.states, p.component) (lt_within (pack n (joined p.graph p.number)) n (pack_lt n (joined p.graph p.number)))

  pub course_moving : Moving moves z.states c
  course_moving = record {
    members = course_members;
    move = λ s e.
        let v = inside_move p.graph p.number s (in_comp s e) (stays s e) in
        let to = inside_to p.graph p.number s v.0 v.1 in
        let here = joined_to p.graph p.number s (in_comp s e) in
        let there = joined_to p.graph p.number v.0 to in
        member_nonzero (bit_and (get_or moves s 0) c) v.0
        (has_and (get_or moves s 0) c v.0
        ∙ and_intro (sym (p.same s v.0 here there) ∙ edge_moves p.graph s v.0 (inside_edge p.graph p.number s v.0 v.1))
        (ap (λ (k : ℕ → Bool). k v.0) (comp_has p.graph p.number moves c p.same p.component) ∙ to));
  }

  -- with no goal: the entry of the preferred move inside
  stay_entry : q ≡ 0 → (s h b m : ℕ) → s < z.states → has c s ≡ true → h < z.counters → b < z.width → has over b ≡ true
      → m ≡ prefer capacity s (has (bit_and (get_or moves s 0) c)) → entry (gives h m) ≡ entry (p.row s h b)
  stay_entry e s h b m ls i lh lb o k =
      rw (
        p.tours s h b ls i lh lb o,
        tour_rests p.graph p.number p.sets s h m (goals_none p.graph p.number p.sets q p.goals e)
            (k
            ∙ prefer_inside p.graph p.number moves c p.same p.component s (bit_and (get_or moves s 0) c) p.few
            (in_comp s i) (stays s i) (has_and (get_or moves s 0) c)),
      )

-- ---- with no goal, state after state

-- the moves of s inside c, as an intersection
moves_inside : (moves : List ℕ) (c s row r : ℕ) {v : ℕ} → row ≡ get_or moves s 0 → ((t : ℕ) → has r t ≡ (has row t && has c t))
    → v ≡ prefer capacity s (has r) → v ≡ prefer capacity s (has (bit_and (get_or moves s 0) c))
moves_inside moves c s row r e f k =
    k
    ∙ ap (λ (x : ℕ). prefer capacity s (has x))
    (ext r (bit_and (get_or moves s 0) c) (λ t. f t ∙ ap (λ (x : ℕ). has x t && has c t) e ∙ sym (has_and (get_or moves s 0) c t)))

-- the preferred one is a state
pub stay_small : (moves : List ℕ) (n c s row r : ℕ) {v : ℕ} → Moving moves n c → n ≤ capacity → has c s ≡ true → row ≡ get_or moves s 0
    → ((t : ℕ) → has r t ≡ (has row t && has c t)) → v ≡ prefer capacity s (has r) → v < capacity
stay_small moves n c s row r M le i e f k =
    choice_small s (bit_and (get_or moves s 0) c) n le
    (λ t a. within_has c n t M.members (and_right (has (get_or moves s 0) t) (has c t) (sym (has_and (get_or moves s 0) c t) ∙ a)))
    (M.move s i) (moves_inside moves c s row r e f k)

-- what the move of a state writes where the counter stays
pub record Staying (z : Layout) (over : ℕ) (w : Stamp) : Type 0 where
  pub columns : bits_of w.over.0 ≡ over
  pub which : (h : ℕ) → has w.which.0 h ≡ ltb h z.counters
  pub hit : w.hit ≡ 0
  pub miss : w.miss ≡ 0
  pub more : w.more ≡ stride

pub staying_stamps : (z : Layout) (over : ℕ) (w : Stamp) → Staying z over w → Stamps z w
staying_stamps z over w S = record {
  counters = λ h e. ltb-true h z.counters (sym (S.which h) ∙ e);
  hit = omega (arith, S.hit);
  miss = omega (arith, S.miss);
  more = omega (arith, S.more);
}

staying_first : (z : Layout) (over : ℕ) (w : Stamp) (m : ℕ) → Staying z over w → first_entry w m ≡ entry (gives 0 m)
staying_first z over w m S =
    elim (decide (has (bits_of w.goal.0) m)) [
      | inl e ↦ sym (first_hit w m e) ∙ ap (λ (k : ℕ). entry (gives k m)) S.hit
      | inr e ↦ sym (first_miss w m e) ∙ ap (λ (k : ℕ). entry (gives k m)) S.miss
    ]

-- left has the states of c whose rows are still to be written
pub record Left (moves : List ℕ) (z : Layout) (c over : ℕ) (w : Stamp) (left : ℕ) (l m : List ℕ) : Type 0 where
  pub staying : Staying z over w
  pub bound : z.states ≤ capacity
  pub below : (t : ℕ) → has c t ≡ true → t < z.states
  pub member : (t : ℕ) → has left t ≡ true → has c t ≡ true
  pub long : length m ≡ length l
  pub fills : (p : Course z moves c over 0) → Filled z p.entries (λ s h b. (has c s ≡ true) × (has left s ≡ false) × (has over b ≡ true)) l m

module _ (moves : List ℕ) (z : Layout) (c over : ℕ) (w : Stamp) where
  pub left_start : (l : List ℕ) → z.states ≤ capacity → within c z.states ≡ true → Staying z over w → Left moves z c over w c l l
  left_start l bound b S = record {
    staying = S;
    bound = bound;
    below = λ t e. within_has c z.states t b e;
    member = λ t e. e;
    long = refl;
    fills = λ p. filled_none z p.row p.entries p.table l (λ s h k ls lh lk d. clash d.0 d.1);
  }

  module _ {left s : ℕ} {l m : List ℕ} (L : Left moves z c over w left l m) (ne : left ≢ 0) (e : s ≡ least capacity (has left)) where
    small : left < 2 ^ capacity
    small = small_word capacity left (λ t a. omega (arith, L.bound, L.below t (L.member t a)))

    pub left_small : s < capacity
    left_small = lowest_below capacity left s small ne e

    pub left_in : has c s ≡ true
    left_in = L.member s (lowest_in_lem capacity left s small ne e)

    module _ (v : ℕ) (d : (t : ℕ) → has v t ≡ (has left t && not (eqb t (least capacity (has left))))) where
      less : (t : ℕ) → has v t ≡ (has left t && not (eqb t s))
      less = lowest_less capacity left s v e d

      pub left_falls : count capacity (has v) < count capacity (has left)
      left_falls = less_falls left s v less capacity left_small (lowest_in_lem capacity left s small ne e)

      pub left_next : (row r : ℕ) {k : ℕ} {m' m'' : List ℕ} → s < z.states → row ≡ get_or moves s 0 → ((t : ℕ) → has r t ≡ (has row t && has c t))
          → k ≡ prefer capacity s (has r) → Wrote z s (bits_of w.over.0) w.which.0 (first_entry w k) w.more m m' → m'' ≡ m' → Left moves z c over w v l m''
      left_next row r {k} {m'} {m''} ls is in' choice W q = rw q (record {
        staying = L.staying;
        bound = L.bound;
        below = L.below;
        member = λ t a. L.member t (less_in left s v less t a);
        long = W.long ∙ L.long;
        fills = λ p.
            filled_join z p.row p.entries p.table (L.fills p)
            (W.fills p.row p.entries p.table
            (λ h b i lb o.
            let lh = ltb-true h z.counters (sym (L.staying.which h) ∙ i) in
            rw (staying_first z over w k L.staying, L.staying.more)
            (entry_steps h k ∙ stay_entry z moves c over 0 p refl s h b k ls left_in lh lb (rw L.staying.columns at o)
            (moves_inside moves c s row r is in' choice))))
            (λ t h b lt lh lb g. pick t h b lh g (ℕ_discrete t s));
      })
        where
          pick : (t h b : ℕ) → h < z.counters → (has c t ≡ true) × (has v t ≡ false) × (has over b ≡ true) → Dec (t ≡ s)
              → ((has c t ≡ true) × (has left t ≡ false) × (has over b ≡ true)) ⊎ ((t ≡ s) × (has w.which.0 h ≡ true) × (has (bits_of w.over.0) b ≡ true))
          pick t h b lh g (yes j) = inr (j, L.staying.which h ∙ lt-ltb h z.counters lh, rw L.staying.columns g.2)
          pick t h b lh g (no j) = inl (g.0, sym (less_other left s v less t j) ∙ g.1, g.2)

  pub left_end : {left : ℕ} {l m : List ℕ} → Left moves z c over w left l m → left ≡ 0 → Stayed moves z c over l m
  left_end {left} L e = record {
    long = L.long;
    fills = λ p. filled_part z p.row p.entries p.table (L.fills p) (λ s h b ls lh lb d. (d.0, ap (λ (k : ℕ). has k s) e ∙ has_zero_lem s, d.1));
  }

-- ---- towards one goal

-- what the move of a state towards goal a writes
pub record Towards (z : Layout) (over q x a : ℕ) (w : Stamp) : Type 0 where
  pub columns : bits_of w.over.0 ≡ over
  pub which : w.which.0 ≡ pack z.counters (aimed_at z.counters q a)
  pub goal : bits_of w.goal.0 ≡ x
  pub hit : w.hit ≡ passed_counter z.counters true a
  pub miss : w.miss ≡ a
  pub more : w.more ≡ 0

passed_not : (m a : ℕ) → passed_counter m false a ≡ a
unfolding passed_counter
passed_not m a = refl

towards_first : (z : Layout) (over q x a : ℕ) (w : Stamp) (t : ℕ) → Towards z over q x a w
    → first_entry w t ≡ entry (gives (passed_counter z.counters (has x t) a) t)
towards_first z over q x a w t T =
    elim (decide (has x t)) [
      | inl e ↦ rw e (sym (first_hit w t (ap (λ (k : ℕ). has k t) T.goal ∙ e)) ∙ ap (λ (k : ℕ). entry (gives k t)) T.hit)
      | inr e ↦ rw (e, passed_not z.counters a) (sym (first_miss w t (ap (λ (k : ℕ). has k t) T.goal ∙ e)) ∙ ap (λ (k : ℕ). entry (gives k t)) T.miss)
    ]

pub goal_in : (q m a g : ℕ) → Goals q m g → has q a ≡ true → a < m
goal_in q m a g G h = within_has q m a G.members h

pub towards_stamps : (z : Layout) (n over q x a : ℕ) (w : Stamp) → LayoutFits z n → Goals q z.counters 0 → has q a ≡ true → Towards z over q x a w
    → Stamps z w
towards_stamps z n over q x a w F G h T = record {
  counters = λ k e. pack_below z.counters (aimed_at z.counters q a) k (rw T.which at e);
  hit = omega (arith, T.hit, F.counters, passed_below z.counters a true (goal_in q z.counters a 0 G h));
  miss = omega (arith, T.miss, F.counters, goal_in q z.counters a 0 G h);
  more = omega (arith, T.more);
}

pub aim_ground : (n c x y : ℕ) → within c n ≡ true → ((t : ℕ) → has y t ≡ (has x t && has c t)) → Ground n c y c
aim_ground n c x y b f = record {
  members = has_within y n (λ s e. within_has c n s b (and_right (has x s) (has c s) (sym (f s) ∙ e)));
  inside = λ s e. e;
  cover = λ s e d. clash e d;
}

module _ (z : Layout) (moves : List ℕ) (c over q x a y : ℕ) (w : Stamp) (ne : q ≢ 0) (g : has q a ≡ true)
    (f : (t : ℕ) → has y t ≡ (has x t && has c t)) (T : Towards z over q x a w) where
  aims : (h : ℕ) → has w.which.0 h ≡ true → (h < z.counters) × (first_from z.counters q h ≡ a)
  unfolding aimed_at
  aims h e =
      let k = rw T.which at e in
      let at = pack_holds z.counters (aimed_at z.counters q a) h k in
      (pack_below z.counters (aimed_at z.counters q a) h k, eqb-true (first_from z.counters q h) a at)

  aimed : (h : ℕ) → h < z.counters → first_from z.counters q h ≡ a → has w.which.0 h ≡ true
  unfolding aimed_at
  aimed h b e = rw T.which (has_pack_below z.counters (aimed_at z.counters q a) h b ∙ eq-eqb (first_from z.counters q h) a e)

  module _ (p : Course z moves c over q) (set : has x ≡ goal_at p.sets a) where
    meets : meets_at p.graph p.number (goal_at p.sets a) ≡ true
    meets = sym (goal_meets p.graph p.number p.sets q p.goals a (goal_below p.graph p.number p.sets q p.goals a g)) ∙ g

    goal_states : has y ≡ target p.graph p.number p.sets a
    goal_states = target_word p.graph p.number moves c p.same p.component p.sets a x y set f

    leads : (s : ℕ) → has c s ≡ true → Leads z.states (kept moves c) (has y) s
    leads s e =
        rw (p.states, inside_kept p.graph p.number moves c p.same p.component, goal_states)
        (target_leads p.graph p.number moves c p.same p.component p.sets a x y set f meets s
        (in_comp z moves c over q p s e) (stays z moves c over q p s e))

    next_is : (s : ℕ) → toward z.states (kept moves c) (has y) s
        ≡ toward p.graph.states (inside p.graph p.number) (target p.graph p.number p.sets a) s
    next_is s = rw (p.states, inside_kept p.graph p.number moves c p.same p.component, goal_states) refl

    tour_entry : (s h b t : ℕ) → s < z.states → has c s ≡ true → has w.which.0 h ≡ true → b < z.width → has over b ≡ true
        → t ≡ toward p.graph.states (inside p.graph p.number) (target p.graph p.number p.sets a) s
        → entry (gives (passed_counter z.counters (has x t) a) t) ≡ entry (p.row s h b)
    tour_entry s h b t ls i k lb o e =
        let n = course_counters z moves c over q p ne in
        let k' = aims h k in
        let lh : h < length p.sets = omega (arith, n, k'.0) in
        rw (
          p.tours s h b ls i k'.0 lb o,
          tour_aims p.graph p.number p.sets s h a t (goals_some p.graph p.number p.sets q p.goals ne)
              (sym k'.1 ∙ ap (λ (j : ℕ). first_from j q h) n ∙ goal_word p.graph p.number p.sets q p.goals h lh) e,
        )
        (ap (λ (j : ℕ). entry (gives (passed_counter j (has x t) a) t)) n
        ∙ ap (λ (j : ℕ → Bool). entry (gives (passed_counter (length p.sets) (j t) a) t)) set)

    leading : Leading moves z c y c w p.row
    leading = record {
      entry = λ s h b ls i m k lb o.
          rw (towards_first z over q x a w (toward z.states (kept moves c) (has y) s) T, T.more, zero-mul h)
          (add-zero (entry (gives (passed_counter z.counters (has x (toward z.states (kept moves c) (has y) s)) a)
          (toward z.states (kept moves c) (has y) s)))
          ∙ tour_entry s h b (toward z.states (kept moves c) (has y) s) ls i k lb (rw T.columns at o) (next_is s));
    }

  pub aimed_done : {l m : List ℕ} → Walks moves z c y c w l m → Aimed moves z c over q x a l m
  aimed_done W = record {
    long = W.long;
    fills = λ p set.
        filled_part z p.row p.entries p.table (W.fills p.row p.entries p.table (leading p set))
        (λ s h b ls lh lb d. (d.0, leads p set s d.0, aimed h lh d.1, rw T.columns d.2));
  }
