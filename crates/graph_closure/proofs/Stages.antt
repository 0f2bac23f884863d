-- The rows after k sweeps lie between the ways of at most k moves and the reach; a sweep that adds nothing leaves them at the reach.
use Prim.Native.Nat.{ℕ, zero, suc, ◌≤◌, ◌<◌}
use mathlib.Core.Path.{◌≡◌, refl, sym, ◌∙◌, ap}
use mathlib.Core.Bool.{Bool, true, false}
use mathlib.Core.List.{List, ◌++◌}
use mathlib.Core.Logic.{◌⊎◌, inl, inr}
use native.Mathlib.Decide.{dec_lt}
use native.Mathlib.Omega.{arith}
use lib.Dec.{eqb}
use lib.ListN.{length, get_or, drop}
use borrow.Author.Tests.{eqb-true, eq-eqb}
use Rattle.finite.proofs.Truth.{clash, or_cases, same_test}
use Rattle.bits.specs.Member.{has, pack}
use Rattle.bits.proofs.Membership.{has_pack_below, ext, pack_holds}
use Rattle.graphs.specs.Graph.{Graph, edge}
use Rattle.graphs.specs.Rows.{rel, rows_of}
use Rattle.graphs.specs.Walk.{stay, step}
use Rattle.graphs.specs.Closure.{nearby, reaches}
use Rattle.graphs.specs.Way.{near}
use Rattle.graphs.proofs.Graph.{edge_from, edge_to}
use Rattle.graphs.proofs.Closure.{Path, reaches_from, reaches_to, reaches_self, reaches_edge, reaches_trans, reaches_path, near_intro_same, near_intro_edge}
use Rattle.graphs.proofs.Way.{near_zero, near_below, near_more, near_cases, near_some, near_short}
use Rattle.graph_closure.specs.Sweep.{swept, adds}
use Rattle.graphs.proofs.Front.{rows_length, rows_at, rows_rest, rows_intro}
use Rattle.graph_closure.proofs.Sweeps.{swept_length, swept_rest, swept_keeps, swept_takes, swept_sound, Still, none_same, none_still, still_none}

module _ (G : Graph) where
  -- a way of at most k moves from a to u
  unfoldable pub way : ℕ → ℕ → ℕ → Bool
  way u k a = near G.states (edge G) (λ v. eqb v u) k a

  -- m holds rows as they are after k sweeps, and the rest of l
  pub record Stage (l m : List ℕ) (k : ℕ) : Type 0 where
    pub long : G.states ≤ length m
    pub rest : drop G.states m ≡ drop G.states l
    pub sound : (a u : ℕ) → a < G.states → rel m a u ≡ true → reaches G a u ≡ true
    pub self : (a : ℕ) → a < G.states → rel m a a ≡ true
    pub moves : (a u : ℕ) → edge G a u ≡ true → rel m a u ≡ true
    ways : (a u : ℕ) → way u k a ≡ true → rel m a u ≡ true

  -- ---- before the first sweep

  nearby_cases : (a u : ℕ) → nearby G a u ≡ true → (a ≡ u) ⊎ (edge G a u ≡ true)
  unfolding nearby
  nearby_cases a u h = elim (or_cases (eqb a u) (edge G a u) h) [ inl e ↦ inl (eqb-true a u e) | inr e ↦ inr e ]

  nearby_reaches : (a u : ℕ) → a < G.states → nearby G a u ≡ true → reaches G a u ≡ true
  nearby_reaches a u b h = elim (nearby_cases a u h) [ inl e ↦ ap (reaches G a) (sym e) ∙ reaches_self G a b | inr e ↦ reaches_edge G a u e ]

  way_none : (u a : ℕ) → way u 0 a ≡ true → (a < G.states) × (a ≡ u)
  unfolding way
  way_none u a h =
      (near_below G.states (edge G) (λ v. eqb v u) 0 a h, eqb-true a u (near_zero G.states (edge G) (λ v. eqb v u) a h))

  module _ (l m : List ℕ) (fits : G.states ≤ length l) (e : m ≡ rows_of G.states G.states (nearby G) ++ drop G.states l) where
    first_row_lem : (a u : ℕ) → a < G.states → rel m a u ≡ has (pack G.states (nearby G a)) u
    first_row_lem a u b = rows_at G.states (nearby G) l G.states a u b e

    first_has : (a u : ℕ) → a < G.states → u < G.states → nearby G a u ≡ true → rel m a u ≡ true
    first_has a u b c h = first_row_lem a u b ∙ has_pack_below G.states (nearby G a) u c ∙ h

    pub stage_start : Stage l m 0
    stage_start = record {
      long = omega (arith, rows_length G.states (nearby G) l G.states fits e);
      rest = rows_rest G.states (nearby G) l G.states e;
      sound = λ a u b h. nearby_reaches a u b (pack_holds G.states (nearby G a) u (sym (first_row_lem a u b) ∙ h));
      self = λ a b. first_has a a b b (near_intro_same G a);
      moves = λ a u h. first_has a u (edge_from G a u h) (edge_to G a u h) (near_intro_edge G a u h);
      ways = λ a u h.
          let w = way_none u a h in
          ap (rel m a) (sym w.1) ∙ first_has a a w.0 w.0 (near_intro_same G a);
    }

  -- ---- one sweep more

  pub stage_next : (l m : List ℕ) (k : ℕ) → Stage l m k → Stage l (swept G.states m G.states) (suc k)
  unfolding way
  stage_next l m k h =
      let n = G.states in
      let keeps : (a u : ℕ) → rel m a u ≡ true → rel (swept n m n) a u ≡ true = λ a u. swept_keeps n m n a u h.long in
      record {
        long = omega (arith, swept_length n m n, h.long);
        rest = swept_rest n m n (omega arith) ∙ h.rest;
        sound = swept_sound n m (reaches G) (reaches_trans G) h.long h.sound n (omega arith);
        self = λ a b. keeps a a (h.self a b);
        moves = λ a u e. keeps a u (h.moves a u e);
        ways = λ a u w. elim (near_cases n (edge G) (λ v. eqb v u) k a w) [
          | inl e ↦ keeps a u (h.ways a u e)
          | inr e ↦ swept_takes n m n a e.0 u h.long (edge_from G a e.0 e.2) e.1 (h.moves a e.0 e.2) (h.ways e.0 u e.3)
        ];
      }

  -- ---- ways are short

  way_later : (u a j k : ℕ) → j ≤ k → way u j a ≡ true → way u k a ≡ true
  unfolding way
  way_later u a j zero b w = let e : j ≡ 0 = omega arith in rw e at w
  way_later u a j (suc k) b w =
      elim (dec_lt k j) [
        | yes c ↦ let e : j ≡ suc k = omega arith in rw e at w
        | no c ↦ near_more G.states (edge G) (λ v. eqb v u) k a (way_later u a j k (omega arith) w)
      ]

  way_short : (a u : ℕ) → reaches G a u ≡ true → (j : ℕ) × (j < G.states) × (way u j a ≡ true)
  unfolding way
  way_short a u r =
      let n = G.states in
      let w = near_some n (edge G) (λ v. eqb v u) (edge_from G) (reaches_path G a u r) (reaches_to G a u r) (eq-eqb u u refl) in
      near_short n (edge G) (λ v. eqb v u) w.0 a w.1

  -- ---- the last sweep

  module _ (l m : List ℕ) (k : ℕ) (h : Stage l m k) where
    -- rows that hold the rows of their members hold all that a path leads to
    still_path : Still G.states m G.states → (a u : ℕ) → a < G.states → Path G a u → rel m a u ≡ true
    still_path st a u b stay = h.self a b
    still_path st a u b (step {b = c} e w) =
        st.rows a c u b (edge_to G a c e) (h.moves a c e) (still_path st c u (edge_to G a c e) w)

    row_end : ((a u : ℕ) → reaches G a u ≡ true → rel m a u ≡ true) → (a : ℕ) → a < G.states → get_or m a 0 ≡ pack G.states (reaches G a)
    unfolding rel
    row_end all a b =
        ext (get_or m a 0) (pack G.states (reaches G a)) (λ u.
        same_test (has (get_or m a 0) u) (has (pack G.states (reaches G a)) u)
        (λ e. let r = h.sound a u b e in has_pack_below G.states (reaches G a) u (reaches_to G a u r) ∙ r)
        (λ e. all a u (pack_holds G.states (reaches G a) u e)))

    pub stage_end : adds G.states m G.states ≡ false
        → swept G.states m G.states ≡ rows_of G.states G.states (reaches G) ++ drop G.states l
    stage_end e =
        let n = G.states in
        let st = none_still n m n h.long e in
        none_same n m n e
        ∙ rows_intro n (reaches G) l n h.long
        (row_end (λ a u r. still_path st a u (reaches_from G a u r) (reaches_path G a u r))) h.rest

    -- ---- the number of sweeps

    stage_full : G.states ≤ suc k → (a u : ℕ) → reaches G a u ≡ true → rel m a u ≡ true
    stage_full b a u r = let w = way_short a u r in h.ways a u (way_later u a w.0 k (omega (arith, w.1)) w.2)

    pub stage_few : adds G.states m G.states ≡ true → suc k < G.states
    stage_few e = go (dec_lt (suc k) G.states)
      where
        still : G.states ≤ suc k → Still G.states m G.states
        still b = record { rows = λ a t u c d p q. stage_full b a u (reaches_trans G a t u (h.sound a t c p) (h.sound t u d q)) }

        go : Dec (suc k < G.states) → suc k < G.states
        go (yes b) = b
        go (no b) = clash e (still_none G.states m G.states (still (omega arith)))

    -- where each state moves only to itself a sweep adds nothing
    loops_path : ((s t : ℕ) → edge G s t ≡ true → t ≡ s) → {a u : ℕ} → Path G a u → u ≡ a
    loops_path alone stay = refl
    loops_path alone (step {a = a} {b = c} e w) = loops_path alone w ∙ alone a c e

    pub stage_loops : ((s t : ℕ) → edge G s t ≡ true → t ≡ s) → adds G.states m G.states ≡ false
    stage_loops alone = still_none G.states m G.states (record { rows = still })
      where
        still : (a t u : ℕ) → a < G.states → t < G.states → rel m a t ≡ true → rel m t u ≡ true → rel m a u ≡ true
        still a t u b c p q = rw (loops_path alone (reaches_path G a t (h.sound a t b p))) at q
