-- Laws of the winning region: it obeys its rule, and what the rule's parts say.
use Prim.Native.Nat.{ℕ, zero, suc, ◌≤◌, ◌<◌}
use mathlib.Core.Path.{◌≡◌, refl, sym, ◌∙◌, ap}
use mathlib.Core.Bool.{Bool, true, false, ◌&&◌, ◌||◌, not}
use mathlib.Core.Logic.{inl, inr}
use native.Mathlib.Omega.{arith}
use Rattle.finite.specs.Bounded.{all, any}
use Rattle.finite.proofs.Truth.{decide, clash, false_of, and_intro, and_left, and_right, implies_intro, implies_elim}
use Rattle.finite.proofs.Bounded.{all_intro, all_elim, all_same, all_false, any_intro, any_elim, any_same}
use Rattle.finite.proofs.Lists.{all_of_same}
use Rattle.bits.proofs.Membership.{has_zero_lem}
use Rattle.graphs.specs.Graph.{edge, begins, stuck}
use Rattle.graphs.specs.Rows.{rel}
use Rattle.graphs.specs.Closure.{reaches}
use Rattle.graphs.specs.Component.{joined, nontrivial, leaves, meets_at, rank}
use Rattle.graphs.proofs.Graph.{edge_to, begins_below, stuck_none}
use Rattle.graphs.proofs.Rows.{rel_rows, rel_from, rel_to}
use Rattle.graphs.proofs.Closure.{reaches_to}
use Rattle.graphs.proofs.Component.{rank_le, rank_pos, rank_leaves, rank_trivial, joined_to, meets_at_same, leaves_same, leaves_elim}
use Rattle.arena.specs.Arena.{Separated}
use Rattle.theory.specs.Choice.{refused}
use Rattle.theory.specs.Region.{due, served, accepting, safe, home_for, settles, answers, replies, rule, region_rows, region, opens, verdict}

implies_same : (a b c : Bool) → (a ≡ true → b ≡ c) → (not a || b) ≡ (not a || c)
implies_same true b c f = f refl
implies_same false b c f = refl

module _ (S : Separated) where
  -- the rule's parts

  pub answers_intro : (w : ℕ → ℕ → Bool) (j o p : ℕ) → edge S.output o p ≡ true → w j p ≡ true → answers S w j o ≡ true
  unfolding answers
  answers_intro w j o p e h =
      any_intro S.output.states (λ k. edge S.output o k && w j k) p (edge_to S.output o p e) (and_intro e h)

  pub answers_elim : (w : ℕ → ℕ → Bool) (j o : ℕ) → answers S w j o ≡ true → (p : ℕ) × (edge S.output o p ≡ true) × (w j p ≡ true)
  unfolding answers
  answers_elim w j o h =
      let v = any_elim S.output.states (λ k. edge S.output o k && w j k) h in
      (v.0, and_left (edge S.output o v.0) (w j v.0) v.2, and_right (edge S.output o v.0) (w j v.0) v.2)

  pub answers_false : (w : ℕ → ℕ → Bool) (j o p : ℕ) → answers S w j o ≡ false → edge S.output o p ≡ true → w j p ≡ false
  answers_false w j o p h e = false_of (w j p) (λ t. clash (answers_intro w j o p e t) h)

  -- a stuck output answers nothing
  pub answers_stuck : (w : ℕ → ℕ → Bool) (j o : ℕ) → stuck S.output o ≡ true → answers S w j o ≡ false
  answers_stuck w j o h =
      false_of (answers S w j o) (λ a. let v = answers_elim w j o a in clash v.1 (stuck_none S.output o v.0 h))

  pub replies_intro : (w : ℕ → ℕ → Bool) (i o : ℕ) → ((j : ℕ) → edge S.input i j ≡ true → answers S w j o ≡ true) → replies S w i o ≡ true
  unfolding replies
  replies_intro w i o f =
      all_intro S.input.states (λ j. not (edge S.input i j) || answers S w j o)
      (λ j b. implies_intro (edge S.input i j) (answers S w j o) (f j))

  pub replies_elim : (w : ℕ → ℕ → Bool) (i o j : ℕ) → replies S w i o ≡ true → edge S.input i j ≡ true → answers S w j o ≡ true
  unfolding replies
  replies_elim w i o j h e =
      implies_elim (edge S.input i j) (answers S w j o)
      (all_elim S.input.states (λ k. not (edge S.input i k) || answers S w k o) h j (edge_to S.input i j e)) e

  pub replies_false : (w : ℕ → ℕ → Bool) (i o : ℕ) → replies S w i o ≡ false → (j : ℕ) × (edge S.input i j ≡ true) × (answers S w j o ≡ false)
  unfolding replies
  replies_false w i o h =
      let v = all_false S.input.states (λ k. not (edge S.input i k) || answers S w k o) h in
      (v.0, fails_left (edge S.input i v.0) (answers S w v.0 o) v.2, fails_right (edge S.input i v.0) (answers S w v.0 o) v.2)
    where
      fails_left : (a b : Bool) → (not a || b) ≡ false → a ≡ true
      fails_left true b e = refl
      fails_left false b e = clash refl e

      fails_right : (a b : Bool) → (not a || b) ≡ false → b ≡ false
      fails_right true b e = e
      fails_right false b e = clash refl e

  pub safe_intro : (w : ℕ → ℕ → Bool) (i d : ℕ) → ((j e : ℕ) → leaves S.input i j ≡ true → joined S.output d e ≡ true → w j e ≡ true)
      → safe S w i d ≡ true
  unfolding safe
  safe_intro w i d f =
      all_intro S.input.states (λ j. not (leaves S.input i j) || all S.output.states (λ e. not (joined S.output d e) || w j e))
      (λ j b. implies_intro (leaves S.input i j) (all S.output.states (λ e. not (joined S.output d e) || w j e))
      (λ l. all_intro S.output.states (λ e. not (joined S.output d e) || w j e)
      (λ e c. implies_intro (joined S.output d e) (w j e) (f j e l))))

  leaves_below : (i j : ℕ) → leaves S.input i j ≡ true → j < S.input.states
  leaves_below i j l = let v = leaves_elim S.input i j l in edge_to S.input v.0 j v.2

  pub safe_elim : (w : ℕ → ℕ → Bool) (i d j e : ℕ) → safe S w i d ≡ true → leaves S.input i j ≡ true → joined S.output d e ≡ true → w j e ≡ true
  unfolding safe
  safe_elim w i d j e h l a =
      implies_elim (joined S.output d e) (w j e)
      (all_elim S.output.states (λ k. not (joined S.output d k) || w j k)
      (implies_elim (leaves S.input i j) (all S.output.states (λ k. not (joined S.output d k) || w j k))
      (all_elim S.input.states (λ u. not (leaves S.input i u) || all S.output.states (λ k. not (joined S.output d k) || w u k)) h j
      (leaves_below i j l)) l)
      e (joined_to S.output d e a)) a

  pub home_for_intro : (w : ℕ → ℕ → Bool) (i d : ℕ) → nontrivial S.output d ≡ true → accepting S i d ≡ true → safe S w i d ≡ true → home_for S w i d ≡ true
  unfolding home_for
  home_for_intro w i d a b c = and_intro a (and_intro b c)

  pub home_for_nontrivial : (w : ℕ → ℕ → Bool) (i d : ℕ) → home_for S w i d ≡ true → nontrivial S.output d ≡ true
  unfolding home_for
  home_for_nontrivial w i d h = and_left (nontrivial S.output d) (accepting S i d && safe S w i d) h

  pub home_for_accepting : (w : ℕ → ℕ → Bool) (i d : ℕ) → home_for S w i d ≡ true → accepting S i d ≡ true
  unfolding home_for
  home_for_accepting w i d h =
      and_left (accepting S i d) (safe S w i d) (and_right (nontrivial S.output d) (accepting S i d && safe S w i d) h)

  pub home_for_safe : (w : ℕ → ℕ → Bool) (i d : ℕ) → home_for S w i d ≡ true → safe S w i d ≡ true
  unfolding home_for
  home_for_safe w i d h =
      and_right (accepting S i d) (safe S w i d) (and_right (nontrivial S.output d) (accepting S i d && safe S w i d) h)

  pub settles_intro : (w : ℕ → ℕ → Bool) (i o d : ℕ) → reaches S.output o d ≡ true → home_for S w i d ≡ true → settles S w i o ≡ true
  unfolding settles
  settles_intro w i o d r h =
      any_intro S.output.states (λ k. reaches S.output o k && home_for S w i k) d (reaches_to S.output o d r) (and_intro r h)

  pub settles_elim : (w : ℕ → ℕ → Bool) (i o : ℕ) → settles S w i o ≡ true → (d : ℕ) × (reaches S.output o d ≡ true) × (home_for S w i d ≡ true)
  unfolding settles
  settles_elim w i o h =
      let v = any_elim S.output.states (λ k. reaches S.output o k && home_for S w i k) h in
      (v.0, and_left (reaches S.output o v.0) (home_for S w i v.0) v.2, and_right (reaches S.output o v.0) (home_for S w i v.0) v.2)

  rule_nontrivial : (w : ℕ → ℕ → Bool) (i o : ℕ) → nontrivial S.input i ≡ true → rule S w i o ≡ settles S w i o
  unfolding rule
  rule_nontrivial w i o h = rw (h, rule) refl

  rule_trivial : (w : ℕ → ℕ → Bool) (i o : ℕ) → nontrivial S.input i ≡ false → rule S w i o ≡ replies S w i o
  unfolding rule
  rule_trivial w i o h = rw (h, rule) refl

  -- what is due, and served, at a state is so in all of its component

  accepting_same : (i i' d : ℕ) → joined S.input i i' ≡ true → accepting S i d ≡ accepting S i' d
  unfolding accepting due
  accepting_same i i' d h =
      all_of_same (λ q. not (due S i q) || served S d q) (λ q. not (due S i' q) || served S d q) S.requirements
      (λ q e. ap (λ (b : Bool). not b || served S d q)
      (all_of_same (meets_at S.input i) (meets_at S.input i') q.assumptions (λ p e'. meets_at_same S.input i i' p h)))

  safe_same : (w : ℕ → ℕ → Bool) (i i' d : ℕ) → joined S.input i i' ≡ true → safe S w i d ≡ true → safe S w i' d ≡ true
  safe_same w i i' d h a = safe_intro w i' d (λ j e l b. safe_elim w i d j e a (leaves_same S.input i i' j h ∙ l) b)

  pub home_for_same : (w : ℕ → ℕ → Bool) (i i' d : ℕ) → joined S.input i i' ≡ true → home_for S w i d ≡ true → home_for S w i' d ≡ true
  home_for_same w i i' d h a =
      home_for_intro w i' d (home_for_nontrivial w i d a) (sym (accepting_same i i' d h) ∙ home_for_accepting w i d a)
      (safe_same w i i' d h (home_for_safe w i d a))

  -- the rule looks only at inputs that reach fewer states

  module _ (w v : ℕ → ℕ → Bool) (i : ℕ)
      (agree : (j p : ℕ) → rank S.input j < rank S.input i → j < S.input.states → p < S.output.states → w j p ≡ v j p) where
    safe_agrees : (d : ℕ) → safe S w i d ≡ safe S v i d
    unfolding safe
    safe_agrees d =
        all_same S.input.states (λ j. not (leaves S.input i j) || all S.output.states (λ e. not (joined S.output d e) || w j e))
        (λ j. not (leaves S.input i j) || all S.output.states (λ e. not (joined S.output d e) || v j e))
        (λ j b. implies_same (leaves S.input i j) (all S.output.states (λ e. not (joined S.output d e) || w j e))
        (all S.output.states (λ e. not (joined S.output d e) || v j e))
        (λ l. all_same S.output.states (λ e. not (joined S.output d e) || w j e) (λ e. not (joined S.output d e) || v j e)
        (λ e c. ap (λ (x : Bool). not (joined S.output d e) || x) (agree j e (rank_leaves S.input i j l) b c))))

    settles_agrees : (o : ℕ) → settles S w i o ≡ settles S v i o
    unfolding settles home_for
    settles_agrees o =
        any_same S.output.states (λ d. reaches S.output o d && home_for S w i d) (λ d. reaches S.output o d && home_for S v i d)
        (λ d b. ap (λ (x : Bool). reaches S.output o d && (nontrivial S.output d && (accepting S i d && x))) (safe_agrees d))

    replies_agrees : (o : ℕ) → nontrivial S.input i ≡ false → replies S w i o ≡ replies S v i o
    unfolding replies answers
    replies_agrees o t =
        all_same S.input.states (λ j. not (edge S.input i j) || answers S w j o) (λ j. not (edge S.input i j) || answers S v j o)
        (λ j b. implies_same (edge S.input i j) (answers S w j o) (answers S v j o)
        (λ e. any_same S.output.states (λ p. edge S.output o p && w j p) (λ p. edge S.output o p && v j p)
        (λ p c. ap (λ (x : Bool). edge S.output o p && x) (agree j p (rank_trivial S.input i j t e) b c))))

    rule_agrees : (o : ℕ) → rule S w i o ≡ rule S v i o
    rule_agrees o =
        elim (decide (nontrivial S.input i)) [
          | inl t ↦ rule_nontrivial w i o t ∙ settles_agrees o ∙ sym (rule_nontrivial v i o t)
          | inr t ↦ rule_trivial w i o t ∙ replies_agrees o t ∙ sym (rule_trivial v i o t)
        ]

  rows_suc : (k i o : ℕ) → i < S.input.states → o < S.output.states → rel (region_rows S (suc k)) i o ≡ rule S (rel (region_rows S k)) i o
  unfolding region_rows
  rows_suc k i o a b = rel_rows S.input.states S.output.states (rule S (rel (region_rows S k))) i o a b

  -- from the round on that counts what the input reaches, nothing changes any more
  rows_stable : (k i o : ℕ) → i < S.input.states → o < S.output.states → rank S.input i ≤ k → rel (region_rows S (suc k)) i o ≡ rel (region_rows S k) i o
  rows_stable zero i o a b h = absurd (omega (arith, rank_pos S.input i a))
  rows_stable (suc k) i o a b h =
      rows_suc (suc k) i o a b
      ∙ rule_agrees (rel (region_rows S (suc k))) (rel (region_rows S k)) i (λ j p l c d. rows_stable k j p c d (omega arith)) o
      ∙ sym (rows_suc k i o a b)

  -- the region obeys the rule
  region_rule : (i o : ℕ) → i < S.input.states → o < S.output.states → region S i o ≡ rule S (region S) i o
  unfolding region
  region_rule i o a b =
      sym (rows_stable S.input.states i o a b (rank_le S.input i)) ∙ rows_suc S.input.states i o a b

  rows_from : (k i o : ℕ) → rel (region_rows S k) i o ≡ true → i < S.input.states
  unfolding region_rows rel
  rows_from zero i o h = clash h (has_zero_lem o)
  rows_from (suc k) i o h = rel_from S.input.states S.output.states (rule S (rel (region_rows S k))) i o h

  rows_to : (k i o : ℕ) → rel (region_rows S k) i o ≡ true → o < S.output.states
  unfolding region_rows rel
  rows_to zero i o h = clash h (has_zero_lem o)
  rows_to (suc k) i o h = rel_to S.input.states S.output.states (rule S (rel (region_rows S k))) i o h

  pub region_in : (i o : ℕ) → region S i o ≡ true → i < S.input.states
  unfolding region
  region_in i o h = rows_from S.input.states i o h

  pub region_out : (i o : ℕ) → region S i o ≡ true → o < S.output.states
  unfolding region
  region_out i o h = rows_to S.input.states i o h

  pub region_settles : (i o : ℕ) → i < S.input.states → o < S.output.states → nontrivial S.input i ≡ true → region S i o ≡ settles S (region S) i o
  region_settles i o a b t = region_rule i o a b ∙ rule_nontrivial (region S) i o t

  pub region_replies : (i o : ℕ) → i < S.input.states → o < S.output.states → nontrivial S.input i ≡ false → region S i o ≡ replies S (region S) i o
  region_replies i o a b t = region_rule i o a b ∙ rule_trivial (region S) i o t

  -- opening moves and the verdict

  pub opens_intro : (i o : ℕ) → begins S.output o ≡ true → region S i o ≡ true → opens S i ≡ true
  unfolding opens
  opens_intro i o e h =
      any_intro S.output.states (λ k. begins S.output k && region S i k) o (begins_below S.output o e) (and_intro e h)

  pub opens_elim : (i : ℕ) → opens S i ≡ true → (o : ℕ) × (begins S.output o ≡ true) × (region S i o ≡ true)
  unfolding opens
  opens_elim i h =
      let v = any_elim S.output.states (λ k. begins S.output k && region S i k) h in
      (v.0, and_left (begins S.output v.0) (region S i v.0) v.2, and_right (begins S.output v.0) (region S i v.0) v.2)

  pub opens_false : (i o : ℕ) → opens S i ≡ false → begins S.output o ≡ true → region S i o ≡ false
  opens_false i o h e = false_of (region S i o) (λ t. clash (opens_intro i o e t) h)

  pub verdict_intro : ((i : ℕ) → begins S.input i ≡ true → opens S i ≡ true) → verdict S ≡ true
  unfolding verdict
  verdict_intro f =
      all_intro S.input.states (λ i. not (begins S.input i) || opens S i) (λ i b. implies_intro (begins S.input i) (opens S i) (f i))

  pub verdict_elim : verdict S ≡ true → (i : ℕ) → begins S.input i ≡ true → opens S i ≡ true
  unfolding verdict
  verdict_elim h i e =
      implies_elim (begins S.input i) (opens S i)
      (all_elim S.input.states (λ k. not (begins S.input k) || opens S k) h i (begins_below S.input i e)) e

  -- where the verdict is not the system's, some initial input has no won opening
  pub some_refused : verdict S ≡ false → any S.input.states (refused S) ≡ true
  unfolding verdict refused
  some_refused h =
      let v = all_false S.input.states (λ i. not (begins S.input i) || opens S i) h in
      any_intro S.input.states (λ i. begins S.input i && not (opens S i)) v.0 v.1 (both (begins S.input v.0) (opens S v.0) v.2)
    where
      both : (a b : Bool) → (not a || b) ≡ false → (a && not b) ≡ true
      both true b e = ap not e
      both false b e = clash refl e
