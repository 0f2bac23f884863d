-- What is reached, input after input.
--
--   growing_measure g x m       == falls whenever inputs are followed
--   followed_falls, followed_next    : the inputs that are left are followed
--   closed_reach               : what can be reached holds all that joins it
--   grown_inputs, grown_within, grown_wider    : what has grown
use Prim.Native.Nat.{ℕ, ◌+◌, ◌*◌, ◌/◌, ◌%◌, ◌<◌}
use mathlib.Core.Path.{◌≡◌, sym, ◌∙◌, ap}
use mathlib.Core.Bool.{Bool, true, false, ◌&&◌, ◌||◌, not}
use mathlib.Core.List.{List}
use mathlib.Core.Logic.{◌⊎◌, inl, inr, ◌≢◌}
use native.Mathlib.Nat.{div-lt_iff_lt-mul}
use native.Mathlib.Omega.{arith}
use lib.Arith.{digits_lt, digits_div, digits_mod}
use lib.Dec.{ltb}
use lib.ListN.{get_or}
use borrow.Author.Tests.{ltb-true, lt-ltb}
use Rattle.finite.specs.Bounded.{count, any}
use Rattle.finite.proofs.Truth.{decide, clash, false_of, and_intro, and_left, and_right, not_true, implies_intro, implies_elim}
use Rattle.finite.proofs.Bounded.{any_elim, any_false, count_le, count_mono, count_less}
use Rattle.finite.specs.But.{ButFor}
use Rattle.finite.proofs.But.{but_then, but_wider}
use Rattle.bits.specs.Member.{has}
use Rattle.bits.proofs.Membership.{has_zero_lem}
use Rattle.bits.proofs.Compare.{nonzero_member}
use Rattle.sets.specs.Words.{sets_in}
use Rattle.graphs.specs.Graph.{edge}
use Rattle.graphs.proofs.Graph.{edge_to}
use Rattle.arena.specs.Arena.{Requirement}
use Rattle.theory.specs.Region.{answers, replies}
use Rattle.theory.specs.Tour.{goal_at}
use Rattle.theory.proofs.Region.{answers_intro, replies_intro}
use Rattle.barred.specs.Arena.{Pairs}
use Rattle.barred.specs.Region.{assumed, nothing, barred_target, stay_step, reach}
use Rattle.barred.proofs.Rounds.{sub_intro, sub_elim, sub_refl, replies_mono, target_goal, target_near, target_mono, stay_greatest, reach_widens, nothing_in}
use Rattle.barred.proofs.Sets.{assumed_some}
use Rattle.game.specs.declared.Game.{Game}
use Rattle.game.specs.Fits.{Fits}
use Rattle.play.specs.Play.{graph_of, separated_of}
use Rattle.barred_rows.specs.Areas.{kept_pairs, reached_pairs, reached_at, staying_at, Emptied}
use Rattle.barred_stay.specs.Stay.{Within}
use Rattle.barred_stay.proofs.Staying.{row_edge, lower_first, lower_second}
use Rattle.barred_grow.specs.Grow.{Entered, Closed, Sound, Low, Inside, Grown, Wider}
use Rattle.barred_grow.proofs.Rows.{grown_then, grown_none}

-- how many positions are not reached
unfoldable pub missing : Game → List ℕ → ℕ
missing g m = count (g.input.states * g.output.states) (λ c. not (reached_pairs m (c / g.output.states) (c % g.output.states)))

-- a position more, or an input less to be followed
unfoldable pub growing_measure : Game → ℕ → List ℕ → ℕ
growing_measure g x m = missing g m * g.input.states + missing g m + count g.input.states (has x)

module _ (g : Game) (F : Fits g) (v : ℕ) where
  abbrev ins : List ℕ
  ins = sets_in g.input.moves

  abbrev outs : List ℕ
  outs = sets_in g.output.moves

  pub inside_moves : Inside ins g.input.states
  inside_moves = record { below = F.input.row_below }

  module _ (x : ℕ) (m : List ℕ) (x' : ℕ) (m' : List ℕ) (R : Grown ins outs g.input.states v 0 x' m m') where
    pub followed_next : {y : ℕ} {l : List ℕ} → Grown ins outs g.input.states v y x l m → Grown ins outs g.input.states v y x' l m'
    followed_next G =
        grown_then ins outs g.input.states v F.input.most (grown_none ins outs g.input.states v F.input.most G) R

    -- where an input is left, a position is gained; where none is, there was one before
    pub followed_falls : x ≢ 0 → Low g.input.states x → Within g m → growing_measure g x' m' < growing_measure g x m
    unfolding growing_measure missing
    followed_falls ne L W = go (decide (any g.input.states (has x')))
      where
        test : List ℕ → ℕ → Bool
        test k c = not (reached_pairs k (c / g.output.states) (c % g.output.states))

        fewer : (c : ℕ) → c < g.input.states * g.output.states → test m' c ≡ true → test m c ≡ true
        fewer c b h =
            ap not
            (false_of (reached_pairs m (c / g.output.states) (c % g.output.states))
            (λ t. clash
            (R.more (c / g.output.states) (c % g.output.states) ((div-lt_iff_lt-mul (omega (arith, F.output.some))).1 b) t)
            (not_true (reached_pairs m' (c / g.output.states) (c % g.output.states)) h)))

        go : (any g.input.states (has x') ≡ true) ⊎ (any g.input.states (has x') ≡ false)
            → missing g m' * g.input.states + missing g m' + count g.input.states (has x')
            < missing g m * g.input.states + missing g m + count g.input.states (has x)
        go (inl h) =
            let a = any_elim g.input.states (has x') h in
            lower_first g.input.states (missing g m') (missing g m) (count g.input.states (has x')) (count g.input.states (has x))
            (gained a.0 a.2) (count_le g.input.states (has x'))
          where
            gained : (q : ℕ) → has x' q ≡ true → missing g m' < missing g m
            gained q e =
                elim (R.left q e) [
                  | inl y ↦ clash y (has_zero_lem q)
                  | inr u ↦
                      let d = W.outputs q u.1.0 u.0 u.1.1 in
                      count_less (g.input.states * g.output.states) (test m') (test m) fewer (q * g.output.states + u.1.0) (digits_lt u.0 d)
                      (rw (digits_div q d, digits_mod q d) (ap not u.1.3)) (rw (digits_div q d, digits_mod q d) (ap not u.1.2))
                ]
        go (inr h) =
            let u = nonzero_member x ne in
            let b = L.below u.0 u.1 in
            lower_second g.input.states (missing g m') (missing g m) (count g.input.states (has x')) (count g.input.states (has x))
            (count_mono (g.input.states * g.output.states) (test m') (test m) fewer)
            (count_less g.input.states (has x') (has x) (λ q c e. clash e (any_false g.input.states (has x') h q c)) u.0 b
            (any_false g.input.states (has x') h u.0 b) u.1)

  -- ---- what can be reached

  module _ (q : Requirement) (Z : Pairs) (W : (i o : ℕ) → i < g.input.states → Z i o ≡ true → o < g.output.states) where
    abbrev Y : Pairs
    Y = reach (separated_of g) q (has v) Z

    -- what is no position is let in
    abbrev pub bound : Pairs
    bound i o = not (ltb o g.output.states) || Y i o

    abbrev wait : ℕ → Bool
    wait = goal_at (assumed q) 0

    abbrev near : Pairs
    near = barred_target (has v) wait Z Y nothing

    -- what enters the goal or what can be reached at once
    abbrev X : Pairs
    X i o = Z i o && replies (separated_of g) near i o

    X-stays : (i o : ℕ) → i < g.input.states → o < g.output.states → X i o ≡ true → Y i o ≡ true
    unfolding separated_of graph_of stay_step
    X-stays i o a b h =
        sub_elim (separated_of g) (reach_widens (separated_of g) q (has v) Z Y (sub_refl (separated_of g) Y) 0 (assumed_some q)) i o a b
        (sub_elim (separated_of g)
        (stay_greatest (separated_of g) (has v) wait Z Y X
        (sub_intro (separated_of g) (λ k p c d t. and_left (Z k p) (replies (separated_of g) near k p) t))
        (sub_intro (separated_of g)
        (λ k p c d t. and_intro (and_left (Z k p) (replies (separated_of g) near k p) t)
        (replies_mono (separated_of g) near (barred_target (has v) wait Z Y X)
        (target_mono (separated_of g) (has v) wait Z Z Y Y nothing X (sub_refl (separated_of g) Z) (sub_refl (separated_of g) Y)
        (nothing_in (separated_of g) q X)) k p
        (and_right (Z k p) (replies (separated_of g) near k p) t))))) i o a b h)

    pub closed_reach : Closed ins outs g.input.states v Z bound
    unfolding separated_of graph_of
    closed_reach = record {
      closed = λ i o a z f. implies_intro (ltb o g.output.states) (Y i o)
          (λ t. X-stays i o a (W i o a z)
          (and_intro z
          (replies_intro (separated_of g) near i o
          (λ j e. answer i j o (W i o a z) (f j (row_edge g.input F.input i j a ∙ e))))));
    }
      where
        answer : (i j o : ℕ) → o < g.output.states → Entered outs v Z bound j o → answers (separated_of g) near j o ≡ true
        answer i j o b E =
            let e : edge (graph_of g.output) o E.to ≡ true = sym (row_edge g.output F.output o E.to b) ∙ E.move in
            answers_intro (separated_of g) near j o E.to e
            (elim E.good [
              | inl t ↦ target_goal (has v) wait Z Y nothing j E.to t.0 t.1
              | inr t ↦ target_near (has v) wait Z Y nothing j E.to
                  (implies_elim (ltb E.to g.output.states) (Y j E.to) t
                  (lt-ltb E.to g.output.states (edge_to (graph_of g.output) o E.to e)))
            ])

  -- ---- from rows that are empty

  module _ (k a l m : List ℕ) (A : Emptied g.input.states 512 k a) (B : Emptied g.input.states staying_at a l) where
    apart : ButFor reached_at (staying_at + g.input.states) k l
    apart =
        but_then (but_wider reached_at (staying_at + g.input.states) (omega arith) (omega (arith, F.input.most)) A.apart)
        (but_wider reached_at (staying_at + g.input.states) (omega arith) (omega arith) B.apart)

    reached_row : (i : ℕ) → i < g.input.states → get_or l (reached_at + i) 0 ≡ get_or k (reached_at + i) 0
    reached_row i b = B.apart.low (reached_at + i) (omega (arith, F.input.most)) ∙ A.apart.low (reached_at + i) (omega (arith, F.input.most))

    pub emptied_within : Within g k → Within g l
    emptied_within W = record {
      outputs = λ i o b h. W.outputs i o b (ap (λ (x : ℕ). has x o) (sym (apart.low i (omega (arith, F.input.most)))) ∙ h);
    }

    module _ (x x' : ℕ) (G : Grown ins outs g.input.states v x x' l m) (W : Within g k) where
      pub grown_inputs : ((s : ℕ) → has x s ≡ ltb s g.input.states) → Low g.input.states x'
      grown_inputs e = record {
        below = λ j h. elim (G.left j h) [ inl t ↦ ltb-true j g.input.states (sym (e j) ∙ t) | inr u ↦ u.0 ];
      }

      pub grown_within : Within g m
      grown_within = record {
        outputs = λ i o b h. (emptied_within W).outputs i o b (ap (λ (y : ℕ). has y o) (sym (G.apart.low i (omega (arith, F.input.most)))) ∙ h);
      }

      pub grown_wider : (q : Requirement) → Wider g q v k m
      grown_wider q = record {
        apart = but_then apart G.apart;
        more = λ i o b h. G.more i o b (ap (λ (y : ℕ). has y o) (reached_row i b) ∙ h);
        sound = λ f i o c d h. implies_elim (ltb o g.output.states) (reach (separated_of g) q (has v) (kept_pairs k) i o)
            ((G.sound (kept_pairs k) (bound q (kept_pairs k) W.outputs) (closed_reach q (kept_pairs k) W.outputs) (start f)).reached i o c h)
            (lt-ltb o g.output.states d);
      }
        where
          start : ((i o : ℕ) → i < g.input.states → o < g.output.states → reached_pairs k i o ≡ true
              → reach (separated_of g) q (has v) (kept_pairs k) i o ≡ true)
              → Sound outs g.input.states v (kept_pairs k) (bound q (kept_pairs k) W.outputs) l
          start f = record {
            kept = λ i o b h. ap (λ (y : ℕ). has y o) (sym (apart.low i (omega (arith, F.input.most)))) ∙ h;
            reached = λ i o b h. implies_intro (ltb o g.output.states) (reach (separated_of g) q (has v) (kept_pairs k) i o)
                (λ t. f i o b (ltb-true o g.output.states t) (ap (λ (y : ℕ). has y o) (sym (reached_row i b)) ∙ h));
            allowed = λ j o b h. clash h (ap (λ (y : ℕ). has y o) (B.row j b) ∙ has_zero_lem o);
          }
