-- What is reached.
--
--   waits_first, waits_next    : the sets that are waited for
--   widened_by                 : one set
--   widened_none, widened_next, widened_grew, widened_grown    : set after set, and single steps
--   Reaching g v l m           == what is reached so far, from nothing
--   reaching_start, reaching_next, reaching_falls, reaching_end
use Prim.Native.Nat.{ℕ, suc, ◌+◌, ◌*◌, ◌-◌, ◌≤◌, ◌<◌}
use mathlib.Core.Path.{◌≡◌, refl, sym, ◌∙◌, ap}
use mathlib.Core.Bool.{Bool, true, false, ◌||◌}
use mathlib.Core.List.{List}
use mathlib.Core.Logic.{inl, inr}
use native.Mathlib.Numerals.{add-one}
use native.Mathlib.Decide.{ℕ_discrete}
use native.Mathlib.Omega.{arith}
use lib.Dec.{ltb}
use lib.ListN.{length, get_or}
use borrow.Author.Tests.{lt-ltb}
use Rattle.finite.proofs.Tabulate.{length_tabulate, get_d_tabulate}
use Rattle.finite.proofs.Truth.{clash, false_of, or_left, or_right, or_cases, same_test}
use Rattle.finite.specs.But.{ButFor}
use Rattle.finite.proofs.But.{but_self, but_then, but_wider}
use Rattle.bits.specs.Member.{has}
use Rattle.bits.proofs.Membership.{has_zero_lem}
use Rattle.sets.specs.Words.{bits_of}
use Rattle.theory.specs.Tour.{goal_at}
use Rattle.barred.specs.Region.{assumed, stay, reach}
use Rattle.barred.proofs.Rounds.{reach_widens}
use Rattle.barred.proofs.Passes.{reach_found}
use Rattle.game.specs.declared.Game.{Game}
use Rattle.game.specs.Access.{no_input, requirement_at, assumption_at}
use Rattle.game.specs.Fits.{Fits}
use Rattle.play.specs.Play.{graph_of, separated_of, requirement_of}
use Rattle.barred_rows.specs.Areas.{kept_pairs, reached_pairs, staying_pairs, reached_at, staying_at, Emptied, United}
use Rattle.barred_stay.specs.Stay.{Within, Stayed}
use Rattle.barred_grow.specs.Grow.{Wider}
use Rattle.barred_region.specs.Region.{only, Among, Waits, WidenedBy, Widened, ReachFound}
use Rattle.barred_region.proofs.Among.{among_sub, sub_among, among_self, among_then, rows_among, part_stay, part_reach}
use Rattle.barred_region.proofs.Among.{counted, counted_most, counted_less}

-- ---- the sets that are waited for

module _ (g : Game) where
  pub assumed_length : length (assumed (only g)) ≡ (requirement_at g 0).assumed + 1
  unfolding assumed only requirement_of
  assumed_length = ap suc (length_tabulate _ (requirement_at g 0).assumed) ∙ sym (add-one (requirement_at g 0).assumed)

  pub waits_first : (w : ℕ) → ((s : ℕ) → has w s ≡ ltb s g.input.states) → Waits g w 0
  unfolding assumed goal_at
  waits_first w e = record { same = λ i b. e i ∙ lt-ltb i g.input.states b }

  pub waits_next : (j : ℕ) (w : ℕ) → j < (requirement_at g 0).assumed → w ≡ bits_of (assumption_at g 0 j).0 → Waits g w (suc j)
  unfolding assumed goal_at only requirement_of
  waits_next j w b e = record {
    same = λ i h. ap (λ (x : ℕ). has x i) e
        ∙ ap (λ (f : ℕ → Bool). f i)
        (sym (get_d_tabulate (λ k. has (bits_of (get_or (requirement_at g 0).assumptions k no_input).0)) (requirement_at g 0).assumed j (λ s. false) b));
  }

pub record Reaching (g : Game) (v : ℕ) (l m : List ℕ) : Type 0 where
  pub apart : ButFor reached_at (staying_at + g.input.states) l m
  pub sound : Among g (reached_pairs m) (reach (separated_of g) (only g) (has v) (kept_pairs l))

-- ---- one set

module _ (g : Game) (F : Fits g) where
  -- the rows of what is kept stand before what changes
  kept_row : {b : ℕ} {l m : List ℕ} → ButFor reached_at b l m → (i : ℕ) → i < g.input.states → get_or m i 0 ≡ get_or l i 0
  kept_row A i h = A.low i (omega (arith, F.input.most))

  module _ (v w : ℕ) (l k m : List ℕ) (r : Bool) (T : Stayed g v w l k) (U : United g.input.states staying_at reached_at k m r) (W : Within g l) where
    reached_row : (i o : ℕ) → i < g.input.states → reached_pairs k i o ≡ reached_pairs l i o
    reached_row i o b = ap (λ (x : ℕ). has x o) (T.apart.low (reached_at + i) (omega (arith, F.input.most)))

    row : (i o : ℕ) → i < g.input.states → o < g.output.states
        → reached_pairs m i o ≡ (reached_pairs l i o || stay (separated_of g) (has v) (has w) (kept_pairs l) (reached_pairs l) i o)
    row i o a b = U.row i o a ∙ both (reached_row i o a) (T.found i o a b)
      where
        both : {p q u x : Bool} → p ≡ u → q ≡ x → (p || q) ≡ (u || x)
        both e f = rw (e, f) refl

    pub widened_by : WidenedBy g v w l m r
    widened_by = record {
      apart = but_then (but_wider reached_at (staying_at + g.input.states) (omega arith) (omega arith) T.apart)
          (but_wider reached_at (staying_at + g.input.states) (omega arith) (omega (arith, F.input.most)) U.apart);
      row = row;
      some = λ e. some (U.some e);
      none = λ e. record { all = λ i o a b h. sym (reached_row i o a) ∙ U.none e i o a (T.found i o a b ∙ h) };
    }
      where
        some : (i : ℕ) × (o : ℕ) × (i < g.input.states) × (staying_pairs k i o ≡ true) × (reached_pairs k i o ≡ false)
            → (i : ℕ) × (o : ℕ) × (i < g.input.states) × (o < g.output.states) × (reached_pairs l i o ≡ false) × (reached_pairs m i o ≡ true)
        some (i, o, a, t, f) =
            let b = W.outputs i o a (T.inside i o a t) in
            (i, o, a, b, sym (reached_row i o a) ∙ f, U.row i o a ∙ or_right (reached_pairs k i o) t)

  -- ---- set after set

  module _ (v : ℕ) (l : List ℕ) where
    pub widened_none : (k : ℕ) → k ≡ length (assumed (only g)) → Widened g v k l l false
    widened_none k b = record {
      apart = but_self reached_at (staying_at + g.input.states) l;
      more = among_self g (reached_pairs l);
      sound = λ h. h;
      some = λ e. clash e refl;
      same = λ e. among_self g (reached_pairs l);
      none = λ e j a h. absurd (omega arith);
    }

    module _ (k h : ℕ) (n : h ≡ k + 1) (m : List ℕ) (T : Widened g v h l m false) (w : ℕ) (m' : List ℕ) (r : Bool) (R : WidenedBy g v w m m' r)
        (N : Waits g w k) (b : k < length (assumed (only g))) where
      -- what is kept is as it was
      into : Among g (kept_pairs m) (kept_pairs l)
      into = rows_among g (λ i. get_or m i 0) (λ i. get_or l i 0) (kept_row T.apart)

      back : Among g (kept_pairs l) (kept_pairs m)
      back = rows_among g (λ i. get_or l i 0) (λ i. get_or m i 0) (λ i h. sym (kept_row T.apart i h))

      grows : Among g (reached_pairs m) (reached_pairs m')
      grows = record { all = λ i o a c h. R.row i o a c ∙ or_left (stay (separated_of g) (has v) (has w) (kept_pairs m) (reached_pairs m) i o) h }

      apart : ButFor reached_at (staying_at + g.input.states) l m'
      apart = but_then T.apart R.apart

      sound : Among g (reached_pairs l) (reach (separated_of g) (only g) (has v) (kept_pairs l))
          → Among g (reached_pairs m') (reach (separated_of g) (only g) (has v) (kept_pairs l))
      sound h = record {
        all = λ i o a c t. elim
            (or_cases (reached_pairs m i o) (stay (separated_of g) (has v) (has w) (kept_pairs m) (reached_pairs m) i o) (sym (R.row i o a c) ∙ t)) [
              | inl y ↦ (T.sound h).all i o a c y
              | inr x ↦ (sub_among g (reach_widens (separated_of g) (only g) (has v) (kept_pairs l) (reached_pairs m) (among_sub g (T.sound h)) k b)).all i o a c
                  ((part_stay g (has v) (has v) (has w) (goal_at (assumed (only g)) k) (kept_pairs m) (kept_pairs l) (reached_pairs m) (reached_pairs m) (λ p. refl)
                  N.same into
                  (among_self g (reached_pairs m))).all i o a c x)
            ];
      }

      pub widened_grew : (j : ℕ) → r ≡ true → Widened g v j l m' true
      widened_grew j e = record {
        apart = apart;
        more = among_then g T.more grows;
        sound = sound;
        some = λ q. let u = R.some e in
            (u.0, u.1, u.2, u.3, false_of (reached_pairs l u.0 u.1) (λ t. clash (T.more.all u.0 u.1 u.2 u.3 t) u.4), u.5);
        same = λ q. clash refl q;
        none = λ q. clash refl q;
      }

      pub widened_next : r ≡ false → Widened g v k l m' false
      widened_next e = record {
        apart = apart;
        more = among_then g T.more grows;
        sound = sound;
        some = λ q. clash q refl;
        same = λ q. among_then g shrinks (T.same refl);
        none = λ q j a c. none j a c (ℕ_discrete j k);
      }
        where
          shrinks : Among g (reached_pairs m') (reached_pairs m)
          shrinks = record {
            all = λ i o a c t. elim
                (or_cases (reached_pairs m i o) (stay (separated_of g) (has v) (has w) (kept_pairs m) (reached_pairs m) i o) (sym (R.row i o a c) ∙ t)) [
                  | inl y ↦ y
                  | inr x ↦ (R.none e).all i o a c x
                ];
          }

          none : (j : ℕ) → k ≤ j → j < length (assumed (only g)) → Dec (j ≡ k)
              → Among g (stay (separated_of g) (has v) (goal_at (assumed (only g)) j) (kept_pairs l) (reached_pairs l)) (reached_pairs l)
          none j a c (no q) = T.none refl j (omega arith) c
          none j a c (yes q) =
              rw q (among_then g
              (part_stay g (has v) (has v) (goal_at (assumed (only g)) k) (has w) (kept_pairs l) (kept_pairs m) (reached_pairs l) (reached_pairs m) (λ p. refl)
              (λ i c. sym (N.same i c)) back T.more)
              (among_then g (R.none e) (T.same refl)))

  -- and single steps after it
  pub widened_grown : (v k : ℕ) (l m m' : List ℕ) (r : Bool) → Widened g v k l m r → r ≡ true → Wider g (only g) v m m' → Widened g v k l m' true
  widened_grown v k l m m' r T t G = record {
    apart = but_then T.apart G.apart;
    more = among_then g T.more (record { all = λ i o a b h. G.more i o a h });
    sound = λ h. among_then g (record { all = G.sound (among_then g (T.sound h) (part_reach g (has v) (kept_pairs l) (kept_pairs m) back)).all })
        (part_reach g (has v) (kept_pairs m) (kept_pairs l) into);
    some = λ e. let u = T.some t in (u.0, u.1, u.2, u.3, u.4, G.more u.0 u.1 u.2 u.5);
    same = λ e. clash refl e;
    none = λ e. clash refl e;
  }
    where
      into : Among g (kept_pairs m) (kept_pairs l)
      into = rows_among g (λ i. get_or m i 0) (λ i. get_or l i 0) (kept_row T.apart)

      back : Among g (kept_pairs l) (kept_pairs m)
      back = rows_among g (λ i. get_or l i 0) (λ i. get_or m i 0) (λ i h. sym (kept_row T.apart i h))

  pub wider_within : (v : ℕ) (l m : List ℕ) → Wider g (only g) v l m → Within g l → Within g m
  wider_within v l m G W = record { outputs = λ i o b h. W.outputs i o b (ap (λ (x : ℕ). has x o) (sym (kept_row G.apart i b)) ∙ h) }

  pub widened_within : (v k : ℕ) (l m : List ℕ) (r : Bool) → Widened g v k l m r → Within g l → Within g m
  widened_within v k l m r T W = record { outputs = λ i o b h. W.outputs i o b (ap (λ (x : ℕ). has x o) (sym (kept_row T.apart i b)) ∙ h) }

  -- ---- from nothing

  module _ (v : ℕ) (l : List ℕ) where
    pub reaching_start : (k : List ℕ) → Emptied g.input.states reached_at k l → (m : List ℕ) → Wider g (only g) v l m → Reaching g v m m
    reaching_start k E m G = record {
      apart = but_self reached_at (staying_at + g.input.states) m;
      sound = among_then g (record { all = G.sound (λ i o a b h. clash h (ap (λ (x : ℕ). has x o) (E.row i a) ∙ has_zero_lem o)) })
          (part_reach g (has v) (kept_pairs l) (kept_pairs m) (rows_among g (λ i. get_or l i 0) (λ i. get_or m i 0) (λ i h. sym (kept_row G.apart i h))));
    }

    pub reaching_within : Within g l → (m : List ℕ) → Reaching g v l m → Within g m
    reaching_within W m T = record { outputs = λ i o b h. W.outputs i o b (ap (λ (x : ℕ). has x o) (sym (kept_row T.apart i b)) ∙ h) }

    module _ (m : List ℕ) (T : Reaching g v l m) (m' : List ℕ) (r : Bool) (R : Widened g v 0 m m' r) where
      into_l : Among g (kept_pairs m) (kept_pairs l)
      into_l = rows_among g (λ i. get_or m i 0) (λ i. get_or l i 0) (kept_row T.apart)

      from_l : Among g (kept_pairs l) (kept_pairs m)
      from_l = rows_among g (λ i. get_or l i 0) (λ i. get_or m i 0) (λ i h. sym (kept_row T.apart i h))

      pub reaching_next : Reaching g v l m'
      reaching_next = record {
        apart = but_then T.apart R.apart;
        sound = among_then g (R.sound (among_then g T.sound (part_reach g (has v) (kept_pairs l) (kept_pairs m) from_l)))
            (part_reach g (has v) (kept_pairs m) (kept_pairs l) into_l);
      }

      pub reaching_falls : r ≡ true
          → g.input.states * g.output.states - counted g (reached_pairs m') < g.input.states * g.output.states - counted g (reached_pairs m)
      reaching_falls e =
          let u = R.some e in
          omega (arith, counted_less g F R.more u.0 u.1 u.2 u.3 u.4 u.5, counted_most g (reached_pairs m'))

      pub reaching_end : r ≡ false → ReachFound g v l m'
      unfolding separated_of graph_of
      reaching_end e = record {
        apart = but_then T.apart R.apart;
        found = reach_found (separated_of g) (only g) (has v) (kept_pairs l) (reached_pairs m') (among_sub g reaching_next.sound)
            (λ j b. among_sub g (among_then g
            (part_stay g (has v) (has v) (goal_at (assumed (only g)) j) (goal_at (assumed (only g)) j) (kept_pairs l) (kept_pairs m) (reached_pairs m')
            (reached_pairs m)
            (λ p. refl) (λ i c. refl) from_l (R.same e))
            (among_then g (R.none e j (omega arith) b) R.more)));
      }

  -- what is kept is as it was before what was reached had been emptied, and grown
  pub reached_from : (v : ℕ) (k l m n : List ℕ) → Emptied g.input.states reached_at k n → Wider g (only g) v n l → ReachFound g v l m
      → ReachFound g v k m
  reached_from v k l m n E G R = record {
    apart = but_then wide R.apart;
    found = λ i o a b. R.found i o a b
        ∙ same_test (reach (separated_of g) (only g) (has v) (kept_pairs l) i o) (reach (separated_of g) (only g) (has v) (kept_pairs k) i o)
        ((part_reach g (has v) (kept_pairs l) (kept_pairs k) (rows_among g (λ i. get_or l i 0) (λ i. get_or k i 0) (kept_row wide))).all i o a b)
        ((part_reach g (has v) (kept_pairs k) (kept_pairs l) (rows_among g (λ i. get_or k i 0) (λ i. get_or l i 0) (λ i h. sym (kept_row wide i h)))).all i o a b);
  }
    where
      wide : ButFor reached_at (staying_at + g.input.states) k l
      wide = but_then (but_wider reached_at (staying_at + g.input.states) (omega arith) (omega (arith, F.input.most)) E.apart) G.apart
