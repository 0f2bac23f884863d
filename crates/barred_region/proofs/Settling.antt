-- What is kept, output set after output set.
--
--   settled_same, settled_less      : one output set
--   passed_none, passed_same, passed_less    : output set after output set
use Prim.Native.Nat.{ℕ, suc, ◌+◌, ◌<◌}
use mathlib.Core.Path.{◌≡◌, refl, sym, ◌∙◌, ap}
use mathlib.Core.Bool.{Bool, true, false, ◌&&◌}
use mathlib.Core.List.{List}
use native.Mathlib.Nat.{zero-add}
use native.Mathlib.Decide.{ℕ_discrete}
use native.Mathlib.Omega.{arith}
use lib.ListN.{length, get_or}
use Rattle.finite.proofs.Tabulate.{length_tabulate, get_d_tabulate}
use Rattle.finite.proofs.Truth.{clash, false_of, and_intro, and_left, and_false_right, same_test}
use Rattle.finite.specs.But.{ButFor}
use Rattle.finite.proofs.But.{but_self, but_then, but_wider}
use Rattle.bits.specs.Member.{has}
use Rattle.sets.specs.Words.{bits_of}
use Rattle.theory.specs.Tour.{goal_at}
use Rattle.barred.specs.Arena.{Pairs}
use Rattle.barred.specs.Region.{guaranteed, reach, barred_region}
use Rattle.barred.proofs.Rounds.{sub_intro, replies_mono, reach_in}
use Rattle.barred.proofs.Passes.{region_trimmed, region_passes}
use Rattle.game.specs.declared.Game.{Game}
use Rattle.game.specs.Access.{no_output, requirement_at, guarantee_at}
use Rattle.game.specs.Fits.{Fits}
use Rattle.play.specs.Play.{graph_of, separated_of, requirement_of}
use Rattle.barred_rows.specs.Areas.{kept_pairs, reached_pairs, kept_at, reached_at, staying_at, Met}
use Rattle.barred_stay.specs.Stay.{Within}
use Rattle.barred_region.specs.Region.{only, Among, ReachFound, Trimmed, Settled, Passed}
use Rattle.barred_region.proofs.Among.{among_sub, sub_among, part_reach}
use Rattle.barred_region.proofs.Trimming.{trimmed_endless}

module _ (g : Game) (F : Fits g) (v : ℕ) (l a b : List ℕ) (r : Bool) (R : ReachFound g v l a) (M : Met g.input.states reached_at kept_at a b r) where
  kept_a : (i : ℕ) → i < g.input.states → get_or a i 0 ≡ get_or l i 0
  kept_a i h = R.apart.low i (omega (arith, F.input.most))

  -- what is kept and reached
  row : (i o : ℕ) → i < g.input.states → kept_pairs b i o ≡ (kept_pairs l i o && reached_pairs a i o)
  row i o h =
      ap (λ (x : ℕ). has (get_or b x 0) o) (sym (zero-add i)) ∙ M.row i o h
      ∙ ap (λ (x : ℕ). has (get_or a x 0) o && reached_pairs a i o) (zero-add i) ∙ ap (λ (x : ℕ). has x o && reached_pairs a i o) (kept_a i h)

  inside_b : (i o : ℕ) → i < g.input.states → kept_pairs b i o ≡ true → kept_pairs l i o ≡ true
  inside_b i o h t = and_left (kept_pairs l i o) (reached_pairs a i o) (sym (row i o h) ∙ t)

  apart_b : ButFor kept_at (staying_at + g.input.states) l b
  apart_b =
      but_then (but_wider kept_at (staying_at + g.input.states) (omega arith) (omega arith) R.apart)
      (but_wider kept_at (staying_at + g.input.states) (omega arith) (omega arith) M.apart)

  kept_reached : (p : Pairs) → Among g p (reach (separated_of g) (only g) (has v) (kept_pairs l)) → Among g p (kept_pairs b)
  kept_reached p A = record {
    all = λ i o x y h. let t = A.all i o x y h in
        row i o x ∙ and_intro (reach_in (separated_of g) (only g) (has v) (kept_pairs l) i o t) (R.found i o x y ∙ t);
  }

  pub settled_within : Within g l → Within g b
  settled_within W = record { outputs = λ i o h t. W.outputs i o h (inside_b i o h t) }

  pub settled_same : r ≡ false → Settled g v l b false
  unfolding separated_of graph_of
  settled_same e = record {
    apart = apart_b;
    inside = inside_b;
    sound = λ p A c. kept_reached p A;
    endless = λ E. record {
      replied = λ i o x y h. replies_mono (separated_of g) (kept_pairs l) (kept_pairs b) (sub_intro (separated_of g) (λ j q c d k. same j q c ∙ k)) i o
          (E.replied i o x y (sym (same i o x) ∙ h));
    };
    some = λ q. clash q refl;
    same = λ q. same;
    none = λ q. record { all = λ i o x y h. sym (R.found i o x y) ∙ in_reached i o x h };
  }
    where
      in_reached : (i o : ℕ) → i < g.input.states → kept_pairs l i o ≡ true → reached_pairs a i o ≡ true
      in_reached i o h t =
          M.none e i o h (ap (λ (x : ℕ). has (get_or a x 0) o) (zero-add i) ∙ ap (λ (x : ℕ). has x o) (kept_a i h) ∙ t)

      same : (i o : ℕ) → i < g.input.states → kept_pairs b i o ≡ kept_pairs l i o
      same i o h = same_test (kept_pairs b i o) (kept_pairs l i o) (inside_b i o h) (λ t. row i o h ∙ and_intro t (in_reached i o h t))

  pub settled_less : (m : List ℕ) → Trimmed g b m → Within g l → r ≡ true → Settled g v l m true
  settled_less m T W e = record {
    apart = but_then apart_b T.apart;
    inside = λ i o h t. inside_b i o h (T.inside i o h t);
    sound = λ p A c. record { all = λ i o x y h. T.found i o x y ∙ (c (kept_pairs b) (kept_reached p A)).all i o x y h };
    endless = λ E. trimmed_endless g b m T;
    some = λ q. some (M.some e);
    same = λ q. clash refl q;
    none = λ q. clash refl q;
  }
    where
      some : (i : ℕ) × (o : ℕ) × (i < g.input.states) × (has (get_or a (kept_at + i) 0) o ≡ true) × (reached_pairs a i o ≡ false)
          → (i : ℕ) × (o : ℕ) × (i < g.input.states) × (o < g.output.states) × (kept_pairs l i o ≡ true) × (kept_pairs m i o ≡ false)
      some (i, o, h, t, f) =
          let u : kept_pairs l i o ≡ true = ap (λ (x : ℕ). has x o) (sym (kept_a i h)) ∙ ap (λ (x : ℕ). has (get_or a x 0) o) (sym (zero-add i)) ∙ t in
          let gone : kept_pairs b i o ≡ false = row i o h ∙ and_false_right (kept_pairs l i o) f in
          (i, o, h, W.outputs i o h u, u, false_of (kept_pairs m i o) (λ k. clash (T.inside i o h k) gone))

-- ---- output set after output set

module _ (g : Game) (l : List ℕ) where
  pub passed_none : Passed g 0 l l false
  passed_none = record {
    apart = but_self kept_at (staying_at + g.input.states) l;
    inside = λ i o h t. t;
    sound = λ bar h. h;
    endless = λ E. E;
    some = λ q. clash q refl;
    same = λ q i o h. refl;
    none = λ q j h. absurd (omega arith);
  }

  pub passed_within : (k : ℕ) (m : List ℕ) (r : Bool) → Passed g k l m r → Within g l → Within g m
  passed_within k m r T W = record { outputs = λ i o b h. W.outputs i o b (T.inside i o b h) }

  module _ (k : ℕ) (m : List ℕ) (r : Bool) (T : Passed g k l m r) (m' : List ℕ) (c : Bool) (S : Settled g (bits_of (guarantee_at g 0 k).0) m m' c)
      (b : k < (requirement_at g 0).guaranteed) where
    abbrev goal : ℕ → Bool
    goal = has (bits_of (guarantee_at g 0 k).0)

    -- the output set as the region's definition has it
    named : goal_at (guaranteed (only g)) (suc k) ≡ goal
    unfolding guaranteed goal_at only requirement_of
    named = get_d_tabulate (λ j. has (bits_of (get_or (requirement_at g 0).guarantees j no_output).0)) (requirement_at g 0).guaranteed k (λ s. false) b

    within_list : suc k < length (guaranteed (only g))
    unfolding guaranteed only requirement_of
    within_list = omega (arith, length_tabulate (λ j. has (bits_of (get_or (requirement_at g 0).guarantees j no_output).0)) (requirement_at g 0).guaranteed, b)

    apart : ButFor kept_at (staying_at + g.input.states) l m'
    apart = but_then T.apart S.apart

    inside : (i o : ℕ) → i < g.input.states → kept_pairs m' i o ≡ true → kept_pairs l i o ≡ true
    inside i o h t = T.inside i o h (S.inside i o h t)

    sound : (bar : Pairs) → Among g (barred_region (separated_of g) bar (only g)) (kept_pairs l)
        → Among g (barred_region (separated_of g) bar (only g)) (kept_pairs m')
    sound bar A =
        S.sound (barred_region (separated_of g) bar (only g))
        (sub_among g (rw named at (region_passes (separated_of g) bar (only g) (kept_pairs m) (among_sub g (T.sound bar A)) (suc k) within_list)))
        (λ z h. sub_among g (region_trimmed (separated_of g) bar (only g) z (among_sub g h)))

    pub passed_less : c ≡ true → Passed g (k + 1) l m' true
    passed_less e = record {
      apart = apart;
      inside = inside;
      sound = sound;
      endless = λ E. S.endless (T.endless E);
      some = λ q. let u = S.some e in (u.0, u.1, u.2, u.3, T.inside u.0 u.1 u.2 u.4, u.5);
      same = λ q. clash refl q;
      none = λ q. clash refl q;
    }

    pub passed_same : c ≡ false → Passed g (k + 1) l m' r
    passed_same e = record {
      apart = apart;
      inside = inside;
      sound = sound;
      endless = λ E. S.endless (T.endless E);
      some = λ q. let u = T.some q in (u.0, u.1, u.2, u.3, u.4, S.same e u.0 u.1 u.2 ∙ u.5);
      same = λ q i o h. S.same e i o h ∙ T.same q i o h;
      none = λ q j h. none q j h (ℕ_discrete j k);
    }
      where
        none : r ≡ false → (j : ℕ) → j < k + 1 → Dec (j ≡ k)
            → Among g (kept_pairs l) (reach (separated_of g) (only g) (has (bits_of (guarantee_at g 0 j).0)) (kept_pairs l))
        none q j h (no d) = T.none q j (omega arith)
        none q j h (yes d) =
            rw d (record {
              all = λ i o x y t. (part_reach g goal (kept_pairs m) (kept_pairs l) (record { all = λ s p u w z. sym (T.same q s p u) ∙ z })).all i o x y
                  ((S.none e).all i o x y (T.same q i o x ∙ t));
            })
