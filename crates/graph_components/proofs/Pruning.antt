-- A component searched for among the states that s reaches: what a state reaches that does not reach s is passed over.
--
--   pruned-*            : how the states of row s are pruned
--   leads_back rows s t  == row t has s
--   gathered-*          : how those of them that lead back to s are gathered
use Prim.Native.Nat.{ℕ, ◌≤◌, ◌<◌}
use mathlib.Core.Path.{◌≡◌, refl, sym, ◌∙◌, ap}
use mathlib.Core.Bool.{Bool, true, false, not, ◌&&◌, ◌||◌}
use mathlib.Core.List.{List}
use mathlib.Core.Logic.{◌⊎◌, inl, inr, ◌≢◌}
use lib.Dec.{eqb, ltb}
use lib.ListN.{get_or}
use native.Mathlib.Omega.{arith}
use Rattle.finite.specs.Bounded.{least, count}
use Rattle.finite.proofs.Truth.{decide, clash, false_of, not_false, same_test, and_intro, and_left, and_right, and_cases, or_left, or_right, or_none}
use Rattle.finite.proofs.Bounded.{count_mono}
use Rattle.bits.specs.Member.{has, pack}
use Rattle.bits.proofs.Membership.{pack_ext}
use Rattle.bits.proofs.Visit.{Collected, cut_in, cut_all, whole_start, collected_below, collected_falls, collected_next, collected_end}
use Rattle.sets.specs.Words.{capacity}
use Rattle.graphs.specs.Rows.{rel}
use Rattle.graph_components.specs.Component.{Transitive, together, Pruned}

unfoldable pub leads_back : List ℕ → ℕ → ℕ → Bool
leads_back rows s t = rel rows t s

read : (rows : List ℕ) (t row : ℕ) → row ≡ get_or rows t 0 → (u : ℕ) → has row u ≡ rel rows t u
unfolding rel
read rows t row e u = ap (λ (v : ℕ). has v u) e

module _ (rows : List ℕ) (n s : ℕ) where
  -- all states below n of row s
  pub pruned_start : (row b x : ℕ) → row ≡ get_or rows s 0 → ((t : ℕ) → has b t ≡ ltb t n) → ((t : ℕ) → has x t ≡ (has row t && has b t)) → Pruned rows n s x
  pruned_start row b x e f i = record {
    inside = λ t h. let w = cut_in row b x n f i t h in (w.0, sym (read rows s row e t) ∙ w.1);
    all = λ t l h k. cut_all row b x n f i t l (read rows s row e t ∙ h);
  }

  pub gathered_start : (x c : ℕ) → Pruned rows n s x → n ≤ capacity → c ≡ 0 → Collected capacity x n (leads_back rows s) x c
  gathered_start x c P l z = rw z (whole_start capacity x n (leads_back rows s) l (λ t h. (P.inside t h).0))

  pub gathered_end : (x rest c : ℕ) → Pruned rows n s x → Collected capacity x n (leads_back rows s) rest c → rest ≡ 0 → c ≡ pack n (together rows s)
  unfolding leads_back together
  gathered_end x rest c P C z =
      collected_end capacity x n (leads_back rows s) rest c C z
      ∙ pack_ext n (λ t. has x t && leads_back rows s t) (together rows s) (λ t l.
      same_test (has x t && rel rows t s) (rel rows s t && rel rows t s)
      (λ h. and_intro (P.inside t (and_left (has x t) (rel rows t s) h)).1 (and_right (has x t) (rel rows t s) h))
      (λ h.
      let back = and_right (rel rows s t) (rel rows t s) h in
      and_intro (P.all t l (and_left (rel rows s t) (rel rows t s) h) back) back))

  module _ (T : Transitive rows n) (a : s < n) where
    -- what a state reaches that does not reach s does not reach s
    stray : (t u : ℕ) → t < n → u < n → rel rows t s ≡ false → rel rows t u ≡ true → rel rows u s ≡ false
    stray t u b d h e = false_of (rel rows u s) (λ k. clash (T.through t u s b d a e k) h)

    pub pruned_next : (x t row y : ℕ) → Pruned rows n s x → t < n → row ≡ get_or rows t 0
        → ((u : ℕ) → has y u ≡ (has x u && (has row s || not (has row u)))) → Pruned rows n s y
    pruned_next x t row y P b e f = record {
      inside = λ u h. P.inside u (and_left (has x u) (has row s || not (has row u)) (sym (f u) ∙ h));
      all = λ u l h k. f u ∙ and_intro (P.all u l h k) (kept u l k (decide (has row s)));
    }
      where
        kept : (u : ℕ) → u < n → rel rows u s ≡ true → (has row s ≡ true) ⊎ (has row s ≡ false) → (has row s || not (has row u)) ≡ true
        kept u l k (inl q) = or_left (not (has row u)) q
        kept u l k (inr q) =
            let away = sym (read rows t row e s) ∙ q in
            or_right (has row s) (ap not (false_of (has row u) (λ m. clash k (stray t u b l away (sym (read rows t row e u) ∙ m)))))

    -- t is looked at, the lowest state that is left; its row, and the others that are left
    module _ (x rest c : ℕ) (C : Collected capacity x n (leads_back rows s) rest c) (ne : rest ≢ 0) (t : ℕ) (e : t ≡ least capacity (has rest))
        (row : ℕ) (o : row ≡ get_or rows t 0) (r : ℕ) (d : (u : ℕ) → has r u ≡ (has rest u && not (eqb u (least capacity (has rest))))) where
      pub gathered_hit : (k : ℕ) → has row s ≡ true → ((u : ℕ) → has k u ≡ (has c u || eqb u t)) → Collected capacity x n (leads_back rows s) r k
      unfolding leads_back
      gathered_hit k h g = collected_next capacity x n (leads_back rows s) rest c C ne t e r d {k = k} {ok = true} (sym h ∙ read rows t row o s) g

      pub gathered_miss : (q : ℕ) → has row s ≡ false → ((u : ℕ) → has q u ≡ (has r u && not (has row u))) → Collected capacity x n (leads_back rows s) q c
      unfolding leads_back
      gathered_miss q h g = record {
        bound = D.bound;
        inside = λ u l. D.inside u (and_left (has r u) (not (has row u)) (sym (g u) ∙ l));
        right = D.right;
        all = λ u l m k j.
            elim (and_cases (has r u) (not (has row u)) (sym (g u) ∙ k)) [
              | inl v ↦ D.all u l m v j
              | inr v ↦
                  clash j
                  (stray t u (collected_below capacity x n (leads_back rows s) rest c C ne t e) l away
                  (sym (read rows t row o u) ∙ not_false (has row u) v))
            ];
      }
        where
          away : rel rows t s ≡ false
          away = sym (read rows t row o s) ∙ h

          D : Collected capacity x n (leads_back rows s) r c
          D =
              collected_next capacity x n (leads_back rows s) rest c C ne t e r d {k = c} {ok = false} (sym h ∙ read rows t row o s)
              (λ u. sym (or_none (has c u) refl))

      pub gathered_falls : (q : ℕ) → ((u : ℕ) → has q u ≡ (has r u && not (has row u))) → count capacity (has q) < count capacity (has rest)
      gathered_falls q g =
          let fewer = count_mono capacity (has q) (has r) (λ u b h. and_left (has r u) (not (has row u)) (sym (g u) ∙ h)) in
          omega (arith, collected_falls capacity x n (leads_back rows s) rest c C ne t e r d)
