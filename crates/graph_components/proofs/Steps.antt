-- What the functions' needs cite.
use Prim.Native.Nat.{ℕ, ◌≤◌, ◌<◌}
use native.Mathlib.Decide.{ℕ_discrete}
use mathlib.Core.Path.{◌≡◌, refl, sym, ◌∙◌, ap}
use mathlib.Core.Bool.{Bool, true, false, not, ◌&&◌, ◌||◌}
use mathlib.Core.List.{List}
use mathlib.Core.Logic.{inl, inr, ◌≢◌}
use lib.Dec.{eqb, ltb}
use lib.ListN.{get_or}
use native.Mathlib.Omega.{arith}
use borrow.Author.Tests.{ltb-true}
use Rattle.finite.specs.Bounded.{any, least, count}
use Rattle.finite.proofs.Bounded.{any_intro, any_elim}
use Rattle.bits.specs.Member.{has, pack, sets_meet}
use Rattle.finite.proofs.Truth.{clash, false_of, not_true, same_test, and_intro, and_left, and_right, or_left, or_right, or_cases, and_all}
use Rattle.bits.proofs.Membership.{has_zero_lem, has_pack, has_pack_below}
use Rattle.bits.proofs.Compare.{meets_intro, meets_elim}
use Rattle.bits.proofs.Passing.{Passing, passing_end}
use Rattle.bits.proofs.Remove.{less_in, less_other, less_falls}
use Rattle.bits.proofs.Visit.{small_word, lowest_in_lem, lowest_less, cut_in, cut_all}
use Rattle.sets.specs.Words.{capacity}
use Rattle.graphs.specs.Rows.{rel}
use Rattle.graph_components.specs.Component.{together, nontrivial_at, enters}

pub spared_whole : (x y s t : ℕ) → has y s ≡ true → has x t ≡ (has x t && (has y s || not (has y t)))
spared_whole x y s t h = rw h (sym (and_all (has x t) refl))

pub spared_less : (x y s t : ℕ) {r : Bool} → has y s ≡ false → r ≡ (has x t && not (has y t)) → r ≡ (has x t && (has y s || not (has y t)))
spared_less x y s t h e = rw h e

pub together_at : (rows : List ℕ) (s t : ℕ) {r : Bool} → r ≡ (has (get_or rows s 0) t && has (get_or rows t 0) s) → r ≡ together rows s t
unfolding together rel
together_at rows s t e = e

pub nontrivial_at_lem : (moves rows : List ℕ) (n s y : ℕ) {r : Bool} → y ≡ get_or moves s 0 → r ≡ sets_meet capacity y (pack n (together rows s))
    → r ≡ nontrivial_at moves rows n s
unfolding nontrivial_at
nontrivial_at_lem moves rows n s y f h = h ∙ ap (λ (u : ℕ). sets_meet capacity u (pack n (together rows s))) f

unfoldable pub apart : List ℕ → ℕ → ℕ → Bool
apart rows s t = not (together rows s t)

pub apart_at : (rows : List ℕ) (s t : ℕ) {r : Bool} → r ≡ (has (get_or rows s 0) t && has (get_or rows t 0) s) → r ≡ false → apart rows s t ≡ true
unfolding apart
apart_at rows s t e h = ap not (sym (together_at rows s t e) ∙ h)

-- the members of x that are together with s; y has those below n
module _ (rows : List ℕ) (n s x b y : ℕ) (f : (t : ℕ) → has b t ≡ ltb t n) (i : (t : ℕ) → has y t ≡ (has x t && has b t)) where
  pub back_below : (t : ℕ) → has y t ≡ true → t < n
  back_below t h = (cut_in x b y n f i t h).0

  pub back_found : n ≤ capacity → (t : ℕ) → has y t ≡ true → together rows s t ≡ true → true ≡ sets_meet capacity x (pack n (together rows s))
  back_found l t h m =
      let c = cut_in x b y n f i t h in
      sym (meets_intro capacity x (pack n (together rows s)) t (omega (arith, c.0)) c.1 (has_pack_below n (together rows s) t c.0 ∙ m))

  pub back_none : (rest : ℕ) → Passing capacity y capacity (apart rows s) rest → rest ≡ 0 → false ≡ sets_meet capacity x (pack n (together rows s))
  unfolding apart
  back_none rest P z = sym (false_of (sets_meet capacity x (pack n (together rows s))) (λ e. none (meets_elim capacity x (pack n (together rows s)) e)))
    where
      none : (t : ℕ) × (t < capacity) × (has x t ≡ true) × (has (pack n (together rows s)) t ≡ true) → ⊥
      none v =
          let m = sym (has_pack n (together rows s) v.0) ∙ v.3 in
          let l = ltb-true v.0 n (and_left (ltb v.0 n) (together rows s v.0) m) in
          let h = cut_all x b y n f i v.0 l v.2 in
          let k = not_true (together rows s v.0) (passing_end capacity y capacity (apart rows s) rest P z v.0 v.1 h) in
          clash (and_right (ltb v.0 n) (together rows s v.0) m) k

-- x has the rows of the members of c below n, but of those in rest
module _ (moves : List ℕ) (c n : ℕ) where
  pub record Entered (rest x : ℕ) : Type 0 where
    pub inside : (k : ℕ) → has rest k ≡ true → (k < n) × (has c k ≡ true)
    pub right : (t : ℕ) → has x t ≡ true → enters moves c n t ≡ true
    pub all : (k t : ℕ) → k < n → has c k ≡ true → has rest k ≡ false → has (get_or moves k 0) t ≡ true → has x t ≡ true

  pub entered_start : (x : ℕ) → ((k : ℕ) → has c k ≡ true → k < n) → x ≡ 0 → Entered c x
  entered_start x f z = record {
    inside = λ k h. (f k h, h);
    right = λ t h. clash h (ap (λ (v : ℕ). has v t) z ∙ has_zero_lem t);
    all = λ k t a h r m. clash h r;
  }

  module _ (most : n ≤ capacity) (rest x : ℕ) (E : Entered rest x) (ne : rest ≢ 0) (k : ℕ) (e : k ≡ least capacity (has rest)) where
    small : (s : ℕ) → has rest s ≡ true → s < capacity
    small s h = omega (arith, (E.inside s h).0)

    first : has rest k ≡ true
    first = lowest_in_lem capacity rest k (small_word capacity rest small) ne e

    pub entered_here : has c k ≡ true
    entered_here = (E.inside k first).1

    module _ (r : ℕ) (d : (s : ℕ) → has r s ≡ (has rest s && not (eqb s (least capacity (has rest))))) where
      less : (s : ℕ) → has r s ≡ (has rest s && not (eqb s k))
      less = lowest_less capacity rest k r e d

      pub entered_falls : count capacity (has r) < count capacity (has rest)
      entered_falls = less_falls rest k r less capacity (small k first) first

      pub entered_next : (y row : ℕ) → row ≡ get_or moves k 0 → ((t : ℕ) → has y t ≡ (has x t || has row t)) → Entered r y
      unfolding enters
      entered_next y row q f = record {
        inside = λ s h. E.inside s (less_in rest k r less s h);
        right = λ t h. elim (or_cases (has x t) (has row t) (sym (f t) ∙ h)) [
          | inl m ↦ E.right t m
          | inr m ↦
              any_intro n (λ j. has c j && has (get_or moves j 0) t) k (E.inside k first).0
              (and_intro (E.inside k first).1 (ap (λ (v : ℕ). has v t) (sym q) ∙ m))
        ];
        all = λ s t a h m g. at s t a h m g (ℕ_discrete s k);
      }
        where
          at : (s t : ℕ) → s < n → has c s ≡ true → has r s ≡ false → has (get_or moves s 0) t ≡ true → Dec (s ≡ k) → has y t ≡ true
          at s t a h m g (yes v) = f t ∙ or_right (has x t) (ap (λ (w : ℕ). has w t) q ∙ ap (λ (w : ℕ). has (get_or moves w 0) t) (sym v) ∙ g)
          at s t a h m g (no v) = f t ∙ or_left (has row t) (E.all s t a h (sym (less_other rest k r less s v) ∙ m) g)

  pub entered_end : (rest x : ℕ) → Entered rest x → rest ≡ 0 → (t : ℕ) → has x t ≡ enters moves c n t
  unfolding enters
  entered_end rest x E z t =
      same_test (has x t) (any n (λ j. has c j && has (get_or moves j 0) t)) (E.right t)
      (λ h.
      let v = any_elim n (λ j. has c j && has (get_or moves j 0) t) h in
      let inner = and_left (has c v.0) (has (get_or moves v.0 0) t) v.2 in
      let moved = and_right (has c v.0) (has (get_or moves v.0 0) t) v.2 in
      E.all v.0 t v.1 inner (ap (λ (w : ℕ). has w v.0) z ∙ has_zero_lem v.0) moved)

-- the states of c below n, y, tell the same
pub enters_cut : (moves : List ℕ) (c n b y : ℕ) → n ≤ capacity → ((k : ℕ) → has b k ≡ ltb k n) → ((k : ℕ) → has y k ≡ (has c k && has b k))
    → (t : ℕ) → enters moves y capacity t ≡ enters moves c n t
unfolding enters
enters_cut moves c n b y most f i t =
    same_test (any capacity (λ j. has y j && has (get_or moves j 0) t)) (any n (λ j. has c j && has (get_or moves j 0) t))
    (λ h.
    let v = any_elim capacity (λ j. has y j && has (get_or moves j 0) t) h in
    let w = cut_in c b y n f i v.0 (and_left (has y v.0) (has (get_or moves v.0 0) t) v.2) in
    any_intro n (λ j. has c j && has (get_or moves j 0) t) v.0 w.0 (and_intro w.1 (and_right (has y v.0) (has (get_or moves v.0 0) t) v.2)))
    (λ h.
    let v = any_elim n (λ j. has c j && has (get_or moves j 0) t) h in
    let inner = cut_all c b y n f i v.0 v.1 (and_left (has c v.0) (has (get_or moves v.0 0) t) v.2) in
    any_intro capacity (λ j. has y j && has (get_or moves j 0) t) v.0 (omega (arith, v.1))
    (and_intro inner (and_right (has c v.0) (has (get_or moves v.0 0) t) v.2)))
