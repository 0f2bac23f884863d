-- Single rows of what is reached.
--
--   cut_low, rest_low, rest_falls, lowest_low, lowest_has    : members of a set below n, lowest first
--   turned_next                : a set is written
--   answered_next              : one output more
--   Joining                    == what joins a row, next input after next input
--   joining_start, joining_next, joining_none, joining_end
--   grown_self, grown_then, grown_any, grown_none, grown_row, grown_allowed
use Prim.Native.Nat.{ℕ, ◌+◌, ◌≤◌, ◌<◌}
use mathlib.Core.Path.{◌≡◌, refl, sym, ◌∙◌, ap}
use mathlib.Core.Bool.{Bool, true, false, ◌&&◌, ◌||◌, not}
use mathlib.Core.List.{List}
use mathlib.Core.Logic.{◌⊎◌, inl, inr, ◌≢◌}
use native.Mathlib.Omega.{arith}
use native.Mathlib.Decide.{ℕ_discrete}
use lib.Dec.{eqb, ltb}
use lib.ListN.{length, get_or, set, length-set}
use lib.Seq.{get_or-set_same, get_or-set_other}
use borrow.Author.Tests.{eqb-true}
use Rattle.finite.specs.Bounded.{least, count}
use Rattle.finite.proofs.Truth.{clash, false_of, and_left, and_right, or_left, or_right, or_cases, not_true}
use Rattle.finite.specs.But.{ButFor}
use Rattle.finite.proofs.But.{but_self, but_set, but_then}
use Rattle.bits.specs.Member.{has, sets_meet}
use Rattle.bits.proofs.Membership.{has_zero_lem}
use Rattle.bits.proofs.Compare.{nonzero_member, meets_elim}
use Rattle.bits.proofs.Remove.{less_in, less_other, less_falls}
use Rattle.bits.proofs.Visit.{lowest_less, cut_in}
use Rattle.sets.specs.Words.{capacity}
use Rattle.barred.specs.Arena.{Pairs}
use Rattle.barred_rows.specs.Areas.{kept_pairs, reached_pairs, staying_pairs, reached_at, staying_at}
use Rattle.barred_stay.proofs.Staying.{left_lowest}
use Rattle.barred_grow.specs.Grow.{Entered, Closed, Sound, Low, Inside, Joins, Grown}

-- ---- members below n, lowest first

pub cut_low : (x b y n : ℕ) → ((s : ℕ) → has b s ≡ ltb s n) → ((s : ℕ) → has y s ≡ (has x s && has b s)) → Low n y
cut_low x b y n f i = record { below = λ j e. (cut_in x b y n f i j e).0 }

module _ (n x : ℕ) (b : n ≤ capacity) (L : Low n x) (ne : x ≢ 0) (h : ℕ) (e : h ≡ least capacity (has x)) where
  pub lowest_low : h < n
  lowest_low = (left_lowest n x h b L.below ne e).0

  pub lowest_has : has x h ≡ true
  lowest_has = (left_lowest n x h b L.below ne e).1

  module _ (r : ℕ) (d : (s : ℕ) → has r s ≡ (has x s && not (eqb s (least capacity (has x))))) where
    pub rest_low : Low n r
    rest_low = record { below = λ j t. L.below j (less_in x h r (lowest_less capacity x h r e d) j t) }

    pub rest_falls : count capacity (has r) < count capacity (has x)
    rest_falls = less_falls x h r (lowest_less capacity x h r e d) capacity (omega (arith, lowest_low)) lowest_has

pub turned_next : (a n t v : ℕ) (l m : List ℕ) → t < n → ButFor a (a + n) l m → ButFor a (a + n) l (set m (a + t) v)
turned_next a n t v l m b K = but_then K (but_set a (a + n) m (a + t) v (omega arith) (omega arith))

-- the moves of a state
pub inside_low : (rows : List ℕ) (n r : ℕ) → Inside rows n → (i : ℕ) → i < n → r ≡ get_or rows i 0 → Low n r
inside_low rows n r I i a e = record { below = λ j h. I.below i j a (ap (λ (k : ℕ). has k j) (sym e) ∙ h) }

-- ---- outputs that have a move into x

pub near_told : (l : List ℕ) (j v z y a r : ℕ) → z ≡ get_or l j 0 → y ≡ get_or l (reached_at + j) 0 → ((p : ℕ) → has a p ≡ (has v p && has z p))
    → ((p : ℕ) → has r p ≡ (has a p || has y p)) → (p : ℕ) → has r p ≡ ((has v p && kept_pairs l j p) || reached_pairs l j p)
near_told l j v z y a r ez ey ea er p = rw (er p, ea p, ez, ey) refl

pub answered_next : (rows : List ℕ) (x c c' o y : ℕ) {ok : Bool} → ((k : ℕ) → has c k ≡ true → sets_meet capacity (get_or rows k 0) x ≡ true)
    → y ≡ get_or rows o 0 → ok ≡ sets_meet capacity y x → ((k : ℕ) → has c' k ≡ (has c k || (ok && eqb k o)))
    → (k : ℕ) → has c' k ≡ true → sets_meet capacity (get_or rows k 0) x ≡ true
answered_next rows x c c' o y {ok} f ey eo d k h =
    elim (or_cases (has c k) (ok && eqb k o) (sym (d k) ∙ h)) [
      | inl a ↦ f k a
      | inr a ↦ rw (eqb-true k o (and_right ok (eqb k o) a)) (ap (λ (z : ℕ). sets_meet capacity z x) (sym ey) ∙ sym eo ∙ and_left ok (eqb k o) a)
    ]

-- ---- what joins a row

pub record Joining (row : ℕ) (l : List ℕ) (i x rest : ℕ) : Type 0 where
  pub kept : (o : ℕ) → has x o ≡ true → kept_pairs l i o ≡ true
  pub new : (o : ℕ) → has x o ≡ true → reached_pairs l i o ≡ false
  pub inside : (j : ℕ) → has rest j ≡ true → has row j ≡ true
  pub allowed : (o j : ℕ) → has x o ≡ true → has row j ≡ true → has rest j ≡ false → staying_pairs l j o ≡ true

module _ (row : ℕ) (l : List ℕ) (i : ℕ) where
  pub joining_start : (z y x : ℕ) → z ≡ get_or l i 0 → y ≡ get_or l (reached_at + i) 0 → ((o : ℕ) → has x o ≡ (has z o && not (has y o)))
      → Joining row l i x row
  joining_start z y x ez ey ex = record {
    kept = λ o h. ap (λ (k : ℕ). has k o) (sym ez) ∙ and_left (has z o) (not (has y o)) (sym (ex o) ∙ h);
    new = λ o h. ap (λ (k : ℕ). has k o) (sym ey) ∙ not_true (has y o) (and_right (has z o) (not (has y o)) (sym (ex o) ∙ h));
    inside = λ j h. h;
    allowed = λ o j h t f. clash t f;
  }

  module _ (x rest : ℕ) (J : Joining row l i x rest) where
    pub joining_low : (n : ℕ) → Low n row → Low n rest
    joining_low n L = record { below = λ j h. L.below j (J.inside j h) }

    pub joining_next : (h r : ℕ) → h ≡ least capacity (has rest) → ((s : ℕ) → has r s ≡ (has rest s && not (eqb s (least capacity (has rest)))))
        → (y x' : ℕ) → y ≡ get_or l (staying_at + h) 0 → ((o : ℕ) → has x' o ≡ (has x o && has y o)) → Joining row l i x' r
    joining_next h r e d y x' ey ex = record {
      kept = λ o t. J.kept o (was o t);
      new = λ o t. J.new o (was o t);
      inside = λ j t. J.inside j (less_in rest h r less j t);
      allowed = λ o j t u f. allowed o j t u f (ℕ_discrete j h);
    }
      where
        less : (s : ℕ) → has r s ≡ (has rest s && not (eqb s h))
        less = lowest_less capacity rest h r e d

        was : (o : ℕ) → has x' o ≡ true → has x o ≡ true
        was o t = and_left (has x o) (has y o) (sym (ex o) ∙ t)

        allowed : (o j : ℕ) → has x' o ≡ true → has row j ≡ true → has r j ≡ false → Dec (j ≡ h) → staying_pairs l j o ≡ true
        allowed o j t u f (yes q) = rw q (ap (λ (k : ℕ). has k o) (sym ey) ∙ and_right (has x o) (has y o) (sym (ex o) ∙ t))
        allowed o j t u f (no q) = J.allowed o j (was o t) u (sym (less_other rest h r less j q) ∙ f)

    module _ (ins : List ℕ) (er : row ≡ get_or ins i 0) where
      pub joining_none : x ≡ 0 → Joins ins i x l
      joining_none z = record { kept = J.kept; new = J.new; allowed = λ o j h t. clash h (ap (λ (k : ℕ). has k o) z ∙ has_zero_lem o) }

      pub joining_end : rest ≡ 0 → Joins ins i x l
      joining_end z = record {
        kept = J.kept;
        new = J.new;
        allowed = λ o j h t. J.allowed o j h (ap (λ (k : ℕ). has k j) er ∙ t) (ap (λ (k : ℕ). has k j) z ∙ has_zero_lem j);
      }

-- ---- what is reached has grown

module _ (ins outs : List ℕ) (n v : ℕ) (b : n ≤ capacity) where
  pub grown_self : (x : ℕ) (l : List ℕ) → Grown ins outs n v x x l l
  grown_self x l = record {
    apart = but_self reached_at (staying_at + n) l;
    more = λ i o a h. h;
    left = λ i h. inl h;
    sound = λ Z P C S. S;
  }

  pub grown_then : {x y z : ℕ} {l m k : List ℕ} → Grown ins outs n v x y l m → Grown ins outs n v y z m k → Grown ins outs n v x z l k
  grown_then {x} {y} {z} {l} {m} {k} G H = record {
    apart = but_then G.apart H.apart;
    more = λ i o a h. H.more i o a (G.more i o a h);
    left = λ i h. later i (H.left i h);
    sound = λ Z P C S. H.sound Z P C (G.sound Z P C S);
  }
    where
      later : (i : ℕ) → (has y i ≡ true) ⊎ ((i < n) × ((o : ℕ) × (kept_pairs m i o ≡ true) × (reached_pairs m i o ≡ false) × (reached_pairs k i o ≡ true)))
          → (has x i ≡ true) ⊎ ((i < n) × ((o : ℕ) × (kept_pairs l i o ≡ true) × (reached_pairs l i o ≡ false) × (reached_pairs k i o ≡ true)))
      later i (inl h) =
          elim (G.left i h) [ inl a ↦ inl a | inr u ↦ inr (u.0, (u.1.0, u.1.1, u.1.2, H.more i u.1.0 u.0 u.1.3)) ]
      later i (inr u) =
          inr (
            u.0,
            (
              u.1.0,
              ap (λ (w : ℕ). has w u.1.0) (sym (G.apart.low i (omega (arith, u.0)))) ∙ u.1.1,
              false_of (reached_pairs l i u.1.0) (λ t. clash (G.more i u.1.0 u.0 t) u.1.2),
              u.1.3,
            ),
          )

  pub grown_any : {x y : ℕ} {l m : List ℕ} → Grown ins outs n v x y l m → (z : ℕ) → Grown ins outs n v z z l m
  grown_any G z = record { apart = G.apart; more = G.more; left = λ i h. inl h; sound = G.sound }

  -- none is left, where all are to be followed at once
  pub grown_none : {x y : ℕ} {l m : List ℕ} → Grown ins outs n v x y l m → Grown ins outs n v x 0 l m
  grown_none G = record { apart = G.apart; more = G.more; left = λ i h. clash h (has_zero_lem i); sound = G.sound }

  module _ (l : List ℕ) (i r x x' old new : ℕ) (J : Joins ins i r l) (I : Inside ins n) (a : i < n) (ne : r ≢ 0) (long : reached_at + i < length l)
      (read : old ≡ get_or l (reached_at + i) 0) (d : (o : ℕ) → has new o ≡ (has old o || has r o)) (e : (t : ℕ) → has x' t ≡ (has x t || eqb t i)) where
    abbrev m : List ℕ
    m = set l (reached_at + i) new

    here : (o : ℕ) → reached_pairs m i o ≡ (reached_pairs l i o || has r o)
    here o = ap (λ (k : ℕ). has k o) (get_or-set_same l (reached_at + i) new 0 long) ∙ d o ∙ ap (λ (k : ℕ). has k o || has r o) read

    there : (k o : ℕ) → k ≢ i → reached_pairs m k o ≡ reached_pairs l k o
    there k o q = ap (λ (w : ℕ). has w o) (get_or-set_other l (reached_at + i) (reached_at + k) new 0 (λ p. q (omega (arith, p))))

    pub grown_row : Grown ins outs n v x x' l m
    grown_row = record {
      apart = but_set reached_at (staying_at + n) l (reached_at + i) new (omega arith) (omega arith);
      more = λ k o c h. more k o h (ℕ_discrete k i);
      left = λ k h. elim (or_cases (has x k) (eqb k i) (sym (e k) ∙ h)) [ inl w ↦ inl w | inr w ↦ inr (found k (eqb-true k i w)) ];
      sound = λ Z P C S. record {
        kept = λ k o c h. S.kept k o c (ap (λ (w : ℕ). has w o) (sym (get_or-set_other l (reached_at + i) k new 0 (omega arith))) ∙ h);
        reached = λ k o c h. reached Z P C S k o c h (ℕ_discrete k i);
        allowed = λ j o c h. S.allowed j o c
            (ap (λ (w : ℕ). has w o) (sym (get_or-set_other l (reached_at + i) (staying_at + j) new 0 (omega arith))) ∙ h);
      };
    }
      where
        more : (k o : ℕ) → reached_pairs l k o ≡ true → Dec (k ≡ i) → reached_pairs m k o ≡ true
        more k o h (yes q) = rw q (here o ∙ or_left (has r o) (ap (λ (w : ℕ). reached_pairs l w o) (sym q) ∙ h))
        more k o h (no q) = there k o q ∙ h

        found : (k : ℕ) → k ≡ i
            → (k < n) × ((o : ℕ) × (kept_pairs l k o ≡ true) × (reached_pairs l k o ≡ false) × (reached_pairs m k o ≡ true))
        found k q =
            let u = nonzero_member r ne in
            rw q (a, (u.0, J.kept u.0 u.1, J.new u.0 u.1, here u.0 ∙ or_right (reached_pairs l i u.0) u.1))

        reached : (Z P : Pairs) → Closed ins outs n v Z P → Sound outs n v Z P l → (k o : ℕ) → k < n → reached_pairs m k o ≡ true → Dec (k ≡ i) → P k o ≡ true
        reached Z P C S k o c h (no q) = S.reached k o c (sym (there k o q) ∙ h)
        reached Z P C S k o c h (yes q) =
            rw q (elim (or_cases (reached_pairs l i o) (has r o) (sym (here o) ∙ ap (λ (w : ℕ). reached_pairs m w o) (sym q) ∙ h)) [
              | inl w ↦ S.reached i o a w
              | inr w ↦ C.closed i o a (S.kept i o a (J.kept o w)) (λ j t. S.allowed j o (I.below i j a t) (J.allowed o j w t))
            ])

  -- more is allowed with input j
  module _ (l : List ℕ) (j x p y g f w old new : ℕ) (a : j < n) (long : staying_at + j < length l)
      (target : (o : ℕ) → has p o ≡ ((has v o && kept_pairs l j o) || reached_pairs l j o)) (fresh : (o : ℕ) → has f o ≡ (has p o && not (has g o)))
      (answers : (o : ℕ) → has w o ≡ true → sets_meet capacity (get_or outs o 0) f ≡ true)
      (read : old ≡ get_or l (staying_at + j) 0) (d : (o : ℕ) → has new o ≡ (has old o || has w o)) where
    abbrev k : List ℕ
    k = set l (512 + j) y

    abbrev grown : List ℕ
    grown = set k (staying_at + j) new

    same : (t : ℕ) → t ≢ 512 + j → t ≢ staying_at + j → get_or grown t 0 ≡ get_or l t 0
    same t c e = get_or-set_other k (staying_at + j) t new 0 e ∙ get_or-set_other l (512 + j) t y 0 c

    pub grown_allowed : Grown ins outs n v x x l grown
    grown_allowed = record {
      apart = but_then (but_set reached_at (staying_at + n) l (512 + j) y (omega arith) (omega arith))
          (but_set reached_at (staying_at + n) k (staying_at + j) new (omega arith) (omega arith));
      more = λ i o c h. ap (λ (z : ℕ). has z o) (same (reached_at + i) (omega arith) (omega arith)) ∙ h;
      left = λ i h. inl h;
      sound = λ Z P C S. record {
        kept = λ i o c h. S.kept i o c (ap (λ (z : ℕ). has z o) (sym (same i (omega arith) (omega arith))) ∙ h);
        reached = λ i o c h. S.reached i o c (ap (λ (z : ℕ). has z o) (sym (same (reached_at + i) (omega arith) (omega arith))) ∙ h);
        allowed = λ i o c h. allowed Z P S i o c h (ℕ_discrete i j);
      };
    }
      where
        entered : (Z P : Pairs) → Sound outs n v Z P l → (o : ℕ) → has w o ≡ true → Entered outs v Z P j o
        entered Z P S o h =
            let q = meets_elim capacity (get_or outs o 0) f (answers o h) in
            record {
              to = q.0;
              move = q.2;
              good = elim
                  (or_cases (has v q.0 && kept_pairs l j q.0) (reached_pairs l j q.0)
                  (sym (target q.0) ∙ and_left (has p q.0) (not (has g q.0)) (sym (fresh q.0) ∙ q.3))) [
                    | inl t ↦ inl (
                      and_left (has v q.0) (kept_pairs l j q.0) t,
                      S.kept j q.0 a (and_right (has v q.0) (kept_pairs l j q.0) t),
                    )
                    | inr t ↦ inr (S.reached j q.0 a t)
                  ];
            }

        allowed : (Z P : Pairs) → Sound outs n v Z P l → (i o : ℕ) → i < n → staying_pairs grown i o ≡ true → Dec (i ≡ j) → Entered outs v Z P i o
        allowed Z P S i o c h (no q) =
            S.allowed i o c (ap (λ (z : ℕ). has z o) (sym (same (staying_at + i) (omega arith) (λ e. q (omega (arith, e))))) ∙ h)
        allowed Z P S i o c h (yes q) =
            rw q (elim (or_cases (has old o) (has w o) (sym (d o) ∙ sym row ∙ ap (λ (z : ℕ). staying_pairs grown z o) (sym q) ∙ h)) [
              | inl t ↦ S.allowed j o a (ap (λ (z : ℕ). has z o) (sym read) ∙ t)
              | inr t ↦ entered Z P S o t
            ])
          where
            row : staying_pairs grown j o ≡ has new o
            row = ap (λ (z : ℕ). has z o) (get_or-set_same k (staying_at + j) new 0 (omega (arith, length-set l (512 + j) y)))
