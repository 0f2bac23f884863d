-- A walk taken on by what a search found.
--
--   leg_made          : the way written and copied behind the walk
--   reach_held, reach_short, reach_finders    : what a search leaves for the next
--   reach_inside      : what it finds lies in the set
--   reach_less        : a search from what another found finds no more than that
--   walking_one       : a walk of one place
--   walking_on        : a walk goes on to what the search from its end found
use Prim.Native.Nat.{ℕ, zero, suc, ◌+◌, ◌-◌, ◌≤◌, ◌<◌}
use mathlib.Core.Path.{◌≡◌, refl, sym, ◌∙◌, ap, subst}
use mathlib.Core.Bool.{true}
use mathlib.Core.List.{List}
use native.Mathlib.Omega.{arith}
use native.Mathlib.Decide.{ℕ_discrete, dec_lt}
use lib.ListN.{length, set, length-set}
use lib.Seq.{get_or-set_same}
use Rattle.finite.proofs.Bounded.{count_le}
use Rattle.checker_search.specs.Turns.{marked, follows, enters, Grid}
use Rattle.checker_search.specs.Queues.{at, Held, Reach, Finders, Root, Chained, Copied}
use Rattle.checker_search.proofs.Turns.{enters_follows, enters_in}
use Rattle.checker_rounds.specs.Rounds.{Leg, Walking}

module _ (queue from : List ℕ) (k : ℕ) (walk : List ℕ) (n : ℕ) (way : List ℕ) (i : ℕ) (walk' : List ℕ) (W : Chained queue from k way i)
    (C : Copied way i 4096 walk n walk') (long : length walk ≡ 24576) where
  entry : (m : ℕ) → n ≤ m → m < n + (4096 - i) → at walk' m ≡ at way (i + (m - n))
  entry m l b =
      let e : n + (m - n) ≡ m = omega (arith, l) in
      ap (at walk') (sym e) ∙ C.here (m - n) (omega (arith, l, b))

  pub leg_made : Leg queue from k walk n way walk' (n + (4096 - i))
  leg_made = record {
    way_long = W.long;
    walk_long = C.long ∙ long;
    more = omega (arith, W.some);
    short = omega (arith, W.short);
    before = C.before;
    first = subst (Root queue from k) (sym (entry n (omega arith) (omega (arith, W.some)) ∙ ap (at way) beginning)) W.first;
    last = entry (n + (4096 - i) - 1) (omega (arith, W.some)) (omega (arith, W.some)) ∙ ap (at way) ending ∙ W.last;
    link = λ m l b.
        let s : suc (i + (m - n)) < 4096 = omega (arith, l, b, W.some) in
        let z : i + (suc m - n) ≡ suc (i + (m - n)) = omega (arith, l) in
        let L = W.link (i + (m - n)) (omega arith) s in
        record {
          finder = L.finder;
          found = L.found;
          below = L.below;
          by = L.by;
          here = entry m l (omega (arith, b)) ∙ L.here;
          next = entry (suc m) (omega (arith, l)) b ∙ ap (at way) z ∙ L.next;
        };
  }
    where
      beginning : i + (n - n) ≡ i
      beginning = omega arith

      ending : i + (n + (4096 - i) - 1 - n) ≡ 4095
      ending = omega (arith, W.some)

module _ (I N : ℕ) (rows to X : List ℕ) (u : ℕ) (mark queue from : List ℕ) (n : ℕ) (G : Grid I N rows to)
    (R : Reach I N rows to X u mark queue from n) where
  pub reach_short : n ≤ N
  reach_short = omega (arith, R.listed.few, count_le N (marked mark))

  pub reach_below : (k : ℕ) → k < n → at queue k < N
  reach_below k b = R.listed.below (at queue k) (R.listed.known k b)

  pub reach_held : Held mark queue n
  reach_held = record {
    short = omega (arith, reach_short, G.places);
    long = R.sized.marks;
    inside = λ k b. omega (arith, reach_below k b, G.places);
    found = R.listed.found;
  }

  pub reach_finders : (k : ℕ) → k < n → Finders k from
  reach_finders k b = record { earlier = λ i l. R.listed.queue.earlier i (omega (arith, l, b)) }

  inside_by : (k : ℕ) → k < n → (f : ℕ) → at from k ≡ f → marked X (at queue k) ≡ true
  inside_by k b zero e = enters_in I N rows to X u (at queue k) (R.listed.queue.first k b e)
  inside_by k b (suc m) e = enters_in I N rows to X (at queue m) (at queue k) (R.listed.queue.later k m b e)

  reach_inside : (k : ℕ) → k < n → marked X (at queue k) ≡ true
  reach_inside k b = inside_by k b (at from k) refl

  -- mark₀ is closed, and u belongs to it
  module _ (mark₀ : List ℕ) (on : (c d : ℕ) → marked mark₀ c ≡ true → d < N → enters I rows to X c d ≡ true → marked mark₀ d ≡ true)
      (h : marked mark₀ u ≡ true) where
    less_by : (k : ℕ) → k < n → (f : ℕ) → at from k ≡ f → ((m : ℕ) → m < k → marked mark₀ (at queue m) ≡ true) → marked mark₀ (at queue k) ≡ true
    less_by k b zero e rec = on u (at queue k) h (reach_below k b) (R.listed.queue.first k b e)
    less_by k b (suc m) e rec =
        on (at queue m) (at queue k) (rec m (omega (arith, R.listed.queue.earlier k b, e))) (reach_below k b) (R.listed.queue.later k m b e)

    less_below : (f k : ℕ) → k < f → k < n → marked mark₀ (at queue k) ≡ true
    less_below zero k l b = absurd (omega (arith, l))
    less_below (suc f) k l b = less_by k b (at from k) refl (λ m i. less_below f m (omega (arith, i, l)) (omega (arith, i, b)))

    pub reach_less : (a : ℕ) → marked mark a ≡ true → marked mark₀ a ≡ true
    reach_less a m = let v = R.listed.found a m in ap (marked mark₀) (sym v.2) ∙ less_below (suc v.0) v.0 (omega arith) v.1

  module _ (v : ℕ) (walk : List ℕ) (l : ℕ) (W : Walking I N rows to X v u walk l) (k : ℕ) (b : k < n) (way walk' : List ℕ) (l' : ℕ)
      (L : Leg queue from k walk l way walk' l') where
    -- each new entry is a queue place
    new : (m : ℕ) → l ≤ m → m < l' → (i : ℕ) × (i < n) × (at walk' m ≡ at queue i)
    new m e f = go (ℕ_discrete m l)
      where
        go : Dec (m ≡ l) → (i : ℕ) × (i < n) × (at walk' m ≡ at queue i)
        go (yes z) = (L.first.found, omega (arith, L.first.below, b), ap (at walk') z ∙ L.first.here)
        go (no d) =
            let p : suc (m - 1) ≡ m = omega (arith, d, e) in
            let s = L.link (m - 1) (omega (arith, d, e)) (omega (arith, p, f)) in
            (s.found, omega (arith, s.below, b), ap (at walk') (sym p) ∙ s.next)

    all : (P : ℕ → Type 0) → ((m : ℕ) → m < l → P (at walk m)) → ((i : ℕ) → i < n → P (at queue i)) → (m : ℕ) → m < l' → P (at walk' m)
    all P old found m f = go (dec_lt m l)
      where
        go : Dec (m < l) → P (at walk' m)
        go (yes z) = subst P (sym (L.before m z)) (old m z)
        go (no d) = let v = new m (omega (arith, d)) f in subst P (sym v.2) (found v.0 v.1)

    turn_new : (m : ℕ) → l ≤ m → suc m < l' → follows I rows to (at walk' m) (at walk' (suc m)) ≡ true
    turn_new m e f =
        let s = L.link m e f in
        let t = enters_follows I N rows to X (at queue s.finder) (at queue s.found)
        (R.listed.queue.later s.found s.finder (omega (arith, s.below, b)) s.by) in
        (λ i. follows I rows to (s.here i) (s.next i)) ∙ t

    turn_over : follows I rows to (at walk' (l - 1)) (at walk' l) ≡ true
    turn_over =
        let r = L.first in
        let t = enters_follows I N rows to X u (at queue r.found) (R.listed.queue.first r.found (omega (arith, r.below, b)) r.by) in
        (λ i. follows I rows to ((L.before (l - 1) (omega (arith, W.some)) ∙ W.last) i) (r.here i)) ∙ t

    turn : (m : ℕ) → suc m < l' → follows I rows to (at walk' m) (at walk' (suc m)) ≡ true
    turn m f = go (dec_lt (suc m) l) (ℕ_discrete (suc m) l)
      where
        go : Dec (suc m < l) → Dec (suc m ≡ l) → follows I rows to (at walk' m) (at walk' (suc m)) ≡ true
        go (yes z) d = (λ i. follows I rows to (L.before m (omega (arith, z)) i) (L.before (suc m) z i)) ∙ W.turn m z
        go (no c) (yes z) =
            let p : m ≡ l - 1 = omega (arith, z) in
            (λ i. follows I rows to (at walk' (p i)) (at walk' (z i))) ∙ turn_over
        go (no c) (no d) = turn_new m (omega (arith, c, d)) f

    pub walking_on : Walking I N rows to X v (at queue k) walk' l'
    walking_on = record {
      long = L.walk_long;
      some = omega (arith, L.more);
      first = L.before 0 W.some ∙ W.first;
      last = L.last;
      below = all (λ x. x < N) W.below reach_below;
      inside = all (λ x. marked X x ≡ true) W.inside reach_inside;
      turn = turn;
    }

pub walking_one : (I N : ℕ) (rows to X : List ℕ) (v : ℕ) (walk : List ℕ) → length walk ≡ 24576 → v < N → marked X v ≡ true
    → Walking I N rows to X v v (set walk 0 v) 1
walking_one I N rows to X v walk e b x = record {
  long = length-set walk 0 v ∙ e;
  some = omega arith;
  first = here;
  last = here;
  below = λ k l. let z : k ≡ 0 = omega (arith, l) in omega (arith, b, ap (at (set walk 0 v)) z, here);
  inside = λ k l. let z : k ≡ 0 = omega (arith, l) in ap (marked X) (ap (at (set walk 0 v)) z ∙ here) ∙ x;
  turn = λ k l. absurd (omega (arith, l));
}
  where
    here : at (set walk 0 v) 0 ≡ v
    here = get_or-set_same walk 0 v 0 (omega (arith, e))
