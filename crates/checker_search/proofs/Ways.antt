-- Marks taken away, ways written out, copies and firsts.
--
--   Unmarking, unmarking-*    : the marks of the first k of the queue are gone
--   Chaining, chaining-*      : the way to a queue place, written from its end
--   first-*                   : the first queue place with a test
use Prim.Native.Nat.{ℕ, suc, ◌+◌, ◌-◌, ◌%◌, ◌≤◌, ◌<◌}
use mathlib.Core.Path.{◌≡◌, sym, ◌∙◌, ap, subst}
use mathlib.Core.Bool.{Bool, true, false}
use mathlib.Core.List.{List}
use mathlib.Core.Logic.{◌≢◌, inl, inr}
use native.Mathlib.Omega.{arith}
use native.Mathlib.Decide.{ℕ_discrete}
use lib.ListN.{length, set, length-set}
use lib.Seq.{get_or-set_same, get_or-set_other}
use Rattle.finite.proofs.Truth.{false_of}
use Rattle.finite.proofs.Bounded.{below_suc}
use Rattle.bits.specs.Member.{has}
use Rattle.checker_search.specs.Turns.{marked}
use Rattle.checker_search.specs.Queues.{at, Held, Unmarked, Finders, Link, Chained, FirstIn, FirstAt}
use Rattle.checker_search.proofs.Turns.{unmarked_left}
use Rattle.std.specs.declared.option.Option.TheVariants.{Some}

pub record Unmarking (queue : List ℕ) (n : ℕ) (mark : List ℕ) (k : ℕ) : Type 0 where
  pub long : length mark ≡ 4096
  pub upto : k ≤ n
  pub left : (a : ℕ) → marked mark a ≡ true → (i : ℕ) × (k ≤ i) × (i < n) × (at queue i ≡ a)

module _ (queue : List ℕ) (n : ℕ) where
  pub unmarking_start : (mark : List ℕ) → Held mark queue n → Unmarking queue n mark 0
  unmarking_start mark H = record {
    long = H.long;
    upto = omega arith;
    left = λ a h. let v = H.found a h in (v.0, omega arith, v.1, v.2);
  }

  module _ (mark : List ℕ) (k : ℕ) (U : Unmarking queue n mark k) where
    pub unmarking_next : k < n → (a : ℕ) → a ≡ at queue k → a < 4096 → Unmarking queue n (set mark a 0) (k + 1)
    unmarking_next b a e l = record {
      long = length-set mark a 0 ∙ U.long;
      upto = omega (arith, b);
      left = λ x h.
          let o = unmarked_left mark a (omega (arith, l, U.long)) x h in
          let v = U.left x o.1 in
          let d : v.0 ≢ k = λ z. o.0 (sym v.3 ∙ ap (at queue) z ∙ sym e) in
          (v.0, omega (arith, v.1, d), v.2, v.3);
    }

    pub unmarking_end : n ≤ k → Unmarked mark
    unmarking_end l = record {
      long = U.long;
      none = λ a. false_of (marked mark a) (λ h. let v = U.left a h in omega (arith, v.1, v.2, l));
    }

-- the way from queue place m on is written from entry i on; k is the queue place that it leads to
pub record Chaining (queue from : List ℕ) (k : ℕ) (out : List ℕ) (m i : ℕ) : Type 0 where
  pub long : length out ≡ 4096
  pub some : i < 4096
  pub below : m ≤ k
  pub short : 4095 + m ≤ i + k
  pub room : m ≤ i
  pub here : at out i ≡ at queue m
  pub last : at out 4095 ≡ at queue k
  pub link : (s : ℕ) → i ≤ s → suc s < 4096 → Link queue from k (at out s) (at out (suc s))

module _ (queue from : List ℕ) (k : ℕ) where
  pub chaining_start : (out : List ℕ) → k < 4096 → length out ≡ 4096 → Chaining queue from k (set out 4095 (at queue k)) k 4095
  chaining_start out b e = record {
    long = length-set out 4095 (at queue k) ∙ e;
    some = omega arith;
    below = omega arith;
    short = omega arith;
    room = omega (arith, b);
    here = there;
    last = there;
    link = λ s l h. absurd (omega (arith, l, h));
  }
    where
      there : at (set out 4095 (at queue k)) 4095 ≡ at queue k
      there = get_or-set_same out 4095 (at queue k) 0 (omega (arith, e))

  module _ (out : List ℕ) (m i : ℕ) (C : Chaining queue from k out m i) (F : Finders k from) where
    module _ (ne : at from m ≢ 0) where
      pub chaining_finder : at from m - 1 < m
      chaining_finder = omega (arith, F.earlier m C.below, ne)

      chaining_next : Chaining queue from k (set out (i - 1) (at queue (at from m - 1))) (at from m - 1) (i - 1)
      chaining_next = record {
        long = length-set out (i - 1) v ∙ C.long;
        some = omega (arith, C.some);
        below = omega (arith, C.below, chaining_finder);
        short = omega (arith, C.short, chaining_finder, C.room);
        room = omega (arith, C.room, chaining_finder);
        here = new;
        last = old 4095 (omega (arith, C.some, C.room, chaining_finder)) ∙ C.last;
        link = λ s l h. link s l h (ℕ_discrete s (i - 1));
      }
        where
          v : ℕ
          v = at queue (at from m - 1)

          new : at (set out (i - 1) (at queue (at from m - 1))) (i - 1) ≡ at queue (at from m - 1)
          new = get_or-set_same out (i - 1) (at queue (at from m - 1)) 0 (omega (arith, C.some, C.long))

          old : (s : ℕ) → i ≤ s → at (set out (i - 1) (at queue (at from m - 1))) s ≡ at out s
          old s l = get_or-set_other out (i - 1) s (at queue (at from m - 1)) 0 (λ e. omega (arith, e, l, C.room, chaining_finder))

          link : (s : ℕ) → i - 1 ≤ s → suc s < 4096 → Dec (s ≡ i - 1)
              → Link queue from k (at (set out (i - 1) (at queue (at from m - 1))) s) (at (set out (i - 1) (at queue (at from m - 1))) (suc s))
          link s l h (yes e) = record {
            finder = at from m - 1;
            found = m;
            below = C.below;
            by = omega (arith, ne);
            here = ap (at (set out (i - 1) (at queue (at from m - 1)))) e ∙ new;
            next =
                let z : suc s ≡ i = omega (arith, e, C.room, chaining_finder) in
                old (suc s) (omega (arith, z)) ∙ ap (at out) z ∙ C.here;
          }
          link s l h (no d) =
              let b : i ≤ s = omega (arith, d, l) in
              let L = C.link s b h in
              record {
                finder = L.finder;
                found = L.found;
                below = L.below;
                by = L.by;
                here = old s b ∙ L.here;
                next = old (suc s) (omega (arith, b)) ∙ L.next;
              }

      pub chaining_on : (f : ℕ) → f ≡ at from m → Chaining queue from k (set out (i - 1) (at queue (f - 1))) (f - 1) (i - 1)
      chaining_on f e = subst (λ (x : ℕ). Chaining queue from k (set out (i - 1) (at queue (x - 1))) (x - 1) (i - 1)) (sym e) chaining_next

    pub chaining_end : at from m ≡ 0 → Chained queue from k out i
    chaining_end e = record {
      long = C.long;
      some = C.some;
      short = omega (arith, C.short);
      first = record { found = m; below = C.below; by = e; here = C.here };
      last = C.last;
      link = C.link;
    }

-- the entries passed have the test's opposite, and so has the next
module _ (I : ℕ) (queue : List ℕ) (n x : ℕ) where
  pub first_in_on : (k a : ℕ) {b : Bool} → ((i : ℕ) → i < k → has x (at queue i % I) ≡ false) → a ≡ at queue k → b ≡ has x (a % I) → b ≡ false
      → (i : ℕ) → i < k + 1 → has x (at queue i % I) ≡ false
  first_in_on k a f e h z i b =
      elim (below_suc i k (omega (arith, b))) [
        | inl q ↦ ap (λ (y : ℕ). has x (y % I)) (ap (at queue) q ∙ sym e) ∙ sym h ∙ z
        | inr l ↦ f i l
      ]

  pub first_in_here : (k a : ℕ) {b : Bool} → k < n → a ≡ at queue k → b ≡ has x (a % I) → b ≡ true → FirstIn I queue n x (Some k)
  first_in_here k a b e h z = (b, ap (λ (y : ℕ). has x (y % I)) (sym e) ∙ sym h ∙ z)

module _ (queue : List ℕ) (n v : ℕ) where
  pub first_at_on : (k a : ℕ) → ((i : ℕ) → i < k → at queue i ≢ v) → a ≡ at queue k → a ≢ v → (i : ℕ) → i < k + 1 → at queue i ≢ v
  first_at_on k a f e d i b =
      elim (below_suc i k (omega (arith, b))) [ inl q ↦ λ z. d (e ∙ ap (at queue) (sym q) ∙ z) | inr l ↦ f i l ]

  pub first_at_here : (k a : ℕ) → k < n → a ≡ at queue k → a ≡ v → FirstAt queue n v (Some k)
  first_at_here k a b e h = (b, sym e ∙ h)
