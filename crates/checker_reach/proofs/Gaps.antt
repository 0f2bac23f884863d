-- Rows that are none, and the way to one.
--
--   Passing, passing-*      : the moves of a place, those in `rest` being left
--   scanning-*              : the places of the queue
--   stem_made               : the way written and copied to the room
use Prim.Native.Nat.{ℕ, suc, ◌+◌, ◌-◌, ◌*◌, ◌/◌, ◌%◌, ◌^◌, ◌≤◌, ◌<◌}
use native.Mathlib.Nat.{mod-lt}
use mathlib.Core.Path.{◌≡◌, sym, ◌∙◌, ap, subst}
use mathlib.Core.Bool.{true, false, not, ◌&&◌}
use mathlib.Core.List.{List}
use mathlib.Core.Logic.{◌≢◌, inl, inr}
use native.Mathlib.Omega.{arith}
use native.Mathlib.Decide.{ℕ_discrete}
use lib.Dec.{eqb}
use lib.ListN.{get_or}
use Rattle.std.specs.declared.option.Option.TheVariants.{None, Some}
use Rattle.finite.specs.Bounded.{count, least}
use Rattle.finite.proofs.Truth.{clash}
use Rattle.finite.proofs.Bounded.{below_suc}
use Rattle.bits.specs.Member.{has}
use Rattle.bits.proofs.Membership.{has_zero_lem}
use Rattle.bits.proofs.Remove.{less_in, less_other, less_falls}
use Rattle.bits.proofs.Visit.{small_word, lowest_below, lowest_in_lem, lowest_less}
use Rattle.sets.specs.Words.{capacity, sets_in}
use Rattle.checker_search.specs.Turns.{Grid}
use Rattle.checker_search.specs.Queues.{at, Root, Chained, Copied}
use Rattle.checker_reach.specs.Reach.{NoneAfter, Scanned, Stem}

pub record Passing (I : ℕ) (rows to : List ℕ) (c rest : ℕ) : Type 0 where
  pub inside : (j : ℕ) → has rest j ≡ true → has (get_or (sets_in rows) (c % I) 0) j ≡ true
  pub done : (j : ℕ) → has (get_or (sets_in rows) (c % I) 0) j ≡ true → has rest j ≡ false → at to (c / I * I + j) ≢ 65535

module _ (I N : ℕ) (rows to : List ℕ) (c : ℕ) (P : Grid I N rows to × (c < N)) where
  pub passing_start : (x : ℕ) → x ≡ get_or (sets_in rows) (c % I) 0 → Passing I rows to c x
  passing_start x e = record {
    inside = λ j h. ap (λ (y : ℕ). has y j) (sym e) ∙ h;
    done = λ j h n. clash (ap (λ (y : ℕ). has y j) e ∙ h) n;
  }

  module _ (rest : ℕ) (S : Passing I rows to c rest) where
    pub passing_end : rest ≡ 0 → NoneAfter I rows to c None
    passing_end z = λ j h. S.done j h (ap (λ (y : ℕ). has y j) z ∙ has_zero_lem j)

    module _ (ne : rest ≢ 0) (h : ℕ) (e : h ≡ least capacity (has rest)) where
      small : rest < 2 ^ capacity
      small = small_word capacity rest
          (λ s a. let m : s < I = P.0.move (c % I) s (mod-lt c P.0.some) (S.inside s a) in omega (arith, m, P.0.few))

      taken : has rest h ≡ true
      taken = lowest_in_lem capacity rest h small ne e

      pub passing_row : c / I * I + h < 4096
      passing_row =
          let b : h < I = P.0.move (c % I) h (mod-lt c P.0.some) (S.inside h taken) in
          omega (arith, P.0.whole c h P.1 b, P.0.places)

      pub passing_found : at to (c / I * I + h) ≡ 65535 → NoneAfter I rows to c (Some h)
      passing_found z = (S.inside h taken, z)

      module _ (r : ℕ) (d : (s : ℕ) → has r s ≡ (has rest s && not (eqb s (least capacity (has rest))))) where
        less : (s : ℕ) → has r s ≡ (has rest s && not (eqb s h))
        less = lowest_less capacity rest h r e d

        pub passing_falls : count capacity (has r) < count capacity (has rest)
        passing_falls = less_falls rest h r less capacity (lowest_below capacity rest h small ne e) taken

        pub passing_next : at to (c / I * I + h) ≢ 65535 → Passing I rows to c r
        passing_next n = record {
          inside = λ j a. S.inside j (less_in rest h r less j a);
          done = λ j m o. elim (ℕ_discrete j h) [
            | yes z ↦ λ y. n (ap (λ (x : ℕ). at to (c / I * I + x)) (sym z) ∙ y)
            | no z ↦ S.done j m (sym (less_other rest h r less j z) ∙ o)
          ];
        }

-- the first k places of the queue have no such row
pub record Clean (I : ℕ) (rows to queue : List ℕ) (n k : ℕ) : Type 0 where
  pub upto : k ≤ n
  pub none : (i : ℕ) → i < k → (j : ℕ) → has (get_or (sets_in rows) (at queue i % I) 0) j ≡ true → at to (at queue i / I * I + j) ≢ 65535

module _ (I : ℕ) (rows to queue : List ℕ) (n : ℕ) where
  pub clean_start : Clean I rows to queue n 0
  clean_start = record { upto = omega arith; none = λ i b. absurd (omega (arith, b)) }

  module _ (k : ℕ) (C : Clean I rows to queue n k) where
    pub clean_end : n ≤ k → Scanned I rows to queue n None
    clean_end l = λ i b. C.none i (omega (arith, b, l))

    module _ (b : k < n) (c : ℕ) (e : c ≡ at queue k) where
      pub clean_found : (r : ℕ) → NoneAfter I rows to c (Some r) → Scanned I rows to queue n (Some (record { at = k; input = r }))
      clean_found r A =
          (b, ap (λ (x : ℕ). has (get_or (sets_in rows) (x % I) 0) r) (sym e) ∙ A.0, ap (λ (x : ℕ). at to (x / I * I + r)) (sym e) ∙ A.1)

      pub clean_next : NoneAfter I rows to c None → Clean I rows to queue n (k + 1)
      clean_next A = record {
        upto = omega (arith, b);
        none = λ i l j h. elim (below_suc i k (omega (arith, l))) [
          | inl q ↦ let f : c ≡ at queue i = e ∙ ap (at queue) (sym q) in
              λ y. A j (ap (λ (x : ℕ). has (get_or (sets_in rows) (x % I) 0) j) f ∙ h) (ap (λ (x : ℕ). at to (x / I * I + j)) f ∙ y)
          | inr o ↦ C.none i o j h
        ];
      }

module _ (queue from : List ℕ) (k : ℕ) (room way : List ℕ) (i : ℕ) (room' : List ℕ) (W : Chained queue from k way i)
    (C : Copied way i 4096 room 0 room') where
  entry : (m : ℕ) → m < 4096 - i → at room' m ≡ at way (i + m)
  entry m b =
      let e : 0 + m ≡ m = omega arith in
      ap (at room') (sym e) ∙ C.here m b

  pub stem_made : Stem queue from k room room' (4096 - i)
  stem_made = record {
    long = C.long;
    some = omega (arith, W.some);
    short = omega (arith, W.short);
    first = subst (Root queue from k) (sym (entry 0 (omega (arith, W.some)) ∙ ap (at way) beginning)) W.first;
    last = entry (4096 - i - 1) (omega (arith, W.some)) ∙ ap (at way) ending ∙ W.last;
    link = λ m b.
        let z : i + suc m ≡ suc (i + m) = omega arith in
        let L = W.link (i + m) (omega arith) (omega (arith, b)) in
        record {
          finder = L.finder;
          found = L.found;
          below = L.below;
          by = L.by;
          here = entry m (omega (arith, b)) ∙ L.here;
          next = entry (suc m) b ∙ ap (at way) z ∙ L.next;
        };
    rest = λ m b. C.after m (omega (arith, b));
  }
    where
      beginning : i + 0 ≡ i
      beginning = omega arith

      ending : i + (4096 - i - 1) ≡ 4095
      ending = omega (arith, W.some)
