-- Laws of buffers filled in any order.
--
--   grows_none, grows_more  : nothing written, and one writing after another
--   grows_set, right_set    : an entry written at its place
--   grows_done              : where every place holds its entry the front is the list, and the rest is as it was
use Prim.Native.Nat.{ℕ, ◌+◌, ◌≤◌, ◌<◌}
use mathlib.Core.Path.{◌≡◌, refl, sym, ◌∙◌, ap}
use mathlib.Core.List.{List, ◌++◌}
use native.Mathlib.Omega.{arith}
use native.Mathlib.Decide.{ℕ_discrete}
use lib.ListN.{length, get_or, take, drop, set, length-set, take-append-drop}
use lib.Seq.{get_or-set_same, get_or-set_other, drop-set-lt, ext_get_or, get_or-take, length-take-le}
use Rattle.table_filling.specs.Grows.{Right, Grows}

module _ (E : List ℕ) where
  pub grows_none : (l : List ℕ) → Grows E l l
  grows_none l = record { long = refl; rest = refl; kept = λ k b r. r }

  pub grows_more : {l m n : List ℕ} → Grows E l m → Grows E m n → Grows E l n
  grows_more p q = record {
    long = q.long ∙ p.long;
    rest = q.rest ∙ p.rest;
    kept = λ k b r. q.kept k b (p.kept k b r);
  }

  pub right_set : (l : List ℕ) (k v : ℕ) → k < length l → v ≡ get_or E k 0 → Right E (set l k v) k
  right_set l k v b e = record { is = get_or-set_same l k v 0 b ∙ e }

  pub grows_set : (l : List ℕ) (k v : ℕ) → k < length E → k < length l → v ≡ get_or E k 0 → Grows E l (set l k v)
  grows_set l k v a b e = record {
    long = length-set l k v;
    rest = drop-set-lt (length E) l k v a;
    kept = kept;
  }
    where
      kept : (j : ℕ) → j < length E → Right E l j → Right E (set l k v) j
      kept j c r =
          elim (ℕ_discrete j k) [
            | yes q ↦ rw q (right_set l k v b e)
            | no q ↦ record { is = get_or-set_other l k j v 0 q ∙ r.is }
          ]

  pub grows_done : (l m : List ℕ) → length E ≤ length l → Grows E l m → ((k : ℕ) → k < length E → Right E m k) → m ≡ E ++ drop (length E) l
  grows_done l m b g r =
      sym (take-append-drop (length E) m)
      ∙ ap (λ (x : List ℕ). x ++ drop (length E) m) front ∙ ap (λ (x : List ℕ). E ++ x) g.rest
    where
      long : length (take (length E) m) ≡ length E
      long = length-take-le (length E) m (omega (arith, g.long))

      front : take (length E) m ≡ E
      front = ext_get_or 0 (take (length E) m) E long (λ i c. get_or-take (length E) m i 0 (omega (arith, long)) ∙ (r i (omega (arith, long))).is)
