-- The sets that f takes of each of k requirements h 0, h 1, ..: one requirement more puts its sets at the end.
use Prim.Native.Nat.{ℕ, zero, suc, ◌+◌, ◌-◌, ◌≤◌, ◌<◌}
use native.Mathlib.Nat.{zero-add, add-zero, suc-add}
use mathlib.Core.Path.{◌≡◌, refl, sym, ◌∙◌, ap}
use mathlib.Core.Bool.{Bool}
use mathlib.Core.List.{List, ◌++◌, append_assoc, append-nil}
use native.Mathlib.Omega.{arith}
use lib.ListN.{length, get_or, length-append, get_or-append}
use lib.Seq.{get_or-append-add}
use Rattle.finite.specs.Tabulate.{tabulate, tabulate_from}
use Rattle.arena.specs.Arena.{Requirement}
use Rattle.theory.specs.Choice.{sets_of}

module _ (f : Requirement → List (ℕ → Bool)) (h : ℕ → Requirement) where
  more_from : (s n : ℕ) → sets_of f (tabulate_from s (suc n) h) ≡ sets_of f (tabulate_from s n h) ++ f (h (s + n))
  unfolding sets_of tabulate_from
  more_from s zero = append-nil (f (h s)) ∙ ap (λ (k : ℕ). f (h k)) (sym (add-zero s))
  more_from s (suc n) =
      ap (◌++◌ (f (h s))) (more_from (suc s) n ∙ ap (λ (k : ℕ). sets_of f (tabulate_from (suc s) n h) ++ f (h k)) (omega arith))
      ∙ sym (append_assoc (f (h s)) (sets_of f (tabulate_from (suc s) n h)) (f (h (s + suc n))))

  sets_more : (n : ℕ) → sets_of f (tabulate (suc n) h) ≡ sets_of f (tabulate n h) ++ f (h n)
  unfolding tabulate
  sets_more n = more_from 0 n ∙ ap (λ (k : ℕ). sets_of f (tabulate_from 0 n h) ++ f (h k)) (zero-add n)

  pub length_more : (n : ℕ) → length (sets_of f (tabulate (suc n) h)) ≡ length (sets_of f (tabulate n h)) + length (f (h n))
  length_more n = ap length (sets_more n) ∙ length-append (sets_of f (tabulate n h)) (f (h n))

  get_or_last : (n j : ℕ) (d : ℕ → Bool) → get_or (sets_of f (tabulate (suc n) h)) (length (sets_of f (tabulate n h)) + j) d ≡ get_or (f (h n)) j d
  get_or_last n j d =
      ap (λ (l : List (ℕ → Bool)). get_or l (length (sets_of f (tabulate n h)) + j) d) (sets_more n) ∙ get_or-append-add (sets_of f (tabulate n h)) (f (h n)) j d

  front_more : (n e a : ℕ) (d : ℕ → Bool) → a < length (sets_of f (tabulate n h))
      → (a < length (sets_of f (tabulate (e + n) h))) × (get_or (sets_of f (tabulate (e + n) h)) a d ≡ get_or (sets_of f (tabulate n h)) a d)
  front_more n zero a d b = rw zero-add (b, refl)
  front_more n (suc e) a d b =
      let v = front_more n e a d b in
      rw suc-add (
        omega (arith, v.0, length_more (e + n)),
        ap (λ (l : List (ℕ → Bool)). get_or l a d) (sets_more (e + n)) ∙ get_or-append (sets_of f (tabulate (e + n) h)) (f (h (e + n))) d a v.0 ∙ v.1,
      )

  get_d_front : (n m a : ℕ) (d : ℕ → Bool) → n ≤ m → a < length (sets_of f (tabulate n h))
      → get_or (sets_of f (tabulate m h)) a d ≡ get_or (sets_of f (tabulate n h)) a d
  get_d_front n m a d le b =
      ap (λ (k : ℕ). get_or (sets_of f (tabulate k h)) a d) (omega arith) ∙ (front_more n (m - n) a d b).1

  -- where the sets before those of requirement n are passed, set number j of that requirement is set number a of all m
  pub get_or_within : (m n a j : ℕ) (d : ℕ → Bool) → n < m → a ≡ length (sets_of f (tabulate n h)) + j → j < length (f (h n))
      → get_or (sets_of f (tabulate m h)) a d ≡ get_or (f (h n)) j d
  get_or_within m n a j d l e b =
      get_d_front (suc n) m a d (omega arith) (omega (arith, length_more n))
      ∙ ap (λ (k : ℕ). get_or (sets_of f (tabulate (suc n) h)) k d) e ∙ get_or_last n j d
