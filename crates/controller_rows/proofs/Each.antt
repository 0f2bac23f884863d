-- Laws of loops that change a buffer.
--
--   each_hit, each_miss, each_end    : the turns of a loop, and its end
--   each_none                        : no step is made
--   each_long                        : steps that keep the length
use Prim.Native.Nat.{ℕ, zero, suc, ◌+◌, ◌≤◌, ◌<◌}
use native.Mathlib.Numerals.{add-one}
use mathlib.Core.Path.{◌≡◌, refl, ◌∙◌, subst}
use mathlib.Core.Bool.{Bool, true, false}
use mathlib.Core.List.{List}
use native.Mathlib.Omega.{arith}
use lib.ListN.{length}
use Rattle.controller_rows.specs.Each.{Each, none, hit, miss}

module _ {p : ℕ → Bool} {F : ℕ → List ℕ → List ℕ → Type 0} where
  pub each_hit : {k : ℕ} {l m r q : List ℕ} → Each p F k l m → p k ≡ true → r ≡ q → F k m q → Each p F (k + 1) l r
  each_hit {k} e h a f = rw (add-one k, a) (hit e h f)

  pub each_miss : {k : ℕ} {l m r : List ℕ} → Each p F k l m → p k ≡ false → r ≡ m → Each p F (k + 1) l r
  each_miss {k} e h a = rw (add-one k, a) (miss e h)

  pub each_end : {k n : ℕ} {l m : List ℕ} → k ≤ n → n ≤ k → Each p F k l m → Each p F n l m
  each_end {k} {n} {l} {m} a b e =
      let q : k ≡ n = omega arith in
      subst (λ (i : ℕ). Each p F i l m) q e

  pub each_none : (l : List ℕ) (k : ℕ) → ((i : ℕ) → i < k → p i ≡ false) → Each p F k l l
  each_none l zero f = none
  each_none l (suc k) f = miss (each_none l k (λ i b. f i (omega (arith, b)))) (f k (omega arith))

  pub each_long : ((i : ℕ) (l m : List ℕ) → F i l m → length m ≡ length l) → {k : ℕ} {l m : List ℕ} → Each p F k l m → length m ≡ length l
  each_long f none = refl
  each_long f (hit {k = k} {m = m} {r = r} e h s) = f k m r s ∙ each_long f e
  each_long f (miss e h) = each_long f e
