-- The bytes of a front, from the two parts that are read of it.
use Prim.Native.Nat.{ℕ, ◌≤◌}
use native.Mathlib.Omega.{arith}
use mathlib.Core.List.{List}
use mathlib.Core.Path.{◌≡◌, ap}
use lib.ListN.{length, take}
use Rattle.files.specs.declared.Front.{Front}
use Rattle.files.specs.Front.{front_of, Within}

module _ (f : Front) {b : List ℕ} {n : ℕ} (e : b ≡ f.bytes) (h : n ≡ f.len) where
  pub front_is : take n b ≡ front_of f
  unfolding front_of
  front_is = λ i. take (h i) (e i)

  pub front_within : Within f → n ≤ length b
  front_within w = omega (arith, ap length e)
