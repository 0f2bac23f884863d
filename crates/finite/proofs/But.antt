-- Laws of lists that differ in one stretch.
--
--   but_self, but_set, but_then, but_wider    : nothing; one entry; one change after another; a longer stretch
use Prim.Native.Nat.{ℕ, ◌≤◌, ◌<◌}
use mathlib.Core.Path.{refl, ◌∙◌}
use mathlib.Core.List.{List}
use native.Mathlib.Omega.{arith}
use lib.ListN.{set, length-set}
use lib.Seq.{get_or-set_other}
use Rattle.finite.specs.But.{ButFor}

pub but_self : (a b : ℕ) (l : List ℕ) → ButFor a b l l
but_self a b l = record { long = refl; low = λ k h. refl; high = λ k h. refl }

pub but_set : (a b : ℕ) (l : List ℕ) (k v : ℕ) → a ≤ k → k < b → ButFor a b l (set l k v)
but_set a b l k v h j = record {
  long = length-set l k v;
  low = λ q e. get_or-set_other l k q v 0 (omega arith);
  high = λ q e. get_or-set_other l k q v 0 (omega arith);
}

pub but_then : {a b : ℕ} {l m n : List ℕ} → ButFor a b l m → ButFor a b m n → ButFor a b l n
but_then K L = record {
  long = L.long ∙ K.long;
  low = λ k h. L.low k h ∙ K.low k h;
  high = λ k h. L.high k h ∙ K.high k h;
}

pub but_wider : {a b : ℕ} (c d : ℕ) {l m : List ℕ} → c ≤ a → b ≤ d → ButFor a b l m → ButFor c d l m
but_wider c d h j K = record { long = K.long; low = λ k e. K.low k (omega arith); high = λ k e. K.high k (omega arith) }
