-- Scratch that was cleared is as long as it was.
use Prim.Native.Nat.{ℕ, ◌≤◌}
use mathlib.Core.Path.{◌≡◌, ◌∙◌, ap}
use mathlib.Core.List.{List}
use lib.ListN.{length}
use Rattle.finite.proofs.Front.{front_length}
use Rattle.scratch_clearing.specs.Clearing.{cleared}

pub cleared_length : (s l : List ℕ) (i : ℕ) → i ≤ length s → l ≡ cleared i s → length l ≡ length s
unfolding cleared
cleared_length s l i b e = ap length e ∙ front_length (λ k. 0) s i b
