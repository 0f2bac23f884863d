-- A loop that changes a buffer.
--
--   Each p F k l m    == from l to m by a step F i for each i < k with p i, in order
use Rattle.std.specs.Prelude.{ℕ, zero, suc, ◌≡◌, Bool, true, false, List}

pub data Each (p : ℕ → Bool) (F : ℕ → List ℕ → List ℕ → Type 0) : ℕ → List ℕ → List ℕ → Type 0 where
  none : {l : List ℕ} → Each p F zero l l
  hit : {k : ℕ} {l m r : List ℕ} → Each p F k l m → p k ≡ true → F k m r → Each p F (suc k) l r
  miss : {k : ℕ} {l m : List ℕ} → Each p F k l m → p k ≡ false → Each p F (suc k) l m
