-- The map's rows, written one after the other.
use Prim.Native.Nat.{ℕ, ◌+◌, ◌^◌, ◌≤◌, ◌<◌}
use mathlib.Core.Path.{◌≡◌, ◌∙◌, ap}
use mathlib.Core.List.{List, ◌++◌}
use native.Mathlib.Omega.{arith}
use lib.ListN.{length, get_or, drop, set}
use Rattle.finite.specs.Tabulate.{tabulate}
use Rattle.finite.proofs.Front.{front_next, front_rest}
use Rattle.sets.specs.Words.{sets_in}
use Rattle.sets.proofs.Rows.{rest_words}
use Rattle.game.specs.declared.Game.{Game}
use Rattle.map_marks.specs.Marks.{map_row, MapFilled}

-- l is d with the first rows of f in front
module _ (f : ℕ → ℕ) (d l : List ℕ) (i : ℕ) (e : l ≡ tabulate i f ++ drop i d) where
  pub rows_more : (k : List ℕ) (v : ℕ) → i < length d → v ≡ f i → k ≡ set l i v → k ≡ tabulate (i + 1) f ++ drop (i + 1) d
  rows_more k v b h q = q ∙ ap (λ (x : List ℕ). set x i v) e ∙ front_next f d i v b h

  pub rows_end : (n : ℕ) → i ≤ n → n ≤ i → l ≡ tabulate n f ++ drop n d
  rows_end n a b = let q : i ≡ n = omega arith in e ∙ ap (λ (k : ℕ). tabulate k f ++ drop k d) q

pub map_filled : (g : Game) (m m' : List ℕ) → ((i : ℕ) → get_or m' i 0 < 2 ^ 64) → ((i : ℕ) → get_or m i 0 < 2 ^ 64) → length m' ≡ length m
    → sets_in m' ≡ tabulate g.input.states (map_row g) ++ drop g.input.states (sets_in m) → MapFilled g m m'
map_filled g m m' a b same e = record {
  sets = e;
  later =
      rest_words g.input.states m' m a b same
      (ap (drop g.input.states) e ∙ front_rest (map_row g) (sets_in m) g.input.states);
}
