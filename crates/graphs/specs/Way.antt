-- Shortest ways over a relation r on the states below n, to a set p.
--
--   layer n r p k       == the set of the states with a way of at most k moves to p
--   near n r p k s      == s has a way of at most k moves to p
--   approach n r p s    == how many moves the shortest way to p has from the best move of s
--   shortest n r p s t  == t is a move of s with the shortest way to p
--   prefer n s p        == the member of p that a tie goes to, s being the present state
--   toward n r p s      == the move of s towards p
use Rattle.std.specs.Prelude.{ℕ, zero, suc, Bool, true, false, ◌&&◌, ◌||◌, ltb}
use Rattle.finite.specs.Bounded.{any, least}
use Rattle.bits.specs.Member.{has, pack}

unfoldable pub widens : ℕ → (ℕ → ℕ → Bool) → ℕ → ℕ → Bool
widens n r l s = has l s || any n (λ t. r s t && has l t)

unfoldable pub layer : ℕ → (ℕ → ℕ → Bool) → (ℕ → Bool) → ℕ → ℕ
layer n r p zero = pack n p
layer n r p (suc k) = let l : ℕ = layer n r p k in pack n (widens n r l)

unfoldable pub near : ℕ → (ℕ → ℕ → Bool) → (ℕ → Bool) → ℕ → ℕ → Bool
near n r p k s = has (layer n r p k) s

unfoldable pub approach : ℕ → (ℕ → ℕ → Bool) → (ℕ → Bool) → ℕ → ℕ
approach n r p s = least n (λ k. any n (λ t. r s t && near n r p k t))

-- SPEC 5.5, 5.6
unfoldable pub shortest : ℕ → (ℕ → ℕ → Bool) → (ℕ → Bool) → ℕ → ℕ → Bool
shortest n r p s t = r s t && near n r p (approach n r p s) t

-- "Wherever 01 breaks a tie between shortest ways, a move to the present state now goes first, then the lowest." (M-101) From outside p no shortest way
-- begins with a move to the present state (`toward-lowest`): so the present state is taken where it lies in p and has a self-move, or, where no way is
-- asked for and p is all moves, where it has a self-move. In every other situation the lowest is. (SPEC 5.6, 5.7)
unfoldable pub prefer : ℕ → ℕ → (ℕ → Bool) → ℕ
prefer n s p = elim (ltb s n && p s) [ true ↦ s | false ↦ least n p ]

-- "the move with the shortest way" (SPEC 5.5, 5.6)
unfoldable pub toward : ℕ → (ℕ → ℕ → Bool) → (ℕ → Bool) → ℕ → ℕ
toward n r p s = prefer n s (shortest n r p s)
