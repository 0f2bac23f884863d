-- Quantifiers over a list, as functions into Bool.
--
--   all_of p l    == p holds of every element of l
--   any_of p l    == p holds of some element of l
use Rattle.std.specs.Prelude.{Bool, true, false, ◌&&◌, ◌||◌, List, [], ◌∷◌}

module _ {A : Type 0} where
  unfoldable pub all_of : (A → Bool) → List A → Bool
  all_of p [] = true
  all_of p (a ∷ l) = p a && all_of p l

  unfoldable pub any_of : (A → Bool) → List A → Bool
  any_of p [] = false
  any_of p (a ∷ l) = p a || any_of p l
