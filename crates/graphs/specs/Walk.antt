-- Walks over any relation.
--
--   Walk R a b    == a list of things that begins with a and ends with b, each after the first made from the one before by R
--   passed w      == that list
use Rattle.std.specs.Prelude.{List, [], ◌∷◌}

-- "A walk is a list of configurations, each after the first made from the one before by a turn." (SPEC 2.6)
pub data Walk {A : Type 0} (R : A → A → Type 0) : A → A → Type 0 where
  stay : {a : A} → Walk R a a
  step : {a b c : A} → R a b → Walk R b c → Walk R a c

unfoldable pub passed : {A : Type 0} {R : A → A → Type 0} {a b : A} → Walk R a b → List A
passed (stay {a = a}) = a ∷ []
passed (step {a = a} r w) = a ∷ passed w
