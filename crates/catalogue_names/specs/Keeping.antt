-- How a list of names is kept in a buffer: with no byte of a name past its 256th, which tells a name of over 255 bytes from the others.
--
--   cut r l          == the list l with no byte of a name past its 256th, where r bytes of its first name went before
--   under r l        == how many bytes of the name under way are kept behind l
--   Keeps d k l r e  == the buffer d, kept to k, has become e by keeping the bytes l, and is kept to r
--   Held s d k       == the buffer d, kept to k, holds of the bytes s what is kept of them, as much as has room
--   nothing          == where a buffer stands before anything is kept
use Rattle.std.specs.Prelude.{ℕ, suc, true, false, List, [], ◌∷◌, ◌≡◌, eqb, leb, length, take}
use Rattle.text_put.specs.Put.{reached, Puts}
use Rattle.catalogue_names.specs.declared.Kept.{Kept}

-- "a name over 255 bytes" is 26 as it is, so nothing past its 256th byte is needed (SPEC 16.2)
unfoldable pub cut : ℕ → List ℕ → List ℕ
cut r [] = []
cut r (b ∷ l) = elim (eqb b 10) [ true ↦ 10 ∷ cut 0 l | false ↦ elim (leb 256 r) [ true ↦ cut r l | false ↦ b ∷ cut (suc r) l ] ]

unfoldable pub under : ℕ → List ℕ → ℕ
under r [] = r
under r (b ∷ l) = elim (eqb b 10) [ true ↦ under 0 l | false ↦ elim (leb 256 r) [ true ↦ under r l | false ↦ under (suc r) l ] ]

pub record Keeps (d : List ℕ) (k : Kept) (l : List ℕ) (r : Kept) (e : List ℕ) : Type 0 where
  pub puts : Puts d k.len (cut k.run l) r.len e
  pub run : r.run ≡ under k.run l

pub record Held (s d : List ℕ) (k : Kept) : Type 0 where
  pub front : take k.len d ≡ take (length d) (cut 0 s)
  pub len : k.len ≡ reached (length d) 0 (length (cut 0 s))
  pub run : k.run ≡ under 0 s

abbrev pub nothing : Kept
nothing = record { len = 0; run = 0 }
