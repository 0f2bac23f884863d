-- Files and prints written as their lines.
--
--   line_bytes l    == the characters of the line l, and byte 10
--   file_bytes ls   == the lines ls, one after the other
use Rattle.std.specs.Prelude.{ℕ, List, [], ◌∷◌, ◌++◌}
use Prim.Native.Char.{code}
use Prim.Native.String.{String, [] as blank, ◌∷◌ as ◌then◌}

-- "Every line ends in byte 10." (SPEC 8.1)
unfoldable pub line_bytes : String → List ℕ
line_bytes blank = 10 ∷ []
line_bytes (c then l) = code c ∷ line_bytes l

unfoldable pub file_bytes : List String → List ℕ
file_bytes [] = []
file_bytes (l ∷ ls) = line_bytes l ++ file_bytes ls
