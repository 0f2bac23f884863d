-- The front of a file. Which bytes a file has no contract can say.
--
--   front_of f == the bytes that were read
--   Within f  == they lie in the buffer
use Rattle.std.specs.Prelude.{ℕ, ◌≤◌, List, length, take}
use Rattle.files.specs.declared.Front.{Front}

unfoldable pub front_of : Front → List ℕ
front_of f = take f.len f.bytes

abbrev pub Within : Front → Type 0
Within f = f.len ≤ length f.bytes
