-- What the program prints for a file.
--
--   print_bytes      == how many bytes of a print the program has place for: 1 MiB
--   PrintOf s t     == t is the print of the file s
--   Printed s d n e == the buffer d has become e by writing the print of the file s at its front, whole, n bytes
--   Goes fd f t     == the descriptor fd, to which t goes, is standard output, and t is the print of the file whose front f was read
use Rattle.std.specs.Prelude.{ℕ, List, ◌≡◌, ℤ, pos}
use Rattle.files.specs.declared.Front.{Front}
use Rattle.files.specs.Front.{front_of}
use Rattle.text_put.specs.Put.{Fills}
use Rattle.text.specs.Reading.{Reading}
use Rattle.text.specs.Read.{Reads}
use Rattle.prints.specs.Prints.{reading_print}

abbrev pub print_bytes : ℕ
print_bytes = 1048576

pub record PrintOf (s t : List ℕ) : Type 0 where
  pub reading : Reading
  pub reads : Reads s reading
  pub print : t ≡ reading_print reading

-- SPEC 8.3
pub record Printed (s d : List ℕ) (n : ℕ) (e : List ℕ) : Type 0 where
  pub text : List ℕ
  pub print : PrintOf s text
  pub fills : Fills d text n e

-- "prints on standard output": what a call of C's writes no contract can say, so this is asked of whoever hands bytes to the one function that writes them
pub record Goes (fd : ℤ) (f : Front) (t : List ℕ) : Type 0 where
  pub output : fd ≡ pos 1
  pub print : PrintOf (front_of f) t
