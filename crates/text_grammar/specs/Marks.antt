-- The bytes of a text that are no letters.
--
--   blank, newline             == what stands between two items, and at a line's end
--   open_bracket, close_bracket  == the round brackets
--   digit_zero                  == the digit 0; the other digits follow it
use Rattle.std.specs.Prelude.{ℕ}

abbrev pub blank : ℕ
blank = 32

abbrev pub newline : ℕ
newline = 10

abbrev pub open_bracket : ℕ
open_bracket = 40

abbrev pub close_bracket : ℕ
close_bracket = 41

abbrev pub digit_zero : ℕ
digit_zero = 48
