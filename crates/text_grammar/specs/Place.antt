-- A whole input against a format.
--
--   bytes s i          == the byte of s at place i; 256, which is no byte, past the end
--   Begins f s         == s begins some text of f
--   Longest f s p      == p is the length of the longest front of s that begins a text of f
--   at_end s x          == what x found, if it ends where s ends; else a fault at its end
--   reading f s        == s read as a text of f: its value, or the place of the fault
use Rattle.std.specs.Prelude.{ℕ, ◌≤◌, ◌<◌, true, false, List, ◌++◌, eqb, length, get_or, take}
use Rattle.text_grammar.specs.Format.{Format, Run, TextOf, run}
use Rattle.text_grammar.specs.Format.Run.{got, fault}

unfoldable pub bytes : List ℕ → ℕ → ℕ
bytes s i = get_or s i 256

pub record Begins {R : Type 0} (f : Format R) (s : List ℕ) : Type 0 where
  pub back : List ℕ
  pub value : R
  pub is_text : TextOf f (s ++ back) value

pub record Longest {R : Type 0} (f : Format R) (s : List ℕ) (p : ℕ) : Type 0 where
  pub within : p ≤ length s
  pub front : Begins f (take p s)
  pub longest : (q : ℕ) → p < q → q ≤ length s → Begins f (take q s) → ⊥

unfoldable pub at_end : {R : Type 0} → List ℕ → Run R → Run R
at_end s (got r j) = elim (eqb j (length s)) [ true ↦ got r j | false ↦ fault j ]
at_end s (fault p) = fault p

unfoldable pub reading : {R : Type 0} → Format R → List ℕ → Run R
reading f s = at_end s (run f (bytes s) 0)
