-- What the catalogue program prints for its standard input.
--
--   FromFront f o         == o is the outcome of the file whose front f was read: 26 where it was not read to its end
--   FromOpen o            == o is the outcome of a front that was read
--   FromFile o            == o is the outcome of a file that could not be opened, or of one that was read
--   ForName n o           == o is an outcome for the name n
--   Each ns os            == os are outcomes for the names ns, one each, in their order
--   Catalogued l t        == t holds the figures of the names of the list l
--   PrintOf l t           == t is the print for the list l
--   Printed l d n e       == the buffer d has become e by writing the print for the list l at its front, whole, n bytes
--   MoreKept d k r e      == the buffer d, kept to k, has become e by keeping some bytes, and is kept to r
--   InputKept d k         == the buffer d, kept to k, holds what is kept of some bytes, those that standard input gave
--   KeptPrinted l k d n e == the same of the bytes that the buffer l, kept to k, holds
--   Goes fd l k t         == the descriptor fd, to which t goes, is standard output, and t is the print for what the buffer l, kept to k, holds
use Rattle.std.specs.Prelude.{ℕ, true, false, List, [], ◌∷◌, ◌⊎◌, ◌≡◌, leb, ℤ, pos, length}
use Rattle.files.specs.declared.Front.{Front}
use Rattle.files.specs.Front.{front_of}
use Rattle.text_put.specs.Put.{Fills}
use Rattle.print_lines.specs.Line.{refused_line}
use Rattle.catalogue_names.specs.declared.Kept.{Kept}
use Rattle.catalogue_names.specs.Names.{names, fit_name, most}
use Rattle.catalogue_names.specs.Keeping.{Keeps, Held}
use Rattle.catalogue_tally.specs.Outcome.{Outcome}
use Rattle.catalogue_tally.specs.declared.Tally.{Tally}
use Rattle.catalogue_tally.specs.Figures.{Tallied}
use Rattle.catalogue_verdict.specs.Judged.{Judged}
use Rattle.catalogue_lines.specs.Figures.{figures_print}
use Rattle.std.specs.declared.result.Result.TheVariants.{Err}
use Rattle.game.specs.declared.Refusal.TheVariants.{Unread}

-- "26 a file that can't be opened or read"; which bytes a file has no contract can say

unfoldable pub FromFront : Front → Outcome → Type 0
FromFront f o = elim f.whole [ true ↦ Judged (front_of f) o | false ↦ o ≡ Err Unread ]

unfoldable pub FromOpen : Outcome → Type 0
FromOpen o = (f : Front) × FromFront f o

-- SPEC 16.2
unfoldable pub FromFile : Outcome → Type 0
FromFile o = (o ≡ Err Unread) ⊎ FromOpen o

-- "or a name over 255 bytes or with a byte 0, tried first for each file" (SPEC 16.2)
unfoldable pub ForName : List ℕ → Outcome → Type 0
ForName n o = elim (fit_name n) [ true ↦ FromFile o | false ↦ o ≡ Err Unread ]

-- SPEC 16.1
unfoldable pub Each : List (List ℕ) → List Outcome → Type 0
Each [] [] = Unit {0}
Each [] (o ∷ os) = ⊥
Each (n ∷ ns) [] = ⊥
Each (n ∷ ns) (o ∷ os) = ForName n o × Each ns os

-- SPEC 16.1
pub record Catalogued (l : List ℕ) (t : Tally) : Type 0 where
  pub outcomes : List Outcome
  pub each : Each (names l) outcomes
  pub tallied : Tallied outcomes t

-- "27 a list of over 1,000 names, printed alone as (refused 27)"
unfoldable pub PrintOf : List ℕ → List ℕ → Type 0
PrintOf l t =
    elim (leb (length (names l)) most) [
      | true ↦ (u : Tally) × Catalogued l u × (t ≡ figures_print u)
      | false ↦ t ≡ refused_line 27
    ]

-- SPEC 16.1
pub record Printed (l d : List ℕ) (n : ℕ) (e : List ℕ) : Type 0 where
  pub text : List ℕ
  pub print : PrintOf l text
  pub fills : Fills d text n e

-- "named on standard input"; which bytes standard input gives no contract can say (SPEC 16.1)
pub record MoreKept (d : List ℕ) (k r : Kept) (e : List ℕ) : Type 0 where
  pub part : List ℕ
  pub keeps : Keeps d k part r e

pub record InputKept (d : List ℕ) (k : Kept) : Type 0 where
  pub input : List ℕ
  pub held : Held input d k

-- so the print is said of whatever bytes the buffer holds
pub record KeptPrinted (l : List ℕ) (k : Kept) (d : List ℕ) (n : ℕ) (e : List ℕ) : Type 0 where
  pub text : List ℕ
  pub print : (s : List ℕ) → Held s l k → PrintOf s text
  pub fills : Fills d text n e

-- what a call of C's writes no contract can say, so this is asked of whoever hands bytes to the one function that writes them
pub record Goes (fd : ℤ) (l : List ℕ) (k : Kept) (t : List ℕ) : Type 0 where
  pub output : fd ≡ pos 1
  pub print : (s : List ℕ) → Held s l k → PrintOf s t
