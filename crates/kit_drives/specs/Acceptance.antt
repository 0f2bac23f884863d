-- Acceptance of a kit: 1, then 17 and 18, then the numbers of its game.
--
-- of a drive d:
--   modes_fit d          == d has 1 to 128 modes
--   commands_fit d       == d has 1 to 16 commands
--   entry_fits n M C m u == the place of mode m and command u in the table n is barred, or within the counts M and C and names a mode
--   entries_fit d        == every place fits
--
--   both_drives p k      == p holds of both drives of the kit
--   in_order m c e a     == refused where one of the three tests failed, else the answer a
--   kit_acceptance k     == the answer to the kit
--   kit_tests k          == the tests of a kit under their numbers, in the order in which they are tried
--   KitAccepts k a      == a is the answer to the kit, and its number is the kit's
use Rattle.std.specs.Prelude.{ℕ, Bool, true, false, ◌&&◌, ◌||◌, List, ◌∷◌, ◌≡◌, eqb, ltb, leb}
use Rattle.sets.specs.Words.{capacity}
use Rattle.finite.specs.Bounded.{all}
use Rattle.game.specs.Acceptance.{Acceptance}
use Rattle.game.specs.Acceptance.{acceptance, acceptance_number}
use Rattle.game.specs.Numbers.{first_of, game_tests}
use Rattle.kit_drives.specs.declared.Drive.{Drive}
use Rattle.kit_drives.specs.declared.Kit.{Kit}
use Rattle.kit_drives.specs.Drive.{next_in, game_from}
use Rattle.std.specs.declared.result.Result.TheVariants.{Err}
use Rattle.game.specs.declared.Refusal.TheVariants.{BadNextMode, CommandsOutOfRange, CountOutOfRange}

-- fails: "1 a count not 1 to 64", to 128 by M-105 (SPEC 13.1)

unfoldable pub modes_fit : Drive → Bool
modes_fit d = leb 1 d.modes && leb d.modes capacity

-- fails: "17 command count not 1 to 16" (SPEC 13.4)
unfoldable pub commands_fit : Drive → Bool
commands_fit d = leb 1 d.commands && leb d.commands 16

-- fails: "18 an entry neither barred nor a mode, or past the counts and not barred" (SPEC 13.4)
unfoldable pub entry_fits : List ℕ → (M C m u : ℕ) → Bool
entry_fits n M C m u = eqb (next_in n m u) 255 || (ltb m M && (ltb u C && ltb (next_in n m u) M))

unfoldable pub entries_fit : Drive → Bool
entries_fit d = all capacity (λ m. all 16 (entry_fits d.next d.modes d.commands m))

abbrev pub both_drives : (Drive → Bool) → Kit → Bool
both_drives p k = p k.old && p k.new

-- "17 ..; 18 ..; both after 1 and before 2" (SPEC 9.1)
unfoldable pub in_order : (modes commands entries : Bool) → Acceptance → Acceptance
in_order false c e a = Err CountOutOfRange
in_order true false e a = Err CommandsOutOfRange
in_order true true false a = Err BadNextMode
in_order true true true a = a

unfoldable pub kit_acceptance : Kit → Acceptance
kit_acceptance k = in_order (both_drives modes_fit k) (both_drives commands_fit k) (both_drives entries_fit k) (acceptance (game_from k))

-- SPEC 9.1, 13.4
unfoldable pub kit_tests : Kit → List (ℕ × Bool)
kit_tests k = (1, both_drives modes_fit k) ∷ (17, both_drives commands_fit k) ∷ (18, both_drives entries_fit k) ∷ game_tests (game_from k)

pub record KitAccepts (k : Kit) (a : Acceptance) : Type 0 where
  pub answer : a ≡ kit_acceptance k
  pub number : acceptance_number a ≡ first_of (kit_tests k)
