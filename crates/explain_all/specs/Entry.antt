-- A ground as one entry of 16 bits.
--
--   told_number x        == the number of the ground that x tells, 1 to 8 as M-109 lists them
--   told_name x          == what it names, as one number: an output, an input, or 4 times a requirement and its output set; 0 where it names nothing
--   told_entry x         == the entry that stands for x
--   ground_entry x       == the entry of the ground x
--   grounds_naming v     == the eight grounds, each naming v where it names something
--   entry_ground e       == the ground that the entry e stands for
use Rattle.std.specs.Prelude.{ℕ, ◌+◌, ◌-◌, ◌*◌, ◌/◌, ◌%◌, List, [], ◌∷◌, get_or}
use Rattle.grounds.specs.Ground.{Ground, input_stuck, by_replies, at_home, output_stuck, unanswered, by_way_out, unserved, pushed_on}
use Rattle.ground_search.specs.declared.Explanation.{Explanation}
use Rattle.ground_search.specs.declared.Explanation.TheVariants.{
  InputStuck,
  ByReplies,
  AtHome,
  OutputStuck,
  Unanswered,
  ByWayOut,
  Unserved,
  PushedOn,
}
use Rattle.ground_search.specs.Told.{told}

abbrev pub told_number : Explanation → ℕ
told_number InputStuck = 1
told_number ByReplies = 2
told_number (AtHome d) = 3
told_number OutputStuck = 4
told_number (Unanswered j) = 5
told_number (ByWayOut j) = 6
told_number (Unserved k n) = 7
told_number PushedOn = 8

abbrev pub told_name : Explanation → ℕ
told_name InputStuck = 0
told_name ByReplies = 0
told_name (AtHome d) = d.0
told_name OutputStuck = 0
told_name (Unanswered j) = j.0
told_name (ByWayOut j) = j.0
told_name (Unserved k n) = k * 4 + n
told_name PushedOn = 0

-- SPEC 14.6
abbrev pub told_entry : Explanation → ℕ
told_entry x = told_name x * 16 + told_number x

-- SPEC 14.6
unfoldable pub ground_entry : Ground → ℕ
ground_entry x = told_entry (told x)

-- the grounds in the order of M-109, each naming v; the last for every number past them
unfoldable pub grounds_naming : ℕ → List Ground
grounds_naming v =
    input_stuck ∷ by_replies ∷ at_home v ∷ output_stuck ∷ unanswered v ∷ by_way_out v ∷ unserved (v / 4) (v % 4) ∷ pushed_on ∷ []

-- SPEC 14.6
unfoldable pub entry_ground : ℕ → Ground
entry_ground e = get_or (grounds_naming (e / 16)) (e % 16 - 1) pushed_on
