-- What stands in an entry.
--
--   name_small      : what the ground of a position names fits
--   number_small    : a ground's number is one of eight
--   entry_read      : the ground is read back from its entry
use Prim.Native.Nat.{ℕ, ◌+◌, ◌-◌, ◌*◌, ◌≤◌, ◌<◌}
use mathlib.Core.Path.{◌≡◌, refl, ◌∙◌, ap₂}
use native.Mathlib.Omega.{arith}
use lib.Arith.{digits_div, digits_mod}
use lib.ListN.{length, get_or}
use Rattle.finite.proofs.Tabulate.{length_tabulate}
use Rattle.graphs.proofs.Graph.{edge_to}
use Rattle.graphs.proofs.Closure.{path_below}
use Rattle.bits.specs.Member.{has}
use Rattle.sets.specs.Words.{bits_of}
use Rattle.game.specs.declared.Game.{Game}
use Rattle.game.specs.Access.{requirement_at, guarantee_at}
use Rattle.game.specs.Fits.{Fits}
use Rattle.play.specs.Play.{graph_of, requirement_of, requirements_of, separated_of}
use Rattle.grounds.specs.Ground.{
  Ground,
  input_stuck,
  by_replies,
  at_home,
  output_stuck,
  unanswered,
  by_way_out,
  unserved,
  pushed_on,
  second_named,
  nth_requirement,
  ground,
}
use Rattle.grounds.specs.Holds.{Holds}
use Rattle.grounds.proofs.Component.{entered_below}
use Rattle.grounds.proofs.Holds.{ground_holds}
use Rattle.ground_search.specs.declared.Explanation.{Explanation}
use Rattle.ground_search.specs.declared.Explanation.TheVariants.{
  InputStuck,
  ByReplies,
  AtHome,
  OutputStuck,
  Unanswered,
  ByWayOut,
  Unserved,
  PushedOn,
}
use Rattle.ground_search.specs.Told.{told}
use Rattle.ground_search.proofs.Requirements.{nth}
use Rattle.explain_all.specs.Entry.{told_number, told_name, ground_entry, grounds_naming, entry_ground}

-- a ground whose name fits and whose output set is one of four
record Named (x : Ground) : Type 0 where
  small : told_name (told x) < 4095
  set : second_named x < 4

pub number_small : (x : Explanation) → told_number x ≤ 8
number_small InputStuck = omega arith
number_small ByReplies = omega arith
number_small (AtHome d) = omega arith
number_small OutputStuck = omega arith
number_small (Unanswered j) = omega arith
number_small (ByWayOut j) = omega arith
number_small (Unserved k n) = omega arith
number_small PushedOn = omega arith

module _ (g : Game) (F : Fits g) (i o : ℕ) (a : i < g.input.states) (b : o < g.output.states) where
  requirement_few : (k : ℕ) → k < length (separated_of g).requirements → k < g.k
  unfolding separated_of requirements_of
  requirement_few k h = omega (arith, length_tabulate (λ r. requirement_of (requirement_at g r)) g.k)

  sets_few : (k : ℕ) → k < g.k → length (nth_requirement (separated_of g) k).guarantees ≤ 4
  unfolding requirement_of
  sets_few k h =
      rw (nth g k h)
      (omega (
        arith,
        length_tabulate (λ j. has (bits_of (guarantee_at g k j).0)) (requirement_at g k).guaranteed,
        (F.requirement k (omega (arith, F.few))).few_guaranteed,
      ))

  names : (x : Ground) → Holds (separated_of g) i o x → Named x
  unfolding Holds told second_named separated_of graph_of
  names input_stuck v = record { small = omega arith; set = omega arith }
  names by_replies v = record { small = omega arith; set = omega arith }
  names (at_home d) v = record { small = omega (arith, path_below (graph_of g.output) v.reached b, F.output.most); set = omega arith }
  names output_stuck v = record { small = omega arith; set = omega arith }
  names (unanswered j) v = record { small = omega (arith, edge_to (graph_of g.input) i j v.move, F.input.most); set = omega arith }
  names (by_way_out j) v = record { small = omega (arith, entered_below (graph_of g.input) i j v.leaves, F.input.most); set = omega arith }
  names (unserved k n) v =
      let few = requirement_few k v.due.number in
      let set = sets_few k few in
      record { small = omega (arith, F.few, v.number); set = omega (arith, v.number) }
  names pushed_on v = record { small = omega arith; set = omega arith }

  named : Named (ground (separated_of g) i o)
  unfolding separated_of graph_of
  named = names (ground (separated_of g) i o) (ground_holds (separated_of g) i o a b)

  pub name_small : told_name (told (ground (separated_of g) i o)) < 4095
  name_small = named.small

  -- an entry is a name and a number
  naming : (v n : ℕ) → n < 16 → entry_ground (v * 16 + n) ≡ get_or (grounds_naming v) (n - 1) pushed_on
  unfolding entry_ground
  naming v n h = rw (digits_div v h, digits_mod v h) refl

  read_back : (x : Ground) → second_named x < 4 → entry_ground (ground_entry x) ≡ x
  unfolding entry_ground ground_entry grounds_naming told second_named
  read_back input_stuck h = refl
  read_back by_replies h = refl
  read_back (at_home d) h = naming d 3 (omega arith)
  read_back output_stuck h = refl
  read_back (unanswered j) h = naming j 5 (omega arith)
  read_back (by_way_out j) h = naming j 6 (omega arith)
  read_back (unserved k n) h = naming (k * 4 + n) 7 (omega arith) ∙ ap₂ unserved (digits_div k h) (digits_mod k h)
  read_back pushed_on h = refl

  pub entry_read : entry_ground (ground_entry (ground (separated_of g) i o)) ≡ ground (separated_of g) i o
  entry_read = read_back (ground (separated_of g) i o) named.set
