-- `requirements_at` meets its contract. The invariant: what is left, with what is done, makes the whole.
use lib.ListN.{replicate}
use Prim.Native.Nat.{◌≤◌, ◌-◌}
use mathlib.Core.Path.{◌≡◌}
use Rattle.text_shape.specs.Shape.{requirements_format}
use Rattle.text_shape.specs.Text.{empty_requirement}
use Rattle.text_grammar.specs.Place.{bytes}
use Rattle.text_grammar.specs.Format.{run}
use Rattle.text_scan.proofs.whole.requirements_at.Given as goal

abbrev pub invariant-loop-t : goal.invariant-loop-t
invariant-loop-t l =
    (run (requirements_format l.k 0 (replicate 8 empty_requirement)) (bytes l.s) l.i
    ≡ run (requirements_format (l.k - l.t) l.t l.qs) (bytes l.s) l.at)
    × (l.k ≤ 8)
