-- `more_members` meets its contract. The invariant: what is left, with what is done, makes the whole.
use Prim.Native.Nat.{ℕ, ◌+◌, ◌-◌}
use mathlib.Core.Path.{◌≡◌, refl, sym, ◌∙◌, ap}
use native.Mathlib.Omega.{arith}
use Rattle.std.specs.Prelude.{Ok}
use Rattle.sets.specs.Words.{highest}
use Rattle.sets.proofs.Rows.{set_is}
use Rattle.text_grammar.specs.Format.{Run, run}
use Rattle.text_grammar.proofs.Place.{byte_within}
use Rattle.text_shape.specs.Shape.{more_members}
use Rattle.text_pieces.specs.Pieces.{set_scan_of}
use Rattle.text_pieces.proofs.Steps.{members_next, members_past, members_end, members_closed, members_fault, members_more, closed_byte}
use Rattle.text_pieces.proofs.Outcomes.{found_fault, whole_members, handed_on}
use Rattle.text_pieces.proofs.more_members.Goals.{else-loop-turn-test, then-loop-turn-test+then-low-gt-HIGHEST}
use Rattle.text_pieces.proofs.more_members.Goals as goal

-- one member fewer is left
fewer : (x : Run ℕ) (n lo v : ℕ) (w : ℕ → ℕ) (j : ℕ) → x ≡ run (more_members (highest - n - 1) lo v) w j → x ≡ run (more_members (highest - (n + 1)) lo v) w j
fewer x n lo v w j e = let less : highest - n - 1 ≡ highest - (n + 1) = omega arith in e ∙ ap (λ (m : ℕ). run (more_members m lo v) w j) less

pub loop-turn-init : goal.loop-turn-init
loop-turn-init c = (refl, c.requires, set_is _ (omega arith))

pub returns-in_err-next_member : goal.returns-in_err-next_member
returns-in_err-next_member c =
    handed_on c.from_residual.ensures.1
    (found_fault _ (members_fault _ _ _ _ _ _ c.loop-turn.invariant.0 (omega (arith, c.loop-turn-test.true)) c.if-low-gt-HIGHEST.false _
    c.in_err-next_member.ensures))

pub overflow_add-result : goal.overflow_add-result
overflow_add-result c =
    omega (arith, byte_within _ _ _ (closed_byte c.loop-turn.low _ _ (sym (ap Ok c.in-None.is) ∙ c.in_ok-next_member.ensures)) (omega arith))

pub returns-in-None : goal.returns-in-None
returns-in-None c =
    whole_members c.loop-turn.invariant.2
    (members_closed _ _ _ _ _ _ c.loop-turn.invariant.0 (omega (arith, c.loop-turn-test.true)) c.if-low-gt-HIGHEST.false
    (sym (ap Ok c.in-None.is) ∙ c.in_ok-next_member.ensures))

pub insert-set-requires : goal.insert-set-requires
insert-set-requires c =
    omega (
      arith,
      members_more _ _ _ _ _ _ c.loop-turn.invariant.0 (omega (arith, c.loop-turn-test.true)) c.if-low-gt-HIGHEST.false c.in-Some.m
          (sym (ap Ok c.in-Some.is) ∙ c.in_ok-next_member.ensures),
    )

pub overflow_add-low : goal.overflow_add-low
overflow_add-low c =
    omega (
      arith,
      members_more _ _ _ _ _ _ c.loop-turn.invariant.0 (omega (arith, c.loop-turn-test.true)) c.if-low-gt-HIGHEST.false c.in-Some.m
          (sym (ap Ok c.in-Some.is) ∙ c.in_ok-next_member.ensures),
    )

pub loop-turn-preserved : goal.loop-turn-preserved
loop-turn-preserved c =
    let more =
    members_next _ _ _ _ _ _ c.loop-turn.invariant.0 (omega (arith, c.loop-turn-test.true)) c.if-low-gt-HIGHEST.false c.in-Some.m _
    (sym (ap Ok c.in-Some.is) ∙ c.in_ok-next_member.ensures) c.insert-set.ensures in
    (fewer _ _ _ _ _ _ more.0, more.1, set_is _ (omega (arith, c.insert-set.type_inv)))

pub returns : goal.returns
returns c =
    c.closed_set.ensures ∙ elim c.loop-turn-test.branch [
      | else-loop-turn-test w ↦ sym (ap set_scan_of (members_end _ _ _ _ _ _ c.loop-turn.invariant.0 (omega (arith, w.loop-turn-test.false))))
      | then-loop-turn-test+then-low-gt-HIGHEST w ↦ sym (ap set_scan_of (members_past _ _ _ _ _ _ c.loop-turn.invariant.0 w.if-low-gt-HIGHEST.true))
    ]
