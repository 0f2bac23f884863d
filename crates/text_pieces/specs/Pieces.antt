-- What is found at a place of a text: the answers to fixed bytes, numbers and sets, by what following the format finds.
--
--   found_as f x        == the answer to a piece: what f makes of its value and the place behind it, or the place of the fault
--   step_of x           == the answer to fixed bytes: the place behind them
--   number_read x       == the answer to a number
--   set_scan_of x        == the answer to a set
--   member_of x         == the answer to a further member
--   next_member lo w i  == what stands behind a member, at place i: the closing bracket, which is no member, or a blank and a member from lo on
use Rattle.std.specs.Prelude.{ℕ, suc, true, false, eqb, Result, Ok, Err, Option, None, Some}
use Rattle.sets.specs.declared.Set.{Set}
use Rattle.sets.specs.Words.{highest, set_of}
use Rattle.text_grammar.specs.Format.{Run}
use Rattle.text_grammar.specs.Format.Run.{got, fault}
use Rattle.text_grammar.specs.Number.{number_at}
use Rattle.text_pieces.specs.declared.Fault.{Fault}
use Rattle.text_pieces.specs.declared.Found.{Found}

unfoldable pub found_as : {A B : Type 0} → (A → B) → Run A → Result (Found B) Fault
found_as f (got a j) = Ok (record { value = f a; end = j })
found_as f (fault p) = Err (record { at = p })

unfoldable pub step_of : Run (Unit {0}) → Result ℕ Fault
step_of (got u j) = Ok j
step_of (fault p) = Err (record { at = p })

abbrev pub number_read : Run ℕ → Result (Found ℕ) Fault
number_read x = found_as (λ v. v) x

abbrev pub set_scan_of : Run ℕ → Result (Found Set) Fault
set_scan_of x = found_as set_of x

unfoldable pub member_of : Run ℕ → Result (Option (Found ℕ)) Fault
member_of (got v j) = Ok (Some (record { value = v; end = j }))
member_of (fault p) = Err (record { at = p })

unfoldable pub next_member : ℕ → (ℕ → ℕ) → ℕ → Result (Option (Found ℕ)) Fault
next_member lo w i =
    elim (eqb (w i) 41) [
      | true ↦ Ok None
      | false ↦ elim (eqb (w i) 32) [ true ↦ member_of (number_at lo highest w (suc i)) | false ↦ Err (record { at = i }) ]
    ]
