-- `lead` meets its contract.
use Rattle.checker_rows.proofs.Leads.{lead_at, lead_refused, lead_parts}
use native.Mathlib.Omega.{arith}
use Rattle.checker_rows.proofs.lead.Goals as goal

pub overflow_mul-result : goal.overflow_mul-result
overflow_mul-result c =
    omega (
      arith,
      (lead_parts _ _ _ _ _ _ c.arrive.ensures _ c.in-Ok.is
          c.requires.0 c.requires.1).0,
    )

pub overflow_add-result : goal.overflow_add-result
overflow_add-result c =
    omega (
      arith,
      (lead_parts _ _ _ _ _ _ c.arrive.ensures _ c.in-Ok.is
          c.requires.0 c.requires.1).1,
    )

pub overflow_mul-result-in-Ok : goal.overflow_mul-result-in-Ok
overflow_mul-result-in-Ok c =
    omega (
      arith,
      (lead_parts _ _ _ _ _ _ c.arrive.ensures _ c.in-Ok.is
          c.requires.0 c.requires.1).2,
    )

pub overflow_add-result-in-Ok : goal.overflow_add-result-in-Ok
overflow_add-result-in-Ok c =
    omega (
      arith,
      (lead_parts _ _ _ _ _ _ c.arrive.ensures _
          c.in-Ok.is c.requires.0
          c.requires.1).3,
    )

pub overflow_cast-result : goal.overflow_cast-result
overflow_cast-result c =
    omega (
      arith,
      (lead_parts _ _ _ _ _ _ c.arrive.ensures _
          c.in-Ok.is c.requires.0
          c.requires.1).3,
    )

pub returns-in-Ok : goal.returns-in-Ok
returns-in-Ok c =
    lead_at _ _ _ _ _ _ c.arrive.ensures _ c.in-Ok.is

pub returns-in-Err : goal.returns-in-Err
returns-in-Err c = lead_refused _ _ _ _ _ _ c.arrive.ensures _ c.in-Err.is
