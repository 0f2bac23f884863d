-- A refusal is no map that is made.
use Prim.Native.Nat.{ℕ}
use mathlib.Core.Path.{◌≡◌}
use native.Mathlib.Omega.{arith}
use Rattle.game.specs.declared.Refusal.{Refusal}
use Rattle.std.specs.declared.result.Result.TheVariants.{Err}
use Rattle.map_marks.specs.Mapped.{made}

pub not_done : {n : Refusal} {A : Type 0} → Err n ≡ made → A
not_done q = let z : ◌≡◌ {A = ℕ} 0 1 = cc in absurd (omega arith)
