-- Pins: what counts as none, for every table.
use Prim.Native.Nat.{ℕ, ◌≤◌, ◌<◌}
use mathlib.Core.Path.{◌≡◌, refl}
use mathlib.Core.Bool.{Bool, true, false}
use native.Mathlib.Omega.{arith}
use Rattle.finite.proofs.Truth.{clash}
use Rattle.arena.specs.Table.{none, gives, Some}

module _ {M : ℕ} {allowed : ℕ → Bool} where
  -- "a step may be none"
  pub none_is_none : Some M allowed none → ⊥
  none_is_none x = let e : ◌≡◌ {A = ℕ} 0 1 = cc x.names.is in omega arith

  -- "a start that names no initial state, a step that names no move .. counts as none"
  pub names_no_state : (m s : ℕ) → allowed s ≡ false → Some M allowed (gives m s) → ⊥
  names_no_state m s h x = let e : s ≡ x.state = cc x.names.is in clash x.names.state (rw (← e) h)

  -- "or either that names no memory value of its table, counts as none"
  pub names_no_memory : (m s : ℕ) → M ≤ m → Some M allowed (gives m s) → ⊥
  names_no_memory m s h x = let e : m ≡ x.memory = cc x.names.is in omega (arith, x.names.memory)

  -- any other answer is not none
  pub names_both : (m s : ℕ) → m < M → allowed s ≡ true → Some M allowed (gives m s)
  names_both m s h k = record { memory = m; state = s; names = record { is = refl; memory = h; state = k } }
