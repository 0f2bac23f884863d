-- The configurations of two tables that play against each other.
--
--   Joint             == input, output, and a memory value of each side
--   controller_side j, environment_side j    == the configuration of one side
--   Within a b m n j  == j's numbers are below a, b, m and n
--   code b m n j      == j as one number, its digits to the bases b, m and n
use Prim.Native.Nat.{ℕ, ◌+◌, ◌*◌, ◌<◌, ◌/◌, ◌%◌}
use mathlib.Core.Path.{◌≡◌, sym, ◌∙◌, ap}
use lib.Arith.{digits_lt, digits_div, digits_mod}
use Rattle.arena.specs.Play.{Configuration}

pub record Joint : Type 0 where
  pub input : ℕ
  pub output : ℕ
  pub controller_memory : ℕ
  pub environment_memory : ℕ

abbrev pub controller_side : Joint → Configuration
controller_side j = record { input = j.input; output = j.output; memory = j.controller_memory }

abbrev pub environment_side : Joint → Configuration
environment_side j = record { input = j.input; output = j.output; memory = j.environment_memory }

pub record Within (a b m n : ℕ) (j : Joint) : Type 0 where
  pub input : j.input < a
  pub output : j.output < b
  pub controller_memory : j.controller_memory < m
  pub environment_memory : j.environment_memory < n

unfoldable pub code : (b m n : ℕ) → Joint → ℕ
code b m n j = ((j.input * b + j.output) * m + j.controller_memory) * n + j.environment_memory

-- the last digit, and what stands before it
digit_high : (q p : ℕ) {m r s : ℕ} → r < m → s < m → q * m + r ≡ p * m + s → q ≡ p
digit_high q p {m} h k e = sym (digits_div q h) ∙ ap (λ (x : ℕ). x / m) e ∙ digits_div p k

digit_low : (q p : ℕ) {m r s : ℕ} → r < m → s < m → q * m + r ≡ p * m + s → r ≡ s
digit_low q p {m} h k e = sym (digits_mod q h) ∙ ap (λ (x : ℕ). x % m) e ∙ digits_mod p k

module _ (a b m n : ℕ) where
  pub code_below : (j : Joint) → Within a b m n j → code b m n j < a * b * m * n
  unfolding code
  code_below j w = digits_lt (digits_lt (digits_lt w.input w.output) w.controller_memory) w.environment_memory

  pub code_injective : (j k : Joint) → Within a b m n j → Within a b m n k → code b m n j ≡ code b m n k → j ≡ k
  unfolding code
  code_injective j k v w e =
      let three : (j.input * b + j.output) * m + j.controller_memory ≡ (k.input * b + k.output) * m + k.controller_memory = digit_high _ _
      v.environment_memory w.environment_memory e in
      let two : j.input * b + j.output ≡ k.input * b + k.output = digit_high _ _ v.controller_memory w.controller_memory three in
      let p : j.input ≡ k.input = digit_high _ _ v.output w.output two in
      let q : j.output ≡ k.output = digit_low j.input k.input v.output w.output two in
      let r : j.controller_memory ≡ k.controller_memory = digit_low (j.input * b + j.output) (k.input * b + k.output) v.controller_memory
      w.controller_memory three in
      let s : j.environment_memory ≡ k.environment_memory
      = digit_low ((j.input * b + j.output) * m + j.controller_memory) ((k.input * b + k.output) * m + k.controller_memory) v.environment_memory
      w.environment_memory e in
      λ i. record { input = p i; output = q i; controller_memory = r i; environment_memory = s i }
