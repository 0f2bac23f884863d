-- Sets of positions among one another.
--
--   among_sub, sub_among, among_self, among_then    : as crate barred has it
--   rows_among                 : rows that are the same
--   part_stay, part_reach      : where the controller can stay, and what is reached, from sets that are among others
--   counted, counted_less, counted_most    : how many positions a set has
use Prim.Native.Nat.{ℕ, ◌+◌, ◌*◌, ◌/◌, ◌%◌, ◌≤◌, ◌<◌}
use mathlib.Core.Path.{◌≡◌, sym, ◌∙◌, ap}
use mathlib.Core.Bool.{Bool, true, false}
use native.Mathlib.Nat.{div-lt_iff_lt-mul, mod-lt}
use native.Mathlib.Omega.{arith}
use lib.Arith.{digits_lt, digits_div, digits_mod}
use Rattle.finite.specs.Bounded.{count}
use Rattle.finite.proofs.Bounded.{count_le, count_less}
use Rattle.bits.specs.Member.{has}
use Rattle.barred.specs.Arena.{Pairs}
use Rattle.barred.specs.Region.{stay, reach}
use Rattle.barred.proofs.Rounds.{Sub, sub_intro, sub_elim, reach_mono}
use Rattle.barred.proofs.Passes.{stay_agrees}
use Rattle.game.specs.declared.Game.{Game}
use Rattle.game.specs.Fits.{Fits}
use Rattle.play.specs.Play.{graph_of, separated_of}
use Rattle.barred_region.specs.Region.{only, Among}

module _ (g : Game) where
  pub among_sub : {p q : Pairs} → Among g p q → Sub (separated_of g) p q
  unfolding separated_of graph_of
  among_sub A = sub_intro (separated_of g) A.all

  pub sub_among : {p q : Pairs} → Sub (separated_of g) p q → Among g p q
  unfolding separated_of graph_of
  sub_among A = record { all = sub_elim (separated_of g) A }

  pub among_self : (p : Pairs) → Among g p p
  among_self p = record { all = λ i o a b h. h }

  pub among_then : {p q r : Pairs} → Among g p q → Among g q r → Among g p r
  among_then A B = record { all = λ i o a b h. B.all i o a b (A.all i o a b h) }

  -- two rows for each input, the same
  pub rows_among : (p q : ℕ → ℕ) → ((i : ℕ) → i < g.input.states → p i ≡ q i) → Among g (λ i o. has (p i) o) (λ i o. has (q i) o)
  rows_among p q e = record { all = λ i o a b h. ap (λ (x : ℕ). has x o) (sym (e i a)) ∙ h }

  pub part_stay : (v v' w w' : ℕ → Bool) (Z Z' Y Y' : Pairs) → ((p : ℕ) → v p ≡ v' p) → ((j : ℕ) → j < g.input.states → w j ≡ w' j) → Among g Z Z'
      → Among g Y Y'
      → Among g (stay (separated_of g) v w Z Y) (stay (separated_of g) v' w' Z' Y')
  unfolding separated_of graph_of
  part_stay v v' w w' Z Z' Y Y' e f A B =
      sub_among
      (stay_agrees (separated_of g) v v' w w' Z Z' Y Y' (λ p b h. sym (e p) ∙ h) (λ j b h. sym (f j b) ∙ h) (among_sub A) (among_sub B))

  pub part_reach : (v : ℕ → Bool) (Z Z' : Pairs) → Among g Z Z' → Among g (reach (separated_of g) (only g) v Z) (reach (separated_of g) (only g) v Z')
  part_reach v Z Z' A = sub_among (reach_mono (separated_of g) (only g) v Z Z' (among_sub A))

  unfoldable pub counted : Pairs → ℕ
  counted p = count (g.input.states * g.output.states) (λ c. p (c / g.output.states) (c % g.output.states))

  pub counted_most : (p : Pairs) → counted p ≤ g.input.states * g.output.states
  unfolding counted
  counted_most p = count_le (g.input.states * g.output.states) (λ c. p (c / g.output.states) (c % g.output.states))

  pub counted_less : Fits g → {p q : Pairs} → Among g p q → (i o : ℕ) → i < g.input.states → o < g.output.states → p i o ≡ false → q i o ≡ true
      → counted p < counted q
  unfolding counted
  counted_less F {p} {q} A i o a b f t =
      count_less (g.input.states * g.output.states) (λ c. p (c / g.output.states) (c % g.output.states))
      (λ c. q (c / g.output.states) (c % g.output.states))
      (λ c h e. A.all (c / g.output.states) (c % g.output.states) ((div-lt_iff_lt-mul (omega (arith, F.output.some))).1 h)
      (mod-lt c (omega (arith, F.output.some))) e)
      (i * g.output.states + o) (digits_lt a b) (rw (digits_div i b, digits_mod i b) f) (rw (digits_div i b, digits_mod i b) t)
