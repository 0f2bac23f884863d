-- The sets of the first r requirements, one requirement after the other.
--
--   Listed s    == the sets that the side takes are its sets in use
use Prim.Native.Nat.{ℕ, ◌+◌, ◌≤◌, ◌<◌}
use mathlib.Core.Path.{◌≡◌, refl, sym, ◌∙◌, ap}
use mathlib.Core.Bool.{Bool, false}
use mathlib.Core.List.{List}
use native.Mathlib.Omega.{arith}
use native.Mathlib.Numerals.{add-one}
use lib.ListN.{length, get_or}
use Rattle.finite.specs.Tabulate.{tabulate, tabulate_from}
use Rattle.finite.proofs.Tabulate.{length_tabulate, get_d_tabulate}
use Rattle.sets.specs.Words.{bits_of}
use Rattle.bits.specs.Member.{has}
use Rattle.game.specs.declared.Game.{Game}
use Rattle.game.specs.declared.Requirement.{Requirement as RequirementRecord}
use Rattle.game.specs.Access.{requirement_at}
use Rattle.game.specs.Acceptance.{accepted, acceptance}
use Rattle.game.proofs.Laws.{accepted_fits}
use Rattle.play.specs.Play.{requirement_of, requirements_of, separated_of}
use Rattle.theory.specs.Tour.{goal_at}
use Rattle.theory.specs.Choice.{sets_of}
use Rattle.table_sizes.specs.Below.{Side, guarantee_side, assumption_side, sets_below, all_sets}
use Rattle.table_sizes.proofs.Concat.{length_more, get_or_within}

abbrev pub Listed : Side → Type 0
Listed s = (q : RequirementRecord) → s.sets (requirement_of q) ≡ tabulate (s.count q) (λ j. has (bits_of (s.set q j)))

pub guarantees_listed : Listed guarantee_side
unfolding guarantee_side requirement_of
guarantees_listed q = refl

pub assumptions_listed : Listed assumption_side
unfolding assumption_side requirement_of
assumptions_listed q = refl

module _ (s : Side) (L : Listed s) (g : Game) where
  -- how many sets requirement r has
  count_at : (r : ℕ) → length (s.sets (requirement_of (requirement_at g r))) ≡ s.count (requirement_at g r)
  count_at r =
      ap length (L (requirement_at g r)) ∙ length_tabulate (λ j. has (bits_of (s.set (requirement_at g r) j))) (s.count (requirement_at g r))

  pub below_none : 0 ≡ length (sets_below s g 0)
  unfolding sets_below tabulate tabulate_from sets_of
  below_none = refl

  pub below_more : (r n : ℕ) → n ≡ length (sets_below s g r) → n + s.count (requirement_at g r) ≡ length (sets_below s g (r + 1))
  unfolding sets_below
  below_more r n e =
      rw add-one
      (omega (arith, count_at r, length_more s.sets (λ k. requirement_of (requirement_at g k)) r))

  pub below_all : (r n : ℕ) → r ≤ g.k → g.k ≤ r → n ≡ length (sets_below s g r) → n ≡ length (all_sets s g)
  unfolding sets_below all_sets separated_of requirements_of
  below_all r n a b e =
      e ∙ ap (λ (k : ℕ). length (sets_of s.sets (tabulate k (λ j. requirement_of (requirement_at g j))))) (omega arith)

  -- set number a of all, j places after those of the first r requirements

  pub set_found : (r a j : ℕ) → r < g.k → a ≡ length (sets_below s g r) + j → j < s.count (requirement_at g r)
      → has (bits_of (s.set (requirement_at g r) j)) ≡ goal_at (all_sets s g) a
  unfolding sets_below all_sets separated_of requirements_of goal_at
  set_found r a j l e b =
      sym
      (get_or_within s.sets (λ k. requirement_of (requirement_at g k)) g.k r a j (λ t. false) l e (omega (arith, count_at r))
      ∙ ap (λ (x : List (ℕ → Bool)). get_or x j (λ t. false)) (L (requirement_at g r))
      ∙ get_d_tabulate (λ i. has (bits_of (s.set (requirement_at g r) i))) (s.count (requirement_at g r)) j (λ t. false) b)

module _ (g : Game) (a : acceptance g ≡ accepted) where
  pub few : g.k ≤ 8
  few = (accepted_fits g a).few

  pub guaranteed_few : (r : ℕ) → r < g.k → (requirement_at g r).guaranteed ≤ 4
  guaranteed_few r l = ((accepted_fits g a).requirement r (omega (arith, few))).few_guaranteed

  pub assumed_few : (r : ℕ) → r < g.k → (requirement_at g r).assumed ≤ 4
  assumed_few r l = ((accepted_fits g a).requirement r (omega (arith, few))).few_assumed
