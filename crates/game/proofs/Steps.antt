-- What the code's branches and loops make of the tests: one law for each return, start, turn and end of a loop.
use mathlib.Core.Path.{◌≡◌, refl, sym, ap, ◌∙◌}
use mathlib.Core.Bool.{Bool, true, false, ◌&&◌}
use mathlib.Core.List.{List, [], ◌∷◌}
use Prim.Native.Nat.{ℕ, suc, ◌≤◌, ◌<◌}
use lib.Dec.{eqb, leb}
use lib.ListN.{get_or}
use borrow.Author.Tests.{lt-ltb, le-ltb, le-leb, lt-leb, eq-eqb, ne_eqb}
use Rattle.sets.specs.Words.{capacity, bits_of, sets_in}
use Rattle.finite.specs.Bounded.{all}
use Rattle.finite.proofs.Loops.{all_stop, all_end, and_stop, and_next}
use Rattle.bits.specs.Member.{within}
use Rattle.game.specs.declared.Graph.{Graph}
use Rattle.game.specs.declared.Requirement.{Requirement}
use Rattle.game.specs.declared.Game.{Game}
use Rattle.std.specs.declared.result.Result.TheVariants.{Ok, Err}
use Rattle.game.specs.declared.Refusal.{Refusal}
use Rattle.game.specs.Access.{no_input, no_output, requirement_at}
use Rattle.game.specs.Acceptance.{limit, count_fits, row_fits, states_fit, has_initial, few_sets, in_set_fits, out_set_fits, in_use, requirement_fits, few_sets_at, requirement_fits_at, counts_fit, states_in_count, initials_exist, lengths_fit, sets_fit, first_failing, Acceptance, accepted}

-- ---- a graph

pub limit_in : (used j n : ℕ) → j < used → n ≡ limit used j n
unfolding limit
limit_in used j n l = rw (lt-ltb j used l, limit)

pub limit_out : (used j n : ℕ) → used ≤ j → 0 ≡ limit used j n
unfolding limit
limit_out used j n l = rw (le-ltb j used l, limit)

pub count_none : (g : Graph) → g.states < 1 → false ≡ count_fits g
unfolding count_fits
count_none g l = and_stop (leb g.states capacity) (lt-leb 1 g.states l)

pub count_some : (g : Graph) → 1 ≤ g.states → leb g.states capacity ≡ count_fits g
unfolding count_fits
count_some g l = and_next (le-leb 1 g.states l) refl

pub row_within : (row n s l : ℕ) (r : Bool) → l ≡ limit n s n → r ≡ within row l → r ≡ within row (limit n s n)
row_within row n s l r e q = q ∙ ap (within row) e

pub row_fits_lem : (g : Graph) (s x : ℕ) (r : Bool) → x ≡ get_or (sets_in g.moves) s 0 → r ≡ within x (limit g.states s g.states) → r ≡ row_fits g s
unfolding row_fits
row_fits_lem g s x r e q = q ∙ ap (λ (y : ℕ). within y (limit g.states s g.states)) e

pub states_initial : (g : Graph) → within (bits_of g.initial) g.states ≡ false → false ≡ states_fit g
unfolding states_fit
states_initial g e = and_stop (all capacity (row_fits g)) e

pub states_row : (g : Graph) (s : ℕ) → within (bits_of g.initial) g.states ≡ true → s < capacity → row_fits g s ≡ false → false ≡ states_fit g
unfolding states_fit
states_row g s i l e = and_next i (all_stop capacity s (row_fits g) l e)

pub states_end : (g : Graph) (s : ℕ) → within (bits_of g.initial) g.states ≡ true → s ≤ capacity → capacity ≤ s → all s (row_fits g) ≡ true
    → true ≡ states_fit g
unfolding states_fit
states_end g s i l m e = and_next i (all_end capacity s (row_fits g) l m e)

-- ---- a requirement

pub few_many : (q : Requirement) → 4 < q.assumed → false ≡ few_sets q
unfolding few_sets
few_many q l = and_stop (leb q.guaranteed 4) (lt-leb q.assumed 4 l)

pub few_next : (q : Requirement) → q.assumed ≤ 4 → leb q.guaranteed 4 ≡ few_sets q
unfolding few_sets
few_next q l = and_next (le-leb q.assumed 4 l) refl

pub in_set_fits_lem : (q : Requirement) (n j l : ℕ) (r : Bool) → l ≡ limit q.assumed j n → r ≡ within (bits_of (get_or q.assumptions j no_input).0) l
    → r ≡ in_set_fits q n j
unfolding in_set_fits
in_set_fits_lem q n j l r e p = p ∙ ap (within (bits_of (get_or q.assumptions j no_input).0)) e

pub out_set_fits_lem : (q : Requirement) (n j l : ℕ) (r : Bool) → l ≡ limit q.guaranteed j n → r ≡ within (bits_of (get_or q.guarantees j no_output).0) l
    → r ≡ out_set_fits q n j
unfolding out_set_fits
out_set_fits_lem q n j l r e p = p ∙ ap (within (bits_of (get_or q.guarantees j no_output).0)) e

pub use_below : (g : Game) (r : ℕ) (q : Requirement) → r < g.k → true ≡ in_use g r q
unfolding in_use
use_below g r q l = rw (lt-ltb r g.k l)

pub use_assumed : (g : Game) (r : ℕ) (q : Requirement) → g.k ≤ r → (q.assumed ≡ 0 → ⊥) → false ≡ in_use g r q
unfolding in_use
use_assumed g r q l n = rw (le-ltb r g.k l, ne_eqb q.assumed 0 n)

pub use_next : (g : Game) (r : ℕ) (q : Requirement) → g.k ≤ r → q.assumed ≡ 0 → eqb q.guaranteed 0 ≡ in_use g r q
unfolding in_use
use_next g r q l e = rw (le-ltb r g.k l, eq-eqb q.assumed 0 e)

module _ (g : Game) (r : ℕ) (q : Requirement) where
  pub fits_unused : in_use g r q ≡ false → false ≡ requirement_fits g r q
  unfolding requirement_fits
  fits_unused e = and_stop (all 4 (in_set_fits q g.input.states) && all 4 (out_set_fits q g.output.states)) e

  pub fits_in : in_use g r q ≡ true → all 4 (in_set_fits q g.input.states) ≡ false → false ≡ requirement_fits g r q
  unfolding requirement_fits
  fits_in u e = and_next u (and_stop (all 4 (out_set_fits q g.output.states)) e)

  pub fits_out : (b : Bool) → in_use g r q ≡ true → all 4 (in_set_fits q g.input.states) ≡ true → b ≡ all 4 (out_set_fits q g.output.states)
      → b ≡ requirement_fits g r q
  unfolding requirement_fits
  fits_out b u i e = and_next u (and_next i e)

-- ---- a game

module _ (g : Game) where
  pub counts_stop : count_fits g.input ≡ false → false ≡ counts_fit g
  unfolding counts_fit
  counts_stop e = and_stop (count_fits g.output) e

  pub counts_next : (r : Bool) → count_fits g.input ≡ true → r ≡ count_fits g.output → r ≡ counts_fit g
  unfolding counts_fit
  counts_next r e q = and_next e q

  pub states_stop : states_fit g.input ≡ false → false ≡ states_in_count g
  unfolding states_in_count
  states_stop e = and_stop (states_fit g.output) e

  pub states_next : (r : Bool) → states_fit g.input ≡ true → r ≡ states_fit g.output → r ≡ states_in_count g
  unfolding states_in_count
  states_next r e q = and_next e q

  pub initials_stop : has_initial g.input ≡ false → false ≡ initials_exist g
  unfolding initials_exist
  initials_stop e = and_stop (has_initial g.output) e

  pub initials_next : (r : Bool) → has_initial g.input ≡ true → r ≡ has_initial g.output → r ≡ initials_exist g
  unfolding initials_exist
  initials_next r e q = and_next e q

  pub few_at : (r : ℕ) → few_sets (requirement_at g r) ≡ few_sets_at g r
  unfolding few_sets_at
  few_at r = refl

  pub fits_at : (r : ℕ) → requirement_fits g r (requirement_at g r) ≡ requirement_fits_at g r
  unfolding requirement_fits_at
  fits_at r = refl

  pub lengths_stop : (r : ℕ) → r < 8 → few_sets_at g r ≡ false → false ≡ lengths_fit g
  unfolding lengths_fit
  lengths_stop r l e = all_stop 8 r (few_sets_at g) l e

  pub lengths_end : (r : ℕ) → r ≤ 8 → 8 ≤ r → all r (few_sets_at g) ≡ true → true ≡ lengths_fit g
  unfolding lengths_fit
  lengths_end r l m e = all_end 8 r (few_sets_at g) l m e

  pub sets_stop : (r : ℕ) → r < 8 → requirement_fits_at g r ≡ false → false ≡ sets_fit g
  unfolding sets_fit
  sets_stop r l e = all_stop 8 r (requirement_fits_at g) l e

  pub sets_end : (r : ℕ) → r ≤ 8 → 8 ≤ r → all r (requirement_fits_at g) ≡ true → true ≡ sets_fit g
  unfolding sets_fit
  sets_end r l m e = all_end 8 r (requirement_fits_at g) l m e

-- ---- the first test that fails

pub first_stop : (r : Refusal) (ts : List (Refusal × Bool)) {b : Bool} → b ≡ false → Err r ≡ first_failing ((r, b) ∷ ts)
unfolding first_failing
first_stop r ts e = sym (ap (λ (t : Bool). first_failing ((r, t) ∷ ts)) e)

pub first_next : (r : Refusal) (ts : List (Refusal × Bool)) {b : Bool} (a : Acceptance) → b ≡ true → a ≡ first_failing ts → a ≡ first_failing ((r, b) ∷ ts)
unfolding first_failing
first_next r ts a e q = q ∙ sym (ap (λ (t : Bool). first_failing ((r, t) ∷ ts)) e)

pub first_none : accepted ≡ first_failing []
unfolding first_failing
first_none = refl
