-- The tables read from the lists of entries do what the choices say.
--
--   Sized S            == the game is small enough for the entries: what acceptance gives
--   answer_entry       : an answer in range is read back from its entry
--   controller_long, environment_long      : how many entries the lists have
--   controller_start_lem, controller_step, environment_start_lem, environment_step : what is read is the choice
--   read_follows, read_presses : so the theorems about such tables hold of what is read
use Prim.Native.Nat.{ℕ, suc, ◌+◌, ◌*◌, ◌≤◌, ◌<◌}
use native.Mathlib.Nat.{zero-add, add-mul-div_left, add-mul-mod_self_left, div-eq_of_lt, mod-eq_of_lt}
use mathlib.Core.Path.{◌≡◌, refl, sym, ◌∙◌, ap, ap₂, subst⁻¹}
use mathlib.Core.Bool.{Bool, true, false, ◌&&◌}
use mathlib.Core.List.{List, ◌∷◌, ◌++◌}
use mathlib.Core.Logic.{◌⊎◌, inl, inr}
use native.Mathlib.Numerals.{one-add}
use native.Mathlib.Omega.{arith}
use lib.Arith.{digits_lt, digits_div, digits_mod}
use lib.ListN.{length, get_or, length-append, get_or-append}
use lib.Seq.{get_or-append-add}
use borrow.Author.Tests.{ne_eqb}
use Rattle.finite.specs.Bounded.{any, least}
use Rattle.finite.specs.Tabulate.{tabulate}
use Rattle.finite.proofs.Truth.{decide, and_right}
use Rattle.finite.proofs.Bounded.{least_found}
use Rattle.finite.proofs.Tabulate.{length_tabulate, get_d_tabulate}
use Rattle.graphs.specs.Graph.{begins}
use Rattle.graphs.proofs.Graph.{edge_to}
use Rattle.arena.specs.Arena.{Separated}
use Rattle.arena.specs.Table.{Answer, none, gives}
use Rattle.theory.specs.Region.{answers, region, opens}
use Rattle.theory.specs.Choice.{controller_row, controller_start, environment_row, environment_start, refused}
use Rattle.theory.specs.Entries.{
  stride,
  none_entry,
  entry,
  answer,
  controller_counters,
  environment_counters,
  row_of,
  controller_entries,
  environment_entries,
  controller_table,
  environment_table,
}
use Rattle.theory.proofs.ControllerRow.{replied}
use Rattle.theory.proofs.Controller.{Follows}
use Rattle.theory.proofs.EnvironmentRow.{pushed}
use Rattle.theory.proofs.Environment.{Presses}

-- What acceptance gives: at most `stride` states a graph, and counters such that no entry is none's.
pub record Sized (S : Separated) : Type 0 where
  pub inputs : S.input.states ≤ stride
  pub outputs : S.output.states ≤ stride
  pub controller : controller_counters S ≤ 511
  pub environment : environment_counters S ≤ 511

-- an answer that its entry can hold
pub data Small : Answer → Type 0 where
  small_none : Small none
  small_gives : (counter state : ℕ) → counter < 511 → state < stride → Small (gives counter state)

-- "none is 65,535", and no other entry is
entry_below : (a : Answer) → Small a → (a ≡ none) ⊎ (entry a < none_entry)
unfolding entry
entry_below none small_none = inl refl
entry_below (gives c s) (small_gives counter state a b) = inr (omega arith)

answer_entry : (a : Answer) → Small a → answer (entry a) ≡ a
unfolding answer entry
answer_entry none small_none = refl
answer_entry (gives c s) (small_gives counter state a b) =
    rw (ne_eqb (state + stride * counter) none_entry (omega arith), answer)
    (ap₂ gives
    (add-mul-div_left state counter (omega arith) ∙ ap (λ (k : ℕ). k + counter) (div-eq_of_lt b) ∙ zero-add counter)
    (add-mul-mod_self_left state stride counter ∙ mod-eq_of_lt b))

-- the row of rows by a, b and c, and its place
module _ (A B C a b c : ℕ) (la : a < A) (lb : b < B) (lc : c < C) where
  pub place_below : (a * B + b) * C + c < A * B * C
  place_below = digits_lt (digits_lt la lb) lc

  pub row_at_lem : (f : ℕ → ℕ → ℕ → Answer) → row_of B C f ((a * B + b) * C + c) ≡ entry (f a b c)
  unfolding row_of
  row_at_lem f =
      rw (digits_div (a * B + b) lc, digits_mod (a * B + b) lc, digits_div a lb, digits_mod a lb)

-- the lists of entries
module _ (S : Separated) where
  abbrev starts : List ℕ
  starts = tabulate S.input.states (λ i. entry (controller_start S i))

  abbrev replies : List ℕ
  replies = tabulate (S.output.states * controller_counters S * S.input.states) (row_of (controller_counters S) S.input.states (controller_row S))

  starts_length : length starts ≡ S.input.states
  starts_length = length_tabulate (λ i. entry (controller_start S i)) S.input.states

  -- "inputs + outputs × max(1, G) × inputs entries"
  pub controller_long : length (controller_entries S) ≡ S.input.states + S.output.states * controller_counters S * S.input.states
  unfolding controller_entries
  controller_long =
      length-append starts replies
      ∙ ap₂ ◌+◌ starts_length
      (length_tabulate (row_of (controller_counters S) S.input.states (controller_row S)) (S.output.states * controller_counters S * S.input.states))

  -- "1 + inputs × max(1, H) × outputs entries"
  pub environment_long : length (environment_entries S) ≡ 1 + S.input.states * environment_counters S * S.output.states
  unfolding environment_entries
  environment_long =
      ap suc (length_tabulate (row_of (environment_counters S) S.output.states (environment_row S))
      (S.input.states * environment_counters S * S.output.states))
      ∙ sym (one-add (S.input.states * environment_counters S * S.output.states))

-- what stands at a place, d standing past the end
module _ (S : Separated) (d : ℕ) where
  pub controller_start_at : (i : ℕ) → i < S.input.states → get_or (controller_entries S) i d ≡ entry (controller_start S i)
  unfolding controller_entries
  controller_start_at i b =
      get_or-append (starts S) (replies S) d i (rw (starts_length S) b) ∙ get_d_tabulate (λ k. entry (controller_start S k)) S.input.states i d b

  pub controller_row_at : (o g j : ℕ) → o < S.output.states → g < controller_counters S → j < S.input.states
      → get_or (controller_entries S) (S.input.states + ((o * controller_counters S + g) * S.input.states + j)) d ≡ entry (controller_row S o g j)
  unfolding controller_entries
  controller_row_at o g j lo lg lj =
      let r : ℕ = (o * controller_counters S + g) * S.input.states + j in
      ap (λ (k : ℕ). get_or (starts S ++ replies S) (k + r) d) (sym (starts_length S))
      ∙ get_or-append-add (starts S) (replies S) r d
      ∙ get_d_tabulate (row_of (controller_counters S) S.input.states (controller_row S)) (S.output.states * controller_counters S * S.input.states) r d
      (place_below S.output.states (controller_counters S) S.input.states o g j lo lg lj)
      ∙ row_at_lem S.output.states (controller_counters S) S.input.states o g j lo lg lj (controller_row S)

  pub environment_row_at : (i h o : ℕ) → i < S.input.states → h < environment_counters S → o < S.output.states
      → get_or (environment_entries S) (1 + ((i * environment_counters S + h) * S.output.states + o)) d ≡ entry (environment_row S i h o)
  unfolding environment_entries
  environment_row_at i h o li lh lo =
      let r : ℕ = (i * environment_counters S + h) * S.output.states + o in
      let rows : List ℕ = tabulate (S.input.states * environment_counters S * S.output.states)
      (row_of (environment_counters S) S.output.states (environment_row S)) in
      ap (λ (k : ℕ). get_or (entry (environment_start S) ∷ rows) k d) (one-add r)
      ∙ get_d_tabulate (row_of (environment_counters S) S.output.states (environment_row S)) (S.input.states * environment_counters S * S.output.states) r d
      (place_below S.input.states (environment_counters S) S.output.states i h o li lh lo)
      ∙ row_at_lem S.input.states (environment_counters S) S.output.states i h o li lh lo (environment_row S)

module _ (S : Separated) (Z : Sized S) where
  small_start : (i : ℕ) → Small (controller_start S i)
  unfolding controller_start opens
  small_start i = go (decide (begins S.input i && opens S i))
    where
      p : ℕ → Bool
      p o = begins S.output o && region S i o

      go : ((begins S.input i && opens S i) ≡ true) ⊎ ((begins S.input i && opens S i) ≡ false) → Small (controller_start S i)
      go (inl e) =
          let f = least_found S.output.states p (and_right (begins S.input i) (any S.output.states p) e) in
          rw (e, controller_start) (small_gives 0 (least S.output.states p) (omega arith) (omega (arith, Z.outputs)))
      go (inr e) = rw (e, controller_start) small_none

  small_row : (o g j : ℕ) → g < controller_counters S → Small (controller_row S o g j)
  unfolding controller_row
  small_row o g j r = go (decide (answers S (region S) j o))
    where
      go : (answers S (region S) j o ≡ true) ⊎ (answers S (region S) j o ≡ false) → Small (controller_row S o g j)
      go (inl e) =
          let v = replied S o g j e r in
          subst⁻¹ Small v.is
          (small_gives v.counter v.state (omega (arith, v.range, Z.controller)) (omega (arith, edge_to S.output o v.state v.move, Z.outputs)))
      go (inr e) = rw (e, controller_row) small_none

  pub controller_start_lem : (i : ℕ) → i < S.input.states
      → (controller_table S.input.states (controller_counters S) (controller_entries S)).start i ≡ controller_start S i
  unfolding controller_table
  controller_start_lem i b = ap answer (controller_start_at S none_entry i b) ∙ answer_entry (controller_start S i) (small_start i)

  controller_step : (g o j : ℕ) → g < controller_counters S → o < S.output.states → j < S.input.states
      → (controller_table S.input.states (controller_counters S) (controller_entries S)).step g o j ≡ controller_row S o g j
  unfolding controller_table
  controller_step g o j lg lo lj = ap answer (controller_row_at S none_entry o g j lo lg lj) ∙ answer_entry (controller_row S o g j) (small_row o g j lg)

  pub read_follows : Follows S (controller_table S.input.states (controller_counters S) (controller_entries S))
  unfolding controller_table
  read_follows = record { counters = refl; rows = λ g o j lg lo lj a. controller_step g o j lg lo lj }

  -- the environment's table

  small_refused : Small (environment_start S)
  unfolding environment_start
  small_refused = go (decide (any S.input.states (refused S)))
    where
      go : (any S.input.states (refused S) ≡ true) ⊎ (any S.input.states (refused S) ≡ false) → Small (environment_start S)
      go (inl e) =
          let f = least_found S.input.states (refused S) e in
          rw (e, environment_start) (small_gives 0 (least S.input.states (refused S)) (omega arith) (omega (arith, Z.inputs)))
      go (inr e) = rw (e, environment_start) small_none

  small_push : (i h o : ℕ) → h < environment_counters S → i < S.input.states → o < S.output.states → Small (environment_row S i h o)
  unfolding environment_row
  small_push i h o r b c = go (decide (region S i o))
    where
      go : (region S i o ≡ true) ⊎ (region S i o ≡ false) → Small (environment_row S i h o)
      go (inl e) = rw (e, environment_row) small_none
      go (inr e) =
          let v = pushed S i h o b c e r in
          subst⁻¹ Small v.is
          (small_gives v.counter v.state (omega (arith, v.range, Z.environment)) (omega (arith, edge_to S.input i v.state v.move, Z.inputs)))

  pub environment_start_lem : (environment_table S.output.states (environment_counters S) (environment_entries S)).start ≡ environment_start S
  unfolding environment_table environment_entries
  environment_start_lem = answer_entry (environment_start S) small_refused

  environment_step : (h i o : ℕ) → h < environment_counters S → i < S.input.states → o < S.output.states
      → (environment_table S.output.states (environment_counters S) (environment_entries S)).step h i o ≡ environment_row S i h o
  unfolding environment_table
  environment_step h i o lh li lo =
      ap answer (environment_row_at S none_entry i h o li lh lo) ∙ answer_entry (environment_row S i h o) (small_push i h o lh li lo)

  pub read_presses : Presses S (environment_table S.output.states (environment_counters S) (environment_entries S))
  unfolding environment_table
  read_presses = record { counters = refl; rows = λ h i o lh li lo n. environment_step h i o lh li lo }
