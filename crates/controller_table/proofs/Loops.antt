-- Each loop fills its rows of the table.
--
--   fills_plains    : the rows with no home in reach
--   starts-filled   : the starts
use Prim.Native.Nat.{ℕ, suc, ◌≤◌, ◌<◌}
use mathlib.Core.Path.{◌≡◌, refl, sym, ◌∙◌, ap}
use mathlib.Core.Bool.{Bool, true, false, not, ◌&&◌}
use mathlib.Core.List.{List}
use mathlib.Core.Logic.{inl, inr}
use native.Mathlib.Omega.{arith}
use lib.ListN.{length, get_or}
use Rattle.finite.specs.Bounded.{least}
use Rattle.finite.proofs.Truth.{clash, not_true, and_intro, and_left, and_right}
use Rattle.finite.proofs.Bounded.{below_suc}
use Rattle.bits.specs.Member.{has, both}
use Rattle.sets.specs.Words.{capacity, bits_of}
use Rattle.scratch.specs.Stored.{row_at, out_reach_at}
use Rattle.graphs.specs.Component.{joined}
use Rattle.graphs.proofs.Component.{joined_to, joined_sym}
use Rattle.arena.specs.Arena.{Separated}
use Rattle.table_filling.specs.Grows.{Right, Grows}
use Rattle.table_filling.proofs.Grows.{grows_none, grows_more, grows_set, right_set}
use Rattle.theory.specs.Choice.{controller_start}
use Rattle.theory.specs.Entries.{entry}
use Rattle.graph_ways.proofs.Kept.{members_pack}
use Rattle.controller_rows.specs.declared.Size.{Size}
use Rattle.controller_rows.specs.declared.Home.{Home}
use Rattle.controller_rows.specs.Each.{Each, none, hit, miss}
use Rattle.controller_rows.specs.Writes.{leading, column_of, Row, settles_at, Plain, Plains, start_of, Start, Starts}
use Rattle.controller_table.specs.Filled.{HasHome, HomeOf}
use Rattle.controller_table.proofs.Fills.{Sizes, Fills, filled_part, filled_led, fills_each, fills_row}
use Rattle.controller_table.proofs.Told.{Told, has_home_same}
use Rattle.controller_table.proofs.Entries.{plain_entry}

-- the component of a home, as a word
pub comp_in : (S : Separated) (w : Home) → HomeOf S w → (o : ℕ) → has (bits_of w.component.0) o ≡ joined S.output w.state.0 o
comp_in S w H o =
    ap (λ (x : ℕ). has x o) H.component
    ∙ ap (λ (p : ℕ → Bool). p o) (members_pack S.output.states (joined S.output w.state.0) (joined_to S.output w.state.0))

module _ (S : Separated) (z : Size) (Z : Sizes S z) where
  module _ (s : List ℕ) (inner : ℕ) (rows : List ℕ) (T : Told S s z.inputs inner rows) where
    fills_plain : (o : ℕ) → o < S.output.states
        → Fills S z (Plain z s inner o (get_or rows o 0) z.inputs)
        (λ o' c j. (o' ≡ o) × (settles_at inner j (row_at s z.inputs j) (out_reach_at s z.inputs o) ≡ false))
    fills_plain o b = record {
      fills = λ l m e long.
          filled_led S z Z (λ o' c j x d t h. (j, rw Z.inputs d, and_intro t (ap not h.1), (h.0, refl)))
          ((fills_each S z (λ j. leading z j && not (settles_at inner j (row_at s z.inputs j) (out_reach_at s z.inputs o)))
          (λ j. Row z o (column_of z j) (least capacity (both (get_or rows o 0) (row_at s z.inputs j))))
          (λ j o' c j'. (o' ≡ o) × (j' ≡ j)) z.inputs
          (λ j d h. let a = rw Z.inputs at d in
          fills_row S z Z o j (least capacity (both (get_or rows o 0) (row_at s z.inputs j))) b a
          (and_left (leading z j) (not (settles_at inner j (row_at s z.inputs j) (out_reach_at s z.inputs o))) h)
          (λ c x. plain_entry S s z.inputs inner rows T j o a b
          (not_true (settles_at inner j (row_at s z.inputs j) (out_reach_at s z.inputs o))
          (and_right (leading z j) (not (settles_at inner j (row_at s z.inputs j) (out_reach_at s z.inputs o))) h)) c))
          ).fills l m e.each long);
    }

    pub fills_plains : Fills S z (Plains z s inner rows z.outputs)
        (λ o c j. settles_at inner j (row_at s z.inputs j) (out_reach_at s z.inputs o) ≡ false)
    fills_plains = record {
      fills = λ l m e long.
          filled_part S z (λ o c j b y d h. (o, rw Z.outputs b, refl, (refl, h)))
          ((fills_each S z (λ o. true) (λ o. Plain z s inner o (get_or rows o 0) z.inputs)
          (λ i o c j. (o ≡ i) × (settles_at inner j (row_at s z.inputs j) (out_reach_at s z.inputs i) ≡ false)) z.outputs
          (λ o b h. fills_plain o (rw Z.outputs at b))
          ).fills l m e.each long);
    }

  module _ (w : Home) (H : HomeOf S w) (few : S.output.states ≤ capacity) where
    -- who has_home at the home, at any state of its component
    pub has_home_from : (o j : ℕ) → j < S.input.states → joined S.output w.state.0 o ≡ true → has (bits_of w.inputs.0) j ≡ true
        → HasHome S o w.state.0 j
    has_home_from o j a h i = has_home_same S w.state.0 o w.state.0 j a h (H.has_home j a i)

    pub input_at : (o j : ℕ) → j < S.input.states → joined S.output w.state.0 o ≡ true → HasHome S o w.state.0 j
        → has (bits_of w.inputs.0) j ≡ true
    input_at o j a h r = H.complete j a (has_home_same S o w.state.0 w.state.0 j a (joined_sym S.output w.state.0 o h) r)

-- ---- the starts

-- the first k starts of a list E stand in m
record Begun (E : List ℕ) (k : ℕ) (l m : List ℕ) : Type 0 where
  grows : Grows E l m
  right : (i : ℕ) → i < k → Right E m i

module _ (S : Separated) (z : Size) (n : z.inputs ≡ S.input.states) (s : List ℕ) (inner ins outs : ℕ)
    (value : (i : ℕ) → i < S.input.states → start_of z s inner ins outs i ≡ entry (controller_start S i))
    (E : List ℕ) (some : S.input.states ≤ length E) (starts : (i : ℕ) → i < S.input.states → get_or E i 0 ≡ entry (controller_start S i)) where
  begun : (k : ℕ) {l m : List ℕ} → Each (λ i. true) (Start z s inner ins outs) k l m → k ≤ S.input.states → length E ≤ length l → Begun E k l m
  begun k (none {l = l}) b long = record { grows = grows_none E l; right = λ i c. absurd (omega arith) }
  begun (suc k) (hit {m = m} {r = r} e t f) b long =
      let before = begun k e (omega arith) long in
      let is = value k b ∙ sym (starts k b) in
      let in_table : k < length E = omega arith in
      let in_room : k < length m = omega (arith, before.grows.long) in
      let step = grows_set E m k (start_of z s inner ins outs k) in_table in_room is in
      rw f.written
      (record {
        grows = grows_more E before.grows step;
        right = λ i c. elim (below_suc i k c) [
          | inl q ↦ rw q (right_set E m k (start_of z s inner ins outs k) in_room is)
          | inr q ↦ step.kept i (omega arith) (before.right i q)
        ];
      })
  begun (suc k) (miss e t) b long = clash refl t

  module _ {l m : List ℕ} (e : Starts z s inner ins outs z.inputs l m) (long : length E ≤ length l) where
    pub starts_grow : Grows E l m
    starts_grow = (begun z.inputs e.each (omega (arith, n)) long).grows

    pub starts_right : (i : ℕ) → i < S.input.states → Right E m i
    starts_right i b = (begun z.inputs e.each (omega (arith, n)) long).right i (rw n b)
