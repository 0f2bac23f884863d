-- The rows of a table: one law for each return, and the bounds that keep a row's place within a word.
use Prim.Native.Nat.{ℕ, ◌+◌, ◌*◌, ◌≤◌, ◌<◌}
use native.Mathlib.Nat.{mul-le-mul}
use mathlib.Core.Path.{◌≡◌, refl, sym, ◌∙◌}
use mathlib.Core.Bool.{true, false, ◌&&◌}
use mathlib.Core.List.{List}
use native.Mathlib.Omega.{arith}
use lib.Dec.{ltb, leb}
use lib.ListN.{get_or}
use borrow.Author.Tests.{ltb-true, leb-true, lt-ltb, le-ltb, le-leb, lt-leb}
use Rattle.finite.proofs.Truth.{and_left, and_right}
use Rattle.finite.proofs.Loops.{and_stop, and_next}
use Rattle.sets.specs.Words.{capacity}
use Rattle.theory.specs.Entries.{none_entry}
use Rattle.view.specs.Rows.{in_range, row_entry}

module _ (I M o g j : ℕ) where
  pub many_inputs : capacity < I → false ≡ in_range I M o g j
  unfolding in_range
  many_inputs a = and_stop (leb M 32 && (ltb o capacity && (ltb g M && ltb j I))) (lt-leb I capacity a)

  pub many_counters : I ≤ capacity → 32 < M → false ≡ in_range I M o g j
  unfolding in_range
  many_counters a b = and_next (le-leb I capacity a) (and_stop (ltb o capacity && (ltb g M && ltb j I)) (lt-leb M 32 b))

  pub output_past : I ≤ capacity → M ≤ 32 → capacity ≤ o → false ≡ in_range I M o g j
  unfolding in_range
  output_past a b c = and_next (le-leb I capacity a) (and_next (le-leb M 32 b) (and_stop (ltb g M && ltb j I) (le-ltb o capacity c)))

  pub counter_past : I ≤ capacity → M ≤ 32 → o < capacity → M ≤ g → false ≡ in_range I M o g j
  unfolding in_range
  counter_past a b c d = and_next (le-leb I capacity a) (and_next (le-leb M 32 b) (and_next (lt-ltb o capacity c) (and_stop (ltb j I) (le-ltb g M d))))

  pub input_last : I ≤ capacity → M ≤ 32 → o < capacity → g < M → ltb j I ≡ in_range I M o g j
  unfolding in_range
  input_last a b c d = and_next (le-leb I capacity a) (and_next (le-leb M 32 b) (and_next (lt-ltb o capacity c) (and_next (lt-ltb g M d) refl)))

  pub in_range_lem : I ≤ capacity → M ≤ 32 → o < capacity → g < M → j < I → in_range I M o g j ≡ true
  in_range_lem a b c d e = sym (input_last a b c d) ∙ lt-ltb j I e

  -- what a row's place is made of
  pub record Bounds : Type 0 where
    pub inputs : I ≤ capacity
    pub counters : M ≤ 32
    pub output : o < capacity
    pub counter : g < M
    pub input : j < I
    pub block : o * M ≤ capacity * 32
    pub place : (o * M + g) * I ≤ (capacity * 32 + 32) * capacity

  pub range_bounds : in_range I M o g j ≡ true → Bounds
  unfolding in_range
  range_bounds h =
      let a = leb-true I capacity (and_left (leb I capacity) (leb M 32 && (ltb o capacity && (ltb g M && ltb j I))) h) in
      let p = and_right (leb I capacity) (leb M 32 && (ltb o capacity && (ltb g M && ltb j I))) h in
      let b = leb-true M 32 (and_left (leb M 32) (ltb o capacity && (ltb g M && ltb j I)) p) in
      let q = and_right (leb M 32) (ltb o capacity && (ltb g M && ltb j I)) p in
      let c = ltb-true o capacity (and_left (ltb o capacity) (ltb g M && ltb j I) q) in
      let r = and_right (ltb o capacity) (ltb g M && ltb j I) q in
      let d = ltb-true g M (and_left (ltb g M) (ltb j I) r) in
      let u : o ≤ capacity = omega arith in
      let f : o * M ≤ capacity * 32 = mul-le-mul u b in
      let v : o * M + g ≤ capacity * 32 + 32 = omega arith in
      record {
        inputs = a;
        counters = b;
        output = c;
        counter = d;
        input = ltb-true j I (and_right (ltb g M) (ltb j I) r);
        block = omega arith;
        place = let k : (o * M + g) * I ≤ (capacity * 32 + 32) * capacity = mul-le-mul v a in omega arith;
      }

  pub row_none : (l : List ℕ) → in_range I M o g j ≡ false → none_entry ≡ row_entry l I M o g j
  unfolding row_entry
  row_none l h = rw (h, row_entry)

  pub row_read : (l : List ℕ) (e : ℕ) → in_range I M o g j ≡ true → e ≡ get_or l (I + ((o * M + g) * I + j)) none_entry → e ≡ row_entry l I M o g j
  unfolding row_entry
  row_read l e h q = rw (h, row_entry) q
