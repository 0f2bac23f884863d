-- Laws of the smallest inputs, and of the test by them.
--
--   named_none, named_leader, named_other, named_end    : the turns of the loop that names them, and its end
--   row_is                                              : row numbers, told by output and counter
--   same_next, same_stop, same_end                      : the parts, one after the other
use Prim.Native.Nat.{ℕ, ◌+◌, ◌*◌, ◌-◌, ◌/◌, ◌%◌, ◌≤◌, ◌<◌}
use native.Mathlib.Nat.{add_assoc, div-add-mod'}
use mathlib.Core.Path.{◌≡◌, sym, ◌∙◌, ap, ap₂, subst}
use mathlib.Core.Bool.{true, false}
use mathlib.Core.List.{List}
use mathlib.Core.Logic.{◌⊎◌, inl, inr}
use native.Mathlib.Omega.{arith}
use native.Mathlib.Decide.{ℕ_discrete, dec_lt}
use lib.ListN.{length, get_or}
use lib.Arith.{digits_div, digits_mod, digits_lt}
use borrow.Author.Tests.{eqb-true, eqb-false}
use Rattle.finite.proofs.Truth.{decide, clash}
use Rattle.finite.proofs.Bounded.{all_elim, all_false}
use Rattle.bits.specs.Member.{has, pack}
use Rattle.bits.proofs.Membership.{has_pack_below}
use Rattle.graphs.specs.Component.{joined, number}
use Rattle.graphs.proofs.Component.{joined_sym, number_same, number_joined, number_below}
use Rattle.arena.specs.Arena.{Separated}
use Rattle.theory.specs.Entries.{none_entry, controller_counters}
use Rattle.compact.specs.Rank.{leads, rank_of, leader_of}
use Rattle.compact.specs.Compact.{full_length, full_row}
use Rattle.compact.specs.Moving.{rows_fit}
use Rattle.compact.proofs.Rank.{rank_first, leads_number, number_leads}
use Rattle.compact.proofs.Tests.{row_first, rows_fit_first}
use Rattle.finite.proofs.Lists.{any_default}
use Rattle.compact_rows.proofs.Copying.{row_last, row_below, last_below}
use Rattle.compact_checks.specs.Parts.{part_size, entry_fits, row_agrees, row_at, part_fits, Marked}
use Rattle.compact_checks.specs.Firsts.{Named, AsFirst}

module _ (S : Separated) where
  abbrev I : ℕ
  I = S.input.states

  module _ (part n : ℕ) (in_graph : part + n ≤ I) where
    pub named_none : (F : List ℕ) → length F ≡ part_size → Named S part n 0 F
    named_none F e = record { long = e; name = λ k b h. absurd (omega arith) }

    module _ (j : ℕ) {F : List ℕ} (D : Named S part n j F) where
      pub named_other : leads S j ≡ false → Named S part n (j + 1) F
      named_other h = record { long = D.long; name = λ k b l. D.name k b (below k b l (ℕ_discrete (number S.input (part + k)) j)) }
        where
          below : (k : ℕ) → k < n → number S.input (part + k) < j + 1 → Dec (number S.input (part + k) ≡ j) → number S.input (part + k) < j
          below k b l (yes q) = clash (ap (leads S) (sym q) ∙ leads_number S (part + k) (omega arith)) h
          below k b l (no q) = omega arith

      pub named_leader : {c : ℕ} {F' : List ℕ} → j < I → leads S j ≡ true → c ≡ pack I (joined S.input j) → Marked part n c j F F'
          → Named S part n (j + 1) F'
      named_leader {c} {F'} lj h e M = record { long = M.long ∙ D.long; name = λ k b l. named k b l (decide (has c (part + k))) }
        where
          member : (k : ℕ) → k < n → has c (part + k) ≡ joined S.input j (part + k)
          member k b = ap (λ (x : ℕ). has x (part + k)) e ∙ has_pack_below I (joined S.input j) (part + k) (omega arith)

          -- where j is the smallest of its component, j itself
          first : (k : ℕ) → k < n → number S.input (part + k) ≡ j → has c (part + k) ≡ true
          first k b q =
              member k b ∙ joined_sym S.input (part + k) j
              (subst (λ (x : ℕ). joined S.input (part + k) x ≡ true) q (number_joined S.input (part + k) (omega arith)))

          named : (k : ℕ) → k < n → number S.input (part + k) < j + 1 → (has c (part + k) ≡ true) ⊎ (has c (part + k) ≡ false)
              → get_or F' k 0 ≡ number S.input (part + k)
          named k b l (inl t) =
              M.inside k b t ∙ sym (number_leads S j h) ∙ number_same S.input j (part + k) (sym (member k b) ∙ t)
          named k b l (inr t) =
              M.outside k b t ∙ D.name k b (below (ℕ_discrete (number S.input (part + k)) j))
            where
              below : Dec (number S.input (part + k) ≡ j) → number S.input (part + k) < j
              below (yes q) = clash (first k b q) t
              below (no q) = omega arith

    pub named_end : (j : ℕ) {F : List ℕ} → I ≤ j → Named S part n j F → (k : ℕ) → k < n → get_or F k 0 ≡ number S.input (part + k)
    named_end j b D k h = D.name k h (omega (arith, number_below S.input (part + k) (omega arith)))

-- a row number is a pair of an output and a counter

module _ (S : Separated) (T : List ℕ) where
  abbrev inputs : ℕ
  inputs = S.input.states

  abbrev counters : ℕ
  counters = controller_counters S

  abbrev rows : ℕ
  rows = S.output.states * counters

  -- the place of an entry
  abbrev place : ℕ → ℕ → ℕ
  place x j = inputs + x * inputs + j

  place_in : (x j : ℕ) → length T ≡ full_length S → x < rows → j < inputs → place x j < length T
  unfolding full_length
  place_in x j e b l = omega (arith, row_last inputs x inputs rows (length T) b (omega arith))

  pub row_is : (x j : ℕ) → length T ≡ full_length S → x < rows → j < inputs → full_row S T (x / counters) (x % counters) j ≡ get_or T (place x j) 0
  unfolding full_row
  row_is x j e b l =
      ap (λ (r : ℕ). get_or T (inputs + (r * inputs + j)) none_entry) (div-add-mod' x counters)
      ∙ ap (λ (r : ℕ). get_or T r none_entry) (sym (add_assoc inputs (x * inputs) j))
      ∙ any_default T (place x j) none_entry 0 (place_in x j e b l)

  -- the parts

  module _ (F : List ℕ) (part n : ℕ) (in_graph : part + n ≤ inputs) (named : (k : ℕ) → k < n → get_or F k 0 ≡ number S.input (part + k)) where
    entry_is : (x k : ℕ) → k < n → (get_or T (inputs + x * inputs + part + k) 0 ≡ get_or T (place x (part + k)) 0)
        × (get_or T (inputs + x * inputs + get_or F k 0) 0 ≡ get_or T (place x (number S.input (part + k))) 0)
    entry_is x k b = (
      ap (λ (r : ℕ). get_or T r 0) (add_assoc (inputs + x * inputs) part k),
      ap (λ (r : ℕ). get_or T (inputs + x * inputs + r) 0) (named k b),
    )

    entry_same : part_fits T F inputs rows part n ≡ true → (x k : ℕ) → x < rows → k < n
        → get_or T (place x (part + k)) 0 ≡ get_or T (place x (number S.input (part + k))) 0
    unfolding part_fits row_at row_agrees entry_fits
    entry_same h x k b l =
        let q = entry_is x k l in
        sym q.0
        ∙ eqb-true (get_or T (inputs + x * inputs + part + k) 0) (get_or T (inputs + x * inputs + get_or F k 0) 0)
        (all_elim n (entry_fits T F (inputs + x * inputs) part) (all_elim rows (row_at T F inputs part n) h x b) k l)
        ∙ q.1

    pub same_next : (n ≡ part_size) ⊎ (part + n ≡ inputs) → part_fits T F inputs rows part n ≡ true → AsFirst S T rows part → AsFirst S T rows (part + part_size)
    same_next e h D = record { entry = λ x j b l c. here x j b l c (dec_lt j part) }
      where
        below : (j : ℕ) → part ≤ j → j < inputs → j < part + part_size → (n ≡ part_size) ⊎ (part + n ≡ inputs) → j - part < n
        below j a l c (inl q) = omega arith
        below j a l c (inr q) = omega arith

        here : (x j : ℕ) → x < rows → j < inputs → j < part + part_size → Dec (j < part) → get_or T (place x j) 0 ≡ get_or T (place x (number S.input j)) 0
        here x j b l c (yes a) = D.entry x j b l a
        here x j b l c (no a) =
            subst (λ (i : ℕ). get_or T (place x i) 0 ≡ get_or T (place x (number S.input i)) 0) (omega arith)
            (entry_same h x (j - part) b (below j (omega arith) l c e))

    pub same_stop : length T ≡ full_length S → part_fits T F inputs rows part n ≡ false → rows_fit S T ≡ false
    unfolding part_fits row_at row_agrees entry_fits
    same_stop e h = go (decide (rows_fit S T))
      where
        go : (rows_fit S T ≡ true) ⊎ (rows_fit S T ≡ false) → rows_fit S T ≡ false
        go (inr q) = q
        go (inl q) =
            let w = all_false rows (row_at T F inputs part n) h in
            let v = all_false n (entry_fits T F (inputs + w.0 * inputs) part) w.2 in
            let x = w.0 in
            let j = part + v.0 in
            let s = number S.input j in
            let lj : j < inputs = omega (arith, v.1) in
            let z = entry_is x v.0 v.1 in
            absurd
            (eqb-false (get_or T (inputs + x * inputs + part + v.0) 0) (get_or T (inputs + x * inputs + get_or F v.0 0) 0) v.2
            (z.0
            ∙ sym (row_is x j e w.1 lj)
            ∙ sym (row_first S T q (x / counters) (x % counters) j (row_below S.output.states counters x w.1)
            (last_below S.output.states counters x w.1) lj)
            ∙ ap (full_row S T (x / counters) (x % counters)) (rank_first S j lj)
            ∙ row_is x s e w.1 (number_below S.input j lj)
            ∙ sym z.1))

  pub same_end : (part : ℕ) → length T ≡ full_length S → inputs ≤ part → AsFirst S T rows part → rows_fit S T ≡ true
  same_end part e b D = rows_fit_first S T row
    where
      here : (o g j : ℕ) → o < S.output.states → g < counters → j < inputs → full_row S T o g j ≡ get_or T (place (o * counters + g) j) 0
      here o g j lo lg lj =
          ap₂ (λ (a b : ℕ). full_row S T a b j) (sym (digits_div o lg)) (sym (digits_mod o lg))
          ∙ row_is (o * counters + g) j e (digits_lt lo lg) lj

      row : (o g j : ℕ) → o < S.output.states → g < counters → j < inputs → full_row S T o g (leader_of S (rank_of S j)) ≡ full_row S T o g j
      row o g j lo lg lj =
          ap (full_row S T o g) (rank_first S j lj)
          ∙ here o g (number S.input j) lo lg (number_below S.input j lj)
          ∙ sym (D.entry (o * counters + g) j (digits_lt lo lg) lj (omega arith))
          ∙ sym (here o g j lo lg lj)
