-- Laws of what the loops write.
--
--   stays_state, stays_none          : the two kinds of entries for every counter
--   rows_fit_lem, row_asks               : the rows lie in the buffer; what writing one asks
--   row_of                           : what was written
--   long-..                          : lengths are kept
--   plain_led, plain_other           : the rows of one output, input by input
--   table_long                       : the table fits any buffer of the length
--   lowest_both, settled_told, start_in, start_out : the tests by cases
use Prim.Native.Nat.{ℕ, ◌+◌, ◌*◌, ◌≤◌, ◌<◌}
use native.Mathlib.Nat.{zero-mul}
use mathlib.Core.Path.{◌≡◌, refl, sym, ◌∙◌, ap}
use mathlib.Core.Bool.{true, false, not, ◌&&◌}
use mathlib.Core.List.{List}
use mathlib.Core.Logic.{◌⊎◌, inl, inr}
use native.Mathlib.Omega.{arith}
use native.Mathlib.Decide.{dec_lt}
use lib.ListN.{length, set, length-set}
use borrow.Author.Tests.{lt-ltb, le-ltb, ltb-true}
use Rattle.finite.specs.Bounded.{least}
use Rattle.finite.proofs.Truth.{decide, and_intro, and_false_left, and_false_right}
use Rattle.finite.proofs.Bounded.{least_same, count_le}
use Rattle.bits.specs.Member.{has, pack, both}
use Rattle.bits.proofs.Membership.{has_pack_below}
use Rattle.sets.specs.Words.{capacity}
use Rattle.arena.specs.Table.{gives}
use Rattle.theory.specs.Entries.{stride, none_entry, entry}
use Rattle.scratch.specs.Stored.{row_at, out_reach_at, won_at}
use Rattle.table_counters.specs.Counters.{most_counters}
use Rattle.table_entries.proofs.Packed.{none_entry_lem, entry_small, entry_steps}
use Rattle.table_layout.specs.declared.Layout.{Layout}
use Rattle.table_layout.specs.Rows.{LayoutFits, Entries, WroteColumn}
use Rattle.controller_rows.specs.declared.Size.{Size}
use Rattle.controller_rows.specs.Writes.{
  first,
  more,
  Stays,
  leading,
  column_of,
  layout_of,
  Table,
  Row,
  settles_at,
  PlainRow,
  Plain,
  Plains,
  start_of,
  Start,
  Starts,
}
use Rattle.controller_rows.proofs.Each.{each_hit, each_miss, each_none, each_long}

-- ---- entries for every counter

pub stays_state : (p f : ℕ) → p < capacity → f ≡ entry (gives 0 p) → Stays p f stride
unfolding first more
stays_state p f h e = record { first = e ∙ rw (lt-ltb p capacity h, first) refl; more = rw (lt-ltb p capacity h, more) refl }

pub stays_none : (p : ℕ) → capacity ≤ p → Stays p none_entry 0
unfolding first more
stays_none p h = record { first = none_entry_lem ∙ rw (le-ltb p capacity h, first) refl; more = rw (le-ltb p capacity h, more) refl }

stays_small : (p f m h : ℕ) → Stays p f m → h < most_counters → f + m * h < 65536
stays_small p f m h e b = go (dec_lt p capacity)
  where
    go : Dec (p < capacity) → f + m * h < 65536
    go (yes l) =
        let v = stays_state p (entry (gives 0 p)) l refl in
        let x : f ≡ entry (gives 0 p) = e.first ∙ sym v.first in
        let y : m ≡ stride = e.more ∙ sym v.more in
        rw (x, y) (omega (arith, entry_steps h p, entry_small h p l b))
    go (no l) =
        let v = stays_none p (omega arith) in
        let x : f ≡ none_entry = e.first ∙ sym v.first in
        let y : m ≡ 0 = e.more ∙ sym v.more in
        rw (x, y, zero-mul h) (omega arith)

-- ---- places

module _ (z : Size) (long : ℕ) (t : Table z long) where
  counter_below : (h : ℕ) → has z.all.0 h ≡ true → h < z.counters
  counter_below h e = ltb-true h z.counters (sym (t.all h) ∙ e)

  pub width_few : z.width ≤ capacity
  width_few = omega (arith, t.inputs, t.columns, count_le z.inputs (leading z))

  pub rows_fit_lem : {y : Layout} → y ≡ layout_of z → LayoutFits y long
  unfolding layout_of
  rows_fit_lem e = rw e
      (record {
        front = t.front;
        states = t.outputs;
        some = t.some;
        counters = t.counters;
        width = width_few;
        room = t.room;
      })

  pub row_asks : {y : Layout} {o b p f m : ℕ} → y ≡ layout_of z → o < z.outputs → b < z.width → Stays p f m
      → LayoutFits y long × (o < y.states) × (b < y.width) × Entries y z.all.0 f m
  unfolding layout_of
  row_asks {o = o} {b = b} {p = p} {f = f} {m = m} e u v s = rw e (
    rows_fit_lem refl,
    u,
    v,
    record {
      counters = counter_below;
      small = λ h i. stays_small p f m h s (omega (arith, counter_below h i, t.counters));
    },
  )

pub table_long : {z : Size} {a b : ℕ} → Table z a → b ≡ a → Table z b
table_long t e = record {
  inputs = t.inputs;
  outputs = t.outputs;
  some = t.some;
  counters = t.counters;
  all = t.all;
  starts = t.starts;
  front = t.front;
  columns = t.columns;
  room = omega (arith, t.room);
}

-- ---- what was written

module _ (z : Size) (o : ℕ) where
  pub row_of : (b p : ℕ) {y : Layout} {f m : ℕ} {l r : List ℕ} → y ≡ layout_of z → Stays p f m → WroteColumn y o b z.all.0 f m l r → Row z o b p l r
  row_of b p e s c = record { column = rw (← e, ← s.first, ← s.more) c }

module _ {z : Size} {o : ℕ} {l m : List ℕ} where
  pub row_at_lem : {b p p' : ℕ} → p ≡ p' → Row z o b p l m → Row z o b p' l m
  row_at_lem e r = rw (← e) r

pub start_of_lem : {z : Size} {s : List ℕ} {c ins outs i v : ℕ} {l : List ℕ} → v ≡ start_of z s c ins outs i → Start z s c ins outs i l (set l i v)
start_of_lem {i = i} {l = l} e = record { written = ap (set l i) e }

pub starts_at : {z : Size} {s : List ℕ} {c ins ins' outs outs' k : ℕ} {l m : List ℕ} → ins ≡ ins' → outs ≡ outs'
    → Starts z s c ins outs k l m → Starts z s c ins' outs' k l m
starts_at d e r = rw (← d, ← e) r

-- ---- lengths

module _ {z : Size} {s : List ℕ} {c o moves j b : ℕ} {l m : List ℕ} (P : PlainRow z s c o moves j b l m) where
  -- the turn of a leader, and that of another input
  pub plain_led : {k : List ℕ} → Plain z s c o moves j k l → leading z j ≡ true → column_of z j ≡ b → Plain z s c o moves (j + 1) k m
  plain_led L t e =
      elim (decide (settles_at c j (row_at s z.inputs j) (out_reach_at s z.inputs o))) [
        | inl h ↦ record { each = each_miss L.each (and_false_right (leading z j) (ap not h)) (P.kept h) }
        | inr h ↦ record { each = each_hit L.each (and_intro t (ap not h)) refl (rw e (P.written h)) }
      ]

module _ {z : Size} {s : List ℕ} {c o moves j : ℕ} {k l : List ℕ} where
  pub plain_other : Plain z s c o moves j k l → leading z j ≡ false → Plain z s c o moves (j + 1) k l
  plain_other L t =
      record { each = each_miss L.each (and_false_left (not (settles_at c j (row_at s z.inputs j) (out_reach_at s z.inputs o))) t) refl }

-- where each leader has a home in reach there is no such row
pub plain_none : {z : Size} {s : List ℕ} {c o moves : ℕ} (l : List ℕ) (k : ℕ)
    → ((j : ℕ) → j < k → leading z j ≡ true → settles_at c j (row_at s z.inputs j) (out_reach_at s z.inputs o) ≡ true) → Plain z s c o moves k l l
plain_none {z} {s} {c} {o} l k f = record { each = each_none l k (λ j b. go j b (decide (leading z j))) }
  where
    go : (j : ℕ) → j < k → (leading z j ≡ true) ⊎ (leading z j ≡ false)
        → (leading z j && not (settles_at c j (row_at s z.inputs j) (out_reach_at s z.inputs o))) ≡ false
    go j b (inl h) = and_false_right (leading z j) (ap not (f j b h))
    go j b (inr h) = and_false_left (not (settles_at c j (row_at s z.inputs j) (out_reach_at s z.inputs o))) h

module _ {z : Size} {l m : List ℕ} where
  pub long_plain : {s : List ℕ} {c o moves k : ℕ} → Plain z s c o moves k l m → length m ≡ length l
  long_plain e = each_long (λ j a b r. r.column.long) e.each

  pub long_starts : {s : List ℕ} {c ins outs k : ℕ} → Starts z s c ins outs k l m → length m ≡ length l
  long_starts e = each_long (λ i a b r. ap length r.written ∙ length-set a i _) e.each

module _ {z : Size} {l m : List ℕ} where
  pub long_plains : {s : List ℕ} {c : ℕ} {rows : List ℕ} {k : ℕ} → Plains z s c rows k l m → length m ≡ length l
  long_plains e = each_long (λ o a b r. long_plain r) e.each

-- ---- tests

-- the lowest state of two sets
pub lowest_both : (x y r : ℕ) {p : ℕ} → ((s : ℕ) → has r s ≡ (has x s && has y s)) → p ≡ least capacity (has r) → p ≡ least capacity (both x y)
unfolding both
lowest_both x y r h e = e ∙ least_same capacity (has r) (both x y) (λ s b. h s)

-- a set of inputs with a home in reach tells of each of them whether it has one
pub settled_told : (z : Size) (s : List ℕ) (c o x : ℕ) {r : ℕ} → r ≡ out_reach_at s z.inputs o
    → x ≡ pack z.inputs (λ j. settles_at c j (row_at s z.inputs j) r) → (j : ℕ) → j < z.inputs
    → has x j ≡ settles_at c j (row_at s z.inputs j) (out_reach_at s z.inputs o)
settled_told z s c o x {r} e h j l =
    ap (λ (k : ℕ). has k j) h
    ∙ has_pack_below z.inputs (λ k. settles_at c k (row_at s z.inputs k) r) j l
    ∙ ap (λ (k : ℕ). settles_at c j (row_at s z.inputs j) k) e

module _ (z : Size) (s : List ℕ) (c ins outs i : ℕ) where
  pub start_in : {p x f m : ℕ} → has ins i ≡ true → x ≡ pack z.outputs (won_at s z.inputs c i) → p ≡ least capacity (both outs x) → Stays p f m
      → f ≡ start_of z s c ins outs i
  unfolding start_of
  start_in {p} {x} h a b e =
      rw (h, start_of) (e.first ∙ ap (λ (k : ℕ). first k) (b ∙ ap (λ (y : ℕ). least capacity (both outs y)) a))

  pub start_out : has ins i ≡ false → none_entry ≡ start_of z s c ins outs i
  unfolding start_of
  start_out h = none_entry_lem ∙ rw (h, start_of) refl
