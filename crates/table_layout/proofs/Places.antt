-- Laws of rows in a buffer.
--
--   place_in, rows_room, fits_same              : a row's place is one of the list, and the list fits the buffer
--   filled_none, filled_join, filled_part       : nothing written; one writing after another; fewer rows
--   own_small, row_small, write_fits            : what a write asks
--   write_done                                  : what it gives
--   column_fits, column_done                    : the same of one column
use Prim.Native.Nat.{ℕ, ◌+◌, ◌*◌, ◌≤◌, ◌<◌}
use native.Mathlib.Nat.{mul_comm, add-mul, mul-le-mul}
use mathlib.Core.Path.{◌≡◌, sym, ◌∙◌, ap}
use mathlib.Core.Bool.{true}
use mathlib.Core.List.{List}
use mathlib.Core.Logic.{◌⊎◌, inl, inr}
use native.Mathlib.Omega.{arith}
use lib.ListN.{length, get_or}
use Rattle.bits.specs.Member.{has}
use Rattle.sets.specs.Words.{capacity}
use Rattle.arena.specs.Table.{Answer}
use Rattle.theory.specs.Entries.{entry}
use Rattle.theory.proofs.Entries.{place_below}
use Rattle.table_counters.specs.Counters.{most_counters}
use Rattle.table_filling.specs.Grows.{Right}
use Rattle.table_filling.proofs.Grows.{grows_none, grows_more}
use Rattle.table_columns.specs.Column.{ColumnRoom as ColumnFits, Agrees, Columned, Column, BlockFits, BlockAgrees, Blocked, Block}
use Rattle.table_layout.specs.declared.Layout.{Layout}
use Rattle.table_layout.specs.Rows.{place, LayoutFits, Rows, Filled, Entries, Wrote, WroteColumn}

-- a row's place
module _ (z : Layout) (a h b : ℕ) (la : a < z.states) (lh : h < z.counters) (lb : b < z.width) where
  place_front : place z a h b < z.base + z.states * z.counters * z.width
  unfolding place
  place_front = omega (arith, place_below z.states z.counters z.width a h b la lh lb)

  place_in : (f : ℕ → ℕ → ℕ → Answer) (E : List ℕ) → Rows z f E → place z a h b < length E
  place_in f E R = rw R.long place_front

rows_room : (z : Layout) (f : ℕ → ℕ → ℕ → Answer) (E : List ℕ) (n : ℕ) → Rows z f E → LayoutFits z n → length E ≤ n
rows_room z f E n R F = rw R.long F.room

-- a buffer of the same length has the rows too
pub fits_same : (z : Layout) (n m : ℕ) → m ≡ n → LayoutFits z n → LayoutFits z m
fits_same z n m e F = rw e F

-- rows written in any order
module _ (z : Layout) (f : ℕ → ℕ → ℕ → Answer) (E : List ℕ) (R : Rows z f E) where
  pub filled_none : {P : ℕ → ℕ → ℕ → Type 0} (l : List ℕ) → ((a h b : ℕ) → a < z.states → h < z.counters → b < z.width → P a h b → ⊥) → Filled z E P l l
  filled_none l n = record { grows = grows_none E l; rows = λ a h b x y u p. absurd (n a h b x y u p) }

  pub filled_join : {P Q T : ℕ → ℕ → ℕ → Type 0} {l m n : List ℕ} → Filled z E P l m → Filled z E Q m n
      → ((a h b : ℕ) → a < z.states → h < z.counters → b < z.width → T a h b → P a h b ⊎ Q a h b) → Filled z E T l n
  filled_join {P} {Q} {T} {l} {m} {n} p q t = record {
    grows = grows_more E p.grows q.grows;
    rows = λ a h b x y u r. go a h b x y u (t a h b x y u r);
  }
    where
      go : (a h b : ℕ) → a < z.states → h < z.counters → b < z.width → P a h b ⊎ Q a h b → Right E n (place z a h b)
      go a h b x y u (inl r) = q.grows.kept (place z a h b) (place_in z a h b x y u f E R) (p.rows a h b x y u r)
      go a h b x y u (inr r) = q.rows a h b x y u r

  pub filled_part : {P T : ℕ → ℕ → ℕ → Type 0} {l m : List ℕ} → Filled z E P l m
      → ((a h b : ℕ) → a < z.states → h < z.counters → b < z.width → T a h b → P a h b) → Filled z E T l m
  filled_part p t = record { grows = p.grows; rows = λ a h b x y u r. p.rows a h b x y u (t a h b x y u r) }

-- a block of the rows of one own state
place_base : (z : Layout) (a h b : ℕ) → z.base + a * z.counters * z.width + b + z.width * h ≡ place z a h b
unfolding place
place_base z a h b = omega (arith, add-mul (a * z.counters) h z.width, mul_comm h z.width)

module _ (z : Layout) (n a : ℕ) (F : LayoutFits z n) (la : a < z.states) where
  pub own_small : a * z.counters ≤ capacity * most_counters
  own_small = mul-le-mul {n₂ = capacity} {m₂ = most_counters} (omega (arith, F.states)) F.counters

  pub row_small : a * z.counters * z.width ≤ capacity * most_counters * capacity
  row_small = mul-le-mul own_small F.width

  at_below : (h b : ℕ) → h < z.counters → b < z.width → z.base + a * z.counters * z.width + b + z.width * h < n
  at_below h b lh lb = rw (place_base z a h b) (omega (arith, F.room, place_front z a h b la lh lb))

  -- all columns of the first counter
  first_row_lem : z.base + a * z.counters * z.width + z.width ≤ n
  first_row_lem =
      let e = add-mul (a * z.counters) 1 z.width in
      let s : a * z.counters + 1 ≤ z.states * z.counters = rows in
      let t : (a * z.counters + 1) * z.width ≤ z.states * z.counters * z.width =
      mul-le-mul {n₂ = z.states * z.counters} {m₂ = z.width} s (omega arith) in
      omega (arith, F.room)
    where
      rows : a * z.counters + 1 ≤ z.states * z.counters
      rows =
          let e = add-mul a 1 z.counters in
          let s : (a + 1) * z.counters ≤ z.states * z.counters = mul-le-mul {n₂ = z.states} {m₂ = z.counters} (omega arith) (omega arith) in
          omega (arith, F.some)

  module _ (over which first more : ℕ) (W : Entries z which first more) where
    pub write_fits : BlockFits n (z.base + a * z.counters * z.width) z.width over which first more
    write_fits = record {
      narrow = F.width;
      inside = first_row_lem;
      columns = λ b lb i. record { below = λ h e. at_below h b (W.counters h e) lb; small = W.small };
    }

    pub write_done : {l m : List ℕ} → length l ≡ n → Block l m (z.base + a * z.counters * z.width) z.width over which first more
        → Wrote z a over which first more l m
    write_done {l} {m} long B = record { long = B.long; fills = λ f E R g. go f E R (B.fills E (agrees f E R g) (omega (arith, rows_room z f E n R F))) }
      where
        agrees : (f : ℕ → ℕ → ℕ → Answer) (E : List ℕ) → Rows z f E
            → ((h b : ℕ) → has which h ≡ true → b < z.width → has over b ≡ true → first + more * h ≡ entry (f a h b))
            → BlockAgrees E (z.base + a * z.counters * z.width) z.width over which first more
        agrees f E R g = record {
          columns = λ b lb i. record {
            below = λ h e. rw (place_base z a h b) (place_in z a h b la (W.counters h e) lb f E R);
            entry = λ h e. g h b e lb i ∙ sym (R.row a h b la (W.counters h e) lb) ∙ ap (λ (k : ℕ). get_or E k 0) (sym (place_base z a h b));
          };
        }

        go : (f : ℕ → ℕ → ℕ → Answer) (E : List ℕ) → Rows z f E → Blocked E l m (z.base + a * z.counters * z.width) z.width over which z.width
            → Filled z E (λ k h b. (k ≡ a) × (has which h ≡ true) × (has over b ≡ true)) l m
        go f E R D = record { grows = D.grows; rows = λ k h b x y u p. rw (p.0, ← place_base z a h b) (D.right b h u p.2 p.1) }

  -- one column
  module _ (b which first more : ℕ) (lb : b < z.width) (W : Entries z which first more) where
    pub column_fits : ColumnFits n (z.base + a * z.counters * z.width + b) z.width which first more
    column_fits = record { below = λ h e. at_below h b (W.counters h e) lb; small = W.small }

    pub column_done : {l m : List ℕ} → length l ≡ n → Column l m (z.base + a * z.counters * z.width + b) z.width which first more
        → WroteColumn z a b which first more l m
    column_done {l} {m} long C = record { long = C.long; fills = λ f E R g. go f E R (C.fills E (agrees f E R g) (omega (arith, rows_room z f E n R F))) }
      where
        agrees : (f : ℕ → ℕ → ℕ → Answer) (E : List ℕ) → Rows z f E → ((h : ℕ) → has which h ≡ true → first + more * h ≡ entry (f a h b))
            → Agrees E (z.base + a * z.counters * z.width + b) z.width which first more
        agrees f E R g = record {
          below = λ h e. rw (place_base z a h b) (place_in z a h b la (W.counters h e) lb f E R);
          entry = λ h e. g h e ∙ sym (R.row a h b la (W.counters h e) lb) ∙ ap (λ (k : ℕ). get_or E k 0) (sym (place_base z a h b));
        }

        go : (f : ℕ → ℕ → ℕ → Answer) (E : List ℕ) → Rows z f E → Columned E l m (z.base + a * z.counters * z.width + b) z.width which
            → Filled z E (λ k h c. (k ≡ a) × (has which h ≡ true) × (c ≡ b)) l m
        go f E R D = record { grows = D.grows; rows = λ k h c x y u p. rw (p.0, p.2, ← place_base z a h b) (D.right h p.1) }
