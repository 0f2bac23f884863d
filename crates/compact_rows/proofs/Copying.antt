-- Laws of copying: for each function, nothing written yet, one more, all of it.
use Prim.Native.Nat.{ℕ, ◌+◌, ◌*◌, ◌-◌, ◌/◌, ◌%◌, ◌≤◌, ◌<◌}
use native.Mathlib.Nat.{add-mul, one-mul, mul-le-mul_right, mod-lt, div-lt_iff_lt-mul, div-add-mod'}
use mathlib.Core.Path.{◌≡◌, refl, sym, ◌∙◌, ap, subst}
use mathlib.Core.List.{List, ◌++◌}
use mathlib.Core.Logic.{◌≢◌}
use native.Mathlib.Omega.{arith}
use native.Mathlib.Decide.{dec_lt, ℕ_discrete}
use lib.ListN.{length, get_or, drop, set, length-set}
use lib.Seq.{get_or-set_same, get_or-set_other}
use Rattle.finite.proofs.Lists.{drop_same}
use Rattle.finite.proofs.Rounds.{factor}
use Rattle.table_filling.specs.Grows.{Right, Grows}
use Rattle.table_filling.proofs.Grows.{grows_none, grows_more, grows_set, right_set, grows_done}
use Rattle.compact_rows.specs.Copying.{PutAt, Started, GatherFits, Gathered, FullFits, FullAgrees, GatheredRows, FullFilled}
use Rattle.compact_rows.specs.Copying.{RepresentFits, Represented, PickFits, Picked, PickRowsFits, PickedRows, CompactFits, CompactAgrees, CompactFilled}

module _ (E : List ℕ) (place : ℕ → ℕ) where
  puts_none : (l : List ℕ) → PutAt E l l place 0
  puts_none l = record { grows = grows_none E l; below = λ j b. absurd (omega arith); right = λ j b. absurd (omega arith) }

  puts_next : {l m : List ℕ} (j k v : ℕ) → place j ≡ k → k < length E → k < length m → v ≡ get_or E k 0 → PutAt E l m place j
      → PutAt E l (set m k v) place (j + 1)
  puts_next {l} {m} j k v p a b e P = record {
    grows = grows_more E P.grows one;
    below = λ i c. below i c (ℕ_discrete i j);
    right = λ i c. right i c (ℕ_discrete i j);
  }
    where
      one : Grows E m (set m k v)
      one = grows_set E m k v a b e

      below : (i : ℕ) → i < j + 1 → Dec (i ≡ j) → place i < length E
      below i c (yes q) = subst (λ (x : ℕ). x < length E) (sym (ap place q ∙ p)) a
      below i c (no q) = P.below i (omega arith)

      right : (i : ℕ) → i < j + 1 → Dec (i ≡ j) → Right E (set m k v) (place i)
      right i c (yes q) = subst (Right E (set m k v)) (sym (ap place q ∙ p)) (right_set E m k v b e)
      right i c (no q) = one.kept (place i) (P.below i (omega arith)) (P.right i (omega arith))

-- ---- the starts

module _ (T : List ℕ) (I : ℕ) where
  pub started_none : (l : List ℕ) → Started T I 0 l l
  started_none l = record { long = refl; behind = λ k b. refl; fills = λ E b f. puts_none E (λ i. i) l }

  pub started_next : (i : ℕ) {l m : List ℕ} {v : ℕ} → i < I → i < length m → v ≡ get_or T i 0 → Started T I i l m → Started T I (i + 1) l (set m i v)
  started_next i {l} {m} {v} b c e D = record {
    long = length-set m i v ∙ D.long;
    behind = λ k h. get_or-set_other m i k v 0 (other k h) ∙ D.behind k h;
    fills = λ E s f. puts_next E (λ x. x) i i v refl (omega arith) c (e ∙ f i b) (D.fills E s f);
  }
    where
      other : (k : ℕ) → I ≤ k → k ≢ i
      other k h q = omega arith

  pub started_end : (i : ℕ) {l m : List ℕ} → i ≤ I → I ≤ i → Started T I i l m → Started T I I l m
  started_end i {l} {m} a b D = subst (λ (k : ℕ). Started T I k l m) (omega arith) D

-- ---- a row number of the full layout

module _ (T : List ℕ) (I from at : ℕ) where
  pub gathered_none : (l : List ℕ) → Gathered T I from at 0 l l
  gathered_none l = record { long = refl; fills = λ E b f. puts_none E (λ j. at + j) l }

  pub gathered_next : (j : ℕ) {l m : List ℕ} {c v : ℕ} → j < I → at + j < length m → c ≡ get_or T (I + j) 0 → v ≡ get_or T (from + c) 0
      → Gathered T I from at j l m → Gathered T I from at (j + 1) l (set m (at + j) v)
  gathered_next j {l} {m} {c} {v} b d q e D = record {
    long = length-set m (at + j) v ∙ D.long;
    fills = λ E s f.
        puts_next E (λ x. at + x) j (at + j) v refl (omega arith) d (e ∙ ap (λ (x : ℕ). get_or T (from + x) 0) q ∙ f j b) (D.fills E s f);
  }

  pub gathered_end : (j : ℕ) {l m : List ℕ} → j ≤ I → I ≤ j → Gathered T I from at j l m → Gathered T I from at I l m
  gathered_end j {l} {m} a b D = subst (λ (k : ℕ). Gathered T I from at k l m) (omega arith) D

-- ---- an input for each rank

module _ (I C at : ℕ) where
  pub represented_none : (l : List ℕ) → Represented I C at 0 l l
  represented_none l = record { long = refl; outside = λ k h. refl; below = λ j b. absurd (omega arith); alike = λ j b. absurd (omega arith) }

  module _ (j : ℕ) {l m : List ℕ} (F : RepresentFits I C l at) (b : j < I) (D : Represented I C at j l m) where
    -- a rank's place lies past the ranks, so that they stay
    ranks_stay : (i : ℕ) → i < I → get_or m (I + i) 0 ≡ get_or l (I + i) 0
    ranks_stay i h = D.outside (I + i) (λ c d e. omega (arith, F.before))

    module _ {c : ℕ} (q : c ≡ get_or m (I + j) 0) where
      rank : c ≡ get_or l (I + j) 0
      rank = q ∙ ranks_stay j b

      pub rank_in : at + c < length m
      rank_in = omega (arith, rank, F.ranks j b, F.room, D.long)

      pub represented_next : {v : ℕ} → v ≡ j → Represented I C at (j + 1) l (set m (at + c) v)
      represented_next {v} e = record {
        long = length-set m (at + c) v ∙ D.long;
        outside = λ k h. get_or-set_other m (at + c) k v 0 (h c (omega (arith, rank, F.ranks j b))) ∙ D.outside k h;
        below = λ i h. below i h (ℕ_discrete (get_or l (I + i) 0) c);
        alike = λ i h. alike i h (ℕ_discrete (get_or l (I + i) 0) c);
      }
        where
          here : (i : ℕ) → get_or l (I + i) 0 ≡ c → get_or (set m (at + c) v) (at + get_or l (I + i) 0) 0 ≡ j
          here i p = ap (λ (x : ℕ). get_or (set m (at + c) v) (at + x) 0) p ∙ get_or-set_same m (at + c) v 0 rank_in ∙ e

          there : (i : ℕ) → get_or l (I + i) 0 ≢ c → get_or (set m (at + c) v) (at + get_or l (I + i) 0) 0 ≡ get_or m (at + get_or l (I + i) 0) 0
          there i p = get_or-set_other m (at + c) (at + get_or l (I + i) 0) v 0 (λ d. p (omega arith))

          earlier : (i : ℕ) → i < j + 1 → get_or l (I + i) 0 ≢ c → i < j
          earlier i h p = go (ℕ_discrete i j)
            where
              go : Dec (i ≡ j) → i < j
              go (yes d) = absurd (p (ap (λ (x : ℕ). get_or l (I + x) 0) d ∙ sym rank))
              go (no d) = omega arith

          below : (i : ℕ) → i < j + 1 → Dec (get_or l (I + i) 0 ≡ c) → get_or (set m (at + c) v) (at + get_or l (I + i) 0) 0 < I
          below i h (yes p) = omega (arith, here i p)
          below i h (no p) = omega (arith, there i p, D.below i (earlier i h p))

          alike : (i : ℕ) → i < j + 1 → Dec (get_or l (I + i) 0 ≡ c)
              → get_or l (I + get_or (set m (at + c) v) (at + get_or l (I + i) 0) 0) 0 ≡ get_or l (I + i) 0
          alike i h (yes p) = ap (λ (x : ℕ). get_or l (I + x) 0) (here i p) ∙ sym rank ∙ sym p
          alike i h (no p) = ap (λ (x : ℕ). get_or l (I + x) 0) (there i p) ∙ D.alike i (earlier i h p)

  pub represented_end : (j : ℕ) {l m : List ℕ} → j ≤ I → I ≤ j → Represented I C at j l m → Represented I C at I l m
  represented_end j {l} {m} a b D = subst (λ (k : ℕ). Represented I C at k l m) (omega arith) D

-- ---- a row number of the compact layout

module _ (T : List ℕ) (from at cells : ℕ) where
  pub picked_none : (l : List ℕ) → Picked T from at cells 0 l l
  picked_none l = record { long = refl; outside = λ k h. refl; entries = λ c b. absurd (omega arith) }

  module _ (C c : ℕ) {l m : List ℕ} (F : PickFits T from C l at cells) (b : c < C) (D : Picked T from at cells c l m) where
    pub input_stays : get_or m (at + c) 0 ≡ get_or l (at + c) 0
    input_stays = D.outside (at + c) (λ i h. F.apart c i h b)

    pub picked_next : {j v : ℕ} → j ≡ get_or m (at + c) 0 → v ≡ get_or T (from + j) 0 → Picked T from at cells (c + 1) l (set m (cells + c) v)
    picked_next {j} {v} q e = record {
      long = length-set m (cells + c) v ∙ D.long;
      outside = λ k h. get_or-set_other m (cells + c) k v 0 (h c (omega arith)) ∙ D.outside k (λ i d. h i (omega arith));
      entries = λ i h. entry i h (ℕ_discrete i c);
    }
      where
        entry : (i : ℕ) → i < c + 1 → Dec (i ≡ c) → get_or (set m (cells + c) v) (cells + i) 0 ≡ get_or T (from + get_or l (at + i) 0) 0
        entry i h (yes p) =
            rw p (get_or-set_same m (cells + c) v 0 (omega (arith, F.room, D.long)) ∙ e ∙ ap (λ (x : ℕ). get_or T (from + x) 0) (q ∙ input_stays))
        entry i h (no p) = get_or-set_other m (cells + c) (cells + i) v 0 (λ d. p (omega arith)) ∙ D.entries i (omega arith)

  pub picked_end : (C c : ℕ) {l m : List ℕ} → c ≤ C → C ≤ c → Picked T from at cells c l m → Picked T from at cells C l m
  picked_end C c {l} {m} a b D = subst (λ (k : ℕ). Picked T from at cells k l m) (omega arith) D

-- ---- places

pub next_row : (x y : ℕ) → x * y + y ≡ (x + 1) * y
next_row x y = omega (arith, add-mul x 1 y, one-mul y)

-- a row number below R ends where all do, or before
pub row_last : (a x y R n : ℕ) → x < R → a + R * y ≤ n → a + x * y + y ≤ n
row_last a x y R n b h = omega (arith, next_row x y, mul-le-mul_right {m = x + 1} {n = R} y (omega arith))

-- ---- all row numbers of the full layout

module _ (T : List ℕ) (I C R : ℕ) where
  pub gather_fits : (r n x : ℕ) → FullFits T I C R r → x < R → n ≡ r → GatherFits T I (I + I + x * C) (I + x * I) n
  gather_fits r n x F b e = record {
    ranks = omega (arith, F.table);
    cells = λ j h. omega (arith, F.ranks j h, row_last (I + I) x C R (length T) b F.table);
    room = rw e (row_last I x I R r b F.room);
  }

  pub gathered_rows_none : (l : List ℕ) → GatheredRows T I C R 0 l l
  gathered_rows_none l = record { long = refl; grows = λ E A. grows_none E l; right = λ E A x j b. absurd (omega arith) }

  pub gathered_rows_next : (x : ℕ) {l m k : List ℕ} → x < R → GatheredRows T I C R x l m → Gathered T I (I + I + x * C) (I + x * I) I m k
      → GatheredRows T I C R (x + 1) l k
  gathered_rows_next x {l} {m} {k} b D S = record {
    long = S.long ∙ D.long;
    grows = λ E A. grows_more E (D.grows E A) (put E A).grows;
    right = λ E A y j c h. right E A y j c h (ℕ_discrete y x);
  }
    where
      fits : (E : List ℕ) → FullAgrees E T I C R → (y : ℕ) → y < R → I + y * I + I ≤ length E
      fits E A y h = row_last I y I R (length E) h (omega (arith, A.long))

      put : (E : List ℕ) → FullAgrees E T I C R → PutAt E m k (λ j. I + x * I + j) I
      put E A = S.fills E (fits E A x b) (λ j h. A.rows x j b h)

      right : (E : List ℕ) → FullAgrees E T I C R → (y j : ℕ) → y < x + 1 → j < I → Dec (y ≡ x) → Right E k (I + y * I + j)
      right E A y j c h (yes q) = rw q ((put E A).right j h)
      right E A y j c h (no q) =
          (put E A).grows.kept (I + y * I + j) (omega (arith, fits E A y (omega arith))) (D.right E A y j (omega arith) h)

  pub gathered_rows_end : (x : ℕ) {l m : List ℕ} → x ≤ R → R ≤ x → GatheredRows T I C R x l m → GatheredRows T I C R R l m
  gathered_rows_end x {l} {m} a b D = subst (λ (k : ℕ). GatheredRows T I C R k l m) (omega arith) D

-- a place among the row numbers, taken apart
module _ (R y r : ℕ) (h : r < R * y) where
  pub row_below : r / y < R
  row_below = (div-lt_iff_lt-mul (factor r R y h)).1 h

  pub last_below : r % y < y
  last_below = mod-lt r (factor r R y h)

-- the starts, then the rows
module _ (E T : List ℕ) (I C R : ℕ) {l m n : List ℕ} (S : Started T I I l m) where
  full_all : FullAgrees E T I C R → GatheredRows T I C R R m n → (k : ℕ) → k < length E → Right E n k
  full_all A D k h = go (dec_lt k I)
    where
      begun : PutAt E l m (λ i. i) I
      begun = S.fills E (omega (arith, A.long)) A.starts

      go : Dec (k < I) → Right E n k
      go (yes b) = (D.grows E A).kept k h (begun.right k b)
      go (no b) =
          let q : k - I < R * I = omega (arith, A.long) in
          subst (Right E n) (omega (arith, div-add-mod' (k - I) I))
          (D.right E A ((k - I) / I) ((k - I) % I) (row_below R I (k - I) q) (last_below R I (k - I) q))

  full_front : I + R * I ≤ length l → FullAgrees E T I C R → GatheredRows T I C R R m n → n ≡ E ++ drop (length E) l
  full_front b A D =
      grows_done E l n (omega (arith, A.long))
      (grows_more E (S.fills E (omega (arith, A.long)) A.starts).grows (D.grows E A)) (full_all A D)

pub full_filled : {T : List ℕ} {I C R r : ℕ} {l m n : List ℕ} → FullFits T I C R r → length l ≡ r → Started T I I l m → GatheredRows T I C R R m n
    → FullFilled T I C R l n
full_filled {T} {I} {C} {R} {r} {l} {m} {n} F z S D = record {
  long = D.long ∙ S.long;
  front = λ E A. full_front E T I C R S (omega (arith, F.room)) A D;
}

-- ---- all row numbers of the compact layout

-- a row number ends where a later one begins, or before
earlier_row : (x y C : ℕ) → x < y → x * C + C ≤ y * C
earlier_row x y C b = omega (arith, row_last 0 x C y (y * C) b (omega arith))

module _ (T : List ℕ) (I C R : ℕ) where
  pub picked_rows_none : (l : List ℕ) → PickedRows T I C R R l l
  picked_rows_none l = record { long = refl; outside = λ k h. refl; rows = λ y c a b. absurd (omega arith) }

  module _ (n : ℕ) {l m : List ℕ} (F : PickRowsFits T I C R l) (a : 0 < n) (e : n ≤ R) (D : PickedRows T I C R n l m) where
    abbrev x : ℕ
    x = n - 1

    b : x < R
    b = omega arith

    -- the inputs of the ranks lie before the row numbers that are written
    inputs_stay : (c : ℕ) → c < C → get_or m (I + I + c) 0 ≡ get_or l (I + I + c) 0
    inputs_stay c h = D.outside (I + I + c) (λ y i p q d e. omega (arith, earlier_row 0 y C (omega arith)))

    pub pick_fits : PickFits T (I + x * I) C m (I + I) (I + I + x * C)
    pick_fits = record {
      table = λ c h. omega (arith, inputs_stay c h, F.inputs c h, row_last I x I R (length T) b F.table);
      apart = λ c i p h. apart c i p h (ℕ_discrete x 0);
      inputs = omega (arith, D.long, row_last (I + I) 0 C R (length l) (omega arith) F.room);
      room = omega (arith, D.long, row_last (I + I) x C R (length l) b F.room);
    }
      where
        apart : (c i : ℕ) → i < c → c < C → Dec (x ≡ 0) → I + I + c ≢ I + I + x * C + i
        apart c i p h (yes q) e = omega (arith, ap (λ (k : ℕ). k * C) q)
        apart c i p h (no q) e = omega (arith, earlier_row 0 x C (omega arith))

    pub picked_rows_next : {k : List ℕ} → Picked T (I + x * I) (I + I) (I + I + x * C) C m k → PickedRows T I C R x l k
    picked_rows_next {k} P = record {
      long = P.long ∙ D.long;
      outside = λ i h. P.outside i (λ c d. h x c (omega arith) b d) ∙ D.outside i (λ y c p. h y c (omega arith));
      rows = λ y c p q h. row y c p q h (ℕ_discrete y x);
    }
      where
        row : (y c : ℕ) → x ≤ y → y < R → c < C → Dec (y ≡ x) → get_or k (I + I + y * C + c) 0 ≡ get_or T (I + y * I + get_or l (I + I + c) 0) 0
        row y c p q h (yes e) = rw e (P.entries c h ∙ ap (λ (i : ℕ). get_or T (I + x * I + i) 0) (inputs_stay c h))
        row y c p q h (no e) =
            P.outside (I + I + y * C + c) (λ i d z. omega (arith, earlier_row x y C (omega arith))) ∙ D.rows y c (omega arith) q h

  pub picked_rows_end : (x : ℕ) {l m : List ℕ} → x ≤ 0 → PickedRows T I C R x l m → PickedRows T I C R 0 l m
  picked_rows_end x {l} {m} a D = subst (λ (k : ℕ). PickedRows T I C R k l m) (omega arith) D

-- ---- the table in the compact layout: the starts are written from l to m, an input for each rank from m to n, the rows from n to r

module _ {T : List ℕ} {I C R : ℕ} {l m : List ℕ} (F : CompactFits T I C R l) (S : Started T I I l m) where
  -- the starts leave the ranks
  rank_stays : (j : ℕ) → get_or m (I + j) 0 ≡ get_or l (I + j) 0
  rank_stays j = S.behind (I + j) (omega arith)

  pub represent_fits : RepresentFits I C m (I + I)
  represent_fits = record {
    few = F.few;
    before = omega arith;
    ranks = λ j h. omega (arith, rank_stays j, F.ranks j h);
    room = omega (arith, S.long, row_last (I + I) 0 C R (length l) F.some F.room);
  }

  module _ {n : List ℕ} (N : Represented I C (I + I) I m n) where
    -- the input that is read for a rank has it
    standing : (c : ℕ) → c < C → (get_or n (I + I + c) 0 < I) × (get_or l (I + get_or n (I + I + c) 0) 0 ≡ c)
    standing c h =
        let w = F.reached c h in
        let p : get_or m (I + w.0) 0 ≡ c = rank_stays w.0 ∙ w.2 in (
          subst (λ (x : ℕ). get_or n (I + I + x) 0 < I) p (N.below w.0 w.1),
          sym (rank_stays (get_or n (I + I + c) 0))
              ∙ subst (λ (x : ℕ). get_or m (I + get_or n (I + I + x) 0) 0 ≡ x) p (N.alike w.0 w.1),
        )

    pub pick_rows_fits : PickRowsFits T I C R n
    pick_rows_fits = record {
      table = F.table;
      inputs = λ c h. (standing c h).0;
      room = omega (arith, F.room, S.long, N.long);
    }

    module _ {r : List ℕ} (P : PickedRows T I C R 0 n r) where
      -- before the rows, and behind them, nothing else is written
      front : (k : ℕ) → k < I + I → get_or r k 0 ≡ get_or m k 0
      front k h = P.outside k (λ y c p q d e. omega arith) ∙ N.outside k (λ c d e. omega arith)

      behind : (k : ℕ) → I + I + R * C ≤ k → get_or r k 0 ≡ get_or l k 0
      behind k h =
          P.outside k (λ y c p q d e. omega (arith, earlier_row y R C q))
          ∙ N.outside k (λ c d e. omega (arith, earlier_row 0 R C F.some))
          ∙ S.behind k (omega arith)

      module _ (E : List ℕ) (A : CompactAgrees E T I C R l) where
        begun : PutAt E l m (λ i. i) I
        begun = S.fills E (omega (arith, A.long)) A.starts

        cell : (x c : ℕ) → x < R → c < C → get_or r (I + I + x * C + c) 0 ≡ get_or E (I + I + x * C + c) 0
        cell x c b h =
            let w = standing c h in
            P.rows x c (omega arith) b h ∙ A.rows x (get_or n (I + I + c) 0) b w.0 ∙ ap (λ (z : ℕ). get_or E (I + I + x * C + z) 0) w.1

        all_right : (k : ℕ) → k < length E → Right E r k
        all_right k h = go (dec_lt k I) (dec_lt k (I + I))
          where
            go : Dec (k < I) → Dec (k < I + I) → Right E r k
            go (yes b) d = record { is = front k (omega arith) ∙ (begun.right k b).is }
            go (no b) (yes d) =
                let p : I + (k - I) ≡ k = omega arith in
                subst (Right E r) p
                (record { is = front (I + (k - I)) (omega arith) ∙ rank_stays (k - I) ∙ (A.ranks (k - I) (omega arith)).is })
            go (no b) (no d) =
                let q : k - (I + I) < R * C = omega (arith, A.long) in
                let p : I + I + (k - (I + I)) / C * C + (k - (I + I)) % C ≡ k = omega (arith, div-add-mod' (k - (I + I)) C) in
                subst (Right E r) p
                (record { is = cell ((k - (I + I)) / C) ((k - (I + I)) % C) (row_below R C (k - (I + I)) q) (last_below R C (k - (I + I)) q) })

        compact_front : r ≡ E ++ drop (length E) l
        compact_front = grows_done E l r (omega (arith, A.long, F.room)) grows all_right
          where
            grows : Grows E l r
            grows = record {
              long = P.long ∙ N.long ∙ S.long;
              rest = drop_same (length E) l r (P.long ∙ N.long ∙ S.long) (λ k h. behind k (omega (arith, A.long)));
              kept = λ k h w. all_right k h;
            }

      pub compact_filled : CompactFilled T I C R l r
      compact_filled = record { long = P.long ∙ N.long ∙ S.long; front = compact_front }
