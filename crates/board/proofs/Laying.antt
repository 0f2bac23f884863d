-- A game laid out on a board, place after place.
--
--   set_put                       : the two words of a set
--   Rows at n l b c               == the board c is b with the first n of the words l from word `at` on
--   rows_none, rows_next, rows_all : the loop through the rows of a graph
--   sets_none, sets_next          : the loop through the sets of a requirement
--   requirement_put               : and its counts
--   Upto n ins outs x y qs b      == b has the rows, the initial sets and the first n requirements
--   upto_none, upto_next, upto_all : the loop through the requirements
--   on_board, own_sizes           : a board stands for a game with the game's sizes
use Prim.Native.Nat.{ℕ, ◌+◌, ◌*◌, ◌≤◌, ◌<◌}
use mathlib.Core.Path.{◌≡◌, refl, sym, ◌∙◌, ap}
use mathlib.Core.List.{List}
use mathlib.Core.Logic.{◌≢◌}
use native.Mathlib.Omega.{arith}
use native.Mathlib.Decide.{ℕ_discrete}
use lib.ListN.{length, get_or, set, take, drop, length-set}
use lib.Seq.{get_or-set_same, get_or-set_other, get_or-take, get_or-drop, ext_get_or}
use Rattle.finite.specs.Tabulate.{tabulate}
use Rattle.finite.proofs.Tabulate.{length_tabulate, get_d_tabulate}
use Rattle.sets.specs.declared.Set.{Set}
use Rattle.sets.specs.Words.{row_words, set_at}
use Rattle.game.specs.declared.InSet.{InSet}
use Rattle.game.specs.declared.OutSet.{OutSet}
use Rattle.game.specs.declared.Requirement.{Requirement}
use Rattle.game.specs.declared.Game.{Game}
use Rattle.game.specs.Access.{no_input, no_output, no_requirement}
use Rattle.board.specs.declared.Sizes.{Sizes}
use Rattle.board.specs.Board.{board_words, in_rows, out_rows, requirement_on, game_on, sizes_of, RowsPut, SetPut, SetsPut, RequirementPut, assumption_place, guarantee_place, assumed_place, guaranteed_place, in_initial_place, out_initial_place}
use Rattle.board.proofs.Read.{in_long, out_long}

-- a set of a board whose words are those of another
set_same : (b c : List ℕ) (s : ℕ) → get_or c (2 * s) 0 ≡ get_or b (2 * s) 0 → get_or c (2 * s + 1) 0 ≡ get_or b (2 * s + 1) 0 → set_at c s ≡ set_at b s
set_same b c s e f = λ i. record { low = e i; high = f i }

module _ (b : List ℕ) (s : ℕ) (x : Set) (h : 2 * s + 1 < length b) where
  pub set_put : SetPut s x b (set (set b (2 * s) x.low) (2 * s + 1) x.high)
  set_put = record {
    long = length-set (set b (2 * s) x.low) (2 * s + 1) x.high ∙ length-set b (2 * s) x.low;
    here = λ i. record { low = low i; high = high i };
    others = λ t d e. get_or-set_other (set b (2 * s) x.low) (2 * s + 1) t x.high 0 e ∙ get_or-set_other b (2 * s) t x.low 0 d;
  }
    where
      low : get_or (set (set b (2 * s) x.low) (2 * s + 1) x.high) (2 * s) 0 ≡ x.low
      low =
          get_or-set_other (set b (2 * s) x.low) (2 * s + 1) (2 * s) x.high 0 (omega arith)
          ∙ get_or-set_same b (2 * s) x.low 0 (omega arith)

      high : get_or (set (set b (2 * s) x.low) (2 * s + 1) x.high) (2 * s + 1) 0 ≡ x.high
      high = get_or-set_same (set b (2 * s) x.low) (2 * s + 1) x.high 0 (omega (arith, length-set b (2 * s) x.low))

-- ---- rows

pub record Rows (at n : ℕ) (l b c : List ℕ) : Type 0 where
  pub long : length c ≡ length b
  pub here : (i : ℕ) → i < n → get_or c (at + i) 0 ≡ get_or l i 0
  pub before : (t : ℕ) → t < at → get_or c t 0 ≡ get_or b t 0
  pub after : (t : ℕ) → at + n ≤ t → get_or c t 0 ≡ get_or b t 0

module _ (at : ℕ) (l b : List ℕ) where
  pub rows_none : Rows at 0 l b b
  rows_none = record { long = refl; here = λ i h. absurd (omega arith); before = λ t h. refl; after = λ t h. refl }

  pub rows_next : (n : ℕ) (c : List ℕ) → at + n < length b → Rows at n l b c → Rows at (n + 1) l b (set c (at + n) (get_or l n 0))
  rows_next n c h R = record {
    long = length-set c (at + n) (get_or l n 0) ∙ R.long;
    here = λ i k. here i k (ℕ_discrete i n);
    before = λ t k. get_or-set_other c (at + n) t (get_or l n 0) 0 (omega arith) ∙ R.before t k;
    after = λ t k. get_or-set_other c (at + n) t (get_or l n 0) 0 (omega arith) ∙ R.after t (omega arith);
  }
    where
      here : (i : ℕ) → i < n + 1 → Dec (i ≡ n) → get_or (set c (at + n) (get_or l n 0)) (at + i) 0 ≡ get_or l i 0
      here i k (yes e) =
          ap (λ (j : ℕ). get_or (set c (at + n) (get_or l n 0)) (at + j) 0) e ∙ get_or-set_same c (at + n) (get_or l n 0) 0 (omega (arith, R.long))
          ∙ ap (λ (j : ℕ). get_or l j 0) (sym e)
      here i k (no e) = get_or-set_other c (at + n) (at + i) (get_or l n 0) 0 (λ z. e (omega arith)) ∙ R.here i (omega (arith, e))

  pub rows_all : (n : ℕ) (c : List ℕ) → n ≤ row_words → row_words ≤ n → Rows at n l b c → RowsPut at l b c
  rows_all n c h k R = record { long = R.long; here = λ i m. R.here i (omega arith); before = R.before; after = λ t m. R.after t (omega arith) }

-- ---- a requirement

module _ (r : ℕ) (q : Requirement) (b : List ℕ) where
  pub sets_none : SetsPut r 0 q b b
  sets_none = record {
    long = refl;
    ins = λ j h. absurd (omega arith);
    outs = λ j h. absurd (omega arith);
    before = λ t h. refl;
    after = λ t h. refl;
  }

  pub sets_next : (n : ℕ) (c d e : List ℕ) → n < 4 → SetsPut r n q b c → SetPut (assumption_place r n) (get_or q.assumptions n no_input).0 c d
      → SetPut (guarantee_place r n) (get_or q.guarantees n no_output).0 d e → SetsPut r (n + 1) q b e
  sets_next n c d e h S P O = record {
    long = O.long ∙ P.long ∙ S.long;
    ins = λ j k. ins j k (ℕ_discrete j n);
    outs = λ j k. outs j k (ℕ_discrete j n);
    before = λ t k. keep t (omega arith) (omega arith) (omega arith) (omega arith) ∙ S.before t k;
    after = λ t k. keep t (omega arith) (omega arith) (omega arith) (omega arith) ∙ S.after t k;
  }
    where
      keep : (t : ℕ) → t ≢ 2 * assumption_place r n → t ≢ 2 * assumption_place r n + 1 → t ≢ 2 * guarantee_place r n → t ≢ 2 * guarantee_place r n + 1
          → get_or e t 0 ≡ get_or c t 0
      keep t u v w x = O.others t w x ∙ P.others t u v

      ins : (j : ℕ) → j < n + 1 → Dec (j ≡ n) → set_at e (assumption_place r j) ≡ (get_or q.assumptions j no_input).0
      ins j k (yes i) =
          ap (λ (m : ℕ). set_at e (assumption_place r m)) i
          ∙ set_same d e (assumption_place r n) (O.others _ (omega arith) (omega arith)) (O.others _ (omega arith) (omega arith)) ∙ P.here
          ∙ sym (ap (λ (m : ℕ). (get_or q.assumptions m no_input).0) i)
      ins j k (no i) =
          set_same c e (assumption_place r j) (keep _ (λ z. i (omega arith)) (omega arith) (omega arith) (omega arith))
          (keep _ (omega arith) (λ z. i (omega arith)) (omega arith) (omega arith))
          ∙ S.ins j (omega (arith, i))

      outs : (j : ℕ) → j < n + 1 → Dec (j ≡ n) → set_at e (guarantee_place r j) ≡ (get_or q.guarantees j no_output).0
      outs j k (yes i) = ap (λ (m : ℕ). set_at e (guarantee_place r m)) i ∙ O.here ∙ sym (ap (λ (m : ℕ). (get_or q.guarantees m no_output).0) i)
      outs j k (no i) =
          set_same c e (guarantee_place r j) (keep _ (omega arith) (omega arith) (λ z. i (omega arith)) (omega arith))
          (keep _ (omega arith) (omega arith) (omega arith) (λ z. i (omega arith)))
          ∙ S.outs j (omega (arith, i))

-- a list that has n elements, each known
tabled : {A : Type 0} (d : A) (n : ℕ) (f : ℕ → A) (l : List A) → length l ≡ n → ((i : ℕ) → i < n → f i ≡ get_or l i d) → tabulate n f ≡ l
tabled d n f l e h =
    ext_get_or d (tabulate n f) l (length_tabulate f n ∙ sym e) (λ i k. let b : i < n = omega (arith, length_tabulate f n) in get_d_tabulate f n i d b ∙ h i b)

-- the requirement that a board has, from its words
module _ (c : List ℕ) (r : ℕ) (q : Requirement) where
  told : length q.assumptions ≡ 4 → length q.guarantees ≡ 4 → ((j : ℕ) → j < 4 → set_at c (assumption_place r j) ≡ (get_or q.assumptions j no_input).0)
      → ((j : ℕ) → j < 4 → set_at c (guarantee_place r j) ≡ (get_or q.guarantees j no_output).0) → get_or c (assumed_place r) 0 ≡ q.assumed
      → get_or c (guaranteed_place r) 0 ≡ q.guaranteed → requirement_on c r ≡ q
  unfolding requirement_on
  told la lg ins outs a g =
      let x = tabled {A = InSet} no_input 4 (λ j. record { 0 = set_at c (assumption_place r j) }) q.assumptions la (λ j h i. record { 0 = ins j h i }) in
      let y = tabled {A = OutSet} no_output 4 (λ j. record { 0 = set_at c (guarantee_place r j) }) q.guarantees lg (λ j h i. record { 0 = outs j h i }) in
      λ i. record { assumptions = x i; assumed = a i; guarantees = y i; guaranteed = g i }

module _ (r : ℕ) (q : Requirement) (b c : List ℕ) (few : r < 8) (room : length b ≡ board_words) (n : ℕ) (all : 4 ≤ n) (S : SetsPut r n q b c)
    (la : length q.assumptions ≡ 4) (lg : length q.guarantees ≡ 4) where
  abbrev d : List ℕ
  d = set c (assumed_place r) q.assumed

  abbrev e : List ℕ
  e = set d (guaranteed_place r) q.guaranteed

  keep : (t : ℕ) → t ≢ assumed_place r → t ≢ guaranteed_place r → get_or e t 0 ≡ get_or c t 0
  keep t u v = get_or-set_other d (guaranteed_place r) t q.guaranteed 0 v ∙ get_or-set_other c (assumed_place r) t q.assumed 0 u

  wide : length d ≡ board_words
  wide = length-set c (assumed_place r) q.assumed ∙ S.long ∙ room

  pub requirement_put : RequirementPut r q b e
  requirement_put = record {
    long = length-set d (guaranteed_place r) q.guaranteed ∙ length-set c (assumed_place r) q.assumed ∙ S.long;
    here = told e r q la lg
        (λ j h. set_same c e (assumption_place r j) (keep _ (omega arith) (omega arith)) (keep _ (omega arith) (omega arith)) ∙ S.ins j (omega arith))
        (λ j h. set_same c e (guarantee_place r j) (keep _ (omega arith) (omega arith)) (keep _ (omega arith) (omega arith)) ∙ S.outs j (omega arith))
        (get_or-set_other d (guaranteed_place r) (assumed_place r) q.guaranteed 0 (omega arith)
        ∙ get_or-set_same c (assumed_place r) q.assumed 0 (omega (arith, S.long, room)))
        (get_or-set_same d (guaranteed_place r) q.guaranteed 0 (omega (arith, wide)));
    before = λ t h. keep t (omega arith) (omega arith) ∙ S.before t h;
    after = λ t h u v. keep t u v ∙ S.after t h;
  }

-- ---- the whole game

pub record Upto (n : ℕ) (ins outs : List ℕ) (x y : Set) (qs : List Requirement) (b : List ℕ) : Type 0 where
  pub long : length b ≡ board_words
  pub rows_in : (i : ℕ) → i < row_words → get_or b i 0 ≡ get_or ins i 0
  pub rows_out : (i : ℕ) → i < row_words → get_or b (row_words + i) 0 ≡ get_or outs i 0
  pub start_in : set_at b in_initial_place ≡ x
  pub start_out : set_at b out_initial_place ≡ y
  pub requirements : (r : ℕ) → r < n → requirement_on b r ≡ get_or qs r no_requirement

module _ (ins outs : List ℕ) (x y : Set) (qs : List Requirement) where
  pub upto_none : (a b c d e : List ℕ) → length a ≡ board_words → RowsPut 0 ins a b → RowsPut 256 outs b c → SetPut in_initial_place x c d → SetPut out_initial_place y d e
      → Upto 0 ins outs x y qs e
  upto_none a b c d e l I O X Y = record {
    long = Y.long ∙ X.long ∙ O.long ∙ I.long ∙ l;
    rows_in = λ i h. past i (omega arith) ∙ O.before i (omega arith) ∙ ap (λ (t : ℕ). get_or b t 0) (omega arith) ∙ I.here i h;
    rows_out = λ i h. past (row_words + i) (omega arith) ∙ O.here i h;
    start_in = set_same d e in_initial_place (Y.others _ (omega arith) (omega arith)) (Y.others _ (omega arith) (omega arith)) ∙ X.here;
    start_out = Y.here;
    requirements = λ r h. absurd (omega arith);
  }
    where
      past : (t : ℕ) → t < 512 → get_or e t 0 ≡ get_or c t 0
      past t h = Y.others t (omega arith) (omega arith) ∙ X.others t (omega arith) (omega arith)

  pub upto_next : (n : ℕ) (b c : List ℕ) → n < 8 → Upto n ins outs x y qs b → RequirementPut n (get_or qs n no_requirement) b c
      → Upto (n + 1) ins outs x y qs c
  unfolding requirement_on
  upto_next n b c h U P = record {
    long = P.long ∙ U.long;
    rows_in = λ i k. P.before i (omega arith) ∙ U.rows_in i k;
    rows_out = λ i k. P.before (row_words + i) (omega arith) ∙ U.rows_out i k;
    start_in = set_same b c in_initial_place (P.after _ (omega arith) (omega arith) (omega arith)) (P.after _ (omega arith) (omega arith) (omega arith)) ∙ U.start_in;
    start_out = set_same b c out_initial_place (P.after _ (omega arith) (omega arith) (omega arith)) (P.after _ (omega arith) (omega arith) (omega arith)) ∙ U.start_out;
    requirements = λ r k. at r k (ℕ_discrete r n);
  }
    where
      older : (r : ℕ) → r < n → requirement_on c r ≡ requirement_on b r
      older r k =
          let x = tabled {A = InSet} no_input 4 (λ j. record { 0 = set_at c (assumption_place r j) }) (requirement_on b r).assumptions (length_tabulate _ 4)
          (λ j m. (λ i. record { 0 = set_same b c (assumption_place r j) (P.before _ (omega arith)) (P.before _ (omega arith)) i })
          ∙ sym (get_d_tabulate _ 4 j no_input m)) in
          let y = tabled {A = OutSet} no_output 4 (λ j. record { 0 = set_at c (guarantee_place r j) }) (requirement_on b r).guarantees (length_tabulate _ 4)
          (λ j m. (λ i. record { 0 = set_same b c (guarantee_place r j) (P.before _ (omega arith)) (P.before _ (omega arith)) i })
          ∙ sym (get_d_tabulate _ 4 j no_output m)) in
          let a = P.after (assumed_place r) (omega arith) (omega arith) (omega arith) in
          let g = P.after (guaranteed_place r) (omega arith) (omega arith) (omega arith) in
          λ i. record { assumptions = x i; assumed = a i; guarantees = y i; guaranteed = g i }

      at : (r : ℕ) → r < n + 1 → Dec (r ≡ n) → requirement_on c r ≡ get_or qs r no_requirement
      at r k (yes e) = ap (requirement_on c) e ∙ P.here ∙ sym (ap (λ (t : ℕ). get_or qs t no_requirement) e)
      at r k (no e) = older r (omega (arith, e)) ∙ U.requirements r (omega (arith, e))

pub upto_all : (g : Game) (n : ℕ) (b : List ℕ) → 8 ≤ n → length g.input.moves ≡ row_words → length g.output.moves ≡ row_words → length g.requirements ≡ 8
    → Upto n g.input.moves g.output.moves g.input.initial g.output.initial g.requirements b → game_on (sizes_of g) b ≡ g
unfolding in_rows out_rows
upto_all g n b h li lo lq U = λ i. record {
  input = record { states = g.input.states; initial = U.start_in i; moves = ins i };
  output = record { states = g.output.states; initial = U.start_out i; moves = outs i };
  k = g.k;
  requirements = qs i;
}
  where
    ins : in_rows b ≡ g.input.moves
    ins =
        ext_get_or 0 (take row_words b) g.input.moves (in_long b U.long ∙ sym li)
        (λ i k. let m : i < row_words = omega (arith, in_long b U.long) in get_or-take row_words b i 0 m ∙ U.rows_in i m)

    outs : out_rows b ≡ g.output.moves
    outs =
        ext_get_or 0 (take row_words (drop row_words b)) g.output.moves (out_long b U.long ∙ sym lo)
        (λ i k. let m : i < row_words = omega (arith, out_long b U.long) in
        get_or-take row_words (drop row_words b) i 0 m ∙ get_or-drop row_words b i 0 ∙ U.rows_out i m)

    qs : tabulate 8 (requirement_on b) ≡ g.requirements
    qs = tabled no_requirement 8 (requirement_on b) g.requirements lq (λ r k. U.requirements r (omega arith))

-- with sizes that are the game's
pub on_board : (g : Game) (z : Sizes) (b : List ℕ) → z ≡ sizes_of g → game_on (sizes_of g) b ≡ g → game_on z b ≡ g
on_board g z b e f = ap (λ (y : Sizes). game_on y b) e ∙ f

-- and the sizes of a board that stands for a game are
pub own_sizes : (g : Game) (z : Sizes) (b : List ℕ) → game_on z b ≡ g → game_on (sizes_of g) b ≡ g
own_sizes g z b e = ap (λ (y : Sizes). game_on y b) (sym (ap sizes_of e)) ∙ e
