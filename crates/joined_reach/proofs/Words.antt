-- Sets of joined positions in scratch.
--
--   small_in, small_out                       : the moves of a graph of at most 32 states
--   small_in_word, small_out_word             : they are in one word
--   move_below                                : what an input moves to is an input
--   belongs_has, belongs_below, belongs_in    : what belongs to a set
--   found_has                                 : what belongs to the set of found positions, whose rows stand first
--   kept_cleared             : what changes the front words alone
--   but-then, but-wider                     : one change after the other; a wider span
--   cleared_zero                              : words that are cleared
use Prim.Native.Nat.{ℕ, ◌+◌, ◌-◌, ◌≤◌, ◌<◌}
use mathlib.Core.Path.{◌≡◌, refl, sym, ◌∙◌, ap}
use mathlib.Core.Bool.{true, ◌&&◌}
use mathlib.Core.List.{List}
use native.Mathlib.Nat.{zero-add}
use native.Mathlib.Omega.{arith}
use lib.Dec.{ltb}
use lib.ListN.{length, get_or, drop}
use lib.Seq.{get_or-drop}
use borrow.Author.Tests.{lt-ltb, ltb-true}
use Rattle.play.proofs.Moves.{row_edge}
use Rattle.finite.proofs.Truth.{same_test, and_left, and_right, and_intro}
use Rattle.finite.proofs.Front.{front_length, front_rest, front_at}
use Rattle.finite.specs.But.{ButFor}
use Rattle.bits.specs.Member.{has}
use Rattle.sets.specs.declared.Set.{Set}
use Rattle.sets.specs.Words.{bits_of, set_at}
use Rattle.graphs.specs.Graph.{edge}
use Rattle.graphs.proofs.Graph.{edge_to}
use Rattle.game.specs.declared.Game.{Game}
use Rattle.game.specs.declared.Graph.{Graph as Record}
use Rattle.game.specs.declared.InState.{InState}
use Rattle.game.specs.declared.OutState.{OutState}
use Rattle.game.specs.Fits.{GraphFits}
use Rattle.play.specs.Play.{graph_of}
use Rattle.scratch_clearing.specs.Clearing.{cleared}
use Rattle.joined_reach.specs.Words.{belongs, Small}

-- ---- moves

module _ (h : Record) (F : GraphFits h) where
  -- of a row that was read
  read_edge : (k : ℕ) (x : Set) → k < h.states → x ≡ set_at h.moves k → (t : ℕ) → has (bits_of x) t ≡ edge (graph_of h) k t
  read_edge k x a e t = ap (λ (y : Set). has (bits_of y) t) e ∙ row_edge h F k t a

  row_word : (k : ℕ) (x : Set) → k < h.states → h.states ≤ 32 → x ≡ set_at h.moves k → (t : ℕ) → has (bits_of x) t ≡ true → t < 64
  unfolding graph_of
  row_word k x a b e t q = omega (arith, edge_to (graph_of h) k t (sym (read_edge k x a e t) ∙ q))

module _ {g : Game} (S : Small g) (i : InState) (b : i.0 < g.input.states) (x : Set) (e : x ≡ set_at g.input.moves i.0) where
  pub small_in : (j : ℕ) → has (bits_of x) j ≡ edge (graph_of g.input) i.0 j
  small_in j = read_edge g.input S.fits.input i.0 x b e j

  pub small_in_word : (j : ℕ) → has (bits_of x) j ≡ true → j < 64
  small_in_word j h = row_word g.input S.fits.input i.0 x b S.inputs e j h

module _ {g : Game} (S : Small g) (o : OutState) (b : o.0 < g.output.states) (x : Set) (e : x ≡ set_at g.output.moves o.0) where
  pub small_out : (p : ℕ) → has (bits_of x) p ≡ edge (graph_of g.output) o.0 p
  small_out p = read_edge g.output S.fits.output o.0 x b e p

  pub small_out_word : (p : ℕ) → has (bits_of x) p ≡ true → p < 64
  small_out_word p h = row_word g.output S.fits.output o.0 x b S.outputs e p h

pub move_below : (g : Game) (x r : ℕ) → ((k : ℕ) → has x k ≡ edge (graph_of g.input) r k) → (j : ℕ) → has x j ≡ true → j < g.input.states
unfolding graph_of
move_below g x r e j h = edge_to (graph_of g.input) r j (sym (e j) ∙ h)

-- ---- sets

module _ (n a : ℕ) (l : List ℕ) where
  pub belongs_has : (i o : ℕ) → i < n → belongs n a l i o ≡ has (get_or l (a + i) 0) o
  unfolding belongs
  belongs_has i o b = rw (lt-ltb i n b) refl

  pub belongs_below : (i o : ℕ) → belongs n a l i o ≡ true → i < n
  unfolding belongs
  belongs_below i o h = ltb-true i n (and_left (ltb i n) (has (get_or l (a + i) 0) o) h)

  pub belongs_in : (i o : ℕ) → belongs n a l i o ≡ true → has (get_or l (a + i) 0) o ≡ true
  unfolding belongs
  belongs_in i o h = and_right (ltb i n) (has (get_or l (a + i) 0) o) h

  -- a set whose words are not changed
  pub belongs_same : (m : List ℕ) → ((i : ℕ) → i < n → get_or m (a + i) 0 ≡ get_or l (a + i) 0) → (i o : ℕ) → belongs n a m i o ≡ belongs n a l i o
  unfolding belongs
  belongs_same m e i o =
      same_test (ltb i n && has (get_or m (a + i) 0) o) (ltb i n && has (get_or l (a + i) 0) o)
      (λ h. let b = ltb-true i n (and_left (ltb i n) (has (get_or m (a + i) 0) o) h) in
      and_intro (lt-ltb i n b) (ap (λ (x : ℕ). has x o) (sym (e i b)) ∙ and_right (ltb i n) (has (get_or m (a + i) 0) o) h))
      (λ h. let b = ltb-true i n (and_left (ltb i n) (has (get_or l (a + i) 0) o) h) in
      and_intro (lt-ltb i n b) (ap (λ (x : ℕ). has x o) (e i b) ∙ and_right (ltb i n) (has (get_or l (a + i) 0) o) h))

pub found_has : (n : ℕ) (l : List ℕ) (i o : ℕ) → i < n → belongs n 0 l i o ≡ has (get_or l i 0) o
found_has n l i o b = belongs_has n 0 l i o b ∙ ap (λ (k : ℕ). has (get_or l k 0) o) (zero-add i)

-- ---- words that stay

pub cleared_zero : (n : ℕ) (l m : List ℕ) → m ≡ cleared n l → (k : ℕ) → k < n → get_or m k 0 ≡ 0
unfolding cleared
cleared_zero n l m e k b = ap (λ (x : List ℕ). get_or x k 0) e ∙ front_at (λ k. 0) l n k 0 b

pub kept_cleared : (n : ℕ) (l m : List ℕ) → n ≤ length l → m ≡ cleared n l → ButFor 0 n l m
unfolding cleared
kept_cleared n l m b e = record {
  long = ap length e ∙ front_length (λ k. 0) l n b;
  low = λ k h. absurd (omega arith);
  high = λ k h. past k h;
}
  where
    same : drop n m ≡ drop n l
    same = ap (drop n) e ∙ front_rest (λ k. 0) l n

    past : (k : ℕ) → n ≤ k → get_or m k 0 ≡ get_or l k 0
    past k h =
        let q : n + (k - n) ≡ k = omega arith in
        ap (λ (x : ℕ). get_or m x 0) (sym q) ∙ sym (get_or-drop n m (k - n) 0) ∙ ap (λ (x : List ℕ). get_or x (k - n) 0) same
        ∙ get_or-drop n l (k - n) 0 ∙ ap (λ (x : ℕ). get_or l x 0) q
