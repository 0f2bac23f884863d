-- The closures laid side by side in scratch.
--
--   closed_at, part_sets, part_count     : what is written to, and read from, the part from a place on
--   laid_both, kept_both                 : both closures, one after the other
--   row_put                              : a row of the region is written
--   in_closes, out_closes                : the closures' rows where they are laid
--   in_transitive, out_transitive        : so both areas are transitive
use Prim.Native.Nat.{ℕ, ◌+◌, ◌-◌, ◌^◌, ◌≤◌, ◌<◌}
use native.Mathlib.Nat.{add_assoc}
use mathlib.Core.Path.{◌≡◌, refl, sym, ◌∙◌, ap}
use mathlib.Core.Bool.{Bool}
use mathlib.Core.List.{List, [], ◌++◌, append-nil}
use mathlib.Core.Logic.{◌≢◌}
use native.Mathlib.Omega.{arith}
use lib.ListN.{length, get_or, set, take, drop, length-drop, drop_of_length-le, get_or-append}
use lib.Seq.{take_all, length-take-le, get_or-append-add, get_or-take, get_or-drop, get_or-set_same, get_or-set_other, drop-drop, drop-append-add, drop-set-lt}
use borrow.Rule.Slice.PartMut.{put_mid, mid_of}
use Rattle.sets.specs.Words.{sets_in, set_count, words_for}
use Rattle.sets.proofs.Rows.{sets_take, sets_drop, sets_append, count_drop, sets_long, words_long, words_held, count_same, rest_words}
use Rattle.graphs.specs.Rows.{rows_of}
use Rattle.graphs.specs.Closure.{reaches}
use Rattle.graphs.proofs.Front.{rows_length, rows_row, rows_rest}
use Rattle.game.specs.declared.Graph.{Graph}
use Rattle.game.specs.declared.Game.{Game}
use Rattle.play.specs.Play.{graph_of}
use Rattle.graph_closure.specs.Sweep.{Closed}
use Rattle.graph_components.specs.Closes.{Closes}
use Rattle.graph_components.specs.Component.{Transitive}
use Rattle.graph_components.proofs.Closed.{closed_transitive}
use Rattle.scratch.specs.Scratch.{scratch_sets, scratch_length, Kept}
use Rattle.scratch.specs.Stored.{in_reach_at, row_at, out_reach_at, out_area, RowPut, Laid}
use Rattle.scratch.specs.Areas.{ClosedAt}

-- the sets in the words from set number `at` on
pub part_sets : (at w : ℕ) (s : List ℕ) → w ≡ words_for at → sets_in (take (length s - w) (drop w s)) ≡ drop at (sets_in s)
part_sets at w s e =
    ap sets_in (take_all (length s - w) (drop w s) (omega (arith, length-drop w s)) ∙ ap (λ (k : ℕ). drop k s) e) ∙ sets_drop s at

pub part_count : (at w n : ℕ) (s : List ℕ) → w ≡ words_for at → at + n ≤ set_count s → n ≤ set_count (take (length s - w) (drop w s))
part_count at w n s e b =
    let whole : take (length s - w) (drop w s) ≡ drop (words_for at) s =
    take_all (length s - w) (drop w s) (omega (arith, length-drop w s)) ∙ ap (λ (k : ℕ). drop k s) e in
    omega (arith, count_drop s at n b, ap set_count whole)

-- what is put back in place of the part from `at` on
pub closed_at : (f : Graph) (at w : ℕ) (s m : List ℕ) {k : ℕ} → w ≡ words_for at → at ≤ set_count s → Closed f (sets_in (mid_of w (length s - w) s)) (sets_in m) k
    → ClosedAt f at (sets_in s) (sets_in (put_mid w (length s - w) s m))
closed_at f at w s m e b C = record {
  rows =
      ap (λ (x : List ℕ). sets_in (take w s ++ x)) (ap (λ (x : List ℕ). m ++ x) past ∙ append-nil m)
      ∙ sets_append (take w s) m at (length-take-le w s (omega (arith, words_long s at b)) ∙ e)
      ∙ ap (λ (x : List ℕ). x ++ sets_in m) (ap (λ (k : ℕ). sets_in (take k s)) e ∙ sets_take s at b)
      ∙ ap (λ (x : List ℕ). take at (sets_in s) ++ x)
      (C.rows ∙ ap (λ (x : List ℕ). rows_of f.states f.states (reaches (graph_of f)) ++ drop f.states x) (part_sets at w s e));
}
  where
    past : drop (length s - w) (drop w s) ≡ []
    past = drop_of_length-le (drop w s) {i = length s - w} (omega (arith, length-drop w s))

-- the two closures, one after the other
module _ (g : Game) (s₀ s₁ s₂ : List ℕ) (C : ClosedAt g.input 0 (sets_in s₀) (sets_in s₁))
    (D : ClosedAt g.output (g.input.states + g.input.states) (sets_in s₁) (sets_in s₂)) (same : length s₂ ≡ length s₀)
    (long : scratch_length g ≤ length s₀) where
  abbrev n : ℕ
  n = g.input.states

  abbrev m : ℕ
  m = g.output.states

  abbrev Q : ℕ → ℕ → Bool
  Q = reaches (graph_of g.input)

  abbrev R : ℕ → ℕ → Bool
  R = reaches (graph_of g.output)

  abbrev l₀ : List ℕ
  l₀ = sets_in s₀

  abbrev l₁ : List ℕ
  l₁ = sets_in s₁

  abbrev l₂ : List ℕ
  l₂ = sets_in s₂

  abbrev back : List ℕ
  back = drop (n + n) l₁

  held : scratch_sets n m ≤ set_count s₀
  held = words_held s₀ (scratch_sets n m) long

  long₁ : length l₁ ≡ length l₀
  long₁ = rows_length n Q l₀ n (omega (arith, held, sets_long s₀)) C.rows

  front : length (take (n + n) l₁) ≡ n + n
  front = length-take-le (n + n) l₁ (omega (arith, long₁, held, sets_long s₀))

  at_front : (i : ℕ) → i < n + n → get_or l₂ i 0 ≡ get_or l₁ i 0
  at_front i b =
      ap (λ (x : List ℕ). get_or x i 0) D.rows
      ∙ get_or-append (take (n + n) l₁) (rows_of m m R ++ drop m back) 0 i (omega (arith, front)) ∙ get_or-take (n + n) l₁ i 0 b

  at_back : (o : ℕ) → get_or l₂ (n + n + o) 0 ≡ get_or (rows_of m m R ++ drop m back) o 0
  at_back o =
      ap (λ (x : List ℕ). get_or x (n + n + o) 0) D.rows
      ∙ ap (λ (k : ℕ). get_or (take (n + n) l₁ ++ (rows_of m m R ++ drop m back)) (k + o) 0) (sym front)
      ∙ get_or-append-add (take (n + n) l₁) (rows_of m m R ++ drop m back) o 0

  pub laid_both : Laid g s₂
  unfolding in_reach_at out_reach_at
  laid_both = record {
    long = omega (arith, held, count_same s₂ s₀ same);
    inputs = λ i b. at_front i (omega arith) ∙ rows_row n Q l₀ n i b C.rows;
    outputs = λ o b. at_back o ∙ rows_row m R back m o b refl;
  }

  rest₂ : drop (n + n + m) l₂ ≡ drop m back
  rest₂ =
      ap (drop (n + n + m)) D.rows
      ∙ ap (λ (k : ℕ). drop (k + m) (take (n + n) l₁ ++ (rows_of m m R ++ drop m back))) (sym front)
      ∙ drop-append-add (take (n + n) l₁) (rows_of m m R ++ drop m back) m ∙ rows_rest m R back m refl

  rest₁ : drop m back ≡ drop (n + n + m) l₀
  rest₁ =
      drop-drop m (n + n) l₁
      ∙ ap (λ (k : ℕ). drop k l₁) (add_assoc n n m) ∙ sym (drop-drop (n + m) n l₁) ∙ ap (drop (n + m)) (rows_rest n Q l₀ n C.rows)
      ∙ drop-drop (n + m) n l₀ ∙ ap (λ (k : ℕ). drop k l₀) (sym (add_assoc n n m))

  three : scratch_sets n m ≡ n + n + m
  three = omega arith

  pub kept_both : ((i : ℕ) → get_or s₂ i 0 < 2 ^ 64) → ((i : ℕ) → get_or s₀ i 0 < 2 ^ 64) → Kept g s₀ s₂
  kept_both a b = record {
    long = same;
    rest =
        rest_words (scratch_sets n m) s₂ s₀ a b same
        (ap (λ (k : ℕ). drop k l₂) three ∙ rest₂ ∙ rest₁ ∙ ap (λ (k : ℕ). drop k l₀) (sym three));
  }

-- a row of the region is written
pub row_put : (n j y : ℕ) (s t : List ℕ) → j < n → n + n ≤ set_count s → length t ≡ length s → sets_in t ≡ set (sets_in s) (n + j) y → RowPut n j y s t
unfolding in_reach_at row_at out_reach_at
row_put n j y s t b h same e = record {
  long = same;
  inputs = λ i a. at i (omega arith);
  here = ap (λ (l : List ℕ). get_or l (n + j) 0) e ∙ get_or-set_same (sets_in s) (n + j) y 0 (omega (arith, sets_long s));
  others = λ k ne. at (n + k) (omega arith);
  outputs = λ o. at (n + n + o) (omega arith);
  rest = λ m. ap (drop (scratch_sets n m)) e ∙ drop-set-lt (scratch_sets n m) (sets_in s) (n + j) y (omega arith);
}
  where
    at : (k : ℕ) → k ≢ n + j → get_or (sets_in t) k 0 ≡ get_or (sets_in s) k 0
    at k ne = ap (λ (l : List ℕ). get_or l k 0) e ∙ get_or-set_other (sets_in s) (n + j) k y 0 ne

-- the closures' rows where they are laid
module _ {g : Game} {s : List ℕ} (L : Laid g s) where
  pub in_closes : Closes g.input (sets_in s)
  unfolding in_reach_at
  in_closes = record { row = L.inputs }

  pub out_closes : Closes g.output (drop (g.input.states + g.input.states) (sets_in s))
  unfolding out_reach_at
  out_closes = record { row = λ o b. get_or-drop (g.input.states + g.input.states) (sets_in s) o 0 ∙ L.outputs o b }

  pub area_closes : Closes g.output (out_area (sets_in s) g.input.states)
  unfolding out_area
  area_closes = out_closes

  pub in_transitive : Transitive (sets_in s) g.input.states
  in_transitive = closed_transitive g.input (sets_in s) in_closes

  pub out_transitive : Transitive (out_area (sets_in s) g.input.states) g.output.states
  out_transitive = closed_transitive g.output (out_area (sets_in s) g.input.states) area_closes
