-- What a board has at each place.
--
--   room                     : a board has 330 sets
--   rows_room                : the rows of a graph are 128 sets
--   in_long, out_long        : how many words they are
--   in_row_at, out_row_at    : the rows of each graph
--   assumption_at_lem, guarantee_at_lem : the sets of a requirement
--   requirement_on_lem           : the requirement of the game is the board's
use Prim.Native.Nat.{ℕ, ◌+◌, ◌*◌, ◌≤◌, ◌<◌}
use mathlib.Core.Path.{◌≡◌, sym, ◌∙◌, ap, ap₂}
use mathlib.Core.List.{List, [], ◌∷◌}
use native.Mathlib.Omega.{arith}
use lib.ListN.{length, get_or, take, drop, length-drop}
use lib.Seq.{length-take-le, get_or-take, get_or-drop}
use Rattle.finite.proofs.Tabulate.{get_d_tabulate}
use Rattle.sets.specs.Words.{capacity, row_words, value, bits_of, sets_in, set_count, set_at}
use Rattle.sets.proofs.Rows.{words_held, rows_at, set_bits}
use Rattle.game.specs.declared.InSet.{InSet}
use Rattle.game.specs.declared.OutSet.{OutSet}
use Rattle.game.specs.Access.{no_input, no_output, no_requirement, requirement_at}
use Rattle.board.specs.declared.Sizes.{Sizes}
use Rattle.board.specs.Board.{board_words, in_rows, out_rows, requirement_on, game_on, assumption_place, guarantee_place}

pub room : (b : List ℕ) → length b ≡ board_words → 330 ≤ set_count b
room b e = words_held b 330 (omega (arith, e))

pub rows_room : (l : List ℕ) → length l ≡ row_words → capacity ≤ set_count l
rows_room l e = words_held l capacity (omega (arith, e))

-- the rows are in the board
module _ (b : List ℕ) (e : length b ≡ board_words) where
  pub in_long : length (take row_words b) ≡ row_words
  in_long = length-take-le row_words b (omega (arith, e))

  pub out_long : length (take row_words (drop row_words b)) ≡ row_words
  out_long = length-take-le row_words (drop row_words b) (omega (arith, e, length-drop row_words b))

module _ (b : List ℕ) where
  pub in_row_at : (i : ℕ) → i < capacity → get_or (sets_in b) i 0 ≡ get_or (sets_in (in_rows b)) i 0
  unfolding in_rows
  in_row_at i h =
      sym (rows_at b i)
      ∙ ap₂ (λ (x y : ℕ). value 64 (x ∷ y ∷ [])) (sym (get_or-take row_words b (2 * i) 0 (omega arith))) (sym (get_or-take row_words b (2 * i + 1) 0 (omega arith)))
      ∙ rows_at (take row_words b) i

  out_word : (i t s : ℕ) → t ≡ row_words + s → s < row_words → get_or b t 0 ≡ get_or (take row_words (drop row_words b)) s 0
  out_word i t s e h = ap (λ (u : ℕ). get_or b u 0) e ∙ sym (get_or-take row_words (drop row_words b) s 0 h ∙ get_or-drop row_words b s 0)

  pub out_row_at : (i : ℕ) → i < capacity → get_or (sets_in b) (128 + i) 0 ≡ get_or (sets_in (out_rows b)) i 0
  unfolding out_rows
  out_row_at i h =
      sym (rows_at b (128 + i))
      ∙ ap₂ (λ (x y : ℕ). value 64 (x ∷ y ∷ [])) (out_word i (2 * (128 + i)) (2 * i) (omega arith) (omega arith))
      (out_word i (2 * (128 + i) + 1) (2 * i + 1) (omega arith) (omega arith))
      ∙ rows_at (take row_words (drop row_words b)) i

  module _ (r j : ℕ) (h : j < 4) where
    pub assumption_at_lem : get_or (sets_in b) (assumption_place r j) 0 ≡ bits_of (get_or (requirement_on b r).assumptions j no_input).0
    unfolding requirement_on
    assumption_at_lem = sym (set_bits b (assumption_place r j)) ∙ sym (ap (λ (x : InSet). bits_of x.0) (get_d_tabulate _ 4 j no_input h))

    pub guarantee_at_lem : get_or (sets_in b) (guarantee_place r j) 0 ≡ bits_of (get_or (requirement_on b r).guarantees j no_output).0
    unfolding requirement_on
    guarantee_at_lem = sym (set_bits b (guarantee_place r j)) ∙ sym (ap (λ (x : OutSet). bits_of x.0) (get_d_tabulate _ 4 j no_output h))

  pub requirement_on_lem : (z : Sizes) (r : ℕ) → r < 8 → requirement_at (game_on z b) r ≡ requirement_on b r
  requirement_on_lem z r h = get_d_tabulate (requirement_on b) 8 r no_requirement h
