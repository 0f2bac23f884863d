-- One line of the reader against the format, piece by piece.
use Prim.Native.Nat.{ℕ, suc, ◌+◌, ◌≤◌, ◌<◌}
use native.Mathlib.Numerals.{add-one}
use mathlib.Core.List.{List, [], ◌∷◌}
use mathlib.Core.Path.{◌≡◌, sym, ◌∙◌, ap}
use lib.ListN.{length, get_or, drop, drop_of_length-le}
use lib.Seq.{drop-cons}
use Rattle.std.specs.Prelude.{Ok}
use Rattle.sets.specs.declared.Set.{Set}
use Rattle.sets.specs.Words.{capacity, bits_of, set_of}
use Rattle.text_grammar.specs.Format.{Run, run, chars}
use Rattle.text_grammar.specs.Format.Format.{done}
use Rattle.text_grammar.specs.Format.Run.{got, fault}
use Rattle.text_grammar.proofs.Format.{run_done, run_lit_fault}
use Rattle.text_shape.specs.Shape.{set_format, opening, num_then, outputs_format, header_format, StateRow, row_format, state_format}
use Rattle.text_lines.specs.Lines.{row_of, state_of}
use Rattle.text_pieces.proofs.Outcomes.{found_got}
use Rattle.text_pieces.proofs.Steps.{lit_got, lit_on, bind_got, bind_fault}

-- fixed bytes, one at a time
pub chars_turn : (x : Run (Unit {0})) (l : List ℕ) (k : ℕ) (w : ℕ → ℕ) (at b : ℕ) → x ≡ run (chars (drop k l)) w at → k < length l → b ≡ get_or l k 0 → w at ≡ b
    → x ≡ run (chars (drop (k + 1) l)) w (at + 1)
unfolding chars
chars_turn x l k w at b e h f g =
    e ∙ ap (λ (t : List ℕ). run (chars t) w at) (drop-cons l k 0 h)
    ∙ lit_on (get_or l k 0) (chars (drop (suc k) l)) w at (g ∙ f)
    ∙ ap (λ (n : ℕ). run (chars (drop n l)) w (at + 1)) (sym (add-one k))

pub chars_miss : (x : Run (Unit {0})) (l : List ℕ) (k : ℕ) (w : ℕ → ℕ) (at b : ℕ) → x ≡ run (chars (drop k l)) w at → k < length l → b ≡ get_or l k 0
    → (w at ≡ b → ⊥)
    → x ≡ fault at
unfolding chars
chars_miss x l k w at b e h f g =
    e ∙ ap (λ (t : List ℕ). run (chars t) w at) (drop-cons l k 0 h)
    ∙ run_lit_fault (get_or l k 0) (chars (drop (suc k) l)) w at (λ d. g (d ∙ sym f))

pub chars_end : (x : Run (Unit {0})) (l : List ℕ) (k : ℕ) (w : ℕ → ℕ) (at : ℕ) → x ≡ run (chars (drop k l)) w at → length l ≤ k → x ≡ got tt at
unfolding chars
chars_end x l k w at e h = e ∙ ap (λ (t : List ℕ). run (chars t) w at) (drop_of_length-le l h) ∙ run_done tt w at

-- the end of a line
pub end_first : (w : ℕ → ℕ) (i : ℕ) → (w i ≡ 41 → ⊥) → run (chars (41 ∷ 10 ∷ [])) w i ≡ fault i
unfolding chars
end_first w i h = run_lit_fault 41 (chars (10 ∷ [])) w i h

pub end_second : (w : ℕ → ℕ) (i : ℕ) → w i ≡ 41 → (w (i + 1) ≡ 10 → ⊥) → run (chars (41 ∷ 10 ∷ [])) w i ≡ fault (i + 1)
unfolding chars
end_second w i h g = lit_on 41 (chars (10 ∷ [])) w i h ∙ run_lit_fault 10 (done tt) w (i + 1) g

pub end_both : (w : ℕ → ℕ) (i : ℕ) → w i ≡ 41 → w (i + 1) ≡ 10 → run (chars (41 ∷ 10 ∷ [])) w i ≡ got tt (i + 1 + 1)
unfolding chars
end_both w i h g = lit_on 41 (chars (10 ∷ [])) w i h ∙ lit_got 10 tt w (i + 1) g

-- a state that is read
pub state_moves : {x : Run StateRow} {f : ℕ} {m : Set} {j : ℕ} → set_of (bits_of m) ≡ m
    → x ≡ got (record { initial = f; moves = bits_of m }) j → Ok (record { value = record { initial = f; moves = m }; end = j }) ≡ state_of x
state_moves {f = f} {j = j} h e = ap (λ (y : Set). Ok (record { value = record { initial = f; moves = y }; end = j })) (sym h) ∙ found_got row_of e

-- the header
module _ (a : ℕ) (w : ℕ → ℕ) (i : ℕ) where
  pub outputs_none : (p : ℕ) → run (num_then 1 capacity 32) w i ≡ fault p → run (outputs_format a) w i ≡ fault p
  unfolding outputs_format
  outputs_none p e = bind_fault (num_then 1 capacity 32) _ w i p e

  module _ (o j : ℕ) (e : run (num_then 1 capacity 32) w i ≡ got o j) where
    pub outputs_no_k : (p : ℕ) → run (num_then 0 8 41) w j ≡ fault p → run (outputs_format a) w i ≡ fault p
    unfolding outputs_format
    outputs_no_k p f = bind_got (num_then 1 capacity 32) _ w i o j e ∙ bind_fault (num_then 0 8 41) _ w j p f

    module _ (k m : ℕ) (f : run (num_then 0 8 41) w j ≡ got k m) where
      pub outputs_no_end : (w m ≡ 10 → ⊥) → run (outputs_format a) w i ≡ fault m
      unfolding outputs_format
      outputs_no_end g = bind_got (num_then 1 capacity 32) _ w i o j e ∙ bind_got (num_then 0 8 41) _ w j k m f ∙ run_lit_fault 10 _ w m g

      pub outputs_got : w m ≡ 10 → run (outputs_format a) w i ≡ got (record { inputs = a; outputs = o; k = k }) (m + 1)
      unfolding outputs_format
      outputs_got g = bind_got (num_then 1 capacity 32) _ w i o j e ∙ bind_got (num_then 0 8 41) _ w j k m f ∙ lit_got 10 _ w m g

module _ (w : ℕ → ℕ) (i : ℕ) where
  pub header_no_word : (p : ℕ) → run (chars (opening 0)) w i ≡ fault p → run header_format w i ≡ fault p
  unfolding header_format
  header_no_word p e = bind_fault (chars (opening 0)) _ w i p e

  module _ (j : ℕ) (e : run (chars (opening 0)) w i ≡ got tt j) where
    pub header_no_inputs : (p : ℕ) → run (num_then 1 capacity 32) w j ≡ fault p → run header_format w i ≡ fault p
    unfolding header_format
    header_no_inputs p f = bind_got (chars (opening 0)) _ w i tt j e ∙ bind_fault (num_then 1 capacity 32) _ w j p f

    pub header_on : (a m : ℕ) → run (num_then 1 capacity 32) w j ≡ got a m → run header_format w i ≡ run (outputs_format a) w m
    unfolding header_format
    header_on a m f = bind_got (chars (opening 0)) _ w i tt j e ∙ bind_got (num_then 1 capacity 32) _ w j a m f

-- a state
module _ (w : ℕ → ℕ) (i : ℕ) where
  pub row_no_flag : (p : ℕ) → run (num_then 0 1 32) w i ≡ fault p → run row_format w i ≡ fault p
  unfolding row_format
  row_no_flag p e = bind_fault (num_then 0 1 32) _ w i p e

  module _ (f j : ℕ) (e : run (num_then 0 1 32) w i ≡ got f j) where
    pub row_no_set : (p : ℕ) → run set_format w j ≡ fault p → run row_format w i ≡ fault p
    unfolding row_format
    row_no_set p g = bind_got (num_then 0 1 32) _ w i f j e ∙ bind_fault set_format _ w j p g

    module _ (x m : ℕ) (g : run set_format w j ≡ got x m) where
      pub row_no_end : (p : ℕ) → run (chars (41 ∷ 10 ∷ [])) w m ≡ fault p → run row_format w i ≡ fault p
      unfolding row_format
      row_no_end p h = bind_got (num_then 0 1 32) _ w i f j e ∙ bind_got set_format _ w j x m g ∙ bind_fault (chars (41 ∷ 10 ∷ [])) _ w m p h

      pub row_got : (n : ℕ) → run (chars (41 ∷ 10 ∷ [])) w m ≡ got tt n → run row_format w i ≡ got (record { initial = f; moves = x }) n
      unfolding row_format
      row_got n h =
          bind_got (num_then 0 1 32) _ w i f j e ∙ bind_got set_format _ w j x m g ∙ bind_got (chars (41 ∷ 10 ∷ [])) _ w m tt n h
          ∙ run_done (record { initial = f; moves = x }) w n

module _ (word' s : ℕ) (w : ℕ → ℕ) (i : ℕ) where
  pub state_no_word : (p : ℕ) → run (chars (opening word')) w i ≡ fault p → run (state_format word' s) w i ≡ fault p
  unfolding state_format
  state_no_word p e = bind_fault (chars (opening word')) _ w i p e

  module _ (j : ℕ) (e : run (chars (opening word')) w i ≡ got tt j) where
    pub state_no_number : (p : ℕ) → run (num_then s s 32) w j ≡ fault p → run (state_format word' s) w i ≡ fault p
    unfolding state_format
    state_no_number p f = bind_got (chars (opening word')) _ w i tt j e ∙ bind_fault (num_then s s 32) _ w j p f

    pub state_on : (v m : ℕ) → run (num_then s s 32) w j ≡ got v m → run (state_format word' s) w i ≡ run row_format w m
    unfolding state_format
    state_on v m f = bind_got (chars (opening word')) _ w i tt j e ∙ bind_got (num_then s s 32) _ w j v m f
