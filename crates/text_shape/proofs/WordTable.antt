-- The table of words against the definition of the words.
use Prim.Native.Nat.{ℕ, zero, suc, ◌-◌, ◌≤◌, ◌<◌}
use native.Mathlib.Omega.{arith}
use mathlib.Core.List.{List, [], ◌∷◌, ◌++◌, map}
use mathlib.Core.Path.{◌≡◌, refl, sym, ◌∙◌, ap}
use lib.ListN.{length, get_or, take, replicate}
use lib.Seq.{get_or-take, take-append_seam}
use Rattle.text_shape.specs.Text.{word, words}
use Rattle.text_shape.specs.declared.words.Word.{Word}
use Rattle.text_shape.specs.Shape.{opening}
use Rattle.text_shape.proofs.Opening.{opening_length}

-- each entry has the letters of its word in front, and their number
abbrev pub Agree : List Word → List (List ℕ) → Type 0
Agree [] [] = Unit {0}
Agree [] (y ∷ ys) = ⊥
Agree (x ∷ xs) [] = ⊥
Agree (x ∷ xs) (y ∷ ys) = (x.length ≡ length y) × (take (length y) x.bytes ≡ y) × Agree xs ys

pub same_length : (xs : List Word) (ys : List (List ℕ)) → Agree xs ys → (w : ℕ) → (get_or xs w (record { bytes = []; length = 0 })).length ≡ length (get_or ys w [])
same_length [] [] A w = refl
same_length [] (y ∷ ys) A w = absurd A
same_length (x ∷ xs) [] A w = absurd A
same_length (x ∷ xs) (y ∷ ys) A zero = A.0
same_length (x ∷ xs) (y ∷ ys) A (suc w) = same_length xs ys A.2 w

pub same_letter : (xs : List Word) (ys : List (List ℕ)) → Agree xs ys → (w i : ℕ) → i < length (get_or ys w [])
    → get_or (get_or xs w (record { bytes = []; length = 0 })).bytes i 0 ≡ get_or (get_or ys w []) i 0
same_letter [] [] A w i h = refl
same_letter [] (y ∷ ys) A w i h = absurd A
same_letter (x ∷ xs) [] A w i h = absurd A
same_letter (x ∷ xs) (y ∷ ys) A zero i h = sym (get_or-take (length y) x.bytes i 0 h) ∙ ap (λ (l : List ℕ). get_or l i 0) A.1
same_letter (x ∷ xs) (y ∷ ys) A (suc w) i h = same_letter xs ys A.2 w i h

-- no word has over 11 letters
abbrev pub Short : List (List ℕ) → Type 0
Short [] = Unit {0}
Short (y ∷ ys) = (length y ≤ 11) × Short ys

pub short : (ys : List (List ℕ)) → Short ys → (w : ℕ) → length (get_or ys w []) ≤ 11
short [] A w = omega arith
short (y ∷ ys) A zero = A.0
short (y ∷ ys) A (suc w) = short ys A.1 w

pub words_short : Short words
unfolding words
words_short =
    (omega arith, (omega arith, (omega arith, (omega arith, (omega arith, (omega arith, (omega arith, (omega arith, (omega arith, (omega arith, tt))))))))))

-- a word as an entry: its letters, filled up with blanks
abbrev pub entry : List ℕ → Word
entry y = record { bytes = y ++ replicate (11 - length y) 32; length = length y }

pub agree : (ys : List (List ℕ)) → Agree (map entry ys) ys
agree [] = tt
agree (y ∷ ys) = (refl, take-append_seam y (replicate (11 - length y) 32), agree ys)

pub word_short : (w : ℕ) → length (word w) ≤ 11
unfolding word
word_short w = short words words_short w

pub opening_short : (w : ℕ) → length (opening w) ≤ 13
opening_short w = omega (arith, opening_length w, word_short w)
