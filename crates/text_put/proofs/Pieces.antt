-- What is left of a text under way, and the pieces that it is made of.
use Prim.Native.Nat.{ℕ, zero, suc, ◌+◌, ◌-◌, ◌^◌, ◌≤◌, ◌<◌}
use native.Mathlib.Omega.{arith}
use native.Mathlib.Numerals.{add-one}
use mathlib.Core.Bool.{Bool, true, false, ◌&&◌, not}
use mathlib.Core.List.{List, [], ◌∷◌, ◌++◌, map, append_assoc, append-nil}
use mathlib.Core.Logic.{◌≢◌}
use mathlib.Core.Path.{◌≡◌, refl, sym, ◌∙◌, ap, subst}
use lib.Dec.{eqb}
use lib.ListN.{length, get_or, drop, length-append, drop_of_length-le}
use lib.Seq.{drop-cons}
use Rattle.text_shape.proofs.LineTexts.{header_pieces}
use Rattle.sets.specs.Words.{capacity, bits_of, sets_in, no_states}
use Rattle.sets.proofs.Rows.{no_bits}
use Rattle.finite.specs.Bounded.{one, least, count}
use Rattle.finite.proofs.Bounded.{least_before}
use Rattle.finite.proofs.Truth.{clash}
use Rattle.bits.specs.Member.{has}
use Rattle.bits.proofs.Membership.{has_lt}
use Rattle.bits.proofs.Remove.{less_in, less_falls}
use Rattle.bits.proofs.Visit.{small_word, lowest_below, lowest_in_lem, lowest_less}
use Rattle.text_grammar.specs.Number.{decimal}
use Rattle.game.specs.Access.{no_requirement}
use Rattle.game.specs.declared.InSet.{InSet}
use Rattle.game.specs.declared.OutSet.{OutSet}
use Rattle.game.specs.declared.Graph.{Graph}
use Rattle.game.specs.declared.Requirement.{Requirement}
use Rattle.game.specs.declared.Game.{Game}
use Rattle.text_shape.specs.Text.{
  PlainGraph,
  plain,
  gap_text,
  items,
  bracket,
  line,
  members,
  set_text,
  cells,
  sets_text,
  header_line,
  state_line,
  state_lines,
  in_words,
  out_words,
  requirement_line,
  requirement_lines,
  game_text,
  empty_requirement,
}
use Rattle.text_shape.specs.Shape.{opening}
use Rattle.text_shape.proofs.SetLists.{part_cons, item_text}
use Rattle.text_put.specs.Put.{Puts}
use Rattle.text_put.proofs.Lowest.{members_none, members_lowest}
use Rattle.text_put.proofs.Buffer.{Remains, remains_all, remains_step, remains_none, puts_then, puts_as}

-- fixed bytes, one at a time
pub bytes_step : {d : List ℕ} {i : ℕ} {e : List ℕ} {at : ℕ} (l : List ℕ) (k b : ℕ) {r : ℕ} {f : List ℕ} → Remains d i l e at (drop k l) → k < length l
    → b ≡ get_or l k 0
    → Puts e at (b ∷ []) r f → Remains d i l f r (drop (k + 1) l)
bytes_step l k b R h g P = remains_step (b ∷ []) (drop (k + 1) l) R (drop-cons l k 0 h ∙ (λ n. sym g n ∷ drop (sym (add-one k) n) l)) P

pub bytes_end : {d : List ℕ} {i : ℕ} {e : List ℕ} {at : ℕ} (l : List ℕ) (k : ℕ) → Remains d i l e at (drop k l) → length l ≤ k → Puts d i l at e
bytes_end {d} {i} {e} {at} l k R h = remains_none (subst (λ (t : List ℕ). Remains d i l e at t) (drop_of_length-le l h) R)

-- a set: the members of what is left of it, and the closing bracket
unfoldable pub set_rest : Bool → ℕ → List ℕ
set_rest gap x = items gap (map decimal (members capacity 0 x)) ++ 41 ∷ []

pub set_open : (x : ℕ) → 40 ∷ [] ++ set_rest false x ≡ set_text x
unfolding set_rest set_text bracket
set_open x = refl

pub set_last : (gap : Bool) (x : ℕ) → x ≡ 0 → set_rest gap x ≡ 41 ∷ []
unfolding set_rest items
set_last gap x z =
    ap (λ (ms : List ℕ). items gap (map decimal ms) ++ 41 ∷ []) (ap (members capacity 0) z ∙ members_none capacity 0)

-- v is the lowest member of x
module _ (x v : ℕ) (small : x < 2 ^ capacity) (some : x ≢ 0) (low : v ≡ least capacity (has x)) where
  pub member_small : v < capacity
  member_small = lowest_below capacity x v small some low

  -- and y is x without it
  module _ (y : ℕ) (less : (s : ℕ) → has y s ≡ (has x s && not (eqb s (least capacity (has x))))) where
    others : (s : ℕ) → has y s ≡ (has x s && not (eqb s v))
    others = lowest_less capacity x v y low less

    pub set_take : (gap : Bool) → set_rest gap x ≡ (gap_text gap ++ decimal v) ++ set_rest true y
    unfolding set_rest
    set_take gap =
        ap (λ (ms : List ℕ). items gap (map decimal ms) ++ 41 ∷ [])
        (members_lowest x y v (lowest_in_lem capacity x v small some low) (λ s l. least_before capacity (has x) s (omega arith)) others capacity 0 (omega arith)
        (omega (arith, member_small)))
        ∙ item_text gap (decimal v) (map decimal (members capacity 0 y)) ∙ sym (append_assoc (gap_text gap) (decimal v) _)

    pub set_falls : count capacity (has y) < count capacity (has x)
    set_falls = less_falls x v y others capacity member_small (lowest_in_lem capacity x v small some low)

    pub rest_small : y < 2 ^ capacity
    rest_small = small_word capacity y (λ s m. has_lt capacity x s small (less_in x v y others s m))

-- a list of sets: those from j on, and the closing bracket
unfoldable pub sets_rest : Bool → ℕ → ℕ → List ℕ → List ℕ
sets_rest gap j n ws = items gap (map set_text (cells (n - j) j ws)) ++ 41 ∷ []

pub sets_open : (n : ℕ) (ws : List ℕ) → 40 ∷ [] ++ sets_rest false 0 n ws ≡ sets_text n ws
unfolding sets_rest sets_text bracket
sets_open n ws = let all : n - 0 ≡ n = omega arith in ap (λ (k : ℕ). 40 ∷ (items false (map set_text (cells k 0 ws)) ++ 41 ∷ [])) all

module _ (gap : Bool) (j n : ℕ) (ws : List ℕ) where
  sets_take : (x : ℕ) → j < n → x ≡ get_or ws j 0 → sets_rest gap j n ws ≡ (gap_text gap ++ set_text x) ++ sets_rest true (j + 1) n ws
  unfolding sets_rest
  sets_take x l h =
      let split : n - j ≡ suc (n - (j + 1)) = omega arith in
      ap (λ (k : ℕ). items gap (map set_text (cells k j ws)) ++ 41 ∷ []) split
      ∙ ap (λ (t : List ℕ). items gap (map set_text t) ++ 41 ∷ []) (part_cons (n - (j + 1)) j ws)
      ∙ ap (λ (y : ℕ). items gap (map set_text (y ∷ cells (n - (j + 1)) (suc j) ws)) ++ 41 ∷ []) (sym h)
      ∙ ap (λ (i : ℕ). items gap (map set_text (x ∷ cells (n - (j + 1)) i ws)) ++ 41 ∷ []) (sym (add-one j))
      ∙ item_text gap (set_text x) (map set_text (cells (n - (j + 1)) (j + 1) ws)) ∙ sym (append_assoc (gap_text gap) (set_text x) _)

  sets_last : n ≤ j → sets_rest gap j n ws ≡ 41 ∷ []
  unfolding sets_rest items cells
  sets_last l = let none : n - j ≡ 0 = omega arith in ap (λ (k : ℕ). items gap (map set_text (cells k j ws)) ++ 41 ∷ []) none

-- the number of a set among others
word_at : {A : Type 0} (f : A → ℕ) (none : A) → f none ≡ 0 → (xs : List A) (j : ℕ) → f (get_or xs j none) ≡ get_or (map f xs) j 0
word_at f none e [] j = e
word_at f none e (x ∷ xs) zero = refl
word_at f none e (x ∷ xs) (suc j) = word_at f none e xs j

pub in_word : (xs : List InSet) (j : ℕ) → bits_of (get_or xs j (record { 0 = no_states })).0 ≡ get_or (in_words xs) j 0
in_word = word_at (λ x. bits_of x.0) (record { 0 = no_states }) no_bits

pub out_word : (xs : List OutSet) (j : ℕ) → bits_of (get_or xs j (record { 0 = no_states })).0 ≡ get_or (out_words xs) j 0
out_word = word_at (λ x. bits_of x.0) (record { 0 = no_states }) no_bits

-- lines
pub state_pieces : (w s f x : ℕ) → opening w ++ ((decimal s ++ 32 ∷ []) ++ ((decimal f ++ 32 ∷ []) ++ (set_text x ++ 41 ∷ 10 ∷ []))) ≡ state_line w s f x
unfolding state_line line bracket items gap_text opening
state_pieces w s f x = simp (append_assoc, append-nil)

pub requirement_pieces : (q : Requirement)
    → opening 3 ++ (sets_text q.assumed (in_words q.assumptions) ++ (32 ∷ [] ++ (sets_text q.guaranteed (out_words q.guarantees) ++ 41 ∷ 10 ∷ [])))
    ≡ requirement_line q
unfolding requirement_line line bracket items gap_text opening
requirement_pieces q = simp (append_assoc, append-nil)

-- states
module _ (w n s : ℕ) (h : Graph) where
  pub states_take : (f x : ℕ) → s < n → f ≡ one (has (bits_of h.initial) s) → x ≡ get_or (sets_in h.moves) s 0
      → state_lines w (n - s) s (plain h) ≡ state_line w s f x ++ state_lines w (n - (s + 1)) (s + 1) (plain h)
  unfolding state_lines plain
  states_take f x l p q =
      let split : n - s ≡ suc (n - (s + 1)) = omega arith in
      ap (λ (k : ℕ). state_lines w k s (plain h)) split
      ∙ (λ i. state_line w s (sym p i) (sym q i) ++ state_lines w (n - (s + 1)) (sym (add-one s) i) (plain h))

  pub states_last : n ≤ s → state_lines w (n - s) s (plain h) ≡ []
  unfolding state_lines
  states_last l = let none : n - s ≡ 0 = omega arith in ap (λ (k : ℕ). state_lines w k s (plain h)) none

-- requirements
module _ (n r : ℕ) (qs : List Requirement) where
  pub requirements_take : (q : Requirement) → r < n → requirement_line q ≡ requirement_line (get_or qs r empty_requirement)
      → requirement_lines (n - r) r qs ≡ requirement_line q ++ requirement_lines (n - (r + 1)) (r + 1) qs
  unfolding requirement_lines
  requirements_take q l h =
      let split : n - r ≡ suc (n - (r + 1)) = omega arith in
      ap (λ (k : ℕ). requirement_lines k r qs) split
      ∙ ap (λ (t : List ℕ). t ++ requirement_lines (n - (r + 1)) (suc r) qs) (sym h)
      ∙ ap (λ (i : ℕ). requirement_line q ++ requirement_lines (n - (r + 1)) i qs) (sym (add-one r))

  pub requirements_last : n ≤ r → requirement_lines (n - r) r qs ≡ []
  unfolding requirement_lines
  requirements_last l = let none : n - r ≡ 0 = omega arith in ap (λ (k : ℕ). requirement_lines k r qs) none

-- a blank, where one is due
pub gap_on : (gap : Bool) (t : List ℕ) → gap ≡ true → 32 ∷ [] ++ t ≡ gap_text gap ++ t
unfolding gap_text
gap_on true t h = refl
gap_on false t h = clash refl (sym h)

pub gap_off : (gap : Bool) (t : List ℕ) → gap ≡ false → t ≡ gap_text gap ++ t
unfolding gap_text
gap_off true t h = clash refl h
gap_off false t h = refl

-- the sets of a list are written one by one: those from j on are left
pub record SetsLeft (d : List ℕ) (i n : ℕ) (ws e : List ℕ) (at : ℕ) (gap : Bool) (j : ℕ) : Type 0 where
  rest : Remains d i (sets_rest false 0 n ws) e at (sets_rest gap j n ws)

pub sets_begin : {i n : ℕ} {ws e : List ℕ} → SetsLeft e i n ws e i false 0
sets_begin {i} {e = e} = record { rest = remains_all e i _ }

module _ {d : List ℕ} {i n : ℕ} {ws e : List ℕ} {at : ℕ} {gap : Bool} {j : ℕ} (S : SetsLeft d i n ws e at gap j) where
  pub sets_next : (x : ℕ) {r : ℕ} {f : List ℕ} → j < n → x ≡ get_or ws j 0 → Puts e at (gap_text gap ++ set_text x) r f → SetsLeft d i n ws f r true (j + 1)
  sets_next x l h P = record { rest = remains_step _ _ S.rest (sets_take gap j n ws x l h) P }

  -- the list is written with its closing bracket
  pub sets_end : {b : List ℕ} {o r : ℕ} {f : List ℕ} → Puts b o (40 ∷ []) i d → n ≤ j → Puts e at (41 ∷ []) r f → Puts b o (sets_text n ws) r f
  sets_end P l Q = puts_as (sets_open n ws) (puts_then P (remains_none (remains_step (41 ∷ []) [] S.rest (sets_last gap j n ws l) Q)))

-- the lengths of lines
pub header_length : (i o k : ℕ)
    → length (header_line i o k) ≡ length (opening 0) + (length (decimal i ++ 32 ∷ []) + (length (decimal o ++ 32 ∷ []) + (length (decimal k ++ 41 ∷ []) + 1)))
header_length i o k =
    ap length (sym (header_pieces i o k)) ∙ length-append (opening 0) _
    ∙ ap (λ (n : ℕ). length (opening 0) + n) (length-append (decimal i ++ 32 ∷ []) _
    ∙ ap (λ (n : ℕ). length (decimal i ++ 32 ∷ []) + n) (length-append (decimal o ++ 32 ∷ []) _
    ∙ ap (λ (n : ℕ). length (decimal o ++ 32 ∷ []) + n) (length-append (decimal k ++ 41 ∷ []) (10 ∷ []))))

pub state_length : (w s f x : ℕ)
    → length (state_line w s f x) ≡ length (opening w) + (length (decimal s ++ 32 ∷ []) + (length (decimal f ++ 32 ∷ []) + (length (set_text x) + 2)))
state_length w s f x =
    ap length (sym (state_pieces w s f x)) ∙ length-append (opening w) _
    ∙ ap (λ (n : ℕ). length (opening w) + n) (length-append (decimal s ++ 32 ∷ []) _
    ∙ ap (λ (n : ℕ). length (decimal s ++ 32 ∷ []) + n) (length-append (decimal f ++ 32 ∷ []) _
    ∙ ap (λ (n : ℕ). length (decimal f ++ 32 ∷ []) + n) (length-append (set_text x) (41 ∷ 10 ∷ []))))

pub requirement_length : (q : Requirement)
    → length (requirement_line q)
    ≡ length (opening 3) + (length (sets_text q.assumed (in_words q.assumptions)) +
    (1 + (length (sets_text q.guaranteed (out_words q.guarantees)) + 2)))
requirement_length q =
    ap length (sym (requirement_pieces q)) ∙ length-append (opening 3) _
    ∙ ap (λ (n : ℕ). length (opening 3) + n) (length-append (sets_text q.assumed (in_words q.assumptions)) _
    ∙ ap (λ (n : ℕ). length (sets_text q.assumed (in_words q.assumptions)) + n)
    (length-append {A = ℕ} (32 ∷ []) (sets_text q.guaranteed (out_words q.guarantees) ++ 41 ∷ 10 ∷ [])
    ∙ ap (λ (n : ℕ). 1 + n) (length-append (sets_text q.guaranteed (out_words q.guarantees)) (41 ∷ 10 ∷ []))))

pub game_length : (g : Game)
    → length (game_text g)
    ≡ length (header_line g.input.states g.output.states g.k)
    + (length (state_lines 1 g.input.states 0 (plain g.input)) +
    (length (state_lines 2 g.output.states 0 (plain g.output)) + length (requirement_lines g.k 0 g.requirements)))
unfolding game_text
game_length g =
    length-append (header_line g.input.states g.output.states g.k) _
    ∙ ap (λ (n : ℕ). length (header_line g.input.states g.output.states g.k) + n)
    (length-append (state_lines 1 g.input.states 0 (plain g.input)) _
    ∙ ap (λ (n : ℕ). length (state_lines 1 g.input.states 0 (plain g.input)) + n)
    (length-append (state_lines 2 g.output.states 0 (plain g.output)) _))

-- a requirement past the end of a list has no sets
pub requirement_past : (qs : List Requirement) (r : ℕ) → requirement_line (get_or qs r no_requirement) ≡ requirement_line (get_or qs r empty_requirement)
unfolding requirement_line empty_requirement sets_text cells
requirement_past [] r = refl
requirement_past (q ∷ qs) zero = refl
requirement_past (q ∷ qs) (suc r) = requirement_past qs r

-- nothing is written yet
pub states_none : (w n : ℕ) (h : PlainGraph) → state_lines w n 0 h ≡ state_lines w (n - 0) 0 h
states_none w n h = let all : n ≡ n - 0 = omega arith in ap (λ (k : ℕ). state_lines w k 0 h) all

pub requirements_none : (n : ℕ) (qs : List Requirement) → requirement_lines n 0 qs ≡ requirement_lines (n - 0) 0 qs
requirements_none n qs = let all : n ≡ n - 0 = omega arith in ap (λ (k : ℕ). requirement_lines k 0 qs) all
