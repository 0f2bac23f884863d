-- The text of a list of sets.
use Prim.Native.Nat.{ℕ, zero, suc, ◌+◌, ◌≤◌}
use native.Mathlib.Omega.{arith}
use mathlib.Core.Bool.{Bool, true, false}
use mathlib.Core.List.{List, [], ◌∷◌, ◌++◌, map, append_assoc}
use mathlib.Core.Logic.{inl, inr}
use mathlib.Core.Path.{◌≡◌, refl, sym, ◌∙◌, ap, subst}
use lib.ListN.{length, get_or, length-set}
use lib.Arith.{lt_of_le-ne}
use lib.Dec.{eqb}
use borrow.Author.Tests.{eqb-true, eqb-false}
use Rattle.bits.proofs.Membership.{zero_within}
use Rattle.bits.specs.Member.{within}
use Rattle.sets.specs.Words.{capacity}
use Rattle.text_grammar.specs.Format.{Format, TextOf, Live, lit, alt, bind, may_begin, IsNode}
use Rattle.text_grammar.specs.Format.Format.{done}
use Rattle.text_grammar.proofs.Format.{
  by_cases,
  lit_text,
  lit_parts,
  lit_live,
  lit_node,
  alt_left,
  alt_right,
  alt_parts,
  alt_live,
  alt_node,
  bind_text,
  bind_parts,
  bind_live,
  bind_node,
  done_text,
  done_parts,
  done_live,
  opens_lit,
  opens_bind,
}
use Rattle.text_shape.specs.Text.{items, gap_text, bracket, set_text, cells, sets_text, ShapedSets}
use Rattle.text_shape.specs.Shape.{set_format, Sets, no_sets, push, more_sets, sets_format}
use Rattle.text_shape.proofs.Members.{set_sound, set_complete, set_live, set_node}
use Rattle.text_shape.proofs.Fill.{Upto, Blank, blank_replicate, blank_step, fill_none, fill_step, fill_back, fill_end}

-- the sets from c on, one at a time
pub part_cons : (m c : ℕ) (ws : List ℕ) → cells (suc m) c ws ≡ get_or ws c 0 ∷ cells m (suc c) ws
unfolding cells
part_cons m c ws = refl

pub item_text : (gap : Bool) (w : List ℕ) (ws : List (List ℕ)) → items gap (w ∷ ws) ++ 41 ∷ [] ≡ gap_text gap ++ (w ++ (items true ws ++ 41 ∷ []))
unfolding items
item_text gap w ws =
    append_assoc (gap_text gap) (w ++ items true ws) (41 ∷ []) ∙ ap (λ (l : List ℕ). gap_text gap ++ l) (append_assoc w (items true ws) (41 ∷ []))

-- a list under way: c sets are stored, and n may follow
record Open (n : ℕ) (a : Sets) : Type 0 where
  room : a.count + n ≡ 4
  places : length a.words ≡ 4
  blank : Blank 0 a.count a.words

open_push : (n : ℕ) (a : Sets) (x : ℕ) → Open (suc n) a → Open n (push a x)
unfolding push
open_push n a x O =
    let r = O.room in
    record { room = omega arith; places = length-set a.words a.count x ∙ O.places; blank = blank_step 0 a.count a.words x O.blank }

-- b is a with more sets, whose text, behind a blank where gap holds, is t
record Longer (gap : Bool) (a : Sets) (t : List ℕ) (b : Sets) : Type 0 where
  more : ℕ
  count : a.count + more ≡ b.count
  most : b.count ≤ 4
  places : length b.words ≡ 4
  fill : Upto 0 a.count a.words b.words
  blank : Blank 0 b.count b.words
  sets : (i : ℕ) → a.count ≤ i → within (get_or b.words i 0) capacity ≡ true
  text : t ≡ items gap (map set_text (cells more a.count b.words)) ++ 41 ∷ []

longer_none : (gap : Bool) (n : ℕ) (a : Sets) (t : List ℕ) (b : Sets) → Open n a → t ≡ 41 ∷ [] → b ≡ a → Longer gap a t b
unfolding items cells
longer_none gap n a t b O e f =
    subst (λ (c : Sets). Longer gap a t c) (sym f)
    (record {
      more = 0;
      count = omega arith;
      most = (let r = O.room in omega arith);
      places = O.places;
      fill = record { same_length = refl; below = λ i l. refl };
      blank = O.blank;
      sets = λ i l. ap (λ (x : ℕ). within x capacity) (O.blank i l) ∙ zero_within capacity;
      text = e;
    })

longer_step : (gap : Bool) (n : ℕ) (a : Sets) (x : ℕ) (t u : List ℕ) (b : Sets) → Open (suc n) a → within x capacity ≡ true
    → t ≡ gap_text gap ++ (set_text x ++ u)
    → Longer true (push a x) u b → Longer gap a t b
unfolding push
longer_step gap n a x t u b O w e L =
    let r = O.room in
    let c = O.places in
    let s = L.count in
    let back = fill_back 0 a.count a.words b.words x (omega arith) L.fill in
    let cellsb = L.places in
    record {
      more = suc L.more;
      count = omega arith;
      most = L.most;
      places = L.places;
      fill = back.0;
      blank = L.blank;
      sets = λ i l. by_cases (eqb i a.count)
          (λ h. ap (λ (j : ℕ). within (get_or b.words j 0) capacity) (eqb-true i a.count h) ∙ ap (λ (y : ℕ). within y capacity) back.1 ∙ w)
          (λ h. let ne = eqb-false i a.count h in L.sets i (lt_of_le-ne l (λ f. ne (sym f))));
      text =
          e ∙ ap (λ (l : List ℕ). gap_text gap ++ (set_text x ++ l)) L.text
          ∙ sym (item_text gap (set_text x) (map set_text (cells L.more (suc a.count) b.words)))
          ∙ sym (ap (λ (ws : List ℕ). items gap (map set_text ws) ++ 41 ∷ [])
          (part_cons L.more a.count b.words ∙ ap (λ (y : ℕ). y ∷ cells L.more (suc a.count) b.words) back.1));
    }

sets_sound : (n : ℕ) (a : Sets) (t : List ℕ) (b : Sets) → Open n a → TextOf (more_sets n a) t b → Longer true a t b
unfolding more_sets gap_text
sets_sound zero a t b O p =
    let q = lit_parts 41 (done a) t b p in
    let d = done_parts a q.0 b q.2 in
    longer_none true zero a t b O (q.1 ∙ ap (λ (l : List ℕ). 41 ∷ l) d.0) d.1
sets_sound (suc n) a t b O p =
    let k : ℕ → Format Sets = λ x. more_sets n (push a x) in
    elim (alt_parts 41 (done a) (lit 32 (bind set_format k)) t b p) [
      | inl c ↦ (let d = done_parts a c.0 b c.2 in longer_none true (suc n) a t b O (c.1 ∙ ap (λ (l : List ℕ). 41 ∷ l) d.0) d.1)
      | inr c ↦ (
          let q = lit_parts 32 (bind set_format k) t b c in
          let P = bind_parts set_format k q.0 b q.2 in
          let S = set_sound P.front P.value P.is_front in
          longer_step true n a P.value t P.back b O S.0
          (q.1 ∙ ap (λ (l : List ℕ). 32 ∷ l) (P.whole ∙ ap (λ (l : List ℕ). l ++ P.back) S.1))
          (sets_sound n (push a P.value) P.back b (open_push n a P.value O) P.is_back))
    ]

-- what is left of b behind a
record Rest (m : ℕ) (a b : Sets) : Type 0 where
  count : a.count + m ≡ b.count
  fill : Upto 0 a.count a.words b.words

sets_path : (a b : Sets) → a.words ≡ b.words → a.count ≡ b.count → a ≡ b
sets_path a b p q = λ i. record { words = p i; count = q i }

rest_none : (n : ℕ) (a b : Sets) → Open n a → ShapedSets b.count b.words → Rest 0 a b → a ≡ b
rest_none n a b O S R =
    let c = R.count in
    let e : a.count ≡ b.count = omega arith in
    sets_path a b (fill_end 0 a.count a.words b.words R.fill O.blank (λ i l. S.unused i (omega arith))) e

rest_push : (n m : ℕ) (a b : Sets) → Open (suc n) a → Rest (suc m) a b → Rest m (push a (get_or b.words a.count 0)) b
unfolding push
rest_push n m a b O R =
    let c = R.count in
    let r = O.room in
    let l = O.places in
    record { count = omega arith; fill = fill_step 0 a.count a.words b.words (get_or b.words a.count 0) (omega arith) refl R.fill }

sets_node : (n : ℕ) (a : Sets) → IsNode (more_sets n a)
unfolding more_sets
sets_node zero a = lit_node 41 (done a)
sets_node (suc n) a = alt_node 41 (done a) _

sets_complete : (n m : ℕ) (a b : Sets) → Open n a → ShapedSets b.count b.words → Rest m a b
    → TextOf (more_sets n a) (items true (map set_text (cells m a.count b.words)) ++ 41 ∷ []) b
unfolding more_sets gap_text push items cells
sets_complete zero zero a b O S R =
    subst (λ (c : Sets). TextOf (lit 41 (done a)) (41 ∷ []) c) (rest_none 0 a b O S R) (lit_text 41 (done a) [] a (done_text a))
sets_complete zero (suc m) a b O S R = absurd (full S.most R.count O.room)
  where
    full : b.count ≤ 4 → a.count + suc m ≡ b.count → a.count + 0 ≡ 4 → ⊥
    full p q r = omega arith
sets_complete (suc n) zero a b O S R =
    subst (λ (c : Sets). TextOf (alt 41 (done a) (lit 32 (bind set_format (λ x. more_sets n (push a x))))) (41 ∷ []) c) (rest_none (suc n) a b O S R)
    (alt_left 41 (done a) (lit 32 (bind set_format (λ x. more_sets n (push a x)))) [] a (done_text a))
sets_complete (suc n) (suc m) a b O S R =
    let k : ℕ → Format Sets = λ x. more_sets n (push a x) in
    let x = get_or b.words a.count 0 in
    let u = items true (map set_text (cells m (suc a.count) b.words)) ++ 41 ∷ [] in
    let r = O.room in
    let cnt = R.count in
    let all : length b.words ≡ 4 = S.all in
    let next = part_cons m a.count b.words in
    let whole : items true (map set_text (cells (suc m) a.count b.words)) ++ 41 ∷ [] ≡ 32 ∷ (set_text x ++ u) =
    ap (λ (ws : List ℕ). items true (map set_text ws) ++ 41 ∷ []) next ∙ item_text true (set_text x) (map set_text (cells m (suc a.count) b.words)) in
    let rest : TextOf (k x) u b = sets_complete n m (push a x) b (open_push n a x O) S (rest_push n m a b O R) in
    let one = bind_text set_format k (set_text x) u x b (set_complete x (S.each a.count)) rest in
    let blank = lit_text 32 (bind set_format k) (set_text x ++ u) b one in
    subst (λ (l : List ℕ). TextOf (alt 41 (done a) (lit 32 (bind set_format k))) l b) (sym whole)
    (alt_right 41 (done a) (lit 32 (bind set_format k)) (32 ∷ (set_text x ++ u)) b (opens_lit 32 (bind set_format k) 41) blank (lit_node 32 (bind set_format k)))

more_sets_live : (n : ℕ) (a : Sets) → Live (more_sets n a)
unfolding more_sets
more_sets_live zero a = lit_live 41 (done a) (omega arith) (done_live a)
more_sets_live (suc n) a =
    let k : ℕ → Format Sets = λ x. more_sets n (push a x) in
    alt_live 41 (done a) (lit 32 (bind set_format k)) (omega arith) (done_live a)
    (lit_live 32 (bind set_format k) (omega arith) (bind_live set_format k set_live (λ t x p. more_sets_live n (push a x))))
    (lit_node 32 (bind set_format k))

-- the whole list
no_sets_open : Open 4 no_sets
unfolding no_sets
no_sets_open = record { room = refl; places = refl; blank = blank_replicate 0 0 4 }

pub sets_live : Live sets_format
unfolding sets_format
sets_live =
    let k : ℕ → Format Sets = λ x. more_sets 3 (push no_sets x) in
    lit_live 40 (alt 41 (done no_sets) (bind set_format k)) (omega arith)
    (alt_live 41 (done no_sets) (bind set_format k) (omega arith) (done_live no_sets)
    (bind_live set_format k set_live (λ t x p. more_sets_live 3 (push no_sets x)))
    (bind_node set_format k set_node))

opens_set : may_begin set_format 41 ≡ false
unfolding set_format
opens_set = opens_lit 40 _ 41

longer_shaped : (t u : List ℕ) (b : Sets) → t ≡ 40 ∷ u → Longer false no_sets u b → ShapedSets b.count b.words × (t ≡ sets_text b.count b.words)
unfolding no_sets sets_text bracket
longer_shaped t u b e L =
    let c : 0 + L.more ≡ b.count = L.count in
    let m : L.more ≡ b.count = omega arith in (
      record { most = L.most; all = L.places; each = λ i. L.sets i (omega arith); unused = L.blank },
      e ∙ ap (λ (l : List ℕ). 40 ∷ l) L.text ∙ ap (λ (n : ℕ). 40 ∷ (items false (map set_text (cells n 0 b.words)) ++ 41 ∷ [])) m,
    )

pub list_sound : (t : List ℕ) (b : Sets) → TextOf sets_format t b → ShapedSets b.count b.words × (t ≡ sets_text b.count b.words)
unfolding sets_format gap_text
list_sound t b p =
    let k : ℕ → Format Sets = λ x. more_sets 3 (push no_sets x) in
    let o = lit_parts 40 (alt 41 (done no_sets) (bind set_format k)) t b p in
    elim (alt_parts 41 (done no_sets) (bind set_format k) o.0 b o.2) [
      | inl c ↦ (
          let d = done_parts no_sets c.0 b c.2 in
          longer_shaped t o.0 b o.1 (longer_none false 4 no_sets o.0 b no_sets_open (c.1 ∙ ap (λ (l : List ℕ). 41 ∷ l) d.0) d.1))
      | inr c ↦ (
          let P = bind_parts set_format k o.0 b c in
          let S = set_sound P.front P.value P.is_front in
          longer_shaped t o.0 b o.1
          (longer_step false 3 no_sets P.value o.0 P.back b no_sets_open S.0 (P.whole ∙ ap (λ (l : List ℕ). l ++ P.back) S.1)
          (sets_sound 3 (push no_sets P.value) P.back b (open_push 3 no_sets P.value no_sets_open) P.is_back)))
    ]

none_rest : (b : Sets) → ShapedSets b.count b.words → Rest b.count no_sets b
unfolding no_sets
none_rest b S = record { count = omega arith; fill = fill_none 0 4 b.words S.all }

-- behind the opening bracket
list_rest : (n : ℕ) (b : Sets) → b.count ≡ n → ShapedSets b.count b.words
    → TextOf (alt 41 (done no_sets) (bind set_format (λ x. more_sets 3 (push no_sets x)))) (items false (map set_text (cells n 0 b.words)) ++ 41 ∷ []) b
unfolding gap_text no_sets push items cells
list_rest zero b e S =
    let R = none_rest b S in
    let none : Rest 0 no_sets b = subst (λ (n : ℕ). Rest n no_sets b) e R in
    subst (λ (c : Sets). TextOf (alt 41 (done no_sets) (bind set_format (λ x. more_sets 3 (push no_sets x)))) (41 ∷ []) c)
    (rest_none 4 no_sets b no_sets_open S none)
    (alt_left 41 (done no_sets) (bind set_format (λ x. more_sets 3 (push no_sets x))) [] no_sets (done_text no_sets))
list_rest (suc m) b e S =
    let k : ℕ → Format Sets = λ x. more_sets 3 (push no_sets x) in
    let x = get_or b.words 0 0 in
    let u = items true (map set_text (cells m 1 b.words)) ++ 41 ∷ [] in
    let R : Rest (suc m) no_sets b = subst (λ (n : ℕ). Rest n no_sets b) e (none_rest b S) in
    let all : length b.words ≡ 4 = S.all in
    let whole : items false (map set_text (cells (suc m) 0 b.words)) ++ 41 ∷ [] ≡ set_text x ++ u =
    ap (λ (ws : List ℕ). items false (map set_text ws) ++ 41 ∷ []) (part_cons m 0 b.words) ∙ item_text false (set_text x)
    (map set_text (cells m 1 b.words)) in
    let rest : TextOf (k x) u b = sets_complete 3 m (push no_sets x) b (open_push 3 no_sets x no_sets_open) S (rest_push 3 m no_sets b no_sets_open R) in
    subst (λ (l : List ℕ). TextOf (alt 41 (done no_sets) (bind set_format k)) l b) (sym whole)
    (alt_right 41 (done no_sets) (bind set_format k) (set_text x ++ u) b (opens_bind set_format k 41 set_node ∙ opens_set)
    (bind_text set_format k (set_text x) u x b (set_complete x (S.each 0)) rest) (bind_node set_format k set_node))

pub list_complete : (b : Sets) → ShapedSets b.count b.words → TextOf sets_format (sets_text b.count b.words) b
unfolding sets_format sets_text bracket
list_complete b S =
    lit_text 40 (alt 41 (done no_sets) (bind set_format (λ x. more_sets 3 (push no_sets x))))
    (items false (map set_text (cells b.count 0 b.words)) ++ 41 ∷ []) b
    (list_rest b.count b refl S)
