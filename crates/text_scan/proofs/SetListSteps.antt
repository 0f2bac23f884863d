-- Lists of sets and requirements, piece by piece.
use Prim.Native.Nat.{ℕ, zero, suc, ◌+◌, ◌-◌, ◌<◌}
use native.Mathlib.Omega.{arith}
use native.Mathlib.Numerals.{add-one}
use mathlib.Core.List.{List, [], ◌∷◌, map}
use mathlib.Core.Path.{◌≡◌, refl, sym, ◌∙◌, ap}
use lib.ListN.{length, set, replicate, length-map}
use Rattle.std.specs.Prelude.{Ok}
use Rattle.sets.specs.declared.Set.{Set}
use Rattle.sets.specs.Words.{bits_of, set_of}
use Rattle.sets.proofs.Rows.{bits_of_lem}
use Rattle.text_grammar.specs.Format.{Run, run, alt, bind, chars}
use Rattle.text_grammar.specs.Format.Format.{done}
use Rattle.text_grammar.specs.Format.Run.{got, fault}
use Rattle.text_shape.proofs.SetLists.{list_sound}
use Rattle.text_grammar.proofs.Format.{run_got, run_done, run_lit_fault, run_alt_left, run_alt_right, lit_node, bind_node}
use Rattle.game.specs.declared.InSet.{InSet}
use Rattle.game.specs.declared.OutSet.{OutSet}
use Rattle.text_shape.specs.Shape.{set_format, Sets, no_sets, push, more_sets, sets_format, opening, requirement, guarantees_format, requirement_format}
use Rattle.text_shape.specs.Text.{in_sets, out_sets}
use Rattle.text_scan.specs.Scan.{numbers_of, sets_with, list_of, sets_of}
use Rattle.text_pieces.specs.declared.Found.{Found}
use Rattle.text_pieces.proofs.Outcomes.{found_got, got_found}
use Rattle.text_scan.specs.declared.set_lists.SetList.{SetList}
use Rattle.text_shape.proofs.Members.{set_node}
use Rattle.text_pieces.proofs.Steps.{lit_got, lit_on, bind_got, bind_fault}

-- sets and their numbers
bits_all : (ns : List ℕ) → numbers_of (sets_with ns) ≡ ns
bits_all [] = refl
bits_all (x ∷ ns) = λ i. bits_of_lem x i ∷ bits_all ns i

-- one set among others
map_set : {A B : Type 0} (f : A → B) (l : List A) (i : ℕ) (x : A) → map f (set l i x) ≡ set (map f l) i (f x)
map_set f [] i x = refl
map_set f (y ∷ l) zero x = refl
map_set f (y ∷ l) (suc i) x = ap (λ k. f y ∷ k) (map_set f l i x)

pub set_whole : (l : List Set) (i : ℕ) (x : Set) → sets_with (numbers_of l) ≡ l → set_of (bits_of x) ≡ x → sets_with (numbers_of (set l i x)) ≡ set l i x
set_whole l i x h e = ap sets_with (map_set bits_of l i x) ∙ map_set set_of (numbers_of l) i (bits_of x) ∙ (λ n. set (h n) i (e n))

pub first_whole : (x y : Set) → set_of (bits_of x) ≡ x → set_of (bits_of y) ≡ y → sets_with (numbers_of (x ∷ y ∷ y ∷ y ∷ [])) ≡ x ∷ y ∷ y ∷ y ∷ []
first_whole x y p q = λ i. p i ∷ q i ∷ q i ∷ q i ∷ []

pub empty_whole : (x : Set) → set_of (bits_of x) ≡ x → sets_with (numbers_of (replicate 4 x)) ≡ replicate 4 x
empty_whole x p = first_whole x x p p

-- a list with the numbers of its sets
pub list_got : {x : Run Sets} {l : List Set} {n j : ℕ} → sets_with (numbers_of l) ≡ l → x ≡ got (record { words = numbers_of l; count = n }) j
    → Ok (record { value = record { sets = l; count = n }; end = j }) ≡ sets_of x
list_got {n = n} {j = j} h e =
    ap (λ (k : List Set). Ok (record { value = record { sets = k; count = n }; end = j })) (sym h) ∙ found_got list_of e

-- a list that is read: its sets, and that they are those with their numbers
pub got_list : (x : Run Sets) {r : Found SetList} → Ok r ≡ sets_of x
    → (x ≡ got (record { words = numbers_of r.value.sets; count = r.value.count }) r.end) × (sets_with (numbers_of r.value.sets) ≡ r.value.sets)
got_list x {r} h =
    let g = got_found list_of x h in
    let made : sets_with g.0.words ≡ r.value.sets = ap (λ (y : SetList). y.sets) g.2 in
    let count : g.0.count ≡ r.value.count = ap (λ (y : SetList). y.count) g.2 in
    let numbers : g.0.words ≡ numbers_of r.value.sets = sym (bits_all g.0.words) ∙ ap numbers_of made in
    (g.1 ∙ (λ n. got (record { words = numbers n; count = count n }) r.end), ap sets_with (sym numbers) ∙ made)

-- behind a set
module _ (x : Run Sets) (n : ℕ) (a : Sets) (w : ℕ → ℕ) (at : ℕ) (e : x ≡ run (more_sets n a) w at) where
  pub sets_closed : w at ≡ 41 → x ≡ got a (at + 1)
  unfolding more_sets
  sets_closed h = go n e
    where
      go : (m : ℕ) → x ≡ run (more_sets m a) w at → x ≡ got a (at + 1)
      go zero f = f ∙ lit_got 41 a w at h
      go (suc m) f = f ∙ run_alt_left 41 (done a) _ w at h ∙ run_done a w (suc at) ∙ ap (got a) (sym (add-one at))

  pub sets_wrong : (w at ≡ 41 → ⊥) → (w at ≡ 32 → ⊥) → x ≡ fault at
  unfolding more_sets
  sets_wrong h g = go n e
    where
      go : (m : ℕ) → x ≡ run (more_sets m a) w at → x ≡ fault at
      go zero f = f ∙ run_lit_fault 41 (done a) w at h
      go (suc m) f = f ∙ run_alt_right 41 (done a) _ w at h (lit_node 32 _) ∙ run_lit_fault 32 _ w at g

  pub sets_full : n ≡ 0 → (w at ≡ 41 → ⊥) → x ≡ fault at
  unfolding more_sets
  sets_full z h = go n z e
    where
      go : (m : ℕ) → m ≡ 0 → x ≡ run (more_sets m a) w at → x ≡ fault at
      go zero z f = f ∙ run_lit_fault 41 (done a) w at h
      go (suc m) z f = absurd (omega arith)

  pub sets_bad : 0 < n → w at ≡ 32 → (p : ℕ) → run set_format w (at + 1) ≡ fault p → x ≡ fault p
  unfolding more_sets
  sets_bad l h p g = go n l e
    where
      go : (m : ℕ) → 0 < m → x ≡ run (more_sets m a) w at → x ≡ fault p
      go zero l f = absurd (omega arith)
      go (suc m) l f =
          f ∙ run_alt_right 41 (done a) _ w at (λ (z : w at ≡ 41). omega arith) (lit_node 32 _)
          ∙ lit_on 32 (bind set_format (λ y. more_sets m (push a y))) w at h ∙ bind_fault set_format (λ y. more_sets m (push a y)) w (at + 1) p g

  sets_next : 0 < n → w at ≡ 32 → (y j : ℕ) → run set_format w (at + 1) ≡ got y j → x ≡ run (more_sets (n - 1) (push a y)) w j
  unfolding more_sets
  sets_next l h y j g = go n l e
    where
      less : (m : ℕ) → m ≡ suc m - 1
      less m = omega arith

      go : (m : ℕ) → 0 < m → x ≡ run (more_sets m a) w at → x ≡ run (more_sets (m - 1) (push a y)) w j
      go zero l f = absurd (omega arith)
      go (suc m) l f =
          f ∙ run_alt_right 41 (done a) _ w at (λ (z : w at ≡ 41). omega arith) (lit_node 32 _)
          ∙ lit_on 32 (bind set_format (λ z. more_sets m (push a z))) w at h ∙ bind_got set_format (λ z. more_sets m (push a z)) w (at + 1) y j g
          ∙ ap (λ (k : ℕ). run (more_sets k (push a y)) w j) (less m)

pub sets_turn : (x : Run Sets) (l : List Set) (count : ℕ) (w : ℕ → ℕ) (at : ℕ)
    → x ≡ run (more_sets (4 - count) (record { words = numbers_of l; count = count })) w at
    → count < 4 → w at ≡ 32 → (y : Set) (j : ℕ) → run set_format w (at + 1) ≡ got (bits_of y) j
    → x ≡ run (more_sets (4 - (count + 1)) (record { words = numbers_of (set l count y); count = count + 1 })) w j
unfolding push
sets_turn x l count w at e less h y j g =
    let fewer : 4 - count - 1 ≡ 4 - (count + 1) = omega arith in
    sets_next x (4 - count) (record { words = numbers_of l; count = count }) w at e (omega arith) h (bits_of y) j g
    ∙ ap (λ (m : ℕ). run (more_sets m (record { words = set (numbers_of l) count (bits_of y); count = suc count })) w j) fewer
    ∙ (λ i. run (more_sets (4 - (count + 1)) (record { words = sym (map_set bits_of l count y) i; count = sym (add-one count) i })) w j)

-- four sets
pub sets_last : (x : Run Sets) (ws : List ℕ) (count : ℕ) (w : ℕ → ℕ) (at : ℕ)
    → x ≡ run (more_sets (4 - count) (record { words = ws; count = count })) w at
    → count ≡ 4 → w at ≡ 41 → x ≡ got (record { words = ws; count = 4 }) (at + 1)
sets_last x ws count w at e full h =
    sets_closed x (4 - count) (record { words = ws; count = count }) w at e h ∙ ap (λ (n : ℕ). got (record { words = ws; count = n }) (at + 1)) full

pub sets_first : (x y : Set) (w : ℕ → ℕ) (i : ℕ) → bits_of y ≡ 0
    → run (more_sets 3 (push no_sets (bits_of x))) w i ≡ run (more_sets (4 - 1) (record { words = numbers_of (x ∷ y ∷ y ∷ y ∷ []); count = 1 })) w i
unfolding push no_sets
sets_first x y w i e =
    λ n. run (more_sets 3 (record { words = bits_of x ∷ sym e n ∷ sym e n ∷ sym e n ∷ []; count = 1 })) w i

-- the whole list
module _ (w : ℕ → ℕ) (i : ℕ) where
  pub list_closed : (w i ≡ 40 → ⊥) → run sets_format w i ≡ fault i
  unfolding sets_format
  list_closed h = run_lit_fault 40 _ w i h

  module _ (h : w i ≡ 40) where
    list_open : run sets_format w i ≡ run (alt 41 (done no_sets) (bind set_format (λ x. more_sets 3 (push no_sets x)))) w (i + 1)
    unfolding sets_format
    list_open = lit_on 40 (alt 41 (done no_sets) (bind set_format (λ x. more_sets 3 (push no_sets x)))) w i h

    pub list_empty : w (i + 1) ≡ 41 → (y : Set) → bits_of y ≡ 0
        → run sets_format w i ≡ got (record { words = numbers_of (replicate 4 y); count = 0 }) (i + 1 + 1)
    unfolding no_sets
    list_empty g y e =
        list_open ∙ run_alt_left 41 (done no_sets) _ w (i + 1) g ∙ run_done no_sets w (suc (i + 1)) ∙ ap (got no_sets) (sym (add-one (i + 1)))
        ∙ (λ n. got (record { words = replicate 4 (sym e n); count = 0 }) (i + 1 + 1))

    pub list_bad : (w (i + 1) ≡ 41 → ⊥) → (p : ℕ) → run set_format w (i + 1) ≡ fault p → run sets_format w i ≡ fault p
    list_bad g p f =
        list_open ∙ run_alt_right 41 (done no_sets) (bind set_format (λ x. more_sets 3 (push no_sets x))) w (i + 1) g (bind_node set_format _ set_node)
        ∙ bind_fault set_format (λ x. more_sets 3 (push no_sets x)) w (i + 1) p f

    pub list_on : (w (i + 1) ≡ 41 → ⊥) → (x j : ℕ) → run set_format w (i + 1) ≡ got x j → run sets_format w i ≡ run (more_sets 3 (push no_sets x)) w j
    list_on g x j f =
        list_open ∙ run_alt_right 41 (done no_sets) (bind set_format (λ x. more_sets 3 (push no_sets x))) w (i + 1) g (bind_node set_format _ set_node)
        ∙ bind_got set_format (λ x. more_sets 3 (push no_sets x)) w (i + 1) x j f

-- a list that is read has four places
pub list_four : (w : ℕ → ℕ) (i : ℕ) {r : Found SetList} → Ok r ≡ sets_of (run sets_format w i)
    → (length r.value.sets ≡ 4) × (sets_with (numbers_of r.value.sets) ≡ r.value.sets)
list_four w i {r} h =
    let read = got_list (run sets_format w i) h in
    let F = run_got sets_format w i read.0 in
    let S = (list_sound F.text (record { words = numbers_of r.value.sets; count = r.value.count }) F.is_text).0 in
    (sym (length-map r.value.sets bits_of) ∙ S.all, read.1)

-- requirements
module _ (a : Sets) (w : ℕ → ℕ) (i : ℕ) where
  pub if_no_blank : (w i ≡ 32 → ⊥) → run (guarantees_format a) w i ≡ fault i
  unfolding guarantees_format chars
  if_no_blank h = bind_fault (chars (32 ∷ [])) _ w i i (run_lit_fault 32 (done tt) w i h)

  module _ (h : w i ≡ 32) where
    if_open : run (guarantees_format a) w i ≡ run (bind sets_format (λ b. bind (chars (41 ∷ 10 ∷ [])) (λ _. done (requirement a b)))) w (i + 1)
    unfolding guarantees_format chars
    if_open =
        bind_got (chars (32 ∷ [])) (λ _. bind sets_format (λ b. bind (chars (41 ∷ 10 ∷ [])) (λ _. done (requirement a b)))) w i tt (i + 1) (lit_got 32 tt w i h)

    pub if_no_list : (p : ℕ) → run sets_format w (i + 1) ≡ fault p → run (guarantees_format a) w i ≡ fault p
    if_no_list p e = if_open ∙ bind_fault sets_format _ w (i + 1) p e

    module _ (b : Sets) (j : ℕ) (e : run sets_format w (i + 1) ≡ got b j) where
      pub if_no_end : (p : ℕ) → run (chars (41 ∷ 10 ∷ [])) w j ≡ fault p → run (guarantees_format a) w i ≡ fault p
      if_no_end p f = if_open ∙ bind_got sets_format _ w (i + 1) b j e ∙ bind_fault (chars (41 ∷ 10 ∷ [])) _ w j p f

      pub if_got : (m : ℕ) → run (chars (41 ∷ 10 ∷ [])) w j ≡ got tt m → (x : List InSet) (y : List OutSet) → x ≡ in_sets a.words → y ≡ out_sets b.words
          → run (guarantees_format a) w i ≡ got (record { assumptions = x; assumed = a.count; guarantees = y; guaranteed = b.count }) m
      unfolding requirement
      if_got m f x y p q =
          if_open ∙ bind_got sets_format _ w (i + 1) b j e ∙ bind_got (chars (41 ∷ 10 ∷ [])) _ w j tt m f ∙ run_done (requirement a b) w m
          ∙ (λ n. got (record { assumptions = sym p n; assumed = a.count; guarantees = sym q n; guaranteed = b.count }) m)

module _ (w : ℕ → ℕ) (i : ℕ) where
  pub if_no_word : (p : ℕ) → run (chars (opening 3)) w i ≡ fault p → run requirement_format w i ≡ fault p
  unfolding requirement_format
  if_no_word p e = bind_fault (chars (opening 3)) _ w i p e

  module _ (j : ℕ) (e : run (chars (opening 3)) w i ≡ got tt j) where
    pub if_no_first : (p : ℕ) → run sets_format w j ≡ fault p → run requirement_format w i ≡ fault p
    unfolding requirement_format
    if_no_first p f = bind_got (chars (opening 3)) _ w i tt j e ∙ bind_fault sets_format _ w j p f

    pub if_on : (a : Sets) (m : ℕ) → run sets_format w j ≡ got a m → run requirement_format w i ≡ run (guarantees_format a) w m
    unfolding requirement_format
    if_on a m f = bind_got (chars (opening 3)) _ w i tt j e ∙ bind_got sets_format _ w j a m f
