-- Laws of lists of a game's sets.
--
--   room                              : the list has room for eight sets of each of eight requirements
--   Begun q r n x y                   == the list y is x with the first n input and output sets of q as those of requirement r
--   begun_none, begun_next, begun_all : the loop through the sets of a requirement
--   Upto qs n l                       == l has the sets of the first n of the requirements qs
--   upto_none, upto_next, upto_all    : the loop through the requirements
--   CountsUpto qs n a b               == a and b have the counts of the first n of the requirements qs
--   counts_none, counts_next, counts_all : as well
use Prim.Native.Nat.{ℕ, ◌+◌, ◌*◌, ◌≤◌, ◌<◌}
use mathlib.Core.Path.{◌≡◌, refl, ◌∙◌, sym, ap}
use mathlib.Core.Logic.{◌≢◌}
use mathlib.Core.List.{List}
use native.Mathlib.Omega.{arith}
use native.Mathlib.Decide.{ℕ_discrete}
use lib.ListN.{length, get_or, set}
use lib.Seq.{get_or-set_same, get_or-set_other}
use Rattle.sets.specs.Words.{bits_of, sets_in, set_count}
use Rattle.sets.proofs.Rows.{words_held, sets_long}
use Rattle.game.specs.declared.Requirement.{Requirement}
use Rattle.game.specs.declared.Game.{Game}
use Rattle.game.specs.Access.{no_input, no_output, no_requirement}
use Rattle.game_sets.specs.Lists.{list_words, in_set, out_set, Lists, Counts, SetsPut}

pub room : (l : List ℕ) → length l ≡ list_words → 8 * 8 ≤ set_count l
room l e = words_held l (8 * 8) (omega (arith, e))

-- one set written
module _ (l m : List ℕ) (s x : ℕ) (p : sets_in m ≡ set (sets_in l) s x) where
  at_place : length l ≡ list_words → s < 8 * 8 → get_or (sets_in m) s 0 ≡ x
  at_place e h = ap (λ (k : List ℕ). get_or k s 0) p ∙ get_or-set_same (sets_in l) s x 0 (omega (arith, room l e, sets_long l))

  at_others : (t : ℕ) → t ≢ s → get_or (sets_in m) t 0 ≡ get_or (sets_in l) t 0
  at_others t d = ap (λ (k : List ℕ). get_or k t 0) p ∙ get_or-set_other (sets_in l) s t x 0 d

pub record Begun (q : Requirement) (r n : ℕ) (x y : List ℕ) : Type 0 where
  pub long : length y ≡ length x
  pub inputs : (j : ℕ) → j < n → in_set y r j ≡ bits_of (get_or q.assumptions j no_input).0
  pub outputs : (j : ℕ) → j < n → out_set y r j ≡ bits_of (get_or q.guarantees j no_output).0
  pub others : (t j : ℕ) → t < 8 → j < 8 → t ≢ r → get_or (sets_in y) (8 * t + j) 0 ≡ get_or (sets_in x) (8 * t + j) 0

pub begun_none : (q : Requirement) (r : ℕ) (x : List ℕ) → Begun q r 0 x x
begun_none q r x = record { long = refl; inputs = λ j h. absurd (omega arith); outputs = λ j h. absurd (omega arith); others = λ t j a b d. refl }

module _ (q : Requirement) (r n : ℕ) (x y v w : List ℕ) (B : Begun q r n x y) (e : length y ≡ list_words) (a : r < 8) (b : n < 4)
    (p : sets_in v ≡ set (sets_in y) (8 * r + n) (bits_of (get_or q.assumptions n no_input).0)) (pl : length v ≡ length y)
    (o : sets_in w ≡ set (sets_in v) (8 * r + 4 + n) (bits_of (get_or q.guarantees n no_output).0)) (ol : length w ≡ length v) where
  first : (t : ℕ) → t ≢ 8 * r + n → get_or (sets_in v) t 0 ≡ get_or (sets_in y) t 0
  first = at_others y v (8 * r + n) _ p

  second : (t : ℕ) → t ≢ 8 * r + 4 + n → get_or (sets_in w) t 0 ≡ get_or (sets_in v) t 0
  second = at_others v w (8 * r + 4 + n) _ o

  inputs_next : (j : ℕ) → j < n + 1 → in_set w r j ≡ bits_of (get_or q.assumptions j no_input).0
  inputs_next j h = second (8 * r + j) (omega arith) ∙ at (ℕ_discrete j n)
    where
      at : Dec (j ≡ n) → in_set v r j ≡ bits_of (get_or q.assumptions j no_input).0
      at (yes i) = ap (λ (k : ℕ). in_set v r k) i ∙ at_place y v (8 * r + n) _ p e (omega arith)
          ∙ sym (ap (λ (k : ℕ). bits_of (get_or q.assumptions k no_input).0) i)
      at (no i) = first (8 * r + j) (λ z. i (omega arith)) ∙ B.inputs j (omega (arith, i))

  outputs_next : (j : ℕ) → j < n + 1 → out_set w r j ≡ bits_of (get_or q.guarantees j no_output).0
  outputs_next j h = at (ℕ_discrete j n)
    where
      at : Dec (j ≡ n) → out_set w r j ≡ bits_of (get_or q.guarantees j no_output).0
      at (yes i) = ap (λ (k : ℕ). out_set w r k) i ∙ at_place v w (8 * r + 4 + n) _ o (pl ∙ e) (omega arith)
          ∙ sym (ap (λ (k : ℕ). bits_of (get_or q.guarantees k no_output).0) i)
      at (no i) = second (8 * r + 4 + j) (λ z. i (omega arith)) ∙ first (8 * r + 4 + j) (omega arith) ∙ B.outputs j (omega (arith, i))

  pub begun_next : Begun q r (n + 1) x w
  begun_next = record {
    long = ol ∙ pl ∙ B.long;
    inputs = inputs_next;
    outputs = outputs_next;
    others = λ t j c d f. second (8 * t + j) (λ z. f (omega arith)) ∙ first (8 * t + j) (λ z. f (omega arith)) ∙ B.others t j c d f;
  }

pub begun_all : (q : Requirement) (r n : ℕ) (x y : List ℕ) → 4 ≤ n → Begun q r n x y → SetsPut q r x y
begun_all q r n x y h B = record {
  long = B.long;
  inputs = λ j k. B.inputs j (omega arith);
  outputs = λ j k. B.outputs j (omega arith);
  others = B.others;
}

-- requirement number r of an array of them
abbrev nth : List Requirement → ℕ → Requirement
nth qs r = get_or qs r no_requirement

pub record Upto (qs : List Requirement) (n : ℕ) (l : List ℕ) : Type 0 where
  pub assumed : (r j : ℕ) → r < n → j < 4 → in_set l r j ≡ bits_of (get_or (nth qs r).assumptions j no_input).0
  pub guaranteed : (r j : ℕ) → r < n → j < 4 → out_set l r j ≡ bits_of (get_or (nth qs r).guarantees j no_output).0

pub upto_none : (qs : List Requirement) (l : List ℕ) → Upto qs 0 l
upto_none qs l = record { assumed = λ r j h. absurd (omega arith); guaranteed = λ r j h. absurd (omega arith) }

pub upto_next : (qs : List Requirement) (n : ℕ) (l m : List ℕ) → n < 8 → Upto qs n l → SetsPut (nth qs n) n l m → Upto qs (n + 1) m
upto_next qs n l m b U P = record {
  assumed = λ r j h k. ins r j h k (ℕ_discrete r n);
  guaranteed = λ r j h k. outs r j h k (ℕ_discrete r n);
}
  where
    ins : (r j : ℕ) → r < n + 1 → j < 4 → Dec (r ≡ n) → in_set m r j ≡ bits_of (get_or (nth qs r).assumptions j no_input).0
    ins r j h k (yes i) = ap (λ (t : ℕ). in_set m t j) i ∙ P.inputs j k ∙ sym (ap (λ (t : ℕ). bits_of (get_or (nth qs t).assumptions j no_input).0) i)
    ins r j h k (no i) = P.others r j (omega (arith, i)) (omega arith) i ∙ U.assumed r j (omega (arith, i)) k

    outs : (r j : ℕ) → r < n + 1 → j < 4 → Dec (r ≡ n) → out_set m r j ≡ bits_of (get_or (nth qs r).guarantees j no_output).0
    outs r j h k (yes i) = ap (λ (t : ℕ). out_set m t j) i ∙ P.outputs j k ∙ sym (ap (λ (t : ℕ). bits_of (get_or (nth qs t).guarantees j no_output).0) i)
    outs r j h k (no i) = ap (λ (t : ℕ). get_or (sets_in m) t 0) place ∙ P.others r (4 + j) (omega (arith, i)) (omega arith) i
        ∙ ap (λ (t : ℕ). get_or (sets_in l) t 0) (sym place) ∙ U.guaranteed r j (omega (arith, i)) k
      where
        place : 8 * r + 4 + j ≡ 8 * r + (4 + j)
        place = omega arith

pub upto_all : (g : Game) (n : ℕ) (l : List ℕ) → length l ≡ list_words → 8 ≤ n → Upto g.requirements n l → Lists g l
upto_all g n l e h U =
    record { long = e; assumed = λ r j a. U.assumed r j (omega arith); guaranteed = λ r j a. U.guaranteed r j (omega arith) }

pub record CountsUpto (qs : List Requirement) (n : ℕ) (a b : List ℕ) : Type 0 where
  pub assumed : (r : ℕ) → r < n → get_or a r 0 ≡ (nth qs r).assumed
  pub guaranteed : (r : ℕ) → r < n → get_or b r 0 ≡ (nth qs r).guaranteed

pub counts_none : (qs : List Requirement) (a b : List ℕ) → CountsUpto qs 0 a b
counts_none qs a b = record { assumed = λ r h. absurd (omega arith); guaranteed = λ r h. absurd (omega arith) }

-- one count more in a list
more : (l : List ℕ) (n c r : ℕ) (f : ℕ → ℕ) → n < length l → ((t : ℕ) → t < n → get_or l t 0 ≡ f t) → c ≡ f n → r < n + 1 → get_or (set l n c) r 0 ≡ f r
more l n c r f h U e k = at (ℕ_discrete r n)
  where
    at : Dec (r ≡ n) → get_or (set l n c) r 0 ≡ f r
    at (yes i) = ap (λ (t : ℕ). get_or (set l n c) t 0) i ∙ get_or-set_same l n c 0 h ∙ e ∙ sym (ap f i)
    at (no i) = get_or-set_other l n r c 0 i ∙ U r (omega (arith, i))

pub counts_next : (qs : List Requirement) (n : ℕ) (a b : List ℕ) → n < length a → n < length b → CountsUpto qs n a b
    → CountsUpto qs (n + 1) (set a n (nth qs n).assumed) (set b n (nth qs n).guaranteed)
counts_next qs n a b h k U = record {
  assumed = λ r. more a n _ r (λ t. (nth qs t).assumed) h U.assumed refl;
  guaranteed = λ r. more b n _ r (λ t. (nth qs t).guaranteed) k U.guaranteed refl;
}

pub counts_all : (g : Game) (n : ℕ) (a b : List ℕ) → 8 ≤ n → CountsUpto g.requirements n a b → Counts g a b
counts_all g n a b h U = record {
  assumed = record { at = λ r c. U.assumed r (omega arith) };
  guaranteed = record { at = λ r c. U.guaranteed r (omega arith) };
}
