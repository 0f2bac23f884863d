-- Laws of marks and turns.
--
--   marked_is, marked_not                  : an entry's mark
--   marked_more, marked_new, marked_old    : one mark more
--   unmarked_left, unmarked-other          : one mark less
--   enters_both                            : a turn to a marked place
--   enters_here                            : the row of a move leads to what is entered
--   enters_move, enters_row, enters_in     : what a turn that enters a place says
use Prim.Native.Nat.{ℕ, ◌+◌, ◌*◌, ◌/◌, ◌%◌, ◌<◌}
use native.Mathlib.Nat.{mod-lt}
use mathlib.Core.Path.{◌≡◌, sym, ◌∙◌, ap}
use mathlib.Core.Bool.{Bool, true, false, ◌||◌}
use mathlib.Core.List.{List}
use mathlib.Core.Logic.{◌≢◌}
use native.Mathlib.Decide.{ℕ_discrete}
use lib.Dec.{eqb}
use lib.ListN.{length, get_or, set}
use lib.Seq.{get_or-set_same, get_or-set_other}
use borrow.Author.Tests.{eqb-true, eq-eqb, ne_eqb}
use Rattle.finite.proofs.Truth.{and_intro, and_left, and_right, or_left, or_right, or_none, clash}
use Rattle.bits.specs.Member.{has}
use Rattle.sets.specs.Words.{sets_in}
use Rattle.checker_search.specs.Turns.{marked, follows, enters, Grid}

pub marked_is : (l : List ℕ) (a : ℕ) → get_or l a 0 ≡ 1 → marked l a ≡ true
unfolding marked
marked_is l a e = eq-eqb (get_or l a 0) 1 e

pub marked_not : (l : List ℕ) (a : ℕ) → get_or l a 0 ≢ 1 → marked l a ≡ false
unfolding marked
marked_not l a d = ne_eqb (get_or l a 0) 1 d

module _ (l : List ℕ) (a : ℕ) (b : a < length l) where
  pub marked_new : marked (set l a 1) a ≡ true
  unfolding marked
  marked_new = eq-eqb (get_or (set l a 1) a 0) 1 (get_or-set_same l a 1 0 b)

  pub marked_other : (v k : ℕ) → k ≢ a → marked (set l a v) k ≡ marked l k
  unfolding marked
  marked_other v k d = ap (λ (x : ℕ). eqb x 1) (get_or-set_other l a k v 0 d)

  pub marked_more : (k : ℕ) → marked (set l a 1) k ≡ (marked l k || eqb k a)
  marked_more k =
      elim (ℕ_discrete k a) [
        | yes e ↦ ap (marked (set l a 1)) e ∙ marked_new ∙ sym (or_right (marked l k) (eq-eqb k a e))
        | no d ↦ marked_other 1 k d ∙ sym (or_none (marked l k) (ne_eqb k a d))
      ]

  pub marked_old : (k : ℕ) → marked l k ≡ true → marked (set l a 1) k ≡ true
  marked_old k h = marked_more k ∙ or_left (eqb k a) h

  pub unmarked_here : marked (set l a 0) a ≡ false
  unfolding marked
  unmarked_here = ap (λ (x : ℕ). eqb x 1) (get_or-set_same l a 0 0 b)

  -- what is still marked was so before, and is another
  pub unmarked_left : (k : ℕ) → marked (set l a 0) k ≡ true → (k ≢ a) × (marked l k ≡ true)
  unmarked_left k h =
      elim (ℕ_discrete k a) [
        | yes e ↦ clash h (ap (marked (set l a 0)) e ∙ unmarked_here)
        | no d ↦ (d, sym (marked_other 0 k d) ∙ h)
      ]

module _ (I N : ℕ) (rows to X : List ℕ) where
  pub enters_here : Grid I N rows to → (c j : ℕ) → c < N → has (get_or (sets_in rows) (c % I) 0) j ≡ true → get_or to (c / I * I + j) 0 < N
      → marked X (get_or to (c / I * I + j) 0) ≡ true → enters I rows to X c (get_or to (c / I * I + j) 0) ≡ true
  unfolding enters follows
  enters_here G c j b m l x =
      let d : ℕ = get_or to (c / I * I + j) 0 in
      let i : j < I = G.move (c % I) j (mod-lt c G.some) m in
      let e : d % I ≡ j = G.input c j b i l in
      and_intro
      (and_intro (ap (has (get_or (sets_in rows) (c % I) 0)) e ∙ m)
      (eq-eqb (get_or to (c / I * I + d % I) 0) d (ap (λ (y : ℕ). get_or to (c / I * I + y) 0) e)))
      x

  pub enters_both : (c d : ℕ) → follows I rows to c d ≡ true → marked X d ≡ true → enters I rows to X c d ≡ true
  unfolding enters
  enters_both c d h x = and_intro h x

  module _ (c d : ℕ) (h : enters I rows to X c d ≡ true) where
    abbrev moves : Bool
    moves = has (get_or (sets_in rows) (c % I) 0) (d % I)

    abbrev leads : Bool
    leads = eqb (get_or to (c / I * I + d % I) 0) d

    pub enters_follows : follows I rows to c d ≡ true
    unfolding enters
    enters_follows = and_left (follows I rows to c d) (marked X d) h

    pub enters_move : has (get_or (sets_in rows) (c % I) 0) (d % I) ≡ true
    unfolding follows
    enters_move = and_left moves leads enters_follows

    pub enters_row : get_or to (c / I * I + d % I) 0 ≡ d
    unfolding follows
    enters_row = eqb-true (get_or to (c / I * I + d % I) 0) d (and_right moves leads enters_follows)

    pub enters_in : marked X d ≡ true
    unfolding enters
    enters_in = and_right (follows I rows to c d) (marked X d) h
