-- The sets in their two halves, and the sets of the board as those of the game.
--
--   server_first, server_second  : the set of a requirement is in the half that has it
--   servers_none                 : the sets of empty words
--   half_room                    : four sets in each half
--   few_sets_lem                     : few enough sets on the board
--   due_listed, served_listed    : a requirement of the board is due or served where that of the game is
--   marked_both, accepted_both   : what is told of each half, told of all requirements
use Prim.Native.Nat.{ℕ, ◌+◌, ◌-◌, ◌≤◌, ◌<◌}
use mathlib.Core.Path.{◌≡◌, refl, sym, ◌∙◌, ap, ap₂, subst}
use mathlib.Core.Bool.{Bool, true, false, not, ◌&&◌, ◌||◌}
use mathlib.Core.List.{List}
use native.Mathlib.Omega.{arith}
use native.Mathlib.Decide.{dec_lt}
use lib.ListN.{length, get_or, replicate, take, get_or-replicate}
use borrow.Author.Tests.{lt-ltb, le-ltb}
use Rattle.finite.specs.Bounded.{all}
use Rattle.finite.proofs.Truth.{same_test, and_intro, and_left, and_right}
use Rattle.finite.proofs.Bounded.{all_intro, all_elim}
use Rattle.bits.specs.Member.{has}
use Rattle.sets.specs.Words.{capacity, row_words, sets_in, set_count, words_for}
use Rattle.sets.proofs.Rows.{words_held, words_none, sets_words, sets_take}
use Rattle.game.specs.declared.Game.{Game}
use Rattle.game.specs.declared.Requirement.{Requirement}
use Rattle.board.specs.declared.Sizes.{Sizes}
use Rattle.board.specs.Board.{game_on}
use Rattle.board.proofs.Read.{requirement_on_lem}
use Rattle.region_dues.specs.Dues.{
  in_meets,
  out_meets,
  due_in,
  served_in,
  due_by,
  served_by,
  Few,
  FewSets,
  FirstFour,
  servers_at,
  Marked,
  admits_by,
  admits,
}

module _ (f s : List ℕ) where
  server_first : (r : ℕ) → r < 4 → get_or (sets_in f) r 0 ≡ servers_at f s r
  unfolding servers_at
  server_first r b = rw (lt-ltb r 4 b, servers_at) refl

  server_second : (r : ℕ) → 4 ≤ r → get_or (sets_in s) (r - 4) 0 ≡ servers_at f s r
  unfolding servers_at
  server_second r b = rw (le-ltb r 4 b, servers_at) refl

-- four empty sets, as the first of the rows of a graph without moves
none_in : sets_in (replicate (words_for 4) 0) ≡ replicate 4 0
none_in =
    sets_take (replicate row_words 0) 4 (words_held (replicate row_words 0) 4 (omega arith))
    ∙ ap (λ (l : List ℕ). take 4 l) (ap sets_in words_none ∙ sets_words (replicate capacity 0))

pub servers_none : (r : ℕ) → r < 8 → servers_at (replicate (words_for 4) 0) (replicate (words_for 4) 0) r ≡ 0
servers_none r b = go (dec_lt r 4)
  where
    none : List ℕ
    none = replicate (words_for 4) 0

    empty : (q : ℕ) → q < 4 → get_or (sets_in none) q 0 ≡ 0
    empty q l = ap (λ (x : List ℕ). get_or x q 0) none_in ∙ get_or-replicate 4 q 0 0 l

    go : Dec (r < 4) → servers_at none none r ≡ 0
    go (yes c) = sym (server_first none none r c) ∙ empty r c
    go (no c) = sym (server_second none none r (omega arith)) ∙ empty (r - 4) (omega arith)

pub half_room : (l : List ℕ) (n : ℕ) → length l ≡ words_for 4 → n ≤ 4 → n ≤ set_count l
half_room l n e b = omega (arith, words_held l 4 (omega (arith, e)))

-- ---- the requirements of the board

module _ (z : Sizes) (bd : List ℕ) (F : Few (game_on z bd)) where
  pub few_sets_lem : FewSets bd
  few_sets_lem = record {
    assumed = λ r b. subst (λ (q : Requirement). q.assumed ≤ 4) (requirement_on_lem bd z r b) (F.assumed r b);
    guaranteed = λ r b. subst (λ (q : Requirement). q.guaranteed ≤ 4) (requirement_on_lem bd z r b) (F.guaranteed r b);
  }

module _ (z : Sizes) (bd : List ℕ) where
  due_listed : (a r : ℕ) → r < 8 → due_by bd a r ≡ due_in (game_on z bd) a r
  unfolding due_by due_in
  due_listed a r b = sym (ap (λ (q : Requirement). in_meets q a q.assumed) (requirement_on_lem bd z r b))

  served_listed : (c r : ℕ) → r < 8 → served_by bd c r ≡ served_in (game_on z bd) c r
  unfolding served_by served_in
  served_listed c r b = sym (ap (λ (q : Requirement). out_meets q c q.guaranteed) (requirement_on_lem bd z r b))

-- ---- both halves

module _ (z : Sizes) (bd : List ℕ) (F : Few (game_on z bd)) {m : ℕ} (H : FirstFour z.requirements m) where
  abbrev g : Game
  g = game_on z bd

  pub marked_both : (c : ℕ) (x y v w : List ℕ) → Marked bd 0 m c (sets_in x) (sets_in v) → Marked bd 4 (g.k - m) c (sets_in y) (sets_in w)
      → (r : ℕ) → r < g.k → (t : ℕ) → has (servers_at v w r) t ≡ (has (servers_at x y r) t || (served_in g c r && has c t))
  marked_both c x y v w M N r b t = go (dec_lt r 4)
    where
      at : (i : ℕ) → i ≡ r → served_by bd c i ≡ served_in g c r
      at i e = ap (served_by bd c) e ∙ served_listed z bd c r (omega (arith, F.requirements))

      told : (p q : ℕ) (o : Bool) → p ≡ servers_at x y r → q ≡ servers_at v w r → o ≡ served_in g c r → has q t ≡ (has p t || (o && has c t))
          → has (servers_at v w r) t ≡ (has (servers_at x y r) t || (served_in g c r && has c t))
      told p q o e f k h =
          ap (λ (z : ℕ). has z t) (sym f) ∙ h ∙ ap₂ (λ (z : ℕ) (u : Bool). has z t || (u && has c t)) e k

      go : Dec (r < 4) → has (servers_at v w r) t ≡ (has (servers_at x y r) t || (served_in g c r && has c t))
      go (yes d) = told _ _ _ (server_first x y r d) (server_first v w r d) (at (0 + r) (omega arith)) (M.done r (H.first r b d) t)
      go (no d) =
          told _ _ _ (server_second x y r (omega arith)) (server_second v w r (omega arith)) (at (4 + (r - 4)) (omega arith))
          (N.done (r - 4) (omega (arith, H.most)) t)

  module _ (a : ℕ) (x y : List ℕ) (d : ℕ) where
    first_at : (r : ℕ) → r < 4 → admits_by bd 0 a (sets_in x) d r ≡ admits g a x y d r
    unfolding admits_by admits
    first_at r c = ap₂ (λ (u : Bool) (z : ℕ). not u || has z d) (ap (due_by bd a) same ∙ due_listed z bd a r (omega arith)) (server_first x y r c)
      where
        same : 0 + r ≡ r
        same = omega arith

    second_at : (q : ℕ) → 4 + q < g.k → admits_by bd 4 a (sets_in y) d q ≡ admits g a x y d (4 + q)
    unfolding admits_by admits
    second_at q b =
        ap₂ (λ (u : Bool) (z : ℕ). not u || has z d) (due_listed z bd a (4 + q) (omega (arith, F.requirements)))
        (ap (λ (j : ℕ). get_or (sets_in y) j 0) same ∙ server_second x y (4 + q) (omega arith))
      where
        same : q ≡ 4 + q - 4
        same = omega arith

    both : (all m (admits_by bd 0 a (sets_in x) d) && all (g.k - m) (admits_by bd 4 a (sets_in y) d)) ≡ all g.k (admits g a x y d)
    both =
        same_test (all m p && all (g.k - m) q) (all g.k (admits g a x y d))
        (λ h. all_intro g.k (admits g a x y d) (λ r b. to h r b (dec_lt r 4)))
        (λ h. and_intro
        (all_intro m p (λ r b. first_at r (omega (arith, H.most))
        ∙ all_elim g.k (admits g a x y d) h r (omega (arith, H.within))))
        (all_intro (g.k - m) q (λ r b. second_at r (H.second r b) ∙ all_elim g.k (admits g a x y d) h (4 + r) (H.second r b))))
      where
        p : ℕ → Bool
        p = admits_by bd 0 a (sets_in x) d

        q : ℕ → Bool
        q = admits_by bd 4 a (sets_in y) d

        to : (all m p && all (g.k - m) q) ≡ true → (r : ℕ) → r < g.k → Dec (r < 4) → admits g a x y d r ≡ true
        to h r b (yes c) = sym (first_at r c) ∙ all_elim m p (and_left (all m p) (all (g.k - m) q) h) r (H.first r b c)
        to h r b (no c) =
            ap (admits g a x y d) back
            ∙ sym (second_at (r - 4) (omega arith))
            ∙ all_elim (g.k - m) q (and_right (all m p) (all (g.k - m) q) h) (r - 4) (omega (arith, H.most))
          where
            back : r ≡ 4 + (r - 4)
            back = omega arith

  pub accepted_both : (a : ℕ) (x y : List ℕ) (u v w : ℕ)
      → ((d : ℕ) → has v d ≡ (has u d && all m (admits_by bd 0 a (sets_in x) d)))
      → ((d : ℕ) → has w d ≡ (has v d && all (g.k - m) (admits_by bd 4 a (sets_in y) d)))
      → (d : ℕ) → has w d ≡ (has u d && all g.k (admits g a x y d))
  accepted_both a x y u v w h k d =
      k d ∙ ap (λ (b : Bool). b && all (g.k - m) (admits_by bd 4 a (sets_in y) d)) (h d)
      ∙ assoc (has u d) (all m (admits_by bd 0 a (sets_in x) d)) (all (g.k - m) (admits_by bd 4 a (sets_in y) d))
      ∙ ap (λ (b : Bool). has u d && b) (both a x y d)
    where
      assoc : (b c e : Bool) → ((b && c) && e) ≡ (b && (c && e))
      assoc true c e = refl
      assoc false c e = refl
