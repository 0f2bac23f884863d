-- The moves that the first commands make, one command after the other.
--
--   graph_next, graph_made    : the rows of one mode more, and the graph of all modes
--   made_none, made_in, made_past, made_all    : command u adds the mode that it leads to, where that is one
use Prim.Native.Nat.{ℕ, ◌+◌, ◌≤◌, ◌<◌}
use mathlib.Core.Path.{◌≡◌, refl, sym, ◌∙◌, ap}
use mathlib.Core.Bool.{Bool, false, ◌&&◌, ◌||◌}
use mathlib.Core.List.{List, ◌++◌, append-nil}
use native.Mathlib.Omega.{arith}
use native.Mathlib.Decide.{ℕ_discrete}
use native.Mathlib.Numerals.{add-one}
use lib.Dec.{eqb, ltb}
use lib.ListN.{drop, replicate}
use borrow.Author.Tests.{lt-ltb, eq-eqb, ne_eqb}
use Rattle.finite.specs.Bounded.{any}
use Rattle.finite.proofs.Truth.{and_intro, or_left, or_right, and_false_right, or_none}
use Rattle.bits.specs.Member.{has, pack}
use Rattle.bits.proofs.Membership.{ext, has_zero_lem, has_pack, pack_ext}
use Rattle.sets.specs.Words.{capacity, words_of, put_set}
use Rattle.sets.proofs.Rows.{words_put}
use Rattle.graphs.proofs.Front.{rows_next}
use Rattle.graphs.specs.Rows.{rows_of}
use Rattle.game.specs.declared.Graph.{Graph}
use Rattle.kit_drives.specs.declared.Drive.{Drive}
use Rattle.kit_drives.specs.Drive.{next_in, made_by, graph_from}

module _ (n : List ℕ) (modes m : ℕ) where
  pub made_none : 0 ≡ pack modes (made_by n 0 m)
  unfolding made_by any
  made_none = ext 0 (pack modes (λ t. false)) (λ s. has_zero_lem s ∙ sym (has_pack modes (λ t. false) s ∙ and_false_right (ltb s modes) refl))

  -- one command more
  more : (u t : ℕ) → made_by n (u + 1) m t ≡ (eqb (next_in n m u) t || made_by n u m t)
  unfolding made_by any
  more u t = rw add-one refl

  pub made_in : (u x r t : ℕ) → x ≡ pack modes (made_by n u m) → t ≡ next_in n m u → t < modes → ((s : ℕ) → has r s ≡ (has x s || eqb s t))
      → r ≡ pack modes (made_by n (u + 1) m)
  made_in u x r t e d b f =
      ext r (pack modes (made_by n (u + 1) m)) (λ s. f s ∙ at s (ℕ_discrete s t) ∙ sym
      (has_pack modes (made_by n (u + 1) m) s ∙ ap (◌&&◌ (ltb s modes)) (more u s)))
    where
      at : (s : ℕ) → Dec (s ≡ t) → (has x s || eqb s t) ≡ (ltb s modes && (eqb (next_in n m u) s || made_by n u m s))
      at s (yes q) = or_right (has x s) (eq-eqb s t q) ∙ sym
          (and_intro (lt-ltb s modes (omega arith)) (or_left (made_by n u m s) (eq-eqb (next_in n m u) s (sym d ∙ sym q))))
      at s (no q) =
          rw (ne_eqb s t q, ne_eqb (next_in n m u) s (λ h. q (sym h ∙ sym d)))
          (or_none (has x s) refl ∙ ap (λ (y : ℕ). has y s) e ∙ has_pack modes (made_by n u m) s)

  pub made_past : (u x t : ℕ) → x ≡ pack modes (made_by n u m) → t ≡ next_in n m u → modes ≤ t → x ≡ pack modes (made_by n (u + 1) m)
  made_past u x t e d b =
      e ∙ pack_ext modes (made_by n u m) (made_by n (u + 1) m)
      (λ s l. sym (more u s ∙ ap (λ (y : Bool). y || made_by n u m s) (ne_eqb (next_in n m u) s (λ h. omega arith))))

  pub made_all : (u c x : ℕ) → u ≤ c → c ≤ u → x ≡ pack modes (made_by n u m) → x ≡ pack modes (made_by n c m)
  made_all u c x a b e = e ∙ ap (λ (k : ℕ). pack modes (made_by n k m)) (omega arith)

-- the rows of all modes
pub graph_made : (d : Drive) (moves : List ℕ) (m : ℕ) → m ≤ capacity → capacity ≤ m
    → moves ≡ words_of (rows_of m d.modes (made_by d.next d.commands) ++ drop m (replicate capacity 0))
    → ◌≡◌ {A = Graph} (record { states = d.modes; initial = d.initial; moves = moves }) (graph_from d)
unfolding graph_from
graph_made d moves m a b e =
    let rows : ℕ → List ℕ = λ k. rows_of k d.modes (made_by d.next d.commands) in
    let all : m ≡ capacity = omega arith in
    ap (λ (x : List ℕ). record { states = d.modes; initial = d.initial; moves = x })
    (e ∙ ap (λ (k : ℕ). words_of (rows k ++ drop k (replicate capacity 0))) all ∙ ap words_of (append-nil (rows capacity)))

-- one mode more
pub graph_next : (n : List ℕ) (modes c : ℕ) (moves after : List ℕ) (m x : ℕ) → m < capacity
    → moves ≡ words_of (rows_of m modes (made_by n c) ++ drop m (replicate capacity 0))
    → x ≡ pack modes (made_by n c m) → after ≡ put_set moves m x
    → after ≡ words_of (rows_of (m + 1) modes (made_by n c) ++ drop (m + 1) (replicate capacity 0))
graph_next n modes c moves after m x l e f g =
    g ∙ ap (λ (y : List ℕ). put_set y m x) e ∙ words_put _ m x ∙ ap words_of (rows_next _ _ _ m l refl f)
