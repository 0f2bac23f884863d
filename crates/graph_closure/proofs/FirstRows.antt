-- The rows before the first sweep: each state with its moves.
use Prim.Native.Nat.{ℕ, ◌≤◌, ◌<◌}
use mathlib.Core.Path.{◌≡◌, refl, sym, ◌∙◌, ap}
use mathlib.Core.Bool.{Bool, true, false, ◌&&◌, ◌||◌}
use mathlib.Core.List.{List, ◌++◌}
use native.Mathlib.Decide.{ℕ_discrete}
use native.Mathlib.Omega.{arith}
use lib.Dec.{eqb, ltb}
use lib.ListN.{length, get_or, drop}
use borrow.Author.Tests.{eq-eqb, ne_eqb, lt-ltb}
use Rattle.finite.proofs.Truth.{and_intro, or_left, or_right}
use Rattle.sets.specs.Words.{sets_in}
use Rattle.bits.specs.Member.{has, pack}
use Rattle.bits.proofs.Membership.{has_pack, ext}
use Rattle.graphs.specs.Graph.{edge}
use Rattle.graphs.specs.Rows.{rows_of}
use Rattle.graphs.specs.Closure.{nearby}
use Rattle.game.specs.declared.Graph.{Graph}
use Rattle.play.specs.Play.{graph_of}
use Rattle.graph_closure.specs.Sweep.{first_rows}
use Rattle.graphs.proofs.Front.{rows_length, rows_rest}

-- row s: `(moves & below(n)) | (1 << s)`
pub first_word : (h : Graph) (s below moved r : ℕ) → s < h.states → ((t : ℕ) → has below t ≡ ltb t h.states)
    → ((t : ℕ) → has moved t ≡ (has (get_or (sets_in h.moves) s 0) t && has below t)) → ((t : ℕ) → has r t ≡ (has moved t || eqb t s))
    → r ≡ pack h.states (nearby (graph_of h) s)
unfolding graph_of nearby edge
first_word h s below moved r b hb hm hr =
    ext r (pack n (nearby (graph_of h) s)) (λ t. hr t ∙ rw (hm t, hb t) (go t (ℕ_discrete t s)) ∙ sym (has_pack n (nearby (graph_of h) s) t))
  where
    n : ℕ
    n = h.states

    mine : ℕ → Bool
    mine t = has (get_or (sets_in h.moves) s 0) t

    swap : (x y : Bool) → ((x && y) || false) ≡ (y && (y && x))
    swap true true = refl
    swap true false = refl
    swap false true = refl
    swap false false = refl

    go : (t : ℕ) → Dec (t ≡ s) → ((mine t && ltb t n) || eqb t s) ≡ (ltb t n && (eqb s t || (ltb s n && (ltb t n && mine t))))
    go t (yes e) =
        or_right (mine t && ltb t n) (eq-eqb t s e)
        ∙ sym (and_intro (lt-ltb t n (omega arith)) (or_left (ltb s n && (ltb t n && mine t)) (eq-eqb s t (sym e))))
    go t (no ne) = rw (ne_eqb t s ne, ne_eqb s t (λ e. ne (sym e)), lt-ltb s n b) (swap (mine t) (ltb t n))

-- m is l with the first rows in front
module _ (h : Graph) (l : List ℕ) {m : List ℕ} (e : m ≡ first_rows h l) where
  pub first_length : h.states ≤ length l → length m ≡ length l
  unfolding first_rows
  first_length b = rows_length h.states (nearby (graph_of h)) l h.states b e

  pub first_rest : drop h.states m ≡ drop h.states l
  unfolding first_rows
  first_rest = rows_rest h.states (nearby (graph_of h)) l h.states e

  pub first_again : m ≡ rows_of h.states h.states (nearby (graph_of h)) ++ drop h.states m
  unfolding first_rows
  first_again = e ∙ ap (λ (k : List ℕ). rows_of h.states h.states (nearby (graph_of h)) ++ k) (sym first_rest)
