-- The region's rows, one component at a time.
--
--   row_homes, row_replies   : the row that is worked out
--   stored_same              : the rows of one component are the same
--   filling-*                : how the filling goes on by a component, and ends
--   kept-*                   : what lies past the sets that are kept
use Prim.Native.Nat.{ℕ, ◌<◌}
use mathlib.Core.Path.{◌≡◌, refl, sym, ◌∙◌, ap}
use mathlib.Core.Bool.{Bool, true, false, ◌&&◌, not}
use mathlib.Core.List.{List}
use mathlib.Core.Logic.{◌⊎◌, inl, inr}
use native.Mathlib.Omega.{arith}
use Rattle.finite.specs.Bounded.{all, count}
use Rattle.finite.proofs.Truth.{decide, clash, false_of, same_test, and_intro, and_left, and_false_left, and_false_right}
use Rattle.finite.proofs.Bounded.{count_less}
use Rattle.bits.specs.Member.{has, pack}
use Rattle.bits.proofs.Membership.{has_zero_lem, has_pack_below, has_lt, pack_lt, pack_ext}
use Rattle.sets.specs.Words.{capacity, bits_of, sets_in}
use Rattle.sets.proofs.Rows.{count_same as count-same-words}
use Rattle.graphs.specs.Closure.{reaches}
use Rattle.graphs.specs.Component.{joined, nontrivial, leaves}
use Rattle.graphs.proofs.Closure.{reaches_to, reaches_trans}
use Rattle.graphs.proofs.Graph.{edge_to}
use Rattle.graphs.proofs.Component.{leaves_elim, joined_intro, joined_there, joined_self, joined_sym, nontrivial_same}
use Rattle.arena.specs.Arena.{Separated}
use Rattle.game.specs.declared.Game.{Game}
use Rattle.play.specs.Play.{graph_of, separated_of}
use Rattle.graph_components.specs.Component.{together, enters}
use Rattle.graph_components.proofs.Closed.{component_closed, leaving_closed}
use Rattle.theory.specs.Region.{home_for, region}
use Rattle.theory.proofs.Region.{home_for_same}
use Rattle.theory.proofs.Delay.{region_same}
use Rattle.scratch.specs.declared.Nontrivial.{Nontrivial}
use Rattle.scratch.specs.Stored.{stored_row, Ready}
use Rattle.scratch.proofs.Read.{stored_nontrivial, stored_trivial}
use Rattle.scratch.proofs.Areas.{in_closes}
use Rattle.region_dues.specs.Dues.{Serving, admits}
use Rattle.region_homes.specs.Homes.{home_at}
use Rattle.region_homes.proofs.Meaning.{home_row_means}
use Rattle.region_replies.specs.Replies.{reply_at}
use Rattle.region_replies.proofs.Meaning.{reply_row_means}
use Rattle.region_rows.specs.Fill.{RowReady, Bottom, RowsPut, Filling, PastKept}

module _ {g : Game} {s : List ℕ} {x : Nontrivial} {i : ℕ} (R : RowReady g s x i) where
  abbrev c : ℕ
  c = bits_of x.inputs.0

  test : has c i ≡ nontrivial (graph_of g.input) i
  test = ap (λ (y : ℕ). has y i) R.nontrivial.inputs ∙ has_pack_below g.input.states (nontrivial (graph_of g.input)) i R.here

  -- what the row of an input in a nontrivial component is worked out from: a its component, e what moves out of it enter, among the outputs that accept
  module _ (a e among : ℕ) (first second : List ℕ) (S : Serving g first second) (whole : a ≡ pack g.input.states (joined (graph_of g.input) i))
      (h : (t : ℕ) → has e t ≡ (enters (sets_in g.input.moves) a g.input.states t && not (has a t)))
      (w : (d : ℕ) → has among d ≡ (has (bits_of x.outputs.0) d && all g.k (admits g a first second d))) where
    exits : (t : ℕ) → has e t ≡ leaves (graph_of g.input) i t
    exits =
        leaving_closed g.input R.fits.input i e
        (λ t. h t ∙ ap (λ (y : ℕ). enters (sets_in g.input.moves) y g.input.states t && not (has y t)) whole)

    pub entered_below : (t : ℕ) → has e t ≡ true → t < g.input.states
    unfolding graph_of
    entered_below t k =
        let v = leaves_elim (graph_of g.input) i t (sym (exits t) ∙ k) in
        edge_to (graph_of g.input) v.0 t v.2

    pub among_below : (d : ℕ) → has among d ≡ true → d < g.output.states
    among_below d k =
        let inside = and_left (has (bits_of x.outputs.0) d) (all g.k (admits g a first second d)) (sym (w d) ∙ k) in
        has_lt g.output.states (pack g.output.states outer) d (pack_lt g.output.states outer)
        (ap (λ (y : ℕ). has y d) (sym R.nontrivial.outputs) ∙ inside)
      where
        outer : ℕ → Bool
        outer = nontrivial (graph_of g.output)

    pub row_homes : (r : ℕ) → has c i ≡ true → r ≡ pack g.output.states (home_at (sets_in s) g.input.states c e among)
        → r ≡ stored_row (separated_of g) i
    row_homes r k q =
        q
        ∙ home_row_means g R.fits s R.laid c i R.here R.nontrivial.inputs R.below (bits_of x.outputs.0) first second S e among
        R.nontrivial.outputs (λ d. w d ∙ ap (λ (y : ℕ). has (bits_of x.outputs.0) d && all g.k (admits g y first second d)) whole) exits
        (sym test ∙ k)

  pub row_replies : (r : ℕ) → has c i ≡ false → r ≡ pack g.output.states (reply_at g (sets_in s) c i) → r ≡ stored_row (separated_of g) i
  row_replies r k q = q ∙ reply_row_means g R.fits s R.laid c i R.here R.nontrivial.inputs R.below (sym test ∙ k)

  pub row_component : (a : ℕ) → a ≡ pack g.input.states (together (sets_in s) i) → a ≡ pack g.input.states (joined (graph_of g.input) i)
  row_component a e = e ∙ component_closed g.input (sets_in s) (in_closes R.laid) i R.here

-- the rows of one component are the same
stored_same : (S : Separated) (i f : ℕ) → joined S.input i f ≡ true → stored_row S f ≡ stored_row S i
stored_same S i f j = go (decide (nontrivial S.input i))
  where
    back : joined S.input f i ≡ true
    back = joined_sym S.input i f j

    go : (nontrivial S.input i ≡ true) ⊎ (nontrivial S.input i ≡ false) → stored_row S f ≡ stored_row S i
    go (inl t) =
        stored_nontrivial S f (sym (nontrivial_same S.input i f j) ∙ t)
        ∙ pack_ext S.output.states (home_for S (region S) f) (home_for S (region S) i)
        (λ d b. same_test (home_for S (region S) f d) (home_for S (region S) i d) (home_for_same S (region S) f i d back) (home_for_same S (region S) i f d j))
        ∙ sym (stored_nontrivial S i t)
    go (inr t) =
        stored_trivial S f (sym (nontrivial_same S.input i f j) ∙ t)
        ∙ pack_ext S.output.states (region S f) (region S i) (λ o b. region_same S f i o o back (joined_self S.output o b))
        ∙ sym (stored_trivial S i t)

-- ---- the order of filling

module _ {g : Game} {x : Nontrivial} {s : List ℕ} {left : ℕ} (P : Filling g x s left) {i : ℕ} (B : Bottom g left i) where
  pub bottom_below : i < g.input.states
  bottom_below = P.inside.below i B.here

  -- what the row is worked out from stands
  pub filling_ready : RowReady g s x i
  unfolding graph_of
  filling_ready = record {
    fits = P.fits;
    laid = P.laid;
    nontrivial = P.nontrivial;
    here = bottom_below;
    below = λ j there back. P.stands j (reaches_to (graph_of g.input) i j there) (false_of (has left j) (λ h. clash (B.alone j h there) back));
  }

  -- a is the component of i
  module _ (a : ℕ) (e : a ≡ pack g.input.states (together (sets_in s) i)) where
    whole : a ≡ pack g.input.states (joined (graph_of g.input) i)
    whole = row_component filling_ready a e

    pub component_below : (j : ℕ) → has a j ≡ true → j < g.input.states
    component_below j h =
        has_lt g.input.states (pack g.input.states (joined (graph_of g.input) i)) j (pack_lt g.input.states (joined (graph_of g.input) i))
        (ap (λ (v : ℕ). has v j) (sym whole) ∙ h)

    joined_in : (j : ℕ) → has a j ≡ true → joined (graph_of g.input) i j ≡ true
    joined_in j h =
        sym (has_pack_below g.input.states (joined (graph_of g.input) i) j (component_below j h)) ∙ ap (λ (v : ℕ). has v j) (sym whole) ∙ h

    in_joined : (j : ℕ) → j < g.input.states → joined (graph_of g.input) i j ≡ true → has a j ≡ true
    in_joined j b h = ap (λ (v : ℕ). has v j) whole ∙ has_pack_below g.input.states (joined (graph_of g.input) i) j b ∙ h

    itself : has a i ≡ true
    unfolding graph_of
    itself = in_joined i bottom_below (joined_self (graph_of g.input) i bottom_below)

    module _ (rest : ℕ) (f : (j : ℕ) → has rest j ≡ (has left j && not (has a j))) where
      within : (j : ℕ) → has rest j ≡ true → has left j ≡ true
      within j h = and_left (has left j) (not (has a j)) (sym (f j) ∙ h)

      gone : (j : ℕ) → has a j ≡ true → has rest j ≡ false
      gone j h = f j ∙ and_false_right (has left j) (ap not h)

      -- an input outside rest is of the component, or was outside before
      outside : (j : ℕ) → has rest j ≡ false → (has a j ≡ true) ⊎ ((has a j ≡ false) × (has left j ≡ false))
      outside j h = at (decide (has a j))
        where
          at : (has a j ≡ true) ⊎ (has a j ≡ false) → (has a j ≡ true) ⊎ ((has a j ≡ false) × (has left j ≡ false))
          at (inl k) = inl k
          at (inr k) = inr (k, false_of (has left j) (λ q. clash (f j ∙ and_intro q (ap not k)) h))

      pub filling_falls : count capacity (has rest) < count capacity (has left)
      filling_falls =
          count_less capacity (has rest) (has left) (λ j b h. within j h) i (omega (arith, bottom_below, P.fits.input.most)) (gone i itself) B.here

      -- the rows are written
      module _ (y : ℕ) (t : List ℕ) (W : RowsPut g.input.states a y s t) where
        pub filling_next : y ≡ stored_row (separated_of g) i → Filling g x t rest
        unfolding graph_of separated_of
        filling_next q = record {
          fits = P.fits;
          laid = record {
            long = omega (arith, P.laid.long, count-same-words t s W.long);
            inputs = λ j b. W.inputs j b ∙ P.laid.inputs j b;
            outputs = λ o b. W.outputs o ∙ P.laid.outputs o b;
          };
          nontrivial = P.nontrivial;
          inside = record { below = λ j h. P.inside.below j (within j h) };
          stands = λ j b h. elim (outside j h) [
            | inl k ↦ W.here j k ∙ q ∙ sym (same j k)
            | inr k ↦ W.others j k.0 ∙ P.stands j b k.1
          ];
          closed = λ j u h r. elim (outside j h) [
            | inl k ↦ reached u (reaches_trans (graph_of g.input) i j u (joined_there (graph_of g.input) i j (joined_in j k)) r) (decide (has left u))
            | inr k ↦ f u ∙ and_false_left (not (has a u)) (P.closed j u k.1 r)
          ];
        }
          where
            same : (j : ℕ) → has a j ≡ true → stored_row (separated_of g) j ≡ stored_row (separated_of g) i
            same j k = stored_same (separated_of g) i j (joined_in j k)

            reached : (u : ℕ) → reaches (graph_of g.input) i u ≡ true → (has left u ≡ true) ⊎ (has left u ≡ false) → has rest u ≡ false
            reached u r (inl k) =
                gone u (in_joined u (reaches_to (graph_of g.input) i u r) (joined_intro (graph_of g.input) i u r (B.alone u k r)))
            reached u r (inr k) = f u ∙ and_false_left (not (has a u)) k

        pub kept_writes : PastKept g s t
        kept_writes = record { long = W.long; rest = W.rest g.output.states }

pub kept_none : (g : Game) (s : List ℕ) → PastKept g s s
kept_none g s = record { long = refl; rest = refl }

pub kept_more : {g : Game} {s t u : List ℕ} → PastKept g s t → PastKept g t u → PastKept g s u
kept_more p q = record { long = q.long ∙ p.long; rest = q.rest ∙ p.rest }

-- all inputs are done
pub filling_done : {g : Game} {x : Nontrivial} {s : List ℕ} {left : ℕ} → Filling g x s left → left ≡ 0 → Ready g s (bits_of x.inputs.0)
filling_done {g} P z = record {
  fits = P.fits;
  laid = P.laid;
  rows = λ j a. P.stands j a (ap (λ (v : ℕ). has v j) z ∙ has_zero_lem j);
  inner = P.nontrivial.inputs;
}
