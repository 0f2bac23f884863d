-- What is read from scratch and from a game's records, told with the theory's tests.
--
--   row_stuck                        : a row without moves
--   home_means                       : the lowest home ahead
--   answered_means                   : whether a next input has a won reply
--   unreplied_yes, unreplied_no      : the two returns of `unreplied`
--   exits_means                      : the states that moves out of a component enter
--   exit_yes, exit_no                : the two returns of `exit_lost`
--   inside_means, output_means       : whether the input, the output is in a nontrivial component
use Prim.Native.Nat.{ℕ, ◌<◌}
use mathlib.Core.Path.{◌≡◌, sym, ◌∙◌, ap, ap₂}
use mathlib.Core.Bool.{Bool, true, false, ◌&&◌, not}
use mathlib.Core.List.{List}
use native.Mathlib.Omega.{arith}
use lib.Dec.{eqb}
use borrow.Author.Tests.{eqb-true, eqb-false}
use Rattle.play.proofs.Moves.{row_edge}
use Rattle.finite.specs.Bounded.{least}
use Rattle.finite.proofs.Truth.{clash, true_of, same_test, and_intro}
use Rattle.finite.proofs.Bounded.{any_same, least_member, least_before, least_below, least_unique}
use Rattle.finite.proofs.Loops.{and_next, and_stop}
use Rattle.bits.specs.Member.{has, pack, sets_meet}
use Rattle.bits.proofs.Membership.{has_zero_lem, has_pack_below}
use Rattle.bits.proofs.Compare.{nonzero_member, meets_pack}
use Rattle.sets.specs.Words.{capacity, bits_of, sets_in, set_at}
use Rattle.sets.proofs.Rows.{set_bits}
use Rattle.graphs.specs.Graph.{edge, stuck}
use Rattle.graphs.specs.Closure.{reaches}
use Rattle.graphs.specs.Component.{nontrivial}
use Rattle.graphs.proofs.Graph.{stuck_none, stuck_moves}
use Rattle.graphs.proofs.Closure.{reaches_to}
use Rattle.arena.specs.Arena.{Separated}
use Rattle.theory.specs.Region.{home_for, answers, region}
use Rattle.theory.specs.Choice.{home}
use Rattle.theory.proofs.Region.{region_settles, settles_elim}
use Rattle.game.specs.declared.Graph.{Graph}
use Rattle.game.specs.declared.Game.{Game}
use Rattle.game.specs.declared.InSet.{InSet}
use Rattle.game.specs.declared.OutSet.{OutSet}
use Rattle.game.specs.declared.InState.{InState}
use Rattle.game.specs.declared.OutState.{OutState}
use Rattle.game.specs.Access.{in_moves, out_moves}
use Rattle.game.specs.Fits.{GraphFits}
use Rattle.play.specs.Play.{graph_of, separated_of}
use Rattle.graph_components.specs.Component.{together, nontrivial_at, enters}
use Rattle.graph_components.proofs.Closed.{component_closed, nontrivial_closed, leaving_closed}
use Rattle.scratch.specs.Stored.{row_at, out_reach_at, out_area, won_at}
use Rattle.scratch.proofs.Areas.{in_closes, area_closes}
use Rattle.scratch.proofs.Read.{stored_nontrivial, ready_won, ready_row}
use Rattle.grounds.specs.Ground.{unreplied, lost_exit}
use Rattle.ground_search.specs.Asked.{PositionAsked, Exits}

-- ---- a row of moves

module _ (h : Graph) (F : GraphFits h) (s : ℕ) (a : s < h.states) where
  pub row_stuck : eqb (bits_of (set_at h.moves s)) 0 ≡ stuck (graph_of h) s
  row_stuck =
      same_test (eqb x 0) (stuck (graph_of h) s)
      (λ e. true_of (stuck (graph_of h) s)
      (λ n.
      let v = stuck_moves (graph_of h) s n in
      clash (row_edge h F s v.0 a ∙ v.1) (ap (λ (y : ℕ). has y v.0) (eqb-true x 0 e) ∙ has_zero_lem v.0)))
      (λ e. true_of (eqb x 0)
      (λ n.
      let v = nonzero_member x (eqb-false x 0 n) in
      clash v.1 (row_edge h F s v.0 a ∙ stuck_none (graph_of h) s v.0 e)))
    where
      x : ℕ
      x = bits_of (set_at h.moves s)

-- ---- a position

module _ {g : Game} {s : List ℕ} {c : InSet} {i : InState} {o : OutState} (A : PositionAsked g s c i o) where
  abbrev S : Separated
  S = separated_of g

  abbrev n : ℕ
  n = g.input.states

  abbrev m : ℕ
  m = g.output.states

  pub inside_means : has (bits_of c.0) i.0 ≡ nontrivial (graph_of g.input) i.0
  inside_means =
      ap (λ (x : ℕ). has x i.0) A.ready.inner ∙ has_pack_below n (nontrivial (graph_of g.input)) i.0 A.input

  pub answered_means : {x : OutSet} {y : ℕ} {r : Bool} → x ≡ out_moves g o → y ≡ pack m (won_at (sets_in s) n (bits_of c.0) i.0)
      → r ≡ sets_meet capacity (bits_of x.0) y → r ≡ answers S (region S) i.0 o.0
  unfolding answers separated_of graph_of
  answered_means e f h =
      h
      ∙ ap₂ (λ (u v : ℕ). sets_meet capacity u v) (ap (λ (u : OutSet). bits_of u.0) e) (f ∙ ready_row A.ready i.0 A.input)
      ∙ meets_pack capacity m row (region (separated_of g) i.0) A.ready.fits.output.most
      ∙ any_same m (λ p. has row p && region (separated_of g) i.0 p) (λ p. edge (graph_of g.output) o.0 p && region (separated_of g) i.0 p)
      (λ p b. ap (λ (t : Bool). t && region (separated_of g) i.0 p) (row_edge g.output A.ready.fits.output o.0 p A.output))
    where
      row : ℕ
      row = bits_of (set_at g.output.moves o.0)

  module _ (j : InState) {x : InSet} {t : Bool} (e : x ≡ in_moves g i) (h : t ≡ has (bits_of x.0) j.0) where
    moves_to : t ≡ edge (graph_of g.input) i.0 j.0
    moves_to = h ∙ ap (λ (u : InSet). has (bits_of u.0) j.0) e ∙ row_edge g.input A.ready.fits.input i.0 j.0 A.input

    pub unreplied_yes : {r : Bool} → t ≡ true → r ≡ answers S (region S) j.0 o.0 → not r ≡ unreplied S i.0 o.0 j.0
    unfolding unreplied separated_of
    unreplied_yes q f = and_next (sym moves_to ∙ q) (ap not f)

    pub unreplied_no : t ≡ false → false ≡ unreplied S i.0 o.0 j.0
    unfolding unreplied separated_of
    unreplied_no q = and_stop (not (answers S (region S) j.0 o.0)) (sym moves_to ∙ q)

  pub exits_means : {x y : ℕ} → x ≡ pack n (together (sets_in s) i.0)
      → ((t : ℕ) → has y t ≡ (enters (sets_in g.input.moves) x n t && not (has x t))) → Exits g i.0 y
  exits_means e f = record {
    at = leaving_closed g.input A.ready.fits.input i.0 _
        (λ t. f t ∙ ap (λ (z : ℕ). enters (sets_in g.input.moves) z n t && not (has z t))
        (e ∙ component_closed g.input (sets_in s) (in_closes A.ready.laid) i.0 A.input));
  }

  module _ (j : InState) {x : ℕ} {t : Bool} (E : Exits g i.0 x) (h : t ≡ has x j.0) where
    pub exit_yes : {r : Bool} → j.0 < n → t ≡ true → r ≡ won_at (sets_in s) n (bits_of c.0) j.0 o.0
        → not r ≡ lost_exit S i.0 o.0 j.0
    unfolding lost_exit separated_of
    exit_yes b q f = and_next (sym (E.at j.0) ∙ sym h ∙ q) (ap not (f ∙ ready_won A.ready j.0 o.0 b A.output))

    pub exit_no : t ≡ false → false ≡ lost_exit S i.0 o.0 j.0
    unfolding lost_exit separated_of
    exit_no q = and_stop (not (region S j.0 o.0)) (sym (E.at j.0) ∙ sym h ∙ q)

  -- a move of o stays in its component
  pub output_means : {x : OutSet} {y : ℕ} {r : Bool} → x ≡ out_moves g o → y ≡ pack m (together (out_area (sets_in s) n) o.0)
      → r ≡ sets_meet capacity (bits_of x.0) y → r ≡ nontrivial (graph_of g.output) o.0
  unfolding nontrivial_at
  output_means e f h =
      h
      ∙ ap₂ (λ (u v : ℕ). sets_meet capacity u v) (ap (λ (u : OutSet). bits_of u.0) e ∙ set_bits g.output.moves o.0) f
      ∙ sym (has_pack_below m (nontrivial_at (sets_in g.output.moves) (out_area (sets_in s) n) m) o.0 A.output)
      ∙ ap (λ (u : ℕ). has u o.0) (nontrivial_closed g.output _ (area_closes A.ready.laid) A.ready.fits.output.most)
      ∙ has_pack_below m (nontrivial (graph_of g.output)) o.0 A.output

  -- the lowest home that o reaches
  module _ (t : nontrivial (graph_of g.input) i.0 ≡ true) (w : region (separated_of g) i.0 o.0 ≡ true) where
    is_home : ℕ → Bool
    is_home d = reaches (graph_of g.output) o.0 d && home_for S (region S) i.0 d

    some_home : (d : ℕ) × (d < m) × (is_home d ≡ true)
    unfolding separated_of graph_of is_home
    some_home =
        let v = settles_elim S (region S) i.0 o.0 (sym (region_settles S i.0 o.0 A.input A.output t) ∙ w) in
        (v.0, reaches_to (graph_of g.output) o.0 v.0 v.1, and_intro v.1 v.2)

    pub home_means : (z : ℕ) {x y r : ℕ} → y ≡ row_at (sets_in s) n i.0 → x ≡ out_reach_at (sets_in s) n o.0
        → ((d : ℕ) → has z d ≡ (has x d && has y d)) → r ≡ least capacity (has z) → r ≡ home S i.0 o.0
    unfolding home separated_of graph_of is_home
    home_means z ey ex ez er =
        er ∙ least_unique capacity (has z) k (omega (arith, below, A.ready.fits.output.most)) (at k below ∙ least_member m is_home below)
        (λ d b. at d (omega (arith, below)) ∙ least_before m is_home d b)
      where
        k : ℕ
        k = least m is_home

        below : least m is_home < m
        below = let v = some_home in least_below m is_home v.0 v.1 v.2

        at : (d : ℕ) → d < m → has z d ≡ is_home d
        at d b =
            ez d
            ∙ ap₂ ◌&&◌
            (ap (λ (u : ℕ). has u d) (ex ∙ A.ready.laid.outputs o.0 A.output) ∙ has_pack_below m (reaches (graph_of g.output) o.0) d b)
            (ap (λ (u : ℕ). has u d) (ey ∙ A.ready.rows i.0 A.input ∙ stored_nontrivial S i.0 t)
            ∙ has_pack_below m (home_for S (region S) i.0) d b)
