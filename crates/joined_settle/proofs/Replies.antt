-- What a position forces, told of words.
--
--   replied, not_replied       : every next input has an answer in the set at word a
--   component_same             : where only marks change, the component stays
--   row_within                 : a row of the component has outputs
--   set_kept, -here, -there    : one row of marks is written
use Prim.Native.Nat.{ℕ, ◌+◌, ◌≤◌, ◌<◌}
use mathlib.Core.Path.{◌≡◌, sym, ◌∙◌, ap, fun_ext}
use mathlib.Core.Bool.{true, false, ◌&&◌}
use mathlib.Core.List.{List}
use mathlib.Core.Logic.{◌≢◌}
use native.Mathlib.Omega.{arith}
use lib.Dec.{ltb}
use lib.ListN.{length, get_or, set}
use lib.Seq.{get_or-set_same, get_or-set_other}
use Rattle.finite.proofs.Truth.{clash, false_of}
use Rattle.finite.specs.But.{ButFor}
use Rattle.finite.proofs.But.{but_set}
use Rattle.bits.specs.Member.{has}
use Rattle.bits.proofs.Passing.{Passing, passing_end}
use Rattle.graphs.specs.Graph.{edge}
use Rattle.graphs.proofs.Graph.{edge_to}
use Rattle.theory.specs.Region.{replies}
use Rattle.theory.proofs.Region.{replies_intro, replies_elim}
use Rattle.joint.specs.Solver.{Component}
use Rattle.game.specs.declared.Game.{Game}
use Rattle.play.specs.Play.{graph_of, separated_of}
use Rattle.joined_reach.specs.Words.{belongs, Small}
use Rattle.joined_reach.proofs.Words.{belongs_has, belongs_same}
use Rattle.joined_component.specs.Component.{won, component}
use Rattle.joined_component.proofs.Tests.{enters, moved}

-- x are the moves of input i, y those of output o
module _ (g : Game) (S : Small g) (a : ℕ) (l : List ℕ) (i o x y : ℕ) (e : (j : ℕ) → has x j ≡ edge (graph_of g.input) i j)
    (f : (p : ℕ) → has y p ≡ edge (graph_of g.output) o p) where
  pub replied : (rest : ℕ) → Passing 64 x 32 (enters l a y) rest → rest ≡ 0 → true ≡ replies (separated_of g) (belongs g.input.states a l) i o
  unfolding separated_of graph_of
  replied rest P z =
      sym (replies_intro (separated_of g) (belongs g.input.states a l) i o
      (λ j h. sym (moved g S a l i o x y e f j h)
      ∙ passing_end 64 x 32 (enters l a y) rest P z j (omega (arith, edge_to (graph_of g.input) i j h, S.inputs)) (e j ∙ h)))

  pub not_replied : (j : ℕ) → has x j ≡ true → enters l a y j ≡ false → false ≡ replies (separated_of g) (belongs g.input.states a l) i o
  unfolding separated_of graph_of
  not_replied j h k =
      let m : edge (graph_of g.input) i j ≡ true = sym (e j) ∙ h in
      sym (false_of (replies (separated_of g) (belongs g.input.states a l) i o)
      (λ r. clash (moved g S a l i o x y e f j m ∙ replies_elim (separated_of g) (belongs g.input.states a l) i o j r m) k))

pub component_same : (g : Game) → Small g → {l m : List ℕ} → ButFor 64 96 l m → component g m ≡ component g l
component_same g S {l} {m} K =
    fun_ext (λ i. fun_ext (λ o. belongs_same g.input.states 128 l m (λ k b. K.high (128 + k) (omega arith)) i o))

-- a row of the component has outputs
pub row_within : (g : Game) (m : List ℕ) → Component (separated_of g) (component g m) → (i : ℕ) → i < g.input.states → (o : ℕ)
    → has (get_or m (128 + i) 0) o ≡ true → o < g.output.states
unfolding separated_of graph_of
row_within g m C i b o h = C.outputs i o (belongs_has g.input.states 128 m i o b ∙ h)

-- row i of the marks becomes v
module _ (g : Game) (S : Small g) (m : List ℕ) (long : 4096 ≤ length m) (i v : ℕ) (b : i < g.input.states) where
  pub set_kept : ButFor 64 96 m (set m (64 + i) v)
  set_kept = but_set 64 96 m (64 + i) v (omega arith) (omega (arith, S.inputs))

  pub set_here : (o : ℕ) → won g (set m (64 + i) v) i o ≡ has v o
  set_here o =
      belongs_has g.input.states 64 (set m (64 + i) v) i o b
      ∙ ap (λ (x : ℕ). has x o) (get_or-set_same m (64 + i) v 0 (omega (arith, S.inputs)))

  pub set_there : (j o : ℕ) → j ≢ i → won g (set m (64 + i) v) j o ≡ won g m j o
  unfolding belongs
  set_there j o z =
      ap (λ (x : ℕ). ltb j g.input.states && has x o) (get_or-set_other m (64 + i) (64 + j) v 0 (λ q. z (omega arith)))
