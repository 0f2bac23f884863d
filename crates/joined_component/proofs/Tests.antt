-- Whether a component is accepting: the tests on words are those of crate joint.
--
--   inhabited                  : an input of the component
--   outputs_start, -more, -end : the outputs of the component, row by row
--   met_due, met_free          : what one requirement asks
--   accepts_means              : the requirements, told of the component's inputs and outputs
--   enters, misses             == whether a row of a set has one of the outputs y, or none
--   moved                      : such a row is a next input that has an answer
--   all_left                   : before the first test all next inputs are left
--   entered, not_entered       : whether a joint move enters the component
use Prim.Native.Nat.{ℕ, ◌+◌, ◌≤◌, ◌<◌}
use native.Mathlib.Numerals.{add-one}
use mathlib.Core.Path.{◌≡◌, refl, sym, ◌∙◌, ap, ap₂}
use mathlib.Core.Bool.{Bool, true, false, ◌&&◌, ◌||◌, not}
use mathlib.Core.List.{List}
use native.Mathlib.Omega.{arith}
use native.Mathlib.Decide.{dec_lt}
use lib.Dec.{eqb}
use lib.ListN.{get_or}
use borrow.Author.Tests.{eq-eqb, ne_eqb}
use Rattle.finite.specs.Bounded.{any}
use Rattle.finite.proofs.Truth.{clash, false_of, and_intro, and_left, and_right, same_test, not_true}
use Rattle.finite.proofs.Bounded.{all_same, any_intro, any_elim, any_none}
use Rattle.finite.proofs.Tabulate.{all_of_tabulate}
use Rattle.bits.specs.Member.{has, pack, sets_meet}
use Rattle.sets.specs.Words.{capacity, bits_of}
use Rattle.bits.proofs.Membership.{ext, has_zero_lem, has_pack_below, has_pack_past}
use Rattle.bits.proofs.Compare.{member_nonzero, nonzero_member, meets_intro, meets_elim, meets_pack}
use Rattle.bits.proofs.Passing.{Passing, passing_whole, passing_end}
use Rattle.graphs.specs.Graph.{edge}
use Rattle.graphs.proofs.Graph.{edge_to}
use Rattle.theory.specs.Region.{answers}
use Rattle.theory.proofs.Region.{answers_intro, answers_elim}
use Rattle.joint.specs.Solver.{inputs_of, outputs_of, due_in, served_in, accepting_in, returns}
use Rattle.game.specs.declared.Game.{Game}
use Rattle.game.specs.Access.{requirement_at, assumption_at, guarantee_at}
use Rattle.play.specs.Play.{graph_of, requirement_of, requirements_of, separated_of}
use Rattle.joined_reach.specs.Words.{belongs, Small}
use Rattle.joined_reach.proofs.Words.{belongs_has, move_below}
use Rattle.joined_component.specs.Component.{component, due_at, due_on, served_at, served_on, accepts_at, accepts_on, Rows}

-- ---- inputs and outputs

pub inhabited : (g : Game) (l : List ℕ) → Rows g l → (i : ℕ) → i < g.input.states
    → not (eqb (get_or l (128 + i) 0) 0) ≡ inputs_of (separated_of g) (component g l) i
unfolding inputs_of separated_of graph_of
inhabited g l R i b =
    same_test (not (eqb (get_or l (128 + i) 0) 0)) (any g.output.states (component g l i))
    (λ h. let v = nonzero_member (get_or l (128 + i) 0) (λ z. clash (eq-eqb (get_or l (128 + i) 0) 0 z) (not_true (eqb (get_or l (128 + i) 0) 0) h)) in
    let m = belongs_has g.input.states 128 l i v.0 b ∙ v.1 in
    any_intro g.output.states (component g l i) v.0 (R.outputs i v.0 m) m)
    (λ h. let v = any_elim g.output.states (component g l i) h in
    ap not (ne_eqb (get_or l (128 + i) 0) 0
    (member_nonzero (get_or l (128 + i) 0) v.0 (sym (belongs_has g.input.states 128 l i v.0 b) ∙ v.2))))

or_swap : (a b : Bool) → (a || b) ≡ (b || a)
or_swap true true = refl
or_swap true false = refl
or_swap false true = refl
or_swap false false = refl

-- the outputs of the component's rows below i
unfoldable pub outputs_below : Game → List ℕ → ℕ → ℕ → Bool
outputs_below g l i o = any i (λ k. component g l k o)

pub outputs_start : (g : Game) (l : List ℕ) (o : ℕ) → has 0 o ≡ outputs_below g l 0 o
unfolding outputs_below any
outputs_start g l o = has_zero_lem o

pub outputs_more : (g : Game) (l : List ℕ) (i c r : ℕ) → i < g.input.states → ((o : ℕ) → has c o ≡ outputs_below g l i o)
    → ((o : ℕ) → has r o ≡ (has c o || has (get_or l (128 + i) 0) o)) → (o : ℕ) → has r o ≡ outputs_below g l (i + 1) o
unfolding outputs_below any
outputs_more g l i c r b h e o =
    rw add-one
    (e o ∙ or_swap (has c o) (has (get_or l (128 + i) 0) o)
    ∙ ap₂ ◌||◌ (sym (belongs_has g.input.states 128 l i o b)) (h o))

pub outputs_end : (g : Game) (l : List ℕ) (i c : ℕ) → i ≤ g.input.states → g.input.states ≤ i
    → ((o : ℕ) → has c o ≡ outputs_below g l i o) → (o : ℕ) → has c o ≡ outputs_of (separated_of g) (component g l) o
unfolding outputs_below outputs_of separated_of graph_of
outputs_end g l i c a b h o = let e : i ≡ g.input.states = omega arith in h o ∙ ap (λ (n : ℕ). any n (λ k. component g l k o)) e

-- ---- requirements

module _ (g : Game) (S : Small g) (l : List ℕ) (R : Rows g l) where
  -- the outputs of the component, as a set of states
  outputs_pack : (y : ℕ) → ((o : ℕ) → has y o ≡ outputs_of (separated_of g) (component g l) o)
      → y ≡ pack g.output.states (outputs_of (separated_of g) (component g l))
  unfolding outputs_of separated_of graph_of
  outputs_pack y h = ext y (pack g.output.states (outputs_of (separated_of g) (component g l))) (λ o. h o ∙ same o (dec_lt o g.output.states))
    where
      same : (o : ℕ) → Dec (o < g.output.states)
          → outputs_of (separated_of g) (component g l) o ≡ has (pack g.output.states (outputs_of (separated_of g) (component g l))) o
      same o (yes b) = sym (has_pack_below g.output.states (outputs_of (separated_of g) (component g l)) o b)
      same o (no b) =
          any_none g.input.states (λ k. component g l k o) (λ k c. false_of (component g l k o) (λ t. absurd (b (R.outputs k o t))))
          ∙ sym (has_pack_past g.output.states (outputs_of (separated_of g) (component g l)) o (omega arith))

  due_means : (r : ℕ) → due_on g (pack g.input.states (inputs_of (separated_of g) (component g l))) r
      ≡ due_in (separated_of g) (component g l) (requirement_of (requirement_at g r))
  unfolding due_on due_at due_in requirement_of separated_of graph_of
  due_means r =
      all_same (requirement_at g r).assumed (due_at (requirement_at g r) (pack g.input.states (inputs_of (separated_of g) (component g l))))
      (λ j. any g.input.states (λ i. has (bits_of (assumption_at g r j).0) i && inputs_of (separated_of g) (component g l) i))
      (λ j b. meets_pack capacity g.input.states (bits_of (assumption_at g r j).0) (inputs_of (separated_of g) (component g l)) (omega (arith, S.inputs)))
      ∙ sym (all_of_tabulate (λ p. any g.input.states (λ i. p i && inputs_of (separated_of g) (component g l) i)) (requirement_at g r).assumed
      (λ j. has (bits_of (assumption_at g r j).0)))

  served_means : (r : ℕ) → served_on g (pack g.output.states (outputs_of (separated_of g) (component g l))) r
      ≡ served_in (separated_of g) (component g l) (requirement_of (requirement_at g r))
  unfolding served_on served_at served_in requirement_of separated_of graph_of
  served_means r =
      all_same (requirement_at g r).guaranteed (served_at (requirement_at g r) (pack g.output.states (outputs_of (separated_of g) (component g l))))
      (λ j. any g.output.states (λ o. has (bits_of (guarantee_at g r j).0) o && outputs_of (separated_of g) (component g l) o))
      (λ j b. meets_pack capacity g.output.states (bits_of (guarantee_at g r j).0) (outputs_of (separated_of g) (component g l)) (omega (arith, S.outputs)))
      ∙ sym (all_of_tabulate (λ p. any g.output.states (λ o. p o && outputs_of (separated_of g) (component g l) o)) (requirement_at g r).guaranteed
      (λ j. has (bits_of (guarantee_at g r j).0)))

  pub accepts_means : (x y : ℕ) → x ≡ pack g.input.states (inputs_of (separated_of g) (component g l))
      → ((o : ℕ) → has y o ≡ outputs_of (separated_of g) (component g l) o) → accepts_on g x y ≡ accepting_in (separated_of g) (component g l)
  unfolding accepts_on accepts_at accepting_in separated_of requirements_of
  accepts_means x y e h =
      all_same g.k (accepts_at g x y)
      (λ r. not (due_in (separated_of g) (component g l) (requirement_of (requirement_at g r)))
      || served_in (separated_of g) (component g l) (requirement_of (requirement_at g r)))
      (λ r b. ap₂ (λ (u v : Bool). not u || v) (ap (λ (t : ℕ). due_on g t r) e ∙ due_means r)
      (ap (λ (t : ℕ). served_on g t r) (outputs_pack y h) ∙ served_means r))
      ∙ sym (all_of_tabulate (λ q. not (due_in (separated_of g) (component g l) q) || served_in (separated_of g) (component g l) q) g.k
      (λ r. requirement_of (requirement_at g r)))

-- what one requirement asks
pub met_due : (g : Game) (r x y : ℕ) {d t : Bool} → d ≡ due_on g x r → d ≡ true → t ≡ served_on g y r → t ≡ accepts_at g x y r
unfolding accepts_at
met_due g r x y e h f = rw (sym e ∙ h) f

pub met_free : (g : Game) (r x y : ℕ) {d : Bool} → d ≡ due_on g x r → d ≡ false → true ≡ accepts_at g x y r
unfolding accepts_at
met_free g r x y e h = rw (sym e ∙ h) refl

-- ---- moves

-- an output move that enters row j of the set at word a
pub answered : (g : Game) (a : ℕ) (l : List ℕ) (j o y : ℕ) → Small g → j < g.input.states → ((p : ℕ) → has y p ≡ edge (graph_of g.output) o p)
    → sets_meet 64 (get_or l (a + j) 0) y ≡ answers (separated_of g) (belongs g.input.states a l) j o
unfolding separated_of graph_of
answered g a l j o y S b e =
    same_test (sets_meet 64 (get_or l (a + j) 0) y) (answers (separated_of g) (belongs g.input.states a l) j o)
    (λ h. let v = meets_elim 64 (get_or l (a + j) 0) y h in
    answers_intro (separated_of g) (belongs g.input.states a l) j o v.0 (sym (e v.0) ∙ v.3)
    (belongs_has g.input.states a l j v.0 b ∙ v.2))
    (λ h. let v = answers_elim (separated_of g) (belongs g.input.states a l) j o h in
    meets_intro 64 (get_or l (a + j) 0) y v.0 (omega (arith, edge_to (graph_of g.output) o v.0 v.1, S.outputs))
    (sym (belongs_has g.input.states a l j v.0 b) ∙ v.2) (e v.0 ∙ v.1))

-- whether row j of the set at word a has one of the outputs y
unfoldable pub enters : List ℕ → ℕ → ℕ → ℕ → Bool
enters l a y j = sets_meet 64 (get_or l (a + j) 0) y

unfoldable pub misses : List ℕ → ℕ → ℕ → ℕ → Bool
misses l a y j = not (enters l a y j)

pub entered_row : (l : List ℕ) (a y j : ℕ) {t : Bool} → t ≡ sets_meet 64 (get_or l (a + j) 0) y → t ≡ true → enters l a y j ≡ true
unfolding enters
entered_row l a y j e h = sym e ∙ h

pub missed_row : (l : List ℕ) (a y j : ℕ) {t : Bool} → t ≡ sets_meet 64 (get_or l (a + j) 0) y → t ≡ false → misses l a y j ≡ true
unfolding misses enters
missed_row l a y j e h = ap not (sym e ∙ h)

-- before the first test all moves x of input i are left
pub all_left : (g : Game) (i x : ℕ) (p : ℕ → Bool) → Small g → ((j : ℕ) → has x j ≡ edge (graph_of g.input) i j) → Passing 64 x 32 p x
all_left g i x p S e = passing_whole 64 x 32 p (omega arith) (λ j h. omega (arith, move_below g x i e j h, S.inputs))

-- x are the moves of input i, y those of output o
module _ (g : Game) (S : Small g) (a : ℕ) (l : List ℕ) (i o x y : ℕ) (e : (j : ℕ) → has x j ≡ edge (graph_of g.input) i j)
    (f : (p : ℕ) → has y p ≡ edge (graph_of g.output) o p) where
  pub moved : (j : ℕ) → edge (graph_of g.input) i j ≡ true → enters l a y j ≡ answers (separated_of g) (belongs g.input.states a l) j o
  unfolding enters graph_of
  moved j h = answered g a l j o y S (edge_to (graph_of g.input) i j h) f

  pub entered : (j : ℕ) → has x j ≡ true → enters l a y j ≡ true → true ≡ returns (separated_of g) (belongs g.input.states a l) i o
  unfolding returns separated_of graph_of
  entered j h b =
      let m : edge (graph_of g.input) i j ≡ true = sym (e j) ∙ h in
      sym (any_intro g.input.states
      (λ k. edge (graph_of g.input) i k && answers (separated_of g) (belongs g.input.states a l) k o) j
      (edge_to (graph_of g.input) i j m) (and_intro m (sym (moved j m) ∙ b)))

  pub not_entered : (rest : ℕ) → Passing 64 x 32 (misses l a y) rest → rest ≡ 0
      → false ≡ returns (separated_of g) (belongs g.input.states a l) i o
  unfolding returns separated_of graph_of misses
  not_entered rest P z =
      sym (any_none g.input.states
      (λ k. edge (graph_of g.input) i k && answers (separated_of g) (belongs g.input.states a l) k o)
      (λ k b. false_of (edge (graph_of g.input) i k && answers (separated_of g) (belongs g.input.states a l) k o)
      (λ h. let m : edge (graph_of g.input) i k ≡ true = and_left (edge (graph_of g.input) i k) (answers (separated_of g) (belongs
      g.input.states a l) k o) h in
      clash (moved k m ∙ and_right (edge (graph_of g.input) i k) (answers (separated_of g) (belongs g.input.states a l) k o) h)
      (not_true (enters l a y k) (passing_end 64 x 32 (misses l a y) rest P z k (omega (arith, S.inputs)) (e k ∙ m))))))
