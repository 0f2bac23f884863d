-- Requirements that are due, and output sets that are missed, told of the sets of two components.
--
--   first_owed_means      : the lowest requirement that is owed
--   first_missed_means    : its first output set that is missed
--   owed_yes, owed_no     : the two returns of `owed`
use Prim.Native.Nat.{ℕ, ◌≤◌, ◌<◌}
use mathlib.Core.Path.{◌≡◌, sym, ◌∙◌, ap, ap₂}
use mathlib.Core.Bool.{Bool, true, false, ◌&&◌, not}
use mathlib.Core.List.{List, []}
use lib.Dec.{ltb}
use lib.ListN.{length, get_or}
use borrow.Author.Tests.{ltb-true, lt-ltb}
use Rattle.bits.proofs.Compare.{meets_pack}
use Rattle.finite.specs.Bounded.{all, least}
use Rattle.finite.proofs.Truth.{clash, true_of, same_test, not_true, not_false}
use Rattle.finite.proofs.Bounded.{all_same, all_elim, all_false, least_member, least_below, least_same}
use Rattle.finite.proofs.Loops.{and_next, and_stop}
use Rattle.finite.proofs.Tabulate.{length_tabulate, get_d_tabulate, all_of_tabulate}
use Rattle.bits.specs.Member.{has, pack, sets_meet}
use Rattle.sets.specs.Words.{capacity, bits_of, sets_in}
use Rattle.graphs.specs.Component.{joined, meets_at}
use Rattle.arena.specs.Arena.{Requirement}
use Rattle.theory.specs.Region.{due, served}
use Rattle.theory.specs.Tour.{goal_at}
use Rattle.game.specs.declared.Game.{Game}
use Rattle.game.specs.declared.Graph.{Graph}
use Rattle.game.specs.declared.InSet.{InSet}
use Rattle.game.specs.declared.InState.{InState}
use Rattle.game.specs.declared.OutState.{OutState}
use Rattle.game.specs.Access.{requirement_at, assumption_at, guarantee_at}
use Rattle.play.specs.Play.{graph_of, requirement_of, requirements_of, separated_of}
use Rattle.graph_components.specs.Component.{together}
use Rattle.graph_components.proofs.Closed.{component_closed}
use Rattle.scratch.specs.Stored.{out_area}
use Rattle.scratch.proofs.Areas.{in_closes, area_closes}
use Rattle.region_dues.specs.Dues.{in_meets, in_meets_at, out_meets, out_meets_at, due_in, served_in}
use Rattle.grounds.specs.Ground.{nth_requirement, owed, missed, first_owed, first_missed}
use Rattle.ground_search.specs.Asked.{PositionAsked, missed_in, owed_in}

component_meets : (h : Graph) (s x : ℕ) → h.states ≤ capacity
    → sets_meet capacity x (pack h.states (joined (graph_of h) s)) ≡ meets_at (graph_of h) s (has x)
unfolding meets_at graph_of
component_meets h s x b = meets_pack capacity h.states x (joined (graph_of h) s) b

pub nth : (g : Game) (r : ℕ) → r < g.k → nth_requirement (separated_of g) r ≡ requirement_of (requirement_at g r)
unfolding nth_requirement separated_of requirements_of
nth g r b = get_d_tabulate (λ k. requirement_of (requirement_at g k)) g.k r (record { assumptions = []; guarantees = [] }) b

-- ---- one requirement, a and b being the components of i and o

module _ (g : Game) (i o r : ℕ) (p : g.input.states ≤ capacity) (q : g.output.states ≤ capacity) where
  abbrev a : ℕ
  a = pack g.input.states (joined (graph_of g.input) i)

  abbrev b : ℕ
  b = pack g.output.states (joined (graph_of g.output) o)

  due_in_lem : due_in g a r ≡ due (separated_of g) i (requirement_of (requirement_at g r))
  unfolding due_in in_meets in_meets_at due requirement_of separated_of
  due_in_lem =
      all_same (requirement_at g r).assumed (in_meets_at (requirement_at g r) a) (λ j. meets_at (graph_of g.input) i (has (bits_of (assumption_at g r j).0)))
      (λ j l. component_meets g.input i (bits_of (assumption_at g r j).0) p)
      ∙ sym (all_of_tabulate (meets_at (graph_of g.input) i) (requirement_at g r).assumed (λ j. has (bits_of (assumption_at g r j).0)))

  served_in_lem : served_in g b r ≡ served (separated_of g) o (requirement_of (requirement_at g r))
  unfolding served_in out_meets out_meets_at served requirement_of separated_of
  served_in_lem =
      all_same (requirement_at g r).guaranteed (out_meets_at (requirement_at g r) b)
      (λ j. meets_at (graph_of g.output) o (has (bits_of (guarantee_at g r j).0)))
      (λ j l. component_meets g.output o (bits_of (guarantee_at g r j).0) q)
      ∙ sym (all_of_tabulate (meets_at (graph_of g.output) o) (requirement_at g r).guaranteed (λ j. has (bits_of (guarantee_at g r j).0)))

  owed_in_lem : r < g.k → owed_in g a b r ≡ owed (separated_of g) i o r
  unfolding owed_in owed
  owed_in_lem l =
      ap₂ (λ (u v : Bool). u && not v) due_in_lem served_in_lem
      ∙ ap (λ (x : Requirement). due (separated_of g) i x && not (served (separated_of g) o x)) (sym (nth g r l))

  missed_in_lem : (j : ℕ) → r < g.k → j < (requirement_at g r).guaranteed → missed_in g b r j ≡ missed (separated_of g) o r j
  unfolding missed_in missed out_meets_at separated_of goal_at requirement_of
  missed_in_lem j l m =
      ap not (component_meets g.output o (bits_of (guarantee_at g r j).0) q)
      ∙ ap (λ (x : ℕ → Bool). not (meets_at (graph_of g.output) o x))
      (sym (get_d_tabulate (λ j. has (bits_of (guarantee_at g r j).0)) (requirement_at g r).guaranteed j (λ s. false) m))
      ∙ ap (λ (x : Requirement). not (meets_at (graph_of g.output) o (get_or x.guarantees j (λ s. false)))) (sym (nth g r l))

  missed_long : r < g.k → length (nth_requirement (separated_of g) r).guarantees ≡ (requirement_at g r).guaranteed
  unfolding requirement_of
  missed_long l =
      ap (λ (x : Requirement). length x.guarantees) (nth g r l)
      ∙ length_tabulate (λ j. has (bits_of (guarantee_at g r j).0)) (requirement_at g r).guaranteed

-- ---- where scratch is ready

module _ {g : Game} {s : List ℕ} {c : InSet} {i : InState} {o : OutState} (A : PositionAsked g s c i o) {x y : ℕ}
    (e : x ≡ pack g.input.states (together (sets_in s) i.0))
    (f : y ≡ pack g.output.states (together (out_area (sets_in s) g.input.states) o.0)) where
  in_component : x ≡ pack g.input.states (joined (graph_of g.input) i.0)
  in_component = e ∙ component_closed g.input (sets_in s) (in_closes A.ready.laid) i.0 A.input

  out_component : y ≡ pack g.output.states (joined (graph_of g.output) o.0)
  out_component = f ∙ component_closed g.output _ (area_closes A.ready.laid) o.0 A.output

  pub first_owed_means : {r : ℕ} → r ≡ least g.k (owed_in g x y) → r ≡ first_owed (separated_of g) i.0 o.0
  unfolding first_owed separated_of requirements_of
  first_owed_means h =
      h
      ∙ ap₂ (λ (u v : ℕ). least g.k (owed_in g u v)) in_component out_component
      ∙ least_same g.k _ (owed (separated_of g) i.0 o.0)
      (λ r l. owed_in_lem g i.0 o.0 r A.ready.fits.input.most A.ready.fits.output.most l)
      ∙ ap (λ (k : ℕ). least k (owed (separated_of g) i.0 o.0)) (sym (length_tabulate (λ r. requirement_of (requirement_at g r)) g.k))

  pub first_missed_means : (r : ℕ) {n : ℕ} → r < g.k → n ≡ least (requirement_at g r).guaranteed (missed_in g y r)
      → n ≡ first_missed (separated_of g) o.0 r
  unfolding first_missed
  first_missed_means r l h =
      h
      ∙ ap (λ (v : ℕ). least (requirement_at g r).guaranteed (missed_in g v r)) out_component
      ∙ least_same (requirement_at g r).guaranteed _ (missed (separated_of g) o.0 r)
      (λ j m. missed_in_lem g i.0 o.0 r A.ready.fits.input.most A.ready.fits.output.most j l m)
      ∙ ap (λ (k : ℕ). least k (missed (separated_of g) o.0 r))
      (sym (missed_long g i.0 o.0 r A.ready.fits.input.most A.ready.fits.output.most l))

-- ---- the returns of `owed`

missed_some : (n : ℕ) (f : ℕ → Bool) → ltb (least n (λ j. not (f j))) n ≡ not (all n f)
missed_some n f =
    same_test (ltb (least n (λ j. not (f j))) n) (not (all n f))
    (λ e.
    let l = ltb-true (least n (λ j. not (f j))) n e in
    true_of (not (all n f))
    (λ z. clash (all_elim n f (not_not z) (least n (λ j. not (f j))) l)
    (not_true (f (least n (λ j. not (f j)))) (least_member n (λ j. not (f j)) l))))
    (λ e.
    let v = all_false n f (not_true (all n f) e) in
    lt-ltb (least n (λ j. not (f j))) n (least_below n (λ j. not (f j)) v.0 v.1 (ap not v.2)))
  where
    not_not : not (all n f) ≡ false → all n f ≡ true
    not_not z = not_false (all n f) z

module _ (g : Game) (a b r : ℕ) {t : Bool} (e : t ≡ due_in g a r) where
  pub owed_yes : {k : ℕ} → t ≡ true → k ≡ least (requirement_at g r).guaranteed (missed_in g b r)
      → ltb k (requirement_at g r).guaranteed ≡ owed_in g a b r
  unfolding owed_in served_in out_meets missed_in
  owed_yes d h =
      and_next (sym e ∙ d)
      (ap (λ (k : ℕ). ltb k (requirement_at g r).guaranteed) h ∙ missed_some (requirement_at g r).guaranteed (out_meets_at (requirement_at g r) b))

  pub owed_no : t ≡ false → false ≡ owed_in g a b r
  unfolding owed_in
  owed_no d = and_stop (not (served_in g b r)) (sym e ∙ d)
