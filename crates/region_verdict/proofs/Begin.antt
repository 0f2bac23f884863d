-- What the loops over the initial states find is what the definitions say.
use Prim.Native.Nat.{ℕ, ◌≤◌, ◌<◌}
use mathlib.Core.Path.{◌≡◌, refl, sym, ◌∙◌, ap}
use mathlib.Core.Bool.{Bool, true, false, ◌&&◌, ◌||◌, not}
use lib.Dec.{ltb}
use borrow.Author.Tests.{lt-ltb}
use Rattle.finite.specs.Bounded.{all, any}
use Rattle.finite.proofs.Bounded.{all_same, any_same, any_intro}
use Rattle.finite.proofs.Loops.{any_end, all_end, all_stop}
use Rattle.bits.specs.Member.{has}
use Rattle.graphs.specs.Graph.{begins}
use Rattle.sets.specs.Words.{bits_of}
use Rattle.game.specs.declared.Game.{Game}
use Rattle.play.specs.Play.{graph_of, separated_of}
use Rattle.theory.specs.Region.{region, opens, verdict}
use Rattle.region_verdict.specs.Opens.{opens_with, opens_if}

pub with_none : (g : Game) (i o : ℕ) → has (bits_of g.output.initial) o ≡ false → false ≡ opens_with g i o
unfolding opens_with
with_none g i o h = rw h refl

pub with_initial : (g : Game) (i o : ℕ) {r : Bool} → has (bits_of g.output.initial) o ≡ true → r ≡ region (separated_of g) i o → r ≡ opens_with g i o
unfolding opens_with
with_initial g i o h e = rw h e

initial_begins : (n x s : ℕ) → s < n → has x s ≡ (ltb s n && has x s)
initial_begins n x s b = rw (lt-ltb s n b) refl

opens_any : (g : Game) (i : ℕ) → any g.output.states (opens_with g i) ≡ opens (separated_of g) i
unfolding opens opens_with separated_of graph_of begins
opens_any g i =
    any_same g.output.states (opens_with g i) (λ o. begins (graph_of g.output) o && region (separated_of g) i o)
    (λ o b. ap (λ (x : Bool). x && region (separated_of g) i o) (initial_begins g.output.states (bits_of g.output.initial) o b))

pub opens_found : (g : Game) (i o : ℕ) → o < g.output.states → opens_with g i o ≡ true → true ≡ opens (separated_of g) i
opens_found g i o b h = sym (sym (opens_any g i) ∙ any_intro g.output.states (opens_with g i) o b h)

pub opens_none : (g : Game) (i o : ℕ) → o ≤ g.output.states → g.output.states ≤ o → any o (opens_with g i) ≡ false → false ≡ opens (separated_of g) i
opens_none g i o a b h = sym (sym (opens_any g i) ∙ any_end g.output.states o (opens_with g i) a b h)

pub if_not : (g : Game) (i : ℕ) → has (bits_of g.input.initial) i ≡ false → true ≡ opens_if g i
unfolding opens_if
if_not g i h = rw h refl

pub if_initial : (g : Game) (i : ℕ) {r : Bool} → has (bits_of g.input.initial) i ≡ true → r ≡ opens (separated_of g) i → r ≡ opens_if g i
unfolding opens_if
if_initial g i h e = rw h e

verdict_all : (g : Game) → all g.input.states (opens_if g) ≡ verdict (separated_of g)
unfolding verdict opens_if separated_of graph_of begins
verdict_all g =
    all_same g.input.states (opens_if g) (λ i. not (begins (graph_of g.input) i) || opens (separated_of g) i)
    (λ i b. ap (λ (x : Bool). not x || opens (separated_of g) i) (initial_begins g.input.states (bits_of g.input.initial) i b))

pub verdict_no : (g : Game) (i : ℕ) → i < g.input.states → opens_if g i ≡ false → false ≡ verdict (separated_of g)
verdict_no g i b h = all_stop g.input.states i (opens_if g) b h ∙ verdict_all g

pub verdict_yes : (g : Game) (i : ℕ) → i ≤ g.input.states → g.input.states ≤ i → all i (opens_if g) ≡ true → true ≡ verdict (separated_of g)
verdict_yes g i a b h = all_end g.input.states i (opens_if g) a b h ∙ verdict_all g
