-- The places of rows, what belongs there, and rows written in any order.
--
--   place_in, entry_at        : the place of a row, and its entry
--   pushed_state              : the state of a row that is not won
--   filled_none, filled_join  : nothing written, and one writing after the other
--   filled_same               : fewer rows than were written
use Prim.Native.Nat.{ℕ, suc, ◌+◌, ◌*◌, ◌<◌}
use mathlib.Core.Path.{◌≡◌, sym, ◌∙◌}
use mathlib.Core.Bool.{true, false}
use mathlib.Core.List.{List}
use mathlib.Core.Logic.{◌⊎◌, inl, inr}
use native.Mathlib.Omega.{arith}
use native.Mathlib.Decide.{ℕ_discrete}
use native.Mathlib.Numerals.{one-add}
use lib.Dec.{ltb}
use lib.ListN.{length, get_or}
use borrow.Author.Tests.{lt-ltb}
use Rattle.bits.specs.Member.{has}
use Rattle.graphs.proofs.Graph.{edge_to}
use Rattle.game.specs.declared.Game.{Game}
use Rattle.game.specs.Acceptance.{accepted, acceptance}
use Rattle.play.specs.Play.{graph_of, separated_of}
use Rattle.arena.specs.Table.{gives}
use Rattle.theory.specs.Region.{region}
use Rattle.theory.specs.Choice.{environment_row}
use Rattle.theory.specs.Entries.{entry, environment_counters}
use Rattle.theory.proofs.Entries.{place_below, environment_long, environment_row_at}
use Rattle.theory.proofs.EnvironmentRow.{pushed}
use Rattle.table_filling.specs.Grows.{Right}
use Rattle.table_filling.proofs.Grows.{grows_none, grows_more}
use Rattle.table_entries.proofs.Packed.{gives_state}
use Rattle.environment_table.specs.Table.{entries_of, environment_place, Roomy, EnvironmentFilled}

-- the length of the list, and what stands at the place of a row

pub entries_length : (g : Game) → length (entries_of g) ≡ suc (g.input.states * environment_counters (separated_of g) * g.output.states)
unfolding entries_of separated_of graph_of
entries_length g = environment_long (separated_of g) ∙ one-add (g.input.states * environment_counters (separated_of g) * g.output.states)

module _ (g : Game) (i h o : ℕ) (li : i < g.input.states) (lh : h < environment_counters (separated_of g)) (lo : o < g.output.states) where
  place_in : environment_place (environment_counters (separated_of g)) g.output.states i h o < length (entries_of g)
  unfolding environment_place
  place_in = omega (arith, entries_length g, place_below g.input.states (environment_counters (separated_of g)) g.output.states i h o li lh lo)

  pub entry_at : get_or (entries_of g) (environment_place (environment_counters (separated_of g)) g.output.states i h o) 0
      ≡ entry (environment_row (separated_of g) i h o)
  unfolding environment_place entries_of separated_of graph_of
  entry_at = environment_row_at (separated_of g) 0 i h o li lh lo

  -- the state of a row that is not won
  pub pushed_state : acceptance g ≡ accepted → region (separated_of g) i o ≡ false → (c j : ℕ) → environment_row (separated_of g) i h o ≡ gives c j
      → j < g.input.states
  unfolding separated_of graph_of
  pushed_state a e c j q =
      let v = pushed (separated_of g) i h o li lo e lh in
      omega (arith, gives_state c v.counter j v.state (sym q ∙ v.is), edge_to (separated_of g).input i v.state v.move)

-- a number below k + 1 is below k, or k
pub below_next : {P Q : Type 0} (a k : ℕ) → a < k + 1 → (a < k → P) → (a ≡ k → Q) → P ⊎ Q
below_next a k b f g = elim (ℕ_discrete a k) [ yes q ↦ inr (g q) | no q ↦ inl (f (omega arith)) ]

-- rows written in any order

module _ (g : Game) where
  pub filled_none : {P : ℕ → ℕ → ℕ → Type 0} (l : List ℕ) → ((i h o : ℕ) → P i h o → ⊥) → EnvironmentFilled g P l l
  filled_none l f = record { grows = grows_none (entries_of g) l; rows = λ i h o a b c p. absurd (f i h o p) }

  pub filled_join : {P Q R : ℕ → ℕ → ℕ → Type 0} {l m n : List ℕ} → EnvironmentFilled g P l m → EnvironmentFilled g Q m n
      → ((i h o : ℕ) → i < g.input.states → h < environment_counters (separated_of g) → o < g.output.states → R i h o → P i h o ⊎ Q i h o)
      → EnvironmentFilled g R l n
  filled_join {P} {Q} {R} {l} {m} {n} p q f = record {
    grows = grows_more (entries_of g) p.grows q.grows;
    rows = λ i h o a b c r. go i h o a b c (f i h o a b c r);
  }
    where
      go : (i h o : ℕ) → i < g.input.states → h < environment_counters (separated_of g) → o < g.output.states → P i h o ⊎ Q i h o
          → Right (entries_of g) n (environment_place (environment_counters (separated_of g)) g.output.states i h o)
      go i h o a b c (inl x) =
          q.grows.kept (environment_place (environment_counters (separated_of g)) g.output.states i h o) (place_in g i h o a b c) (p.rows i h o a b c x)
      go i h o a b c (inr x) = q.rows i h o a b c x

  pub filled_same : {P R : ℕ → ℕ → ℕ → Type 0} {l m : List ℕ} → EnvironmentFilled g P l m
      → ((i h o : ℕ) → i < g.input.states → h < environment_counters (separated_of g) → o < g.output.states → R i h o → P i h o) → EnvironmentFilled g R l m
  filled_same p f = record { grows = p.grows; rows = λ i h o a b c r. p.rows i h o a b c (f i h o a b c r) }

  pub roomy_more : {P : ℕ → ℕ → ℕ → Type 0} {l m : List ℕ} {M : ℕ} → Roomy g M (length l) → EnvironmentFilled g P l m → Roomy g M (length m)
  roomy_more R p = record {
    accepted = R.accepted;
    counters = R.counters;
    few = R.few;
    inputs = R.inputs;
    outputs = R.outputs;
    room = omega (arith, R.room, p.grows.long);
  }

-- every counter belongs to the set of all
pub every_counter : (g : Game) (M n every h : ℕ) → Roomy g M n → ((t : ℕ) → has every t ≡ ltb t M) → h < environment_counters (separated_of g)
    → has every h ≡ true
every_counter g M n every h R e b = e h ∙ lt-ltb h M (omega (arith, R.counters))
