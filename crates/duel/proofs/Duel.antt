-- Both sides cannot win.
--
--   no_both               : not both sides hold a winning table
--   no_both_from          : the same from one position
--   not_won               : a position that a table of the environment beats is not won
--   demand_system, demand_environment    : demand 3 from a winning table
use Prim.Native.Nat.{ℕ, ◌<◌}
use mathlib.Core.Path.{◌≡◌, refl, sym}
use Rattle.arena.specs.Arena.{Arena}
use Rattle.arena.specs.Bounds.{Bounded}
use Rattle.arena.specs.Table.{Some, ControllerTable, EnvironmentTable}
use Rattle.arena.specs.Play.{Configuration, ControllerFirst, EnvironmentFirst}
use Rattle.arena.specs.Win.{ControllerWins, EnvironmentWins, Keeps, Won, system, environment, DemandThree}
use Rattle.arena.proofs.Reach.{reached_first}
use Rattle.duel.specs.Beats.{Beats}
use Rattle.duel.proofs.Match.{no_play}

-- the first configurations are those of the two starts
no_both : (A : Arena) → Bounded A → (T : ControllerTable) (P : EnvironmentTable) → ControllerWins A T → EnvironmentWins A P → ⊥
no_both A B T P win lose =
    no_play A B T P (ControllerFirst A T) (EnvironmentFirst A P)
    (record { steps = win.steps; rounds = win.rounds }) (record { steps = lose.steps; rounds = lose.rounds })
    (record {
      joint = record { input = i; output = reply.state; controller_memory = reply.memory; environment_memory = first.memory };
      within = record {
        input = B.initial i first.names.state;
        output = B.opening i reply.state reply.names.state;
        controller_memory = reply.names.memory;
        environment_memory = first.names.memory;
      };
      controller = reached_first _ _ (record { initial = first.names.state; start = reply.names });
      environment = reached_first _ _ (record { start = first.names; opening = reply.names.state });
    })
  where
    first : Some P.memories A.in_initial P.start
    first = lose.starts

    i : ℕ
    i = first.state

    reply : Some T.memories (A.opening i) (T.start i)
    reply = win.starts i first.names.state

-- the first configurations are the position, with a memory value of either side
pub no_both_from : (A : Arena) → Bounded A → (T : ControllerTable) (P : EnvironmentTable) (c d : Configuration)
    → c.input < A.inputs → c.output < A.outputs → c.input ≡ d.input → c.output ≡ d.output → Keeps A T c → Beats A P d → ⊥
no_both_from A B T P c d ib ob p q win lose =
    no_play A B T P (◌≡◌ c) (◌≡◌ d)
    (record { steps = win.steps; rounds = win.rounds }) (record { steps = lose.steps; rounds = lose.rounds })
    (record {
      joint = record { input = c.input; output = c.output; controller_memory = c.memory; environment_memory = d.memory };
      within = record { input = ib; output = ob; controller_memory = win.memory; environment_memory = lose.memory };
      controller = reached_first _ _ refl;
      environment = reached_first _ _ (λ i. record { input = sym p i; output = sym q i; memory = d.memory });
    })

-- demand 3 from a winning table: the other side has none
pub demand_system : {A : Arena} → Bounded A → {T : ControllerTable} → ControllerWins A T → DemandThree A (system T)
unfolding DemandThree
demand_system {A} B {T} win = (win, λ P lose. no_both A B T P win lose)

pub demand_environment : {A : Arena} → Bounded A → {P : EnvironmentTable} → EnvironmentWins A P → DemandThree A (environment P)
unfolding DemandThree
demand_environment {A} B {P} lose = (lose, λ T win. no_both A B T P win lose)

-- a position that an environment's table beats is not won
pub not_won : {A : Arena} → Bounded A → {P : EnvironmentTable} (i o m : ℕ) → i < A.inputs → o < A.outputs
    → Beats A P (record { input = i; output = o; memory = m }) → Won A i o → ⊥
not_won {A} B {P} i o m ib ob lose won = no_both_from A B won.table P _ _ ib ob refl refl won.keeps lose
