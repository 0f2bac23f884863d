-- Configurations, turns, walks and rounds. A round of document 01 is here a cycle.
--
--   ControllerFirst A T c,  EnvironmentFirst A P c       == c is a first configuration of the table
--   ControllerTurn A T c d, EnvironmentTurn A P c d      == a turn makes d from c
--   Reachable First Turn c                               == a walk from a first configuration ends in c
--   Cycle First Turn                                     == a reachable round
--   configurations r                                     == the configurations of the round
--   visits_input s cs, visits_output s cs                  == one of the configurations has its state in the set
--   meets q cs, breaks q cs                              == the configurations meet, or break, the requirement
use Rattle.std.specs.Prelude.{ℕ, ◌≡◌, Bool, true, not, ◌||◌, List, ◌∷◌}
use Rattle.finite.specs.Lists.{all_of, any_of}
use Rattle.graphs.specs.Walk.{Walk, passed}
use Rattle.arena.specs.Arena.{Requirement, Arena}
use Rattle.arena.specs.Table.{Names, ControllerTable, EnvironmentTable}

-- "A configuration is input, output and memory." (SPEC 2.4)
pub record Configuration : Type 0 where
  pub input : ℕ
  pub output : ℕ
  pub memory : ℕ

module _ (A : Arena) (T : ControllerTable) where
  -- "The first ones are each initial input with what its start gives" (SPEC 2.4)
  pub record ControllerFirst (c : Configuration) : Type 0 where
    pub initial : A.in_initial c.input ≡ true
    pub start : Names T.memories (A.opening c.input) (T.start c.input) c.memory c.output

  -- "A turn makes the next: an input move, then an output move, one by the table's step, which also gives the memory, the other any move; a none
  -- makes nothing." The controller's step sees the new input. (SPEC 2.5)
  pub record ControllerTurn (c d : Configuration) : Type 0 where
    pub move : A.in_move c.input d.input ≡ true
    pub step : Names T.memories (A.reply d.input c.output) (T.step c.memory c.output d.input) d.memory d.output

module _ (A : Arena) (P : EnvironmentTable) where
  -- "or the panel's start with any initial output" (SPEC 2.4)
  pub record EnvironmentFirst (c : Configuration) : Type 0 where
    pub start : Names P.memories A.in_initial P.start c.memory c.input
    pub opening : A.opening c.input c.output ≡ true

  -- the same turn, its input move by the table's step (SPEC 2.5)
  pub record EnvironmentTurn (c d : Configuration) : Type 0 where
    pub step : Names P.memories (A.in_move c.input) (P.step c.memory c.input c.output) d.memory d.input
    pub reply : A.reply d.input c.output d.output ≡ true

module _ (First : Configuration → Type 0) (Turn : Configuration → Configuration → Type 0) where
  -- "A configuration is reachable when a walk from a first one ends in it" (SPEC 2.6)
  pub record Reachable (c : Configuration) : Type 0 where
    pub origin : Configuration
    pub first : First origin
    pub walk : Walk Turn origin c

  -- "A round is a walk of one move or more back to its first configuration, and need not be simple." It is reachable where its first
  -- configuration is: then all of its configurations are. (SPEC 2.6)
  pub record Cycle : Type 0 where
    pub at : Configuration
    pub next : Configuration
    pub last : Configuration
    pub turn : Turn at next
    pub rest : Walk Turn next last
    pub back : last ≡ at
    pub reachable : Reachable at

  unfoldable pub configurations : Cycle → List Configuration
  configurations r = r.at ∷ passed r.rest

-- "it visits a set when one of its configurations has its state there" (SPEC 2.7)
unfoldable pub visits_input : (ℕ → Bool) → List Configuration → Bool
visits_input s cs = any_of (λ c. s c.input) cs

-- SPEC 2.7
unfoldable pub visits_output : (ℕ → Bool) → List Configuration → Bool
visits_output s cs = any_of (λ c. s c.output) cs

-- "A round meets a requirement when it misses some input set or visits every output set, else breaks it." (SPEC 2.7, 2.8)
unfoldable pub meets : Requirement → List Configuration → Bool
meets q cs = any_of (λ s. not (visits_input s cs)) q.assumptions || all_of (λ s. visits_output s cs) q.guarantees

-- SPEC 2.7
unfoldable pub breaks : Requirement → List Configuration → Bool
unfolding meets
breaks q cs = not (meets q cs)
