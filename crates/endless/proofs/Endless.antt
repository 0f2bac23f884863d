-- Along a play of a winning controller that never ends every requirement is met: where its input sets recur, so do its output sets. There are
-- finitely many configurations, so from any time on the play comes back to one that it was at, and every input set is visited between. The stretch
-- between is a round: it meets the requirement, so it visits every output set.
--
--   input_visited, output_visited    : visits of a set, told of times
--   number_below, same_number        : a configuration in range as one number
--   round_meets       : where the play comes back, what it passed meets the requirement
--   round_visits      : and visits each output set, if it visits every input set
--   comes_back        : where the input sets recur the play comes back, with a visit of each between
--   recurs            : so each output set recurs
--   endless_meets     : the theorem
use Prim.Native.Nat.{ℕ, suc, ◌+◌, ◌-◌, ◌*◌, ◌≤◌, ◌<◌}
use mathlib.Core.Path.{◌≡◌, sym, ◌∙◌, ap, subst}
use mathlib.Core.Bool.{Bool, true}
use mathlib.Core.List.{List, map, Memᴰ}
use native.Mathlib.Omega.{arith}
use Rattle.finite.specs.Lists.{all_of}
use Rattle.finite.proofs.Lists.{all_of_intro, all_of_elim, any_of_intro, any_of_elim, any_of_map}
use Rattle.graphs.proofs.Walk.{iterate, trail}
use Rattle.arena.specs.Arena.{Requirement, Arena}
use Rattle.arena.specs.Bounds.{Bounded}
use Rattle.arena.specs.Table.{ControllerTable}
use Rattle.arena.specs.Play.{Configuration, ControllerFirst, ControllerTurn, Cycle, configurations, visits_input, visits_output, meets}
use Rattle.arena.specs.Win.{ControllerWins}
use Rattle.arena.proofs.Bounds.{Inside, inside_controller}
use Rattle.arena.proofs.Meets.{meets_elim}
use Rattle.duel.proofs.Joint.{Joint, controller_side, Within, code, code_below, code_injective}
use Rattle.endless.specs.Endless.{Later, Recurs, Endless, RecurringMeet}
use Rattle.endless.proofs.Times.{Window, window, Return, returns, steps_end, trail_late, trail_passes}
use Rattle.endless.proofs.Rounds.{reached, round, round_passed}

-- a set that holds the input at one of the times is visited
input_visited : (s : ℕ → Bool) (f : ℕ → Configuration) {l : List ℕ} {m : ℕ}
    → Memᴰ m l → s (f m).input ≡ true → visits_input s (map f l) ≡ true
unfolding visits_input
input_visited s f {l} h e = any_of_map (λ c. s c.input) f l ∙ any_of_intro (λ n. s (f n).input) h e

-- a set that is visited holds the output at one of the times
output_visited : (s : ℕ → Bool) (f : ℕ → Configuration) (l : List ℕ)
    → visits_output s (map f l) ≡ true → (m : ℕ) × Memᴰ m l × (s (f m).output ≡ true)
unfolding visits_output
output_visited s f l h = any_of_elim (λ n. s (f n).output) l (sym (any_of_map (λ c. s c.output) f l) ∙ h)

-- a configuration with, for the environment, the one memory value 0
alone : Configuration → Joint
alone c = record { input = c.input; output = c.output; controller_memory = c.memory; environment_memory = 0 }

module _ (A : Arena) (T : ControllerTable) where
  -- its number
  number : Configuration → ℕ
  number c = code A.outputs T.memories 1 (alone c)

  -- it is in range
  within : (c : Configuration) → Inside A T.memories c → Within A.inputs A.outputs T.memories 1 (alone c)
  unfolding alone
  within c i = record { input = i.input; output = i.output; controller_memory = i.memory; environment_memory = omega arith }

  -- so its number is below the product of the counts
  number_below : (c : Configuration) → Inside A T.memories c → number c < A.inputs * A.outputs * T.memories * 1
  unfolding number
  number_below c i = code_below A.inputs A.outputs T.memories 1 (alone c) (within c i)

  -- and no other configuration has it
  same_number : (c d : Configuration) → Inside A T.memories c → Inside A T.memories d → number c ≡ number d → c ≡ d
  unfolding number alone
  same_number c d i j e =
      ap controller_side (code_injective A.inputs A.outputs T.memories 1 (alone c) (alone d) (within c i) (within d j) e)

module _ (A : Arena) (B : Bounded A) (T : ControllerTable) (W : ControllerWins A T) (f : ℕ → Configuration)
    (play : Endless (ControllerFirst A T) (ControllerTurn A T) f) (q : Requirement) (required : Memᴰ q A.requirements) where
  -- every configuration of the play is in range
  inside : (n : ℕ) → Inside A T.memories (f n)
  inside n = inside_controller B T (f n) (reached (ControllerFirst A T) (ControllerTurn A T) f play n)

  -- where the play comes back after k + 1 turns, what it passed meets the requirement
  round_meets : (t k : ℕ) → f (iterate suc (suc k) t) ≡ f t → meets q (map f (trail suc (suc k) t)) ≡ true
  round_meets t k back =
      let r : Cycle (ControllerFirst A T) (ControllerTurn A T) = round (ControllerFirst A T) (ControllerTurn A T) f play t k back in
      subst (λ (cs : List Configuration). meets q cs ≡ true) (round_passed (ControllerFirst A T) (ControllerTurn A T) f play t k back)
      (all_of_elim (λ p. meets p (configurations (ControllerFirst A T) (ControllerTurn A T) r)) A.requirements (W.rounds r) q required)

  -- so where it visited every input set it visited each output set, not before the time t
  round_visits : (t k : ℕ) → f (iterate suc (suc k) t) ≡ f t
      → ((s : ℕ → Bool) → Memᴰ s q.assumptions → visits_input s (map f (trail suc (suc k) t)) ≡ true)
      → (s : ℕ → Bool) → Memᴰ s q.guarantees → Later (λ n. s (f n).output) t
  round_visits t k back h s m =
      let cs : List Configuration = map f (trail suc (suc k) t) in
      let every : all_of (λ r. visits_input r cs) q.assumptions ≡ true = all_of_intro (λ r. visits_input r cs) q.assumptions h in
      let there : visits_output s cs ≡ true
      = all_of_elim (λ r. visits_output r cs) q.guarantees (meets_elim q cs (round_meets t k back) every) s m in
      let w = output_visited s f (trail suc (suc k) t) there in
      record { at = w.0; late = omega (arith, trail_late (suc k) t w.0 w.1); here = w.2 }

  module _ (recur : (s : ℕ → Bool) → Memᴰ s q.assumptions → Recurs (λ n. s (f n).input)) where
    -- from each time on there is a time before which every input set is visited
    visited : (t : ℕ) → Window (λ (s : ℕ → Bool) (n : ℕ). s (f n).input) q.assumptions t
    visited = window (λ (s : ℕ → Bool) (n : ℕ). s (f n).input) q.assumptions recur

    -- k + 1 turns that go on until then visit every input set
    passes : (t k : ℕ) → (visited t).until ≤ t + suc k
        → (s : ℕ → Bool) → Memᴰ s q.assumptions → visits_input s (map f (trail suc (suc k) t)) ≡ true
    passes t k covers s m =
        let w = (visited t).sees s m in
        input_visited s f (trail_passes (suc k) t w.at w.late (omega (arith, w.early, covers))) w.here

    -- from each time on the play comes back to a configuration, with a visit of every input set between
    comes_back : (n : ℕ) → Return (λ t. (visited t).until) (λ t. number A T (f t)) n
    comes_back =
        returns (λ t. (visited t).until) (λ t. (visited t).on) (λ t. number A T (f t)) (A.inputs * A.outputs * T.memories * 1)
        (λ t. number_below A T (f t) (inside t))

    -- so each output set is visited from there on
    recurs : (s : ℕ → Bool) → Memᴰ s q.guarantees → Recurs (λ n. s (f n).output)
    recurs s m n =
        let r = comes_back n in
        let k : ℕ = r.to - suc r.from in
        let split : r.from + suc k ≡ r.to = omega (arith, (visited r.from).on, r.covers) in
        let same : f r.from ≡ f r.to = same_number A T (f r.from) (f r.to) (inside r.from) (inside r.to) r.same in
        let back : f (iterate suc (suc k) r.from) ≡ f r.from = ap f (steps_end (suc k) r.from ∙ split) ∙ sym same in
        let found = round_visits r.from k back (passes r.from k (omega (arith, split, r.covers))) s m in
        record { at = found.at; late = omega (arith, r.late, found.late); here = found.here }

-- "if these old modes recur, these new modes recur": along every play of a winning controller that never ends, for every requirement.
pub endless_meets : (A : Arena) → Bounded A → (T : ControllerTable) → ControllerWins A T → (f : ℕ → Configuration)
    → Endless (ControllerFirst A T) (ControllerTurn A T) f
    → (q : Requirement) → Memᴰ q A.requirements → RecurringMeet q f
endless_meets A B T W f play q required = record { guaranteed = recurs A B T W f play q required }
