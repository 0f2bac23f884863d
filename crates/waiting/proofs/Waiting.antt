-- The right to wait of every accepted game.
use Prim.Native.Nat.{ℕ, suc, ◌-◌, ◌*◌, ◌≤◌, ◌<◌, max}
use mathlib.Core.Path.{◌≡◌, refl, sym, ◌∙◌, ap, subst, subst⁻¹}
use mathlib.Core.Bool.{true}
use mathlib.Core.List.{List, ◌∷◌}
use lib.ListN.{length}
use Rattle.graphs.specs.Walk.{Walk, stay, step}
use Rattle.graphs.specs.Graph.{Graph, edge, Moves}
use Rattle.graphs.specs.Closure.{reaches}
use Rattle.graphs.specs.Component.{joined, nontrivial, meets_at}
use Rattle.graphs.proofs.Graph.{edge_from}
use Rattle.graphs.proofs.Closure.{Path, path_reaches, reaches_path, reaches_edge, reaches_self, reaches_trans, path_below}
use Rattle.graphs.proofs.Component.{joined_intro, joined_trans, joined_back, nontrivial_move, nontrivial_same}
use Rattle.graphs.proofs.Measure.{targets}
use Rattle.arena.specs.Arena.{arena_of}
use Rattle.arena.specs.Table.{Some}
use Rattle.arena.specs.Play.{Configuration, ControllerFirst, ControllerTurn, Reachable, visits_output}
use Rattle.arena.specs.Win.{SystemWins}
use Rattle.game.specs.declared.Game.{Game}
use Rattle.game.specs.Acceptance.{accepted, acceptance}
use Rattle.play.specs.Play.{graph_of, separated_of}
use Rattle.theory.specs.Tour.{goal_at}
use Rattle.theory.specs.Choice.{guarantees, home}
use Rattle.theory.proofs.Region.{region_in, region_out}
use Rattle.theory.proofs.Delay.{delay}
use Rattle.theory.proofs.Entries.{read_follows}
use Rattle.theory.proofs.Controller.{Follows, Kept, turn_kept, step_some}
use Rattle.theory.proofs.Demands.{wins_verdict, reached_won}
use Rattle.demands.specs.Demands.{play_of, controller_of}
use Rattle.demands.proofs.Demands.{demand_two}
use Rattle.demands.proofs.Sizes.{accepted_sized}
use Rattle.waiting.specs.Waiting.{ours, KeptFrom, StaysIn, entered, AtHome, RightToWait}
use Rattle.waiting.proofs.Staying.{Turn, stays_first, stays_turn, homecoming, visits}

-- where a walk to a state begins

walk_above : (G : Graph) {s t : ℕ} → Walk (Moves G) s t → t < G.states → s < G.states
walk_above G stay b = b
walk_above G (step {a = s} {b = u} e w) b = edge_from G s u e

-- a state that a way leads back to is entered by a move from a state that it reaches
entered_from : (G : Graph) (s q a : ℕ) → edge G q a ≡ true → reaches G s q ≡ true → Path G a s
    → (p : ℕ) × (edge G p s ≡ true) × (reaches G s p ≡ true)
entered_from G s q a e r stay = (q, e, r)
entered_from G s q a e r (step {b = b} f w) = entered_from G s a b f (reaches_trans G s q a r (reaches_edge G q a e)) w

-- each state of a stayable component is entered by a move inside it
entered_inside : (G : Graph) (s : ℕ) → s < G.states → nontrivial G s ≡ true → (p : ℕ) × (edge G p s ≡ true) × (reaches G s p ≡ true)
entered_inside G s b n =
    let v = nontrivial_move G s n in
    entered_from G s s v.0 v.1 (reaches_self G s b) (reaches_path G v.0 s (joined_back G s v.0 v.2))

module _ (g : Game) (a : acceptance g ≡ accepted) where
  -- our table does what the rows say
  follows : Follows (separated_of g) (ours g)
  unfolding ours controller_of separated_of graph_of
  follows = read_follows (separated_of g) (accepted_sized g a)

  -- a play is kept from where a position is won and the counter in range
  begins_kept : (x : Configuration) → KeptFrom g x → Kept (separated_of g) x
  begins_kept x B = record {
    won = ((demand_two g).marks x.input x.output B.input B.output).1 B.won;
    range = subst (λ (k : ℕ). x.memory < k) follows.counters B.memory;
  }

  kept_begins : (x : Configuration) → Kept (separated_of g) x → KeptFrom g x
  unfolding separated_of graph_of
  kept_begins x K =
      let i = region_in (separated_of g) x.input x.output K.won in
      let o = region_out (separated_of g) x.input x.output K.won in
      record {
        input = i;
        output = o;
        memory = subst⁻¹ (λ (k : ℕ). x.memory < k) follows.counters K.range;
        won = ((demand_two g).marks x.input x.output i o).0 K.won;
      }

  -- a turn of our table keeps what is won
  turn_keeps : (x y : Configuration) → KeptFrom g x → ControllerTurn (play_of g) (ours g) x y → Kept (separated_of g) y
  unfolding play_of
  turn_keeps x y B t = turn_kept (separated_of g) (ours g) follows x y (begins_kept x B) t

  -- it has a reply to every next input of such a configuration
  kept_answers : (x : Configuration) → KeptFrom g x → (j : ℕ) → (play_of g).in_move x.input j ≡ true
      → Some (ours g).memories ((play_of g).reply j x.output) ((ours g).step x.memory x.output j)
  unfolding play_of arena_of
  kept_answers x B j e = step_some (separated_of g) (ours g) follows x j (begins_kept x B) e

  reached_begins : SystemWins (play_of g) → (x : Configuration) → Reachable (ControllerFirst (play_of g) (ours g)) (ControllerTurn (play_of g) (ours g)) x
      → KeptFrom g x
  unfolding play_of ours controller_of separated_of graph_of
  reached_begins w x r = kept_begins x (reached_won (separated_of g) (accepted_sized g a) (wins_verdict (separated_of g) w) x r)

  module _ (x : Configuration) (B : KeptFrom g x) (n : nontrivial (graph_of g.input) x.input ≡ true) where
    kept : Kept (separated_of g) x
    kept = begins_kept x B

    stayable : nontrivial (separated_of g).input x.input ≡ true
    unfolding separated_of
    stayable = n

    abbrev T : Configuration → Configuration → Type 0
    T = Turn (separated_of g) (ours g) follows x kept stayable

    carry : {y z : Configuration} → Walk (StaysIn g x.input) y z → Walk T y z
    unfolding play_of separated_of
    carry stay = stay
    carry (step t w) = step (record { turn = t.turn; here = t.here }) (carry w)

    carried : {y z : Configuration} (w : Walk (StaysIn g x.input) y z) → targets (carry w) ≡ entered w
    unfolding carry targets entered
    carried stay = refl
    carried (step {b = b} t w) = ap (λ (l : List Configuration). b ∷ l) (carried w)

    comes_home : {y : Configuration} (w : Walk (StaysIn g x.input) x y) → g.output.states - 1 ≤ length (entered w) → AtHome g x y
    unfolding separated_of graph_of
    comes_home w l =
        record { there = homecoming (separated_of g) (ours g) follows x kept stayable (carry w) (rw (carried w) l) }

    visits_each : {y z : Configuration} → Walk (StaysIn g x.input) x y → AtHome g x y → (w : Walk (StaysIn g x.input) y z)
        → max 1 (length (guarantees (separated_of g))) * g.output.states ≤ length (entered w) → (q : ℕ) → q < length (guarantees (separated_of g))
        → meets_at (graph_of g.output) (home (separated_of g) x.input x.output) (goal_at (guarantees (separated_of g)) q) ≡ true
        → visits_output (goal_at (guarantees (separated_of g)) q) (entered w) ≡ true
    unfolding separated_of graph_of visits_output
    visits_each v h w l q b m =
        rw (sym (carried w))
        (visits (separated_of g) (ours g) follows x kept stayable q b m (carry v) h.there (carry w) (rw (carried w) l))

  -- A turn of x enters the component of b. The same reply is made from a state of that component that moves to b, and won with the output of x.
  module _ (x b : Configuration) (B : KeptFrom g x) (t : ControllerTurn (play_of g) (ours g) x b) (n : nontrivial (graph_of g.input) b.input ≡ true) where
    abbrev I : Graph
    I = graph_of g.input

    abbrev O : Graph
    O = graph_of g.output

    kept_b : Kept (separated_of g) b
    kept_b = turn_keeps x b B t

    reply : edge O x.output b.output ≡ true
    unfolding play_of arena_of separated_of
    reply = t.step.state

    below : b.input < I.states
    unfolding separated_of
    below = region_in (separated_of g) b.input b.output kept_b.won

    prior : (p : ℕ) × (edge I p b.input ≡ true) × (reaches I b.input p ≡ true)
    prior = entered_inside I b.input below n

    together : joined I prior.0 b.input ≡ true
    together = joined_intro I prior.0 b.input (reaches_edge I prior.0 b.input prior.1) prior.2

    abbrev x' : Configuration
    x' = record { input = prior.0; output = x.output; memory = x.memory }

    begins' : KeptFrom g x'
    unfolding separated_of
    begins' = kept_begins x' (record {
      won = delay (separated_of g) b.input prior.0 b.output x.output prior.2 (reaches_edge O x.output b.output reply) kept_b.won;
      range = (begins_kept x B).range;
    })

    stayable' : nontrivial I prior.0 ≡ true
    stayable' = nontrivial_same I prior.0 b.input together ∙ n

    first : StaysIn g prior.0 x' b
    unfolding play_of arena_of separated_of
    first = record { turn = record { move = prior.1; step = t.step }; here = together }

    onward : {y z : Configuration} → Walk (StaysIn g b.input) y z → Walk (StaysIn g prior.0) y z
    onward stay = stay
    onward (step {b = c} u w) = step (record { turn = u.turn; here = joined_trans I prior.0 b.input c.input together u.here }) (onward w)

    onward_entered : {y z : Configuration} (w : Walk (StaysIn g b.input) y z) → entered (onward w) ≡ entered w
    unfolding onward entered
    onward_entered stay = refl
    onward_entered (step {b = c} u w) = ap (λ (l : List Configuration). c ∷ l) (onward_entered w)

    whole_entered : {y : Configuration} (w : Walk (StaysIn g b.input) b y) → length (entered (step first (onward w))) ≡ suc (length (entered w))
    unfolding entered
    whole_entered w = ap (λ (l : List Configuration). suc (length l)) (onward_entered w)

    -- the home of b is the one that the reply was towards
    same_home : home (separated_of g) b.input b.output ≡ home (separated_of g) prior.0 x.output
    unfolding play_of separated_of
    same_home =
        (stays_turn (separated_of g) (ours g) follows x' (kept x' begins' stayable') (stayable x' begins' stayable') x' b
        (stays_first (separated_of g) (ours g) follows x' (kept x' begins' stayable') (stayable x' begins' stayable'))
        (record { turn = first.turn; here = together })).same

    arrives_home : {y : Configuration} (w : Walk (StaysIn g b.input) b y) → g.output.states - 1 ≤ suc (length (entered w)) → AtHome g b y
    arrives_home {y} w l = record {
      there = subst⁻¹ (λ (d : ℕ). joined O d y.output ≡ true) same_home
          (comes_home x' begins' stayable' (step first (onward w)) (rw (whole_entered w) l)).there;
    }

  -- The right to wait.
  pub right_to_wait : RightToWait g
  unfolding separated_of graph_of
  right_to_wait = record {
    waits = λ i i' o o' b e v w W.
        let c = path_below (graph_of g.input) v b in
        let f = walk_above (graph_of g.output) w e in
        ((demand_two g).marks i' o' c f).0
        (delay (separated_of g) i i' o o' (path_reaches (graph_of g.input) i i' b v) (path_reaches (graph_of g.output) o' o f w)
        (((demand_two g).marks i o b e).1 W));
    homecoming = λ x y B n w l. comes_home x B n w l;
    arrives = λ x b y B t n w l. arrives_home x b B t n w l;
    visits = λ x y z B n v h w l q b m. visits_each x B n v h w l q b m;
    keeps = λ x y B t. kept_begins y (turn_keeps x y B t);
    answers = kept_answers;
    begins = reached_begins;
  }
