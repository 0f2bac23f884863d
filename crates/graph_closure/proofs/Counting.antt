-- The loop of `close`: the rows and the count before each sweep.
use Prim.Native.Nat.{ℕ, suc, ◌≤◌, ◌<◌, max}
use mathlib.Core.Path.{◌≡◌, refl, sym, ◌∙◌, ap}
use mathlib.Core.Bool.{Bool, true, false, not}
use mathlib.Core.List.{List, ◌++◌}
use mathlib.Core.Logic.{inl, inr}
use native.Mathlib.Decide.{dec_lt}
use native.Mathlib.Omega.{arith}
use lib.ListN.{length}
use Rattle.finite.proofs.Truth.{clash}
use Rattle.finite.proofs.Bounded.{below_suc, least_unique}
use Rattle.graphs.specs.Graph.{edge}
use Rattle.graphs.specs.Rows.{rows_of}
use Rattle.graphs.specs.Closure.{reaches}
use Rattle.game.specs.declared.Graph.{Graph}
use Rattle.play.specs.Play.{graph_of}
use Rattle.graph_closure.specs.Sweep.{swept, adds, swept_times, Given, first_rows, sweep_settled, sweeps_of, Ran, Closed}
use Rattle.graph_closure.proofs.Sweeps.{swept_length}
use Rattle.graph_closure.proofs.FirstRows.{first_length, first_rest, first_again}
use Rattle.graph_closure.proofs.Stages.{Stage, stage_start, stage_next, stage_end, stage_few, stage_loops}

-- some graph has n states and the rows l
pub graph_given : (n : ℕ) (l : List ℕ) → (h : Graph) × Given h n l
graph_given n l = (record { states = n; initial = record { low = 0; high = 0 }; moves = l }, record { states = refl; moves = refl })

pub ran_given : {h : Graph} {n : ℕ} {l m x : List ℕ} {b : Bool} {j k : ℕ} → Given h n l → Ran n m x b j k → Ran h.states m x b j k
ran_given G w = rw G.states w

-- m is l after k sweeps, all of which added a state; one sweep more is not too many
pub record Counted (h : Graph) (l m : List ℕ) (k : ℕ) : Type 0 where
  pub few : k < max 1 h.states
  pub rows : m ≡ swept_times h.states l k
  busy : (j : ℕ) → j < k → adds h.states (swept_times h.states l j) h.states ≡ true
  pub same : length m ≡ length l
  stage : Stage (graph_of h) l m k

-- the first rows are before the first sweep
pub counted_start : (h : Graph) (l : List ℕ) {m : List ℕ} → m ≡ first_rows h l → h.states ≤ length l → Counted h m m 0
unfolding graph_of swept_times
counted_start h l {m} e b = record {
  few = omega arith;
  rows = refl;
  busy = λ j c. absurd (omega arith);
  same = refl;
  stage = stage_start (graph_of h) m m (omega (arith, first_length h l e b)) (first_again h l e);
}

-- a sweep leaves the buffer's length
ran_same : {n : ℕ} {m x : List ℕ} {b : Bool} {j k : ℕ} → Ran n m x b j k → length x ≡ length m
ran_same {n} {m} w = ap length w.sweep.rows ∙ swept_length n m n

-- x is m after one sweep more, which makes k' sweeps
module _ {h : Graph} {l m : List ℕ} {k : ℕ} {x : List ℕ} {b : Bool} {k' : ℕ} (c : Counted h l m k) (w : Ran h.states m x b k k') where
  now_adds : adds h.states (swept_times h.states l k) h.states ≡ b
  now_adds = ap (λ (r : List ℕ). adds h.states r h.states) (sym c.rows) ∙ sym w.sweep.added

  pub counted_few : b ≡ true → k' < h.states
  unfolding graph_of
  counted_few e = omega (arith, stage_few (graph_of h) l m k c.stage (sym w.sweep.added ∙ e), w.count)

  counted_same : length x ≡ length l
  counted_same = ran_same w ∙ c.same

  next_is : k' ≡ suc k
  next_is = omega (arith, w.count)

  pub counted_next : b ≡ true → Counted h l x k'
  unfolding graph_of swept_times
  counted_next e = rw next_is (record {
    few = omega (arith, counted_few e, next_is);
    rows = w.sweep.rows ∙ ap (λ (r : List ℕ). swept h.states r h.states) c.rows;
    busy = λ j d. elim (below_suc j k d) [ inl q ↦ rw q (now_adds ∙ e) | inr q ↦ c.busy j q ];
    same = counted_same;
    stage = rw w.sweep.rows (stage_next (graph_of h) l m k c.stage);
  })

  counted_settled : (o : List ℕ) → l ≡ first_rows h o → b ≡ false → k' ≡ sweeps_of h o
  unfolding sweeps_of sweep_settled
  counted_settled o s e =
      let at : (j : ℕ) → sweep_settled h o j ≡ not (adds h.states (swept_times h.states l j) h.states) =
      λ j. ap (λ (r : List ℕ). not (adds h.states (swept_times h.states r j) h.states)) (sym s) in
      next_is
      ∙ ap suc
      (sym
      (least_unique (suc h.states) (sweep_settled h o) k (omega (arith, c.few))
      (at k ∙ ap not (now_adds ∙ e)) (λ j d. at j ∙ ap not (c.busy j d))))

  -- where each state moves only to itself, the first sweep adds nothing
  counted_loops : Counted h l l 0 → ((s t : ℕ) → edge (graph_of h) s t ≡ true → t ≡ s) → k' ≡ 1
  unfolding graph_of swept_times
  counted_loops f a =
      elim (dec_lt 0 k) [
        | yes d ↦ clash (c.busy 0 d) (stage_loops (graph_of h) l l 0 f.stage a)
        | no d ↦ omega (arith, next_is)
      ]

  pub counted_end : (o : List ℕ) → l ≡ first_rows h o → h.states ≤ length o → b ≡ false → Closed h o x k'
  unfolding graph_of
  counted_end o s f e = record {
    rows =
        w.sweep.rows ∙ stage_end (graph_of h) l m k c.stage (sym w.sweep.added ∙ e)
        ∙ ap (λ (r : List ℕ). rows_of h.states h.states (reaches (graph_of h)) ++ r) (first_rest h o s);
    count = counted_settled o s e;
    some = omega (arith, next_is);
    loops = counted_loops (counted_start h o s f);
    few = omega (arith, c.few, next_is);
  }
