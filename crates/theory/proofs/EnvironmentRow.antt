-- Rows of the environment's table: each makes a move after which every reply makes a position that is not won.
--
--   Pushed         == what a row of the environment does
--   pushed         : every row at a position that is not won does that
use Prim.Native.Nat.{ℕ, ◌<◌}
use mathlib.Core.Path.{◌≡◌, refl, sym, ◌∙◌, ap, fun_ext}
use mathlib.Core.Bool.{Bool, true, false, ◌&&◌, ◌||◌, not}
use mathlib.Core.Logic.{inl, inr}
use Rattle.finite.specs.Bounded.{any, least}
use Rattle.finite.proofs.Truth.{decide, clash, true_of, false_of, and_intro, and_left, and_right, or_cases, not_true, same_test}
use Rattle.finite.proofs.Bounded.{any_intro, any_elim, any_false, any_same, least_below, least_member, least_found, least_same}
use Rattle.graphs.specs.Graph.{edge, stuck}
use Rattle.graphs.specs.Component.{joined, number, nontrivial}
use Rattle.graphs.specs.Way.{toward}
use Rattle.graphs.proofs.Graph.{edge_to, stuck_none}
use Rattle.graphs.proofs.Component.{joined_there, joined_back, joined_sym, joined_trans, joined_to, number_joined, number_same, nontrivial_move}
use Rattle.graphs.proofs.Way.{Leads, toward_move}
use Rattle.arena.specs.Arena.{Separated}
use Rattle.arena.specs.Table.{gives}
use Rattle.theory.specs.Region.{answers, region}
use Rattle.theory.specs.Tour.{inside, tour}
use Rattle.theory.specs.Choice.{assumptions, lost, way_out, gate, outward, escapes, pressing, pushing, opposing, environment_row}
use Rattle.theory.specs.Entries.{environment_counters}
use Rattle.theory.proofs.Region.{answers_false, answers_stuck, replies_false, region_replies}
use Rattle.theory.proofs.Delay.{output_back, output_delay, input_delay}
use Rattle.theory.proofs.Tour.{toured, inside_edge, inside_to, inside_leads}

module _ (S : Separated) where
  -- what a reply leaves lost

  pub lost_out : (j o p : ℕ) → region S j o ≡ false → edge S.output o p ≡ true → region S j p ≡ false
  lost_out j o p h e = false_of (region S j p) (λ t. clash (output_back S j o p e t) h)

  lost_in_lem : (i j o p : ℕ) → joined S.input i j ≡ true → region S i o ≡ false → edge S.output o p ≡ true → region S j p ≡ false
  lost_in_lem i j o p a h e =
      false_of (region S j p) (λ t. clash (input_delay S j i o (joined_back S.input i j a) (output_back S j o p e t)) h)

  -- ways out

  pub lost_edge : (o i j : ℕ) → lost S o i j ≡ true → edge S.input i j ≡ true
  unfolding lost
  lost_edge o i j h = and_left (edge S.input i j) (not (joined S.input i j) && not (region S j o)) h

  pub lost_apart : (o i j : ℕ) → lost S o i j ≡ true → joined S.input i j ≡ false
  unfolding lost
  lost_apart o i j h =
      not_true (joined S.input i j)
      (and_left (not (joined S.input i j)) (not (region S j o)) (and_right (edge S.input i j) (not (joined S.input i j) && not (region S j o)) h))

  pub lost_region : (o i j : ℕ) → lost S o i j ≡ true → region S j o ≡ false
  unfolding lost
  lost_region o i j h =
      not_true (region S j o)
      (and_right (not (joined S.input i j)) (not (region S j o)) (and_right (edge S.input i j) (not (joined S.input i j) && not (region S j o)) h))

  lost_intro : (o i j : ℕ) → edge S.input i j ≡ true → joined S.input i j ≡ false → region S j o ≡ false → lost S o i j ≡ true
  unfolding lost
  lost_intro o i j e a h = and_intro e (and_intro (ap not a) (ap not h))

  way_out_intro : (o i j : ℕ) → lost S o i j ≡ true → way_out S o i ≡ true
  unfolding way_out
  way_out_intro o i j h = any_intro S.input.states (lost S o i) j (edge_to S.input i j (lost_edge o i j h)) h

  -- with no way out, every exit is won
  pub no_way_out : (o i j : ℕ) → way_out S o i ≡ false → edge S.input i j ≡ true → joined S.input i j ≡ false → region S j o ≡ true
  no_way_out o i j h e a = true_of (region S j o) (λ n. clash (way_out_intro o i j (lost_intro o i j e a n)) h)

  pub way_out_lost : (o i : ℕ) → way_out S o i ≡ true → lost S o i (least S.input.states (lost S o i)) ≡ true
  unfolding way_out
  way_out_lost o i h = least_member S.input.states (lost S o i) (least_found S.input.states (lost S o i) h)

  pub gate_joined : (o c k : ℕ) → gate S o c k ≡ true → joined S.input c k ≡ true
  unfolding gate
  gate_joined o c k h = and_left (joined S.input c k) (way_out S o k) h

  pub gate_out : (o c k : ℕ) → gate S o c k ≡ true → way_out S o k ≡ true
  unfolding gate
  gate_out o c k h = and_right (joined S.input c k) (way_out S o k) h

  pub gate_intro : (o c k : ℕ) → joined S.input c k ≡ true → way_out S o k ≡ true → gate S o c k ≡ true
  unfolding gate
  gate_intro o c k a b = and_intro a b

  escapes_elim : (i o : ℕ) → escapes S i o ≡ true → (k : ℕ) × (gate S o (number S.input i) k ≡ true)
  unfolding escapes
  escapes_elim i o h = let v = any_elim S.input.states (gate S o (number S.input i)) h in (v.0, v.2)

  pub escapes_false : (i o k : ℕ) → escapes S i o ≡ false → joined S.input (number S.input i) k ≡ true → way_out S o k ≡ false
  unfolding escapes
  escapes_false i o k h a =
      false_of (way_out S o k)
      (λ t. clash (gate_intro o (number S.input i) k a t)
      (any_false S.input.states (gate S o (number S.input i)) h k (joined_to S.input (number S.input i) k a)))

  -- ways out depend on the output's component only

  pub region_output : (j o o' : ℕ) → joined S.output o o' ≡ true → region S j o ≡ region S j o'
  region_output j o o' a =
      same_test (region S j o) (region S j o') (output_delay S j o' o (joined_back S.output o o' a))
      (output_delay S j o o' (joined_there S.output o o' a))

  lost_same : (o o' i j : ℕ) → joined S.output o o' ≡ true → lost S o i j ≡ lost S o' i j
  unfolding lost
  lost_same o o' i j a = ap (λ (b : Bool). edge S.input i j && (not (joined S.input i j) && not b)) (region_output j o o' a)

  pub way_out_same : (o o' i : ℕ) → joined S.output o o' ≡ true → way_out S o i ≡ way_out S o' i
  unfolding way_out
  way_out_same o o' i a = any_same S.input.states (lost S o i) (lost S o' i) (λ j b. lost_same o o' i j a)

  pub gate_same : (o o' c : ℕ) → joined S.output o o' ≡ true → gate S o c ≡ gate S o' c
  unfolding gate
  gate_same o o' c a = fun_ext (λ k. ap (λ (b : Bool). joined S.input c k && b) (way_out_same o o' k a))

  pub escapes_same : (i i' o o' : ℕ) → joined S.input i i' ≡ true → joined S.output o o' ≡ true → escapes S i o ≡ escapes S i' o'
  unfolding escapes
  escapes_same i i' o o' a b =
      ap (λ (k : ℕ). any S.input.states (gate S o k)) (number_same S.input i i' a)
      ∙ ap (λ (p : ℕ → Bool). any S.input.states p) (gate_same o o' (number S.input i') b)

  -- the cases of a row

  pub row_stuck : (i h o : ℕ) → region S i o ≡ false → stuck S.output o ≡ true
      → environment_row S i h o ≡ gives h (least S.input.states (edge S.input i))
  unfolding environment_row opposing
  row_stuck i h o e t = rw (e, environment_row, t, opposing) refl

  pub row_lost : (i h o : ℕ) → region S i o ≡ false → stuck S.output o ≡ false → environment_row S i h o ≡ pushing S i h o
  unfolding environment_row opposing
  row_lost i h o e t = rw (e, environment_row, t, opposing) refl

  pub pushing_nontrivial : (i h o : ℕ) → nontrivial S.input i ≡ true → pushing S i h o ≡ pressing S i h o
  unfolding pushing
  pushing_nontrivial i h o e = rw (e, pushing) refl

  unfoldable pub unanswered : ℕ → ℕ → ℕ → Bool
  unanswered i o j = edge S.input i j && not (answers S (region S) j o)

  pushing_trivial : (i h o : ℕ) → nontrivial S.input i ≡ false → pushing S i h o ≡ gives h (least S.input.states (unanswered i o))
  unfolding pushing unanswered
  pushing_trivial i h o e = rw (e, pushing) refl

  -- a stuck output answers nothing, so in a trivial component the lowest move is the lowest that has no won reply
  unanswered_stuck : (i o j : ℕ) → stuck S.output o ≡ true → edge S.input i j ≡ unanswered i o j
  unfolding unanswered
  unanswered_stuck i o j t =
      same_test (edge S.input i j) (unanswered i o j) (λ e. and_intro e (ap not (answers_stuck S (region S) j o t)))
      (λ e. and_left (edge S.input i j) (not (answers S (region S) j o)) e)

  row_unanswered : (i h o : ℕ) → region S i o ≡ false → stuck S.output o ≡ true
      → environment_row S i h o ≡ gives h (least S.input.states (unanswered i o))
  row_unanswered i h o e t =
      row_stuck i h o e t
      ∙ ap (λ (j : ℕ). gives h j) (least_same S.input.states (edge S.input i) (unanswered i o) (λ j b. unanswered_stuck i o j t))

  row_trivial : (i h o : ℕ) → region S i o ≡ false → nontrivial S.input i ≡ false
      → environment_row S i h o ≡ gives h (least S.input.states (unanswered i o))
  row_trivial i h o e n =
      elim (decide (stuck S.output o)) [ inl t ↦ row_unanswered i h o e t | inr t ↦ row_lost i h o e t ∙ pushing_trivial i h o n ]

  -- so is the row wherever no walk is asked for
  pub row_pushed : (i h o : ℕ) → region S i o ≡ false → (not (nontrivial S.input i) || stuck S.output o) ≡ true
      → environment_row S i h o ≡ gives h (least S.input.states (unanswered i o))
  row_pushed i h o e w =
      elim (or_cases (not (nontrivial S.input i)) (stuck S.output o) w) [
        | inl n ↦ row_trivial i h o e (not_true (nontrivial S.input i) n)
        | inr t ↦ row_unanswered i h o e t
      ]

  pub pressing_escapes : (i h o : ℕ) → escapes S i o ≡ true → pressing S i h o ≡ outward S i h o
  unfolding pressing
  pressing_escapes i h o e = rw (e, pressing) refl

  pub pressing_tours : (i h o : ℕ) → escapes S i o ≡ false → pressing S i h o ≡ tour S.input (number S.input i) (assumptions S) i h
  unfolding pressing
  pressing_tours i h o e = rw (e, pressing) refl

  pub outward_here : (i h o : ℕ) → way_out S o i ≡ true → outward S i h o ≡ gives h (least S.input.states (lost S o i))
  unfolding outward
  outward_here i h o e = rw (e, outward) refl

  pub outward_on : (i h o : ℕ) → way_out S o i ≡ false
      → outward S i h o ≡ gives h (toward S.input.states (inside S.input (number S.input i)) (gate S o (number S.input i)) i)
  unfolding outward
  outward_on i h o e = rw (e, outward) refl

  -- What a row of the environment does: a move after which no reply makes a won position, with a counter in range.
  pub record Pushed (i h o : ℕ) : Type 0 where
    pub counter : ℕ
    pub state : ℕ
    pub is : environment_row S i h o ≡ gives counter state
    pub move : edge S.input i state ≡ true
    pub keeps : (p : ℕ) → edge S.output o p ≡ true → region S state p ≡ false
    pub range : counter < environment_counters S

  -- a state with a way out can be walked to inside the component
  pub gate_leads : (i o : ℕ) → i < S.input.states → nontrivial S.input i ≡ true → escapes S i o ≡ true
      → Leads S.input.states (inside S.input (number S.input i)) (gate S o (number S.input i)) i
  gate_leads i o b t e =
      let v = escapes_elim i o e in
      inside_leads S.input (number S.input i) (gate S o (number S.input i)) i v.0
      (joined_sym S.input i (number S.input i) (number_joined S.input i b)) t v.1 (gate_joined o (number S.input i) v.0 v.1)

  module _ (i h o : ℕ) (b : i < S.input.states) (c : o < S.output.states) (l : region S i o ≡ false) (r : h < environment_counters S) where
    pushed_trivial : nontrivial S.input i ≡ false → Pushed i h o
    unfolding unanswered
    pushed_trivial t =
        let v = replies_false S (region S) i o (sym (region_replies S i o b c t) ∙ l) in
        let j = least S.input.states (unanswered i o) in
        let e = least_member S.input.states (unanswered i o)
        (least_below S.input.states (unanswered i o) v.0 (edge_to S.input i v.0 v.1) (and_intro v.1 (ap not v.2))) in
        let n = not_true (answers S (region S) j o) (and_right (edge S.input i j) (not (answers S (region S) j o)) e) in
        record {
          counter = h;
          state = j;
          is = row_trivial i h o l t;
          move = and_left (edge S.input i j) (not (answers S (region S) j o)) e;
          keeps = λ p q. answers_false S (region S) j o p n q;
          range = r;
        }

    -- a stuck output has no reply to what it is asked
    pushed_stuck : stuck S.output o ≡ true → nontrivial S.input i ≡ true → Pushed i h o
    pushed_stuck s t =
        let v = nontrivial_move S.input i t in
        let n = S.input.states in
        record {
          counter = h;
          state = least n (edge S.input i);
          is = row_stuck i h o l s;
          move = least_member n (edge S.input i) (least_below n (edge S.input i) v.0 (edge_to S.input i v.0 v.1) v.1);
          keeps = λ p q. clash q (stuck_none S.output o p s);
          range = r;
        }

    module _ (s : stuck S.output o ≡ false) (t : nontrivial S.input i ≡ true) where
      row_is : environment_row S i h o ≡ pressing S i h o
      row_is = row_lost i h o l s ∙ pushing_nontrivial i h o t

      own : joined S.input (number S.input i) i ≡ true
      own = joined_sym S.input i (number S.input i) (number_joined S.input i b)

      -- a move inside the component keeps the position lost
      stays : (j : ℕ) → inside S.input (number S.input i) i j ≡ true → (p : ℕ) → edge S.output o p ≡ true → region S j p ≡ false
      stays j m p e =
          lost_in_lem i j o p
          (joined_trans S.input i (number S.input i) j (number_joined S.input i b) (inside_to S.input (number S.input i) i j m)) l e

      pushed_here : escapes S i o ≡ true → way_out S o i ≡ true → Pushed i h o
      pushed_here e w =
          let j = least S.input.states (lost S o i) in
          let m = way_out_lost o i w in
          record {
            counter = h;
            state = j;
            is = row_is ∙ pressing_escapes i h o e ∙ outward_here i h o w;
            move = lost_edge o i j m;
            keeps = λ p q. lost_out j o p (lost_region o i j m) q;
            range = r;
          }

      pushed_on_lem : escapes S i o ≡ true → way_out S o i ≡ false → Pushed i h o
      pushed_on_lem e w =
          let n = S.input.states in
          let k = number S.input i in
          let j = toward n (inside S.input k) (gate S o k) i in
          let m = toward_move n (inside S.input k) (gate S o k) i (gate_leads i o b t e) in
          record {
            counter = h;
            state = j;
            is = row_is ∙ pressing_escapes i h o e ∙ outward_on i h o w;
            move = inside_edge S.input k i j m;
            keeps = stays j m;
            range = r;
          }

      pushed_tour : escapes S i o ≡ false → Pushed i h o
      unfolding environment_counters
      pushed_tour e =
          let v = toured S.input (number S.input i) (assumptions S) i h own t r in
          record {
            counter = v.counter;
            state = v.state;
            is = row_is ∙ pressing_tours i h o e ∙ v.is;
            move = inside_edge S.input (number S.input i) i v.state v.moves;
            keeps = stays v.state v.moves;
            range = v.range;
          }

      pushed_nontrivial : Pushed i h o
      pushed_nontrivial =
          elim (decide (escapes S i o)) [
            | inl e ↦ elim (decide (way_out S o i)) [ inl w ↦ pushed_here e w | inr w ↦ pushed_on_lem e w ]
            | inr e ↦ pushed_tour e
          ]

    pub pushed : Pushed i h o
    pushed =
        elim (decide (nontrivial S.input i)) [
          | inl t ↦ elim (decide (stuck S.output o)) [ inl s ↦ pushed_stuck s t | inr s ↦ pushed_nontrivial s t ]
          | inr t ↦ pushed_trivial t
        ]
