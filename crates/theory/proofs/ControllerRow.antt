-- Rows of the controller's table: each makes a move to a won position.
--
--   Replied        == what a row of the controller does: a move, and a won position
--   replied        : every row with a won reply does that
use Prim.Native.Nat.{ℕ, zero, suc, ◌<◌}
use mathlib.Core.Path.{◌≡◌, refl, sym, ◌∙◌}
use mathlib.Core.Bool.{Bool, true, false, ◌&&◌}
use mathlib.Core.Logic.{inl, inr}
use Rattle.finite.specs.Bounded.{least}
use Rattle.finite.proofs.Truth.{decide, and_intro, and_left, and_right, same_test}
use Rattle.finite.proofs.Bounded.{least_below, least_member, least_same}
use Rattle.graphs.specs.Graph.{Graph, edge}
use Rattle.graphs.specs.Closure.{reaches}
use Rattle.graphs.specs.Component.{joined, nontrivial}
use Rattle.graphs.specs.Way.{near, approach, toward}
use Rattle.graphs.proofs.Graph.{edge_from, edge_to}
use Rattle.graphs.proofs.Closure.{reaches_to, reaches_edge, reaches_trans, reaches_path}
use Rattle.graphs.proofs.Component.{joined_self, joined_back, joined_sym, nontrivial_same}
use Rattle.graphs.proofs.Way.{Leads, near_zero, near_cases, near_some, toward_move, toward_near}
use Rattle.arena.specs.Arena.{Separated}
use Rattle.arena.specs.Table.{gives}
use Rattle.theory.specs.Region.{home_for, settles, answers, region}
use Rattle.theory.specs.Tour.{tour}
use Rattle.theory.specs.Choice.{guarantees, home, homeward, settled, controller_row}
use Rattle.theory.specs.Entries.{controller_counters}
use Rattle.theory.proofs.Region.{
  answers_elim,
  settles_intro,
  settles_elim,
  home_for_same,
  home_for_nontrivial,
  region_in,
  region_out,
  region_settles,
}
use Rattle.theory.proofs.Delay.{first_move_lem}
use Rattle.theory.proofs.Tour.{toured, inside_edge, inside_to}

-- equal answers give equal counters and states
pub same_counter : {m s m' s' : ℕ} → gives m s ≡ gives m' s' → m ≡ m'
same_counter e = cc

pub same_state : {m s m' s' : ℕ} → gives m s ≡ gives m' s' → s ≡ s'
same_state e = cc

-- what has a way to the component of d reaches d
pub near_reaches : (G : Graph) (d k s : ℕ) → near G.states (edge G) (joined G d) k s ≡ true → reaches G s d ≡ true
near_reaches G d zero s h = joined_back G d s (near_zero G.states (edge G) (joined G d) s h)
near_reaches G d (suc k) s h =
    elim (near_cases G.states (edge G) (joined G d) k s h) [
      | inl e ↦ near_reaches G d k s e
      | inr v ↦ reaches_trans G s v.0 d (reaches_edge G s v.0 v.2) (near_reaches G d k v.0 v.3)
    ]

-- where o reaches the component of d, a move of o has a way there
pub home_leads : (G : Graph) (d o : ℕ) → reaches G o d ≡ true → nontrivial G d ≡ true → Leads G.states (edge G) (joined G d) o
home_leads G d o r t =
    let v = first_move_lem G o d (reaches_path G o d r) t in
    let k = near_some G.states (edge G) (joined G d) (edge_from G) (reaches_path G v.0 d v.2) (reaches_to G o d r)
    (joined_self G d (reaches_to G o d r)) in
    record { next = v.0; moves = k.0; move = v.1; way = k.1 }

module _ (S : Separated) where
  -- home

  fits_home : ℕ → ℕ → ℕ → Bool
  fits_home j o d = reaches S.output o d && home_for S (region S) j d

  home_at_lem : (j o : ℕ) → home S j o ≡ least S.output.states (fits_home j o)
  unfolding home fits_home
  home_at_lem j o = refl

  fits_intro : (j o d : ℕ) → reaches S.output o d ≡ true → home_for S (region S) j d ≡ true → fits_home j o d ≡ true
  unfolding fits_home
  fits_intro j o d r h = and_intro r h

  fits_reaches : (j o d : ℕ) → fits_home j o d ≡ true → reaches S.output o d ≡ true
  unfolding fits_home
  fits_reaches j o d h = and_left (reaches S.output o d) (home_for S (region S) j d) h

  fits_home_for : (j o d : ℕ) → fits_home j o d ≡ true → home_for S (region S) j d ≡ true
  unfolding fits_home
  fits_home_for j o d h = and_right (reaches S.output o d) (home_for S (region S) j d) h

  home_fits : (j o : ℕ) → settles S (region S) j o ≡ true → fits_home j o (home S j o) ≡ true
  home_fits j o h =
      let v = settles_elim S (region S) j o h in
      rw (home_at_lem j o)
      (least_member S.output.states (fits_home j o)
      (least_below S.output.states (fits_home j o) v.0 (reaches_to S.output o v.0 v.1) (fits_intro j o v.0 v.1 v.2)))

  pub home_reached : (j o : ℕ) → settles S (region S) j o ≡ true → reaches S.output o (home S j o) ≡ true
  home_reached j o h = fits_reaches j o (home S j o) (home_fits j o h)

  pub home_home_for : (j o : ℕ) → settles S (region S) j o ≡ true → home_for S (region S) j (home S j o) ≡ true
  home_home_for j o h = fits_home_for j o (home S j o) (home_fits j o h)

  -- home depends on the two components only
  pub home_same : (j j' o o' : ℕ) → joined S.input j j' ≡ true → joined S.output o o' ≡ true → home S j o ≡ home S j' o'
  home_same j j' o o' a b =
      home_at_lem j o ∙ least_same S.output.states (fits_home j o) (fits_home j' o') (λ d c. same d) ∙ sym (home_at_lem j' o')
    where
      carry : (i i' p p' d : ℕ) → joined S.input i i' ≡ true → joined S.output p p' ≡ true → fits_home i p d ≡ true → fits_home i' p' d ≡ true
      carry i i' p p' d e f h =
          fits_intro i' p' d (reaches_trans S.output p' p d (joined_back S.output p p' f) (fits_reaches i p d h))
          (home_for_same S (region S) i i' d e (fits_home_for i p d h))

      same : (d : ℕ) → fits_home j o d ≡ fits_home j' o' d
      same d =
          same_test (fits_home j o d) (fits_home j' o' d) (carry j j' o o' d a b)
          (carry j' j o' o d (joined_sym S.input j j' a) (joined_sym S.output o o' b))

  -- the cases of a row

  pub row_answers : (o g j : ℕ) → answers S (region S) j o ≡ true → controller_row S o g j ≡ settled S o g j
  unfolding controller_row
  row_answers o g j h = rw (h, controller_row) refl

  pub settled_nontrivial : (o g j : ℕ) → nontrivial S.input j ≡ true → settled S o g j ≡ homeward S (home S j o) o g
  unfolding settled
  settled_nontrivial o g j h = rw (h, settled) refl

  won_move : ℕ → ℕ → ℕ → Bool
  won_move o j p = edge S.output o p && region S j p

  settled_trivial : (o g j : ℕ) → nontrivial S.input j ≡ false → settled S o g j ≡ gives g (least S.output.states (won_move o j))
  unfolding settled won_move
  settled_trivial o g j h = rw (h, settled) refl

  pub homeward_at : (d o g : ℕ) → joined S.output d o ≡ true → homeward S d o g ≡ tour S.output d (guarantees S) o g
  unfolding homeward
  homeward_at d o g h = rw (h, homeward) refl

  pub homeward_away : (d o g : ℕ) → joined S.output d o ≡ false
      → homeward S d o g ≡ gives g (toward S.output.states (edge S.output) (joined S.output d) o)
  unfolding homeward
  homeward_away d o g h = rw (h, homeward) refl

  -- What a row of the controller does: a move to a won position, with a counter in range.
  pub record Replied (o g j : ℕ) : Type 0 where
    pub counter : ℕ
    pub state : ℕ
    pub is : controller_row S o g j ≡ gives counter state
    pub move : edge S.output o state ≡ true
    pub won : region S j state ≡ true
    pub range : counter < controller_counters S

  -- some reply is won, so some home is in reach
  pub answers_settles : (j o : ℕ) → nontrivial S.input j ≡ true → answers S (region S) j o ≡ true → settles S (region S) j o ≡ true
  answers_settles j o t h =
      let v = answers_elim S (region S) j o h in
      let w = settles_elim S (region S) j v.0
      (sym (region_settles S j v.0 (region_in S j v.0 v.2) (region_out S j v.0 v.2) t) ∙ v.2) in
      settles_intro S (region S) j o w.0 (reaches_trans S.output o v.0 w.0 (reaches_edge S.output o v.0 v.1) w.1) w.2

  module _ (o g j : ℕ) (h : answers S (region S) j o ≡ true) (r : g < controller_counters S) where
    replied_trivial : nontrivial S.input j ≡ false → Replied o g j
    unfolding won_move
    replied_trivial t =
        let v = answers_elim S (region S) j o h in
        let p = least S.output.states (won_move o j) in
        let e = least_member S.output.states (won_move o j)
        (least_below S.output.states (won_move o j) v.0 (edge_to S.output o v.0 v.1) (and_intro v.1 v.2)) in
        record {
          counter = g;
          state = p;
          is = row_answers o g j h ∙ settled_trivial o g j t;
          move = and_left (edge S.output o p) (region S j p) e;
          won = and_right (edge S.output o p) (region S j p) e;
          range = r;
        }

    module _ (t : nontrivial S.input j ≡ true) where
      d : ℕ
      d = home S j o

      goes : settles S (region S) j o ≡ true
      goes = answers_settles j o t h

      d_home : home_for S (region S) j d ≡ true
      unfolding d
      d_home = home_home_for j o goes

      d_reached : reaches S.output o d ≡ true
      unfolding d
      d_reached = home_reached j o goes

      j_below : j < S.input.states
      j_below = let v = answers_elim S (region S) j o h in region_in S j v.0 v.2

      -- a move that still reaches home makes a won position
      still_won : (p : ℕ) → edge S.output o p ≡ true → reaches S.output p d ≡ true → region S j p ≡ true
      still_won p e q = region_settles S j p j_below (edge_to S.output o p e) t ∙ settles_intro S (region S) j p d q d_home

      row_is : controller_row S o g j ≡ homeward S d o g
      unfolding d
      row_is = row_answers o g j h ∙ settled_nontrivial o g j t

      replied_home : joined S.output d o ≡ true → Replied o g j
      unfolding controller_counters
      replied_home a =
          let v = toured S.output d (guarantees S) o g a
          (sym (nontrivial_same S.output d o a) ∙ home_for_nontrivial S (region S) j d d_home) r in
          let e = inside_edge S.output d o v.state v.moves in
          record {
            counter = v.counter;
            state = v.state;
            is = row_is ∙ homeward_at d o g a ∙ v.is;
            move = e;
            won = still_won v.state e (joined_back S.output d v.state (inside_to S.output d o v.state v.moves));
            range = v.range;
          }

      replied_away : joined S.output d o ≡ false → Replied o g j
      replied_away a =
          let n = S.output.states in
          let p = toward n (edge S.output) (joined S.output d) o in
          let w = home_leads S.output d o d_reached (home_for_nontrivial S (region S) j d d_home) in
          let e = toward_move n (edge S.output) (joined S.output d) o w in
          record {
            counter = g;
            state = p;
            is = row_is ∙ homeward_away d o g a;
            move = e;
            won =
                still_won p e (near_reaches S.output d (approach n (edge S.output) (joined S.output d) o) p
                (toward_near n (edge S.output) (joined S.output d) o w));
            range = r;
          }

      replied_nontrivial : Replied o g j
      replied_nontrivial =
          elim (decide (joined S.output d o)) [ inl a ↦ replied_home a | inr a ↦ replied_away a ]

    pub replied : Replied o g j
    replied =
        elim (decide (nontrivial S.input j)) [ inl t ↦ replied_nontrivial t | inr t ↦ replied_trivial t ]
