-- What one output after another adds.
--
--   exits_entering   : each gate has a move out
--   pressed-*        : what the functions ask
--   way_filled       : the rows outside the gates, of all outputs that were collected
--   gated_none       : at first there are none
--   escape-*         : what one output's part gives
--   leave-*          : output after output
use Prim.Native.Nat.{ℕ, ◌+◌, ◌<◌, ◌≤◌}
use mathlib.Core.Path.{◌≡◌, refl, sym, ◌∙◌, ap, subst}
use mathlib.Core.Bool.{Bool, true, false, ◌||◌}
use mathlib.Core.List.{List}
use mathlib.Core.Logic.{◌⊎◌, inl, inr, ◌≢◌}
use native.Mathlib.Omega.{arith}
use lib.Dec.{eqb}
use lib.ListN.{length, get_or}
use borrow.Author.Tests.{eqb-true, eq-eqb, ne_eqb}
use Rattle.finite.proofs.Truth.{decide, clash, and_right, or_left, or_right, or_cases}
use Rattle.finite.specs.Bounded.{least}
use Rattle.bits.specs.Member.{has, pack, within, both, sets_meet}
use Rattle.bits.proofs.Membership.{has_zero_lem, has_within, pack_below, pack_holds}
use Rattle.sets.specs.Words.{capacity, sets_in, set_count}
use Rattle.graphs.specs.Graph.{stuck}
use Rattle.graphs.specs.Component.{joined}
use Rattle.graphs.specs.Way.{toward}
use Rattle.graphs.proofs.Component.{joined_to}
use Rattle.graphs.proofs.Way.{Leads}
use Rattle.graph_ways.specs.Kept.{kept}
use Rattle.game.specs.declared.Game.{Game}
use Rattle.play.specs.Play.{graph_of, separated_of}
use Rattle.arena.specs.Table.{gives}
use Rattle.theory.specs.Region.{region}
use Rattle.theory.specs.Choice.{gate, environment_row}
use Rattle.scratch.specs.Scratch.{scratch_sets}
use Rattle.scratch.specs.Stored.{won_at}
use Rattle.table_layout.specs.declared.Layout.{Layout}
use Rattle.table_layout.specs.Rows.{LayoutFits}
use Rattle.table_walks.specs.Staying.{Entering, Enters, Approaches}
use Rattle.environment_table.specs.Table.{Roomy, EnvironmentLayout, EnvironmentFilled, entries_of}
use Rattle.environment_table.specs.Pressing.{Whole, lost_in, exits_at, leaving_at, touring_at}
use Rattle.environment_table.proofs.Places.{filled_none, filled_join, filled_same, below_next}
use Rattle.environment_table.proofs.Laid.{laid_fits, laid_table, laid_filled}
use Rattle.environment_table.proofs.Known.{known_won, row_stuck}
use Rattle.environment_table.proofs.Outward.{
  Words,
  whole_in,
  whole_of,
  leaves_within,
  leaving_intro,
  leaving_out,
  leaving_lost,
  leaving_free,
  touring_not,
  touring_out,
  touring_intro,
  pressed_won,
  pressed_stuck,
  row_way,
  way_leads,
  row_gate,
  gates_has,
  gates_within,
  no_gates,
  some_gates,
}
use Rattle.environment_escape.specs.Gates.{Gated, EscapeFits, Joins, Escape}

pub exits_entering : (rows : List ℕ) (n c out gates : ℕ) → gates ≡ pack n (exits_at rows c out) → Entering rows n gates out
unfolding exits_at
exits_entering rows n c out gates e = record {
  below = λ s i. pack_below n (exits_at rows c out) s (at s i);
  move = λ s i. and_right (has c s) (sets_meet capacity (get_or rows s 0) out) (pack_holds n (exits_at rows c out) s (at s i));
}
  where
    at : (s : ℕ) → has gates s ≡ true → has (pack n (exits_at rows c out)) s ≡ true
    at s i = ap (λ (x : ℕ). has x s) (sym e) ∙ i

-- the rows outside the gates

module _ (g : Game) (M n : ℕ) (z : Layout) (R : Roomy g M n) (Z : EnvironmentLayout g.input.states M g.output.states z) (c k : ℕ)
    (W : Whole g c k) where
  way_filled : (gates over : ℕ) {l m : List ℕ} → Gated g k gates over → Approaches (sets_in g.input.moves) z c gates over l m
      → EnvironmentFilled g (λ a h b. (joined (graph_of g.input) k a ≡ true) × (has over b ≡ true) × (has gates a ≡ false)) l m
  way_filled gates over G A =
      filled_same g
      (laid_filled g M n z R Z (A.fills (environment_row (separated_of g)) (entries_of g) (laid_table g M n z R Z) (record { row = row })))
      (λ a h b la lh lb p. (whole_of g c k W a p.0, p.2, leads a b (whole_of g c k W a p.0) p.1, p.1))
    where
      row : (s h b : ℕ) → s < z.states → has c s ≡ true → has gates s ≡ false → Leads z.states (kept (sets_in g.input.moves) c) (has gates) s
          → h < z.counters → b < z.width → has over b ≡ true
          → environment_row (separated_of g) s h b ≡ gives h (toward z.states (kept (sets_in g.input.moves) c) (has gates) s)
      row s h b ls i o w lh lb e =
          row_way g c k W b (G.below b e) (G.leaving b e) s i gates (G.same b e) h o
          ∙ ap (λ (y : ℕ). gives h (toward y (kept (sets_in g.input.moves) c) (has gates) s)) (sym Z.states)

      leads : (a b : ℕ) → has c a ≡ true → has over b ≡ true → Leads z.states (kept (sets_in g.input.moves) c) (has gates) a
      leads a b i e =
          subst (λ (y : ℕ). Leads y (kept (sets_in g.input.moves) c) (has gates) a) (sym Z.states)
          (way_leads g c k W b (G.below b e) (G.leaving b e) a i gates (G.same b e))

  -- x are the rows that were read
  pub way_lent : {x : List ℕ} → x ≡ g.input.moves → (gates over : ℕ) {l m : List ℕ} → Gated g k gates over → Approaches (sets_in x) z c gates over l m
      → EnvironmentFilled g (λ a h b. (joined (graph_of g.input) k a ≡ true) × (has over b ≡ true) × (has gates a ≡ false)) l m
  way_lent q gates over G A = way_filled gates over G (rw q at A)

-- the layout with its own count of counters
module _ (g : Game) (M : ℕ) (z : Layout) (Z : EnvironmentLayout g.input.states M g.output.states z) where
  pub own_layout : EnvironmentLayout g.input.states z.counters g.output.states z
  own_layout = record { base = Z.base; states = Z.states; counters = refl; width = Z.width }

  pub own_roomy : {n : ℕ} → Roomy g M n → Roomy g z.counters n
  own_roomy {n} R = subst (λ (y : ℕ). Roomy g y n) (sym Z.counters) R

  pub gated_within : {k gates over : ℕ} → Gated g k gates over → within gates z.states ≡ true
  gated_within {gates = gates} G = subst (λ (y : ℕ). within gates y ≡ true) (sym Z.states) G.members

pub gated_none : (g : Game) (k gates over : ℕ) → gates ≡ 0 → over ≡ 0 → Gated g k gates over
gated_none g k gates over e f = record {
  members = has_within gates g.input.states (λ t i. clash i (ap (λ (x : ℕ). has x t) e ∙ has_zero_lem t));
  below = λ b i. absurd (none b i);
  leaving = λ b i. absurd (none b i);
  same = λ b i. absurd (none b i);
}
  where
    none : (b : ℕ) → has over b ≡ true → ⊥
    none b i = clash i (ap (λ (x : ℕ). has x b) f ∙ has_zero_lem b)

-- an output whose rows have no way out adds nothing
escape_none : (g : Game) (k o gates over : ℕ) {l : List ℕ} {r : Bool} → Gated g k gates over → (leaving_at g k o ≡ true → ⊥) → r ≡ touring_at g k o
    → Escape g k o gates over gates over l l r
escape_none g k o gates over {l} G never e = record {
  filled = filled_none g l (λ a h b p. none a b p.1 p.2 p.3);
  gated = G;
  tours = e;
}
  where
    none : (a b : ℕ) → leaving_at g k b ≡ true → (b ≡ o) ⊎ ((has over b ≡ true) × (has gates a ≡ false)) → (has over b ≡ false) ⊎ (has gates a ≡ true) → ⊥
    none a b v (inl q) w = never (ap (leaving_at g k) (sym q) ∙ v)
    none a b v (inr q) (inl w) = clash q.0 w
    none a b v (inr q) (inr w) = clash w q.1

module _ (z : Layout) (rows s : List ℕ) (inner c x k o r n : ℕ) (p : EscapeFits z rows s inner c x k o r n) where
  pub pressed_fits : LayoutFits z n
  pressed_fits = laid_fits p.game z.counters n z p.roomy p.layout

  pub pressed_read : (z.states ≤ capacity) × (k < z.states) × (o < capacity) × (scratch_sets z.states o < set_count s)
  pressed_read = (
    omega (arith, p.layout.states, p.known.ready.fits.input.most),
    omega (arith, p.layout.states, p.whole.below),
    omega (arith, p.output, p.known.ready.fits.output.most),
    omega (arith, p.layout.states, p.output, p.known.ready.laid.long),
  )

  pub pressed_column : o < z.width
  pressed_column = omega (arith, p.layout.width, p.output)

  pub pressed_states : within c z.states ≡ true
  unfolding graph_of
  pressed_states =
      has_within c z.states
      (λ t e. omega (arith, p.layout.states, joined_to (graph_of p.game.input) k t (whole_in p.game c k p.whole t e)))

  pub pressed_within : within x z.states ≡ true
  pressed_within = subst (λ (y : ℕ). within x y ≡ true) (sym p.layout.states) (leaves_within p.game s inner p.known c x p.leaves)

  is_won : {b : Bool} → won_at (sets_in s) z.states inner k o ≡ b → region (separated_of p.game) k o ≡ b
  is_won {b} e =
      sym (known_won p.game s inner p.known k o p.whole.below p.output)
      ∙ subst (λ (y : ℕ). won_at (sets_in s) y inner k o ≡ b) p.layout.states e

  is_stuck : stuck (separated_of p.game).output o ≡ eqb r 0
  is_stuck = row_stuck p.game s inner p.known o p.output ∙ ap (λ (y : ℕ). eqb y 0) (sym p.replies)

  module _ (gates over : ℕ) {l : List ℕ} (G : Gated p.game k gates over) where
    -- without a move: its rows are written elsewhere
    pub escape_stuck : r ≡ 0 → Escape p.game k o gates over gates over l l false
    escape_stuck e =
        let f = is_stuck ∙ eq-eqb r 0 e in
        escape_none p.game k o gates over G (λ v. clash f (leaving_free p.game k o v)) (sym (touring_not p.game k o (pressed_stuck p.game k o f)))

    pub escape_won : won_at (sets_in s) z.states inner k o ≡ true → Escape p.game k o gates over gates over l l false
    escape_won e =
        let f = is_won e in
        escape_none p.game k o gates over G (λ v. clash f (leaving_lost p.game k o v)) (sym (touring_not p.game k o (pressed_won p.game k o f)))

  -- with a move, and not won
  module _ (ne : r ≢ 0) (lost : won_at (sets_in s) z.states inner k o ≡ false) (out gates : ℕ)
      (f : out ≡ pack z.states (lost_in (sets_in s) z.states inner x o))
      (e : gates ≡ pack z.states (exits_at rows c out)) where
    free : stuck (separated_of p.game).output o ≡ false
    free = is_stuck ∙ ne_eqb r 0 ne

    words : Words p.game s inner c x o out gates
    words = record {
      lost = subst (λ (y : ℕ). out ≡ pack y (lost_in (sets_in s) y inner x o)) p.layout.states f;
      gate = subst (λ (y : List ℕ). gates ≡ pack p.game.input.states (exits_at y c out)) p.moves
          (subst (λ (y : ℕ). gates ≡ pack y (exits_at rows c out)) p.layout.states e);
    }

    pub escape_tours : (old over : ℕ) {l : List ℕ} → Gated p.game k old over → gates ≡ 0 → Escape p.game k o old over old over l l true
    escape_tours old over G none =
        let out-not = no_gates p.game s inner p.known c k p.whole x p.leaves o p.output free out gates words none in
        escape_none p.game k o old over G (λ v. clash (leaving_out p.game k o v) out-not) (sym (touring_intro p.game k o (is_won lost) free out-not))

    module _ (some : gates ≢ 0) (old over more : ℕ) {l i m : List ℕ} (G : Gated p.game k old over) (long : length l ≡ n)
        (E : Enters rows z gates out o l i) (J : Joins rows z c old gates over o more i m) where
      escapes_here : leaving_at p.game k o ≡ true
      escapes_here =
          leaving_intro p.game k o (is_won lost) free
          (some_gates p.game s inner p.known c k p.whole x p.leaves o p.output free out gates words some)

      own_gates : has gates ≡ gate (separated_of p.game) o k
      own_gates = gates_has p.game s inner p.known c k p.whole x p.leaves o p.output free out gates words

      is_o : (t : ℕ) → (has 0 t || eqb t o) ≡ true → t ≡ o
      is_o t a = elim (or_cases (has 0 t) (eqb t o) a) [ inl q ↦ clash q (has_zero_lem t) | inr q ↦ eqb-true t o q ]

      at_gates : EnvironmentFilled p.game (λ a h b. (has gates a ≡ true) × (b ≡ o)) l i
      at_gates =
          laid_filled p.game z.counters n z p.roomy p.layout
          (E.fills (environment_row (separated_of p.game)) (entries_of p.game) (laid_table p.game z.counters n z p.roomy p.layout)
          (record {
            row = λ a h e lh.
                row_gate p.game s inner p.known c k p.whole x p.leaves o p.output free out gates words a h escapes_here e
                ∙ ap (λ (y : List ℕ). gives h (least capacity (both (get_or y a 0) out))) (sym p.moves);
          }))

      gated_same : old ≡ gates → ((t : ℕ) → has more t ≡ (has over t || eqb t o)) → Gated p.game k gates more
      gated_same q u = record {
        members = own_within;
        below = λ b a. elim (split b a) [ inl v ↦ G.below b v | inr v ↦ rw v p.output ];
        leaving = λ b a. elim (split b a) [ inl v ↦ G.leaving b v | inr v ↦ rw v escapes_here ];
        same = λ b a. elim (split b a) [
          | inl v ↦ ap has (sym q) ∙ G.same b v
          | inr v ↦ own_gates ∙ ap (λ (y : ℕ). gate (separated_of p.game) y k) (sym v)
        ];
      }
        where
          own_within : within gates p.game.input.states ≡ true
          own_within = gates_within p.game s inner p.known c k p.whole x p.leaves o p.output free out gates words

          split : (b : ℕ) → has more b ≡ true → (has over b ≡ true) ⊎ (b ≡ o)
          split b a = elim (or_cases (has over b) (eqb b o) (sym (u b) ∙ a)) [ inl v ↦ inl v | inr v ↦ inr (eqb-true b o v) ]

      gated_alone : ((t : ℕ) → has more t ≡ (has 0 t || eqb t o)) → Gated p.game k gates more
      gated_alone u = record {
        members = gates_within p.game s inner p.known c k p.whole x p.leaves o p.output free out gates words;
        below = λ b a. rw (is_o b (sym (u b) ∙ a)) p.output;
        leaving = λ b a. rw (is_o b (sym (u b) ∙ a)) escapes_here;
        same = λ b a. own_gates ∙ ap (λ (y : ℕ). gate (separated_of p.game) y k) (sym (is_o b (sym (u b) ∙ a)));
      }

      pub escape_leaves : (next : ℕ) → next ≡ gates → Escape p.game k o old over next more l m false
      escape_leaves next is = rw is (go J.each)
        where
          tours : false ≡ touring_at p.game k o
          tours = sym (touring_out p.game k o (leaving_out p.game k o escapes_here))

          go : ((old ≡ gates) × ((t : ℕ) → has more t ≡ (has over t || eqb t o)) × (m ≡ i))
              ⊎ (Approaches rows z c old over i m × ((t : ℕ) → has more t ≡ (has 0 t || eqb t o))) → Escape p.game k o old over gates more l m false
          go (inl u) = record {
            filled = rw u.2 (filled_same p.game at_gates (λ a h b la lh lb q. same a b q.2 q.3));
            gated = gated_same u.0 u.1;
            tours = tours;
          }
            where
              same : (a b : ℕ) → (b ≡ o) ⊎ ((has over b ≡ true) × (has old a ≡ false)) → (has more b ≡ false) ⊎ (has gates a ≡ true)
                  → (has gates a ≡ true) × (b ≡ o)
              same a b (inl q) (inl w) = clash (u.1 b ∙ or_right (has over b) (eq-eqb b o q)) w
              same a b (inl q) (inr w) = (w, q)
              same a b (inr q) (inl w) = clash (u.1 b ∙ or_left (eqb b o) q.0) w
              same a b (inr q) (inr w) = clash w (ap (λ (y : ℕ). has y a) (sym u.0) ∙ q.1)
          go (inr u) = record {
            filled =
                filled_join p.game at_gates
                (way_filled p.game z.counters n z p.roomy p.layout c k p.whole old over G
                (subst (λ (y : List ℕ). Approaches y z c old over i m) p.moves u.0))
                (λ a h b la lh lb q. other a b q.0 q.2 q.3);
            gated = gated_alone u.1;
            tours = tours;
          }
            where
              other : (a b : ℕ) → joined (graph_of p.game.input) k a ≡ true → (b ≡ o) ⊎ ((has over b ≡ true) × (has old a ≡ false))
                  → (has more b ≡ false) ⊎ (has gates a ≡ true)
                  → ((has gates a ≡ true) × (b ≡ o)) ⊎ ((joined (graph_of p.game.input) k a ≡ true) × (has over b ≡ true) × (has old a ≡ false))
              other a b j (inl q) (inl w) = clash (u.1 b ∙ or_right (has 0 b) (eq-eqb b o q)) w
              other a b j (inl q) (inr w) = inl (w, q)
              other a b j (inr q) w = inr (j, q.0, q.1)

-- where the gates differ, o begins another group
pub joins_alone : (rows : List ℕ) (z : Layout) (c old gates over o x : ℕ) {more : ℕ} {l m : List ℕ} → x ≡ 0 → ((t : ℕ) → has more t ≡ (has x t || eqb t o))
    → Approaches rows z c old over l m → Joins rows z c old gates over o more l m
joins_alone rows z c old gates over o x e u A = record { each = inr (A, λ t. u t ∙ ap (λ (k : ℕ). has k t || eqb t o) e) }

-- output after output

abbrev pub Passed : Game → ℕ → ℕ → ℕ → ℕ → ℕ → ℕ → ℕ → Type 0
Passed g k o gates over a h b =
    (b < o) × (joined (graph_of g.input) k a ≡ true) × (leaving_at g k b ≡ true) × ((has over b ≡ false) ⊎ (has gates a ≡ true))

module _ (g : Game) (k o old over : ℕ) {l m : List ℕ} (F : EnvironmentFilled g (Passed g k o old over) l m) where
  pub leave_next : (gates more : ℕ) {n : List ℕ} {r : Bool} → Escape g k o old over gates more m n r → EnvironmentFilled g (Passed g k (o + 1) gates more) l n
  leave_next gates more {n} E =
      filled_join g F E.filled
      (λ a h b la lh lb p.
      elim (below_next b o p.0 (λ q. q) (λ q. q)) [
        | inl q ↦ before a b q p.1 p.2 p.3 (decide (has over b)) (decide (has old a))
        | inr q ↦ inr (p.1, p.2, inl q, p.3)
      ])
    where
      before : (a b : ℕ) → b < o → joined (graph_of g.input) k a ≡ true → leaving_at g k b ≡ true → (has more b ≡ false) ⊎ (has gates a ≡ true)
          → (has over b ≡ true) ⊎ (has over b ≡ false) → (has old a ≡ true) ⊎ (has old a ≡ false)
          → Passed g k o old over a 0 b
          ⊎ ((joined (graph_of g.input) k a ≡ true) × (leaving_at g k b ≡ true) × ((b ≡ o) ⊎ ((has over b ≡ true) × (has old a ≡ false)))
          × ((has more b ≡ false) ⊎ (has gates a ≡ true)))
      before a b q j v w (inr x) y = inl (q, j, v, inl x)
      before a b q j v w (inl x) (inl y) = inl (q, j, v, inr y)
      before a b q j v w (inl x) (inr y) = inr (j, v, inr (x, y), w)

  pub leave_end : {n : List ℕ} → g.output.states ≤ o
      → EnvironmentFilled g (λ a h b. (joined (graph_of g.input) k a ≡ true) × (has over b ≡ true) × (has old a ≡ false)) m n
      → EnvironmentFilled g (λ a h b. (joined (graph_of g.input) k a ≡ true) × (leaving_at g k b ≡ true)) l n
  leave_end {n} all G =
      filled_join g F G (λ a h b la lh lb p. last a b (omega arith) p.0 p.1 (decide (has over b)) (decide (has old a)))
    where
      last : (a b : ℕ) → b < o → joined (graph_of g.input) k a ≡ true → leaving_at g k b ≡ true
          → (has over b ≡ true) ⊎ (has over b ≡ false) → (has old a ≡ true) ⊎ (has old a ≡ false)
          → Passed g k o old over a 0 b ⊎ ((joined (graph_of g.input) k a ≡ true) × (has over b ≡ true) × (has old a ≡ false))
      last a b q j v (inr x) y = inl (q, j, v, inl x)
      last a b q j v (inl x) (inl y) = inl (q, j, v, inr y)
      last a b q j v (inl x) (inr y) = inr (j, x, y)
