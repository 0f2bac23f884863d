-- The way home, for inputs with the same homes below it.
--
--   lower_is, alike_at_lem, reach_at, avoid_at : the tests of one input and of one output
--   avoid_homes, near_both     : the outputs that reach d and none of the homes
--   Near                       == the outputs from which the home of these inputs is d: they reach d, and none of the lower homes
--   has_home_near, near_has_home : where such an input has its home at d
--   group_filled               : the rows of these inputs
--   homing-*                   : group after group
use Prim.Native.Nat.{ℕ, ◌+◌, ◌^◌, ◌≤◌, ◌<◌}
use mathlib.Core.Path.{◌≡◌, refl, sym, ◌∙◌, ap, ap₂, subst, subst₂, fun_ext}
use mathlib.Core.Bool.{Bool, true, false, not, ◌&&◌}
use mathlib.Core.List.{List}
use mathlib.Core.Logic.{◌⊎◌, inl, inr, ◌≢◌}
use native.Mathlib.Omega.{arith}
use lib.Dec.{eqb, ltb}
use borrow.Author.Tests.{eqb-true, eq-eqb, ltb-true, lt-ltb}
use Rattle.finite.specs.Bounded.{least, count}
use Rattle.finite.proofs.Truth.{decide, clash, same_test, false_of, and_intro, and_left, and_right, and_false_right, not_true, and_assoc}
use Rattle.finite.proofs.Bounded.{least_before, least_unique, count_less}
use Rattle.bits.specs.Member.{has, pack, within, sets_meet}
use Rattle.bits.proofs.Membership.{ext, has_zero_lem, has_within, within_has, has_pack, has_pack_below, pack_below, pack_holds}
use Rattle.bits.proofs.Compare.{meets_intro, meets_elim}
use Rattle.bits.proofs.Visit.{small_word, lowest_in_lem, lowest_below}
use Rattle.sets.specs.Words.{capacity, bits_of, sets_in, set_count}
use Rattle.graphs.specs.Graph.{edge}
use Rattle.graphs.specs.Closure.{reaches}
use Rattle.graphs.specs.Component.{joined}
use Rattle.graphs.specs.Way.{near, toward}
use Rattle.graphs.proofs.Graph.{edge_from, edge_to}
use Rattle.graphs.proofs.Closure.{reaches_edge, reaches_trans, reaches_to, reaches_self}
use Rattle.graphs.proofs.Component.{joined_to}
use Rattle.graphs.proofs.Way.{Leads}
use Rattle.arena.specs.Table.{gives}
use Rattle.game.specs.declared.Game.{Game}
use Rattle.play.specs.Play.{separated_of}
use Rattle.theory.specs.Region.{home_for, region}
use Rattle.theory.specs.Choice.{home, controller_row}
use Rattle.theory.proofs.Region.{settles_intro}
use Rattle.theory.proofs.ControllerRow.{near_reaches, home_leads, homeward_away}
use Rattle.graph_ways.specs.Kept.{kept}
use Rattle.graph_ways.proofs.Kept.{kept_pack}
use Rattle.graph_ways.proofs.Narrow.{toward_narrow, leads_narrow}
use Rattle.scratch.specs.Scratch.{scratch_sets}
use Rattle.scratch.specs.Stored.{row_at, out_reach_at}
use Rattle.table_layout.specs.declared.Layout.{Layout}
use Rattle.table_layout.proofs.Places.{filled_part as part_in}
use Rattle.table_walks.specs.Staying.{Approaches}
use Rattle.controller_rows.specs.declared.Size.{Size}
use Rattle.controller_rows.specs.declared.Home.{Home}
use Rattle.controller_rows.specs.Writes.{input_of, layout_of}
use Rattle.controller_table.specs.Filled.{ControllerFilled, HasHome, Away, Given, HomeOf, Sized}
use Rattle.controller_table.proofs.Fills.{filled_none, filled_more, filled_part}
use Rattle.controller_table.proofs.Laid.{outputs_are, width_is, laid_rows, laid_input, laid_filled}
use Rattle.controller_table.proofs.Loops.{comp_in}
use Rattle.controller_table.proofs.Phases.{same_moves}
use Rattle.controller_table.proofs.Setting.{sizes_of_lem, told_of, scratch_long}
use Rattle.controller_table.proofs.Told.{Told, has_home_there, home_reached_at, home_at_lem, row_home}
use Rattle.controller_homeward.specs.Homes.{lower_at, alike_at, reaches_at, avoids_at, near_at}

pub lower_is : (s : List ℕ) (n d j row b : ℕ) {x : ℕ} → row ≡ row_at s n j → ((t : ℕ) → has b t ≡ ltb t d) → ((t : ℕ) → has x t ≡ (has row t && has b t))
    → x ≡ lower_at s n d j
unfolding lower_at
lower_is s n d j row b {x} e f i =
    ext x (pack d (has (row_at s n j)))
    (λ t. i t ∙ same_test (has row t && has b t) (has (pack d (has (row_at s n j))) t) (to t) (back t))
  where
    at : (t : ℕ) → has row t ≡ has (row_at s n j) t
    at t = ap (λ (k : ℕ). has k t) e

    to : (t : ℕ) → (has row t && has b t) ≡ true → has (pack d (has (row_at s n j))) t ≡ true
    to t h =
        has_pack_below d (has (row_at s n j)) t (ltb-true t d (sym (f t) ∙ and_right (has row t) (has b t) h))
        ∙ sym (at t) ∙ and_left (has row t) (has b t) h

    back : (t : ℕ) → has (pack d (has (row_at s n j))) t ≡ true → (has row t && has b t) ≡ true
    back t h =
        and_intro (at t ∙ pack_holds d (has (row_at s n j)) t h) (f t ∙ lt-ltb t d (pack_below d (has (row_at s n j)) t h))

pub alike_at_lem : (s : List ℕ) (n d homes j x : ℕ) {b : Bool} → x ≡ lower_at s n d j → b ≡ eqb x homes → b ≡ alike_at s n d homes j
unfolding alike_at
alike_at_lem s n d homes j x e f = f ∙ ap (λ (k : ℕ). eqb k homes) e

pub reach_at : (s : List ℕ) (n d o x : ℕ) {b : Bool} → x ≡ out_reach_at s n o → b ≡ has x d → b ≡ reaches_at s n d o
unfolding reaches_at
reach_at s n d o x e f = f ∙ ap (λ (k : ℕ). has k d) e

pub avoid_at : (s : List ℕ) (n homes o x : ℕ) {b : Bool} → x ≡ out_reach_at s n o → b ≡ sets_meet capacity x homes → not b ≡ avoids_at s n homes o
unfolding avoids_at
avoid_at s n homes o x e f = ap not (f ∙ ap (λ (k : ℕ). sets_meet capacity k homes) e)

pub packed_within : (x m : ℕ) (p : ℕ → Bool) → x ≡ pack m p → within x m ≡ true
packed_within x m p e = rw e (has_within (pack m p) m (pack_below m p))

-- x without the homes
pub left_below : (x homes v m : ℕ) → within x m ≡ true → ((o : ℕ) → has v o ≡ (has x o && not (has homes o))) → (o : ℕ) → has v o ≡ true → o < m
left_below x homes v m b f o e = within_has x m o b (and_left (has x o) (not (has homes o)) (sym (f o) ∙ e))

-- a home reaches itself, so one that is left out reaches a home
pub avoid_homes : (s : List ℕ) (n m homes x v y : ℕ) → m ≤ capacity → within x m ≡ true → ((o : ℕ) → o < m → reaches_at s n o o ≡ true)
    → ((o : ℕ) → has v o ≡ (has x o && not (has homes o))) → ((o : ℕ) → has y o ≡ (has v o && avoids_at s n homes o))
    → (o : ℕ) → has y o ≡ (has x o && avoids_at s n homes o)
unfolding reaches_at avoids_at
avoid_homes s n m homes x v y few b self f e o =
    e o ∙ ap (λ (k : Bool). k && avoids_at s n homes o) (f o) ∙ go (decide (has x o)) (decide (has homes o))
  where
    go : (has x o ≡ true) ⊎ (has x o ≡ false) → (has homes o ≡ true) ⊎ (has homes o ≡ false)
        → ((has x o && not (has homes o)) && avoids_at s n homes o) ≡ (has x o && avoids_at s n homes o)
    go (inr a) h = rw a refl
    go (inl a) (inr h) = rw (a, h) refl
    go (inl a) (inl h) =
        let l = within_has x m o b a in
        let met = meets_intro capacity (out_reach_at s n o) homes o (omega (arith, l, few)) (self o l) h in
        rw (a, h, met) refl

pub near_both : (s : List ℕ) (n m homes d x y : ℕ) → x ≡ pack m (reaches_at s n d) → ((o : ℕ) → has y o ≡ (has x o && avoids_at s n homes o))
    → y ≡ pack m (near_at s n homes d)
unfolding near_at
near_both s n m homes d x y e f =
    ext y (pack m (near_at s n homes d))
    (λ o. f o ∙ ap (λ (k : ℕ). has k o && avoids_at s n homes o) e ∙ ap (λ (k : Bool). k && avoids_at s n homes o) (has_pack m (reaches_at s n d) o)
    ∙ and_assoc (ltb o m) (reaches_at s n d o) (avoids_at s n homes o) ∙ sym (has_pack m (near_at s n homes d) o))

-- group after group: x are the inputs that are left
pub record Homing (g : Game) (z : Size) (w : Home) (x : ℕ) (l m : List ℕ) : Type 0 where
  pub inputs : (j : ℕ) → has x j ≡ true → (j < z.inputs) × (has (bits_of w.inputs.0) j ≡ true)
  pub filled : ControllerFilled (separated_of g) z (λ o c j. Away (separated_of g) w.state.0 o c j × (has x j ≡ false)) l m

-- the outputs are counted in the game or in the table's size
pub near_of : (g : Game) (z : Size) → Sized g z → (inside n : ℕ) (p : ℕ → Bool) → n ≡ g.output.states → inside ≡ pack n p → inside ≡ pack z.outputs p
near_of g z Z inside n p a e = e ∙ ap (λ (k : ℕ). pack k p) (a ∙ sym Z.outputs)

module _ (g : Game) (z : Size) (s : List ℕ) (inner : ℕ) (G : Given g z s inner) (w : Home) (H : HomeOf (separated_of g) w) where
  T : Told (separated_of g) (sets_in s) z.inputs inner (sets_in g.output.moves)
  T = told_of g z s inner G

  home_states : has (bits_of w.component.0) ≡ joined (separated_of g).output w.state.0
  home_states = fun_ext (comp_in (separated_of g) w H)

  -- what is read, and where it is written
  pub home_read : (z.inputs ≤ capacity) × (z.outputs ≤ capacity) × (w.state.0 < capacity) × (z.inputs + z.inputs ≤ set_count s)
      × (scratch_sets z.inputs z.outputs ≤ set_count s)
  home_read = (
    omega (arith, (sizes_of_lem g z G.sized).inputs, T.few_inputs),
    omega (arith, (sizes_of_lem g z G.sized).outputs, T.few_outputs),
    omega (arith, H.below, T.few_outputs),
    omega (arith, scratch_long G),
    scratch_long G,
  )

  -- an output reaches itself
  pub own_reach : (o : ℕ) → o < g.output.states → reaches_at (sets_in s) z.inputs o o ≡ true
  unfolding reaches_at
  own_reach o l =
      let b : o < (separated_of g).output.states = omega (arith, l, (sizes_of_lem g z G.sized).outputs, G.sized.outputs) in
      T.reach o o b ∙ reaches_self (separated_of g).output o b

  pub home_within : (y : Layout) → y ≡ layout_of z → within (bits_of w.component.0) y.states ≡ true
  home_within y D =
      has_within (bits_of w.component.0) y.states
      (λ t e. omega (arith, outputs_are g z y G.sized D, joined_to (separated_of g).output w.state.0 t (sym (comp_in (separated_of g) w H t) ∙ e)))

  -- from these outputs d is the home of an input with these lower homes
  abbrev Near : ℕ → ℕ → Bool
  Near homes o = near_at (sets_in s) z.inputs homes w.state.0 o

  module _ (homes o : ℕ) (b : o < (separated_of g).output.states) where
    near_reached : Near homes o ≡ true → reaches (separated_of g).output o w.state.0 ≡ true
    unfolding near_at reaches_at avoids_at
    near_reached q =
        sym (T.reach o w.state.0 b)
        ∙ and_left (has (out_reach_at (sets_in s) z.inputs o) w.state.0) (not (sets_meet capacity (out_reach_at (sets_in s) z.inputs o) homes)) q

    near_apart : Near homes o ≡ true → (t : ℕ) → has homes t ≡ true → reaches (separated_of g).output o t ≡ true → ⊥
    unfolding near_at reaches_at avoids_at
    near_apart q t h r =
        clash
        (meets_intro capacity (out_reach_at (sets_in s) z.inputs o) homes t (omega (arith, reaches_to (separated_of g).output o t r, T.few_outputs))
        (T.reach o t b ∙ r) h)
        (not_true (sets_meet capacity (out_reach_at (sets_in s) z.inputs o) homes)
        (and_right (has (out_reach_at (sets_in s) z.inputs o) w.state.0) (not (sets_meet capacity (out_reach_at (sets_in s) z.inputs o) homes)) q))

    near_intro : reaches (separated_of g).output o w.state.0 ≡ true
        → ((t : ℕ) → has homes t ≡ true → reaches (separated_of g).output o t ≡ true → ⊥) → Near homes o ≡ true
    unfolding near_at reaches_at avoids_at
    near_intro r f =
        and_intro (T.reach o w.state.0 b ∙ r)
        (ap not (false_of (sets_meet capacity (out_reach_at (sets_in s) z.inputs o) homes)
        (λ m. let v = meets_elim capacity (out_reach_at (sets_in s) z.inputs o) homes m in
        absurd (f v.0 v.3 (sym (T.reach o v.0 b) ∙ v.2)))))

  -- no way home leaves them
  near_closed : (homes o p k : ℕ) → Near homes o ≡ true → edge (separated_of g).output o p ≡ true
      → near (separated_of g).output.states (edge (separated_of g).output) (joined (separated_of g).output w.state.0) k p ≡ true → Near homes p ≡ true
  near_closed homes o p k q e h =
      near_intro homes p (edge_to (separated_of g).output o p e) (near_reaches (separated_of g).output w.state.0 k p h)
      (λ t i r. near_apart homes o (edge_from (separated_of g).output o p e) q t i
      (reaches_trans (separated_of g).output o p t (reaches_edge (separated_of g).output o p e) r))

  -- an input j with these homes below d, whose home at d is d
  module _ (homes j : ℕ) (a : j < (separated_of g).input.states) (r : HasHome (separated_of g) w.state.0 w.state.0 j)
      (e : lower_at (sets_in s) z.inputs w.state.0 j ≡ homes) where
    lower_in : (t : ℕ) → t < w.state.0 → home_for (separated_of g) (region (separated_of g)) j t ≡ true → has homes t ≡ true
    unfolding lower_at
    lower_in t b h =
        ap (λ (k : ℕ). has k t) (sym e)
        ∙ has_pack_below w.state.0 (has (row_at (sets_in s) z.inputs j)) t b
        ∙ T.homes j t a r.is_nontrivial ∙ h

    lower_of : (t : ℕ) → has homes t ≡ true → (t < w.state.0) × (home_for (separated_of g) (region (separated_of g)) j t ≡ true)
    unfolding lower_at
    lower_of t h =
        let i = ap (λ (k : ℕ). has k t) e ∙ h in (
          pack_below w.state.0 (has (row_at (sets_in s) z.inputs j)) t i,
          sym (T.homes j t a r.is_nontrivial) ∙ pack_holds w.state.0 (has (row_at (sets_in s) z.inputs j)) t i,
        )

    module _ (o : ℕ) (b : o < (separated_of g).output.states) where
      has_home_near : Near homes o ≡ true → HasHome (separated_of g) o w.state.0 j
      unfolding home
      has_home_near q = record {
        is_nontrivial = r.is_nontrivial;
        settled = settles_intro (separated_of g) (region (separated_of g)) j o w.state.0 (near_reached homes o b q)
            (home_at_lem (separated_of g) w.state.0 w.state.0 j r);
        is =
            least_unique (separated_of g).output.states
            (λ k. reaches (separated_of g).output o k && home_for (separated_of g) (region (separated_of g)) j k) w.state.0 H.below
            (and_intro (near_reached homes o b q) (home_at_lem (separated_of g) w.state.0 w.state.0 j r))
            (λ k l. false_of (reaches (separated_of g).output o k && home_for (separated_of g) (region (separated_of g)) j k)
            (λ m. absurd (near_apart homes o b q k
            (lower_in k l (and_right (reaches (separated_of g).output o k) (home_for (separated_of g) (region (separated_of g)) j k) m))
            (and_left (reaches (separated_of g).output o k) (home_for (separated_of g) (region (separated_of g)) j k) m))));
      }

      near_has_home : HasHome (separated_of g) o w.state.0 j → Near homes o ≡ true
      unfolding home
      near_has_home h =
          near_intro homes o b (home_reached_at (separated_of g) o w.state.0 j h)
          (λ t i m.
          let v = lower_of t i in
          clash (and_intro m v.1)
          (least_before (separated_of g).output.states
          (λ k. reaches (separated_of g).output o k && home_for (separated_of g) (region (separated_of g)) j k) t (omega (arith, v.0, h.is))))

  -- the rows of a group
  module _ (y : Layout) (D : y ≡ layout_of z) (homes inside x : ℕ)
      (i : inside ≡ pack z.outputs (near_at (sets_in s) z.inputs homes w.state.0)) where
    all_near : inside ≡ pack (separated_of g).output.states (Near homes)
    all_near = i ∙ ap (λ (k : ℕ). pack k (Near homes)) (sizes_of_lem g z G.sized).outputs

    in_near : (o : ℕ) → o < (separated_of g).output.states → has inside o ≡ Near homes o
    in_near o b = ap (λ (k : ℕ). has k o) all_near ∙ has_pack_below (separated_of g).output.states (Near homes) o b

    inside_is : kept (sets_in g.output.moves) inside ≡ (λ o p. edge (separated_of g).output o p && (Near homes o && Near homes p))
    inside_is = ap (kept (sets_in g.output.moves)) all_near ∙ kept_pack (separated_of g).output (sets_in g.output.moves) (same_moves g) (Near homes)

    module _ (o : ℕ) (q : Near homes o ≡ true) where
      toward_home :
          toward y.states (kept (sets_in g.output.moves) inside) (has (bits_of w.component.0)) o
          ≡ toward (separated_of g).output.states (edge (separated_of g).output) (joined (separated_of g).output w.state.0) o
      toward_home =
          ap (λ (k : ℕ). toward k (kept (sets_in g.output.moves) inside) (has (bits_of w.component.0)) o) (outputs_are g z y G.sized D)
          ∙ ap₂ (λ (r : ℕ → ℕ → Bool) (p : ℕ → Bool). toward (separated_of g).output.states r p o) inside_is (home_states)
          ∙ toward_narrow (separated_of g).output.states (edge (separated_of g).output) (joined (separated_of g).output w.state.0) (Near homes)
          (near_closed homes) o q

      leads_home : o < (separated_of g).output.states → Leads y.states (kept (sets_in g.output.moves) inside) (has (bits_of w.component.0)) o
      leads_home b =
          subst (λ (k : ℕ). Leads k (kept (sets_in g.output.moves) inside) (has (bits_of w.component.0)) o) (sym (outputs_are g z y G.sized D))
          (subst₂ (λ (r : ℕ → ℕ → Bool) (p : ℕ → Bool). Leads (separated_of g).output.states r p o) (sym inside_is) (sym (home_states))
          (leads_narrow (separated_of g).output.states (edge (separated_of g).output) (joined (separated_of g).output w.state.0) (Near homes)
          (near_closed homes) o q (home_leads (separated_of g).output w.state.0 o (near_reached homes o b q) H.is_nontrivial)))

    -- x are inputs at home d; those of them with these lower homes are a group; k are the rows that were read
    pub group_filled : {k : List ℕ} → k ≡ g.output.moves → (group over : ℕ) {l m : List ℕ} → ((j : ℕ) → has x j ≡ true → has (bits_of w.inputs.0) j ≡ true)
        → group ≡ pack z.inputs (λ j. has x j && alike_at (sets_in s) z.inputs w.state.0 homes j)
        → ((b : ℕ) → has over b ≡ (ltb b z.width && has group (input_of z b)))
        → Approaches (sets_in k) y inside (bits_of w.component.0) over l m
        → ControllerFilled (separated_of g) z (λ o c j. Away (separated_of g) w.state.0 o c j × (has group j ≡ true)) l m
    unfolding alike_at
    group_filled a group over sub e O A = record {
      long = A.long;
      fills = λ E T.
          let R = laid_rows g z y G.sized D E T in
          laid_filled g z y G.sized D E
          (part_in y (λ o c b. controller_row (separated_of g) o c (input_of z b)) E R
          ((rw a at A).fills (λ o c b. controller_row (separated_of g) o c (input_of z b)) E R
          (record { row = λ o h b lo k c v lh lb m. row o h (input_of z b) lo k c (laid_input g z y G.sized D E T b lb) (in_group b m) }))
          (λ o c b lo lc lb p.
          let a : o < (separated_of g).output.states = omega (arith, outputs_are g z y G.sized D) in
          let j = laid_input g z y G.sized D E T b lb in
          let q = near_has_home homes (input_of z b) j (at_home_lem (input_of z b) j p.1) (same (input_of z b) p.1) o a p.0.has_home in
          (in_near o a ∙ q, comp_in (separated_of g) w H o ∙ p.0.apart, leads_home o q a, of_group b lb p.1)));
    }
      where
        both : (j : ℕ) → has group j ≡ true → (has x j && eqb (lower_at (sets_in s) z.inputs w.state.0 j) homes) ≡ true
        both j h =
            pack_holds z.inputs (λ k. has x k && eqb (lower_at (sets_in s) z.inputs w.state.0 k) homes) j (ap (λ (k : ℕ). has k j) (sym e) ∙ h)

        same : (j : ℕ) → has group j ≡ true → lower_at (sets_in s) z.inputs w.state.0 j ≡ homes
        same j h =
            eqb-true (lower_at (sets_in s) z.inputs w.state.0 j) homes
            (and_right (has x j) (eqb (lower_at (sets_in s) z.inputs w.state.0 j) homes) (both j h))

        at_home_lem : (j : ℕ) → j < (separated_of g).input.states → has group j ≡ true → HasHome (separated_of g) w.state.0 w.state.0 j
        at_home_lem j a h =
            H.has_home j a (sub j (and_left (has x j) (eqb (lower_at (sets_in s) z.inputs w.state.0 j) homes) (both j h)))

        in_group : (b : ℕ) → has over b ≡ true → has group (input_of z b) ≡ true
        in_group b h = and_right (ltb b z.width) (has group (input_of z b)) (sym (O b) ∙ h)

        of_group : (b : ℕ) → b < y.width → has group (input_of z b) ≡ true → has over b ≡ true
        of_group b l h = O b ∙ and_intro (lt-ltb b z.width (omega (arith, width_is g z y G.sized D))) h

        row : (o h j : ℕ) → o < y.states → has inside o ≡ true → has (bits_of w.component.0) o ≡ false → j < (separated_of g).input.states
            → has group j ≡ true
            → controller_row (separated_of g) o h j ≡ gives h (toward y.states (kept (sets_in g.output.moves) inside) (has (bits_of w.component.0)) o)
        row o h j lo k c a m =
            let b : o < (separated_of g).output.states = omega (arith, outputs_are g z y G.sized D) in
            let q = sym (in_near o b) ∙ k in
            let r = has_home_near homes j a (at_home_lem j a m) (same j m) o b q in
            row_home (separated_of g) o w.state.0 j r a h
            ∙ homeward_away (separated_of g) w.state.0 o h (sym (comp_in (separated_of g) w H o) ∙ c)
            ∙ ap (gives h) (sym (toward_home o q))

  -- group after group

  pub homing_start : (x : ℕ) (l : List ℕ) → ((j : ℕ) → has x j ≡ (has (bits_of w.inputs.0) j && has inner j)) → Homing g z w x l l
  homing_start x l e = record {
    inputs = λ j h.
        let v = sym (e j) ∙ h in
        (inner_below j (and_right (has (bits_of w.inputs.0) j) (has inner j) v), and_left (has (bits_of w.inputs.0) j) (has inner j) v);
    filled = filled_none (separated_of g) z l (λ o c j lo lc lj p. clash (inside o j lj p.0.has_home) p.1);
  }
    where
      inner_below : (j : ℕ) → has inner j ≡ true → j < z.inputs
      inner_below j h =
          rw G.sized.inputs (pack_below g.input.states _ j (ap (λ (k : ℕ). has k j) (sym G.ready.inner) ∙ h))

      inside : (o j : ℕ) → j < (separated_of g).input.states → HasHome (separated_of g) o w.state.0 j → has x j ≡ true
      inside o j lj r = e j ∙ and_intro (H.complete j lj (has_home_there (separated_of g) o w.state.0 j r)) (T.is_nontrivial j lj ∙ r.is_nontrivial)

  module _ (x : ℕ) {l m : List ℕ} (I : Homing g z w x l m) where
    pub homing_within : within x z.inputs ≡ true
    homing_within = has_within x z.inputs (λ j h. (I.inputs j h).0)

    pub homing_inner : (j : ℕ) → has x j ≡ true → has inner j ≡ true
    homing_inner j h =
        let i = I.inputs j h in
        let l : j < (separated_of g).input.states = omega (arith, i.0, (sizes_of_lem g z G.sized).inputs) in
        T.is_nontrivial j l ∙ (H.has_home j l i.1).is_nontrivial

    homing_small : x < 2 ^ capacity
    homing_small = small_word capacity x (λ j h. omega (arith, (I.inputs j h).0, (sizes_of_lem g z G.sized).inputs, T.few_inputs))

    module _ (ne : x ≢ 0) (j : ℕ) (e : j ≡ least capacity (has x)) where
      pub homing_in : j < z.inputs
      homing_in = (I.inputs j (lowest_in_lem capacity x j homing_small ne e)).0

      pub homing_falls : (homes group v : ℕ) → homes ≡ lower_at (sets_in s) z.inputs w.state.0 j
          → group ≡ pack z.inputs (λ k. has x k && alike_at (sets_in s) z.inputs w.state.0 homes k)
          → ((k : ℕ) → has v k ≡ (has x k && not (has group k))) → count capacity (has v) < count capacity (has x)
      unfolding alike_at
      homing_falls homes group v h p d =
          count_less capacity (has v) (has x) (λ k b q. and_left (has x k) (not (has group k)) (sym (d k) ∙ q)) j
          (lowest_below capacity x j homing_small ne e)
          (d j
          ∙ ap (λ (k : Bool). has x j && not k)
          (ap (λ (k : ℕ). has k j) p
          ∙ has_pack_below z.inputs (λ k. has x k && eqb (lower_at (sets_in s) z.inputs w.state.0 k) homes) j homing_in
          ∙ and_intro (lowest_in_lem capacity x j homing_small ne e) (eq-eqb (lower_at (sets_in s) z.inputs w.state.0 j) homes (sym h)))
          ∙ and_false_right (has x j) refl)
          (lowest_in_lem capacity x j homing_small ne e)

    pub homing_next : (group v : ℕ) {r r' : List ℕ} → ((k : ℕ) → has v k ≡ (has x k && not (has group k)))
        → ControllerFilled (separated_of g) z (λ o c j. Away (separated_of g) w.state.0 o c j × (has group j ≡ true)) m r → r' ≡ r → Homing g z w v l r'
    homing_next group v d F q = rw q (record {
      inputs = λ j h. I.inputs j (and_left (has x j) (not (has group j)) (sym (d j) ∙ h));
      filled =
          filled_part (separated_of g) z
          {P = λ o c j. (Away (separated_of g) w.state.0 o c j × (has x j ≡ false)) ⊎ (Away (separated_of g) w.state.0 o c j × (has group j ≡ true))}
          (λ o c j lo lc lj p.
          elim (decide (has x j)) [
            | inl a ↦ inr (p.0, taken j a p.1)
            | inr a ↦ inl (p.0, a)
          ])
          (filled_more (separated_of g) z I.filled F);
    })
      where
        taken : (j : ℕ) → has x j ≡ true → has v j ≡ false → has group j ≡ true
        taken j a h = elim (decide (has group j)) [ inl b ↦ b | inr b ↦ clash (d j ∙ and_intro a (ap not b)) h ]

    pub homing_end : x ≡ 0 → ControllerFilled (separated_of g) z (Away (separated_of g) w.state.0) l m
    homing_end e =
        filled_part (separated_of g) z (λ o c j lo lc lj p. (p, ap (λ (k : ℕ). has k j) e ∙ has_zero_lem j)) I.filled
