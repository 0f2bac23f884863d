-- One component is settled.
--
--   unsettled      : what is drawn is the component of the position, and everything that it leads to is right
--   advanced       : where its positions are settled and known, one component more is settled
--   advanced_not   : a position whose component is known
use Prim.Native.Nat.{ℕ, ◌+◌, ◌*◌, ◌<◌}
use mathlib.Core.Path.{◌≡◌, sym, ◌∙◌, ap, ap₂, subst, fun_ext}
use mathlib.Core.Bool.{Bool, true, false, ◌&&◌, ◌||◌}
use mathlib.Core.List.{List}
use native.Mathlib.Omega.{arith}
use lib.Arith.{digits_lt, digits_div, digits_mod}
use lib.Dec.{eqb}
use lib.ListN.{get_or}
use borrow.Author.Tests.{eq-eqb}
use Rattle.finite.proofs.Truth.{and_intro, and_left, or_left, or_right}
use Rattle.finite.proofs.But.{but_self, but_then, but_wider}
use Rattle.joint.specs.Joint.{rank_at}
use Rattle.joint.specs.Solver.{Component, Ahead}
use Rattle.joint.proofs.Reached.{reached_start}
use Rattle.joint.proofs.Accepting.{component_ranked}
use Rattle.joint.proofs.Settled.{settled_ahead, settled_apart, settled_add}
use Rattle.game.specs.declared.Game.{Game}
use Rattle.play.specs.Play.{graph_of, separated_of}
use Rattle.joined_reach.specs.Words.{belongs, Small, Ranked}
use Rattle.joined_reach.specs.Reach.{Reached}
use Rattle.joined_reach.proofs.Words.{belongs_has, belongs_below, belongs_same, found_has}
use Rattle.joined_component.specs.Component.{won, known, component, ranked_in, Drawn, Joined}
use Rattle.joined_settle.specs.Settle.{Unsettled, ComponentSettled}
use Rattle.joined.specs.Order.{Backward, SettledWith}

-- a set whose words are not changed
set_same : (n a : ℕ) (l m : List ℕ) → ((i : ℕ) → i < n → get_or m (a + i) 0 ≡ get_or l (a + i) 0) → belongs n a m ≡ belongs n a l
set_same n a l m e = fun_ext (λ i. fun_ext (λ o. belongs_same n a l m e i o))

at_once : {f h : ℕ → ℕ → Bool} → f ≡ h → (i o : ℕ) → f i o ≡ h i o
at_once e i o = ap (λ (k : ℕ → ℕ → Bool). k i o) e

-- the number of positions ahead, where it stands
ranked_at : (g : Game) (l : List ℕ) → Ranked g (g.input.states * g.output.states) l → (j p : ℕ) → j < g.input.states → p < g.output.states
    → get_or l (1024 + (j * g.output.states + p)) 0 ≡ rank_at (separated_of g) j p
ranked_at g l R j p a b =
    R.ahead (j * g.output.states + p) (digits_lt a b)
    ∙ ap₂ (rank_at (separated_of g)) (digits_div j b) (digits_mod j b)

module _ (g : Game) (S : Small g) (n i o : ℕ) (l : List ℕ) (B : Backward g n l) (a : i < g.input.states) (b : o < g.output.states)
    (e : rank_at (separated_of g) i o ≡ n) (k : known g l i o ≡ false) (l₁ : List ℕ) (R : Reached g i o l l₁) (l₂ : List ℕ) (D : Drawn g n l₁ l₂) where
  won_same : won g l₂ ≡ won g l
  won_same = set_same g.input.states 64 l l₂ (λ j h. D.kept.low (64 + j) (omega (arith, S.inputs)) ∙ R.kept.high (64 + j) (omega arith))

  known_same : known g l₂ ≡ known g l
  known_same = set_same g.input.states 96 l l₂ (λ j h. D.kept.low (96 + j) (omega (arith, S.inputs)) ∙ R.kept.high (96 + j) (omega arith))

  ranks : (j p : ℕ) → j < g.input.states → p < g.output.states → ranked_in l₁ g.output.states j n p ≡ eqb (rank_at (separated_of g) j p) n
  unfolding ranked_in
  ranks j p c d =
      ap (λ (x : ℕ). eqb x n) (R.kept.high (1024 + (j * g.output.states + p)) (omega arith) ∙ ranked_at g l B.ranked j p c d)

  row : (j p : ℕ) → j < g.input.states → component g l₂ j p ≡ (belongs g.input.states 0 l₁ j p && ranked_in l₁ g.output.states j n p)
  row j p c =
      belongs_has g.input.states 128 l₂ j p c ∙ D.rows j p c
      ∙ ap (λ (x : Bool). x && ranked_in l₁ g.output.states j n p) (sym (found_has g.input.states l₁ j p c))

  drawn : Component (separated_of g) (component g l₂)
  unfolding separated_of graph_of
  drawn =
      component_ranked (separated_of g) (component g l₂) (belongs g.input.states 0 l₁) i o n e (λ j p h. belongs_below g.input.states 128 l₂ j p h)
      (λ j p h. let c = belongs_below g.input.states 128 l₂ j p h in
      R.within.outputs j p c
      (sym (found_has g.input.states l₁ j p c)
      ∙ and_left (belongs g.input.states 0 l₁ j p) (ranked_in l₁ g.output.states j n p) (sym (row j p c) ∙ h)))
      (λ j p c d. found_has g.input.states l₁ j p c ∙ R.found j p c d)
      (λ j p c d. row j p c ∙ ap (λ (x : Bool). belongs g.input.states 0 l₁ j p && x) (ranks j p c d))

  root : component g l₂ i o ≡ true
  unfolding separated_of graph_of
  root =
      row i o a
      ∙ and_intro (found_has g.input.states l₁ i o a ∙ R.found i o a b ∙ reached_start (separated_of g).input (separated_of g).output i o a b)
      (ranks i o a b ∙ eq-eqb (rank_at (separated_of g) i o) n e)

  pub unsettled : Unsettled g i o l₂
  unsettled = record {
    whole = drawn;
    root = root;
    ahead = subst (λ (W : ℕ → ℕ → Bool). Ahead (separated_of g) (component g l₂) W) (sym won_same)
        (settled_ahead (separated_of g) n (known g l) (won g l) B.settled (component g l₂) drawn i o root e);
    apart = λ j p h. at_once won_same j p ∙ settled_apart (separated_of g) n (known g l) (won g l) B.settled (component g l₂) drawn i o root k j p h;
    within = λ j p h. B.within j p (sym (at_once won_same j p) ∙ h);
  }

  module _ (l₃ : List ℕ) (T : ComponentSettled g l₂ l₃) (l₄ : List ℕ) (J : Joined g 96 l₃ l₄) where
    marks_same : won g l₄ ≡ won g l₃
    marks_same = set_same g.input.states 64 l₃ l₄ (λ j h. J.kept.low (64 + j) (omega (arith, S.inputs)))

    known_then : known g l₃ ≡ known g l₂
    known_then = set_same g.input.states 96 l₂ l₃ (λ j h. T.swept.kept.high (96 + j) (omega arith))

    component_then : component g l₃ ≡ component g l₂
    component_then = set_same g.input.states 128 l₂ l₃ (λ j h. T.swept.kept.high (128 + j) (omega arith))

    both : (j p : ℕ) → j < g.input.states → known g l₄ j p ≡ (known g l j p || component g l₂ j p)
    both j p c =
        belongs_has g.input.states 96 l₄ j p c ∙ J.rows j p c
        ∙ ap₂ ◌||◌ (sym (belongs_has g.input.states 96 l₃ j p c) ∙ at_once known_then j p ∙ at_once known_same j p)
        (sym (belongs_has g.input.states 128 l₃ j p c) ∙ at_once component_then j p)

    pub advanced : SettledWith g n i o l l₄
    unfolding separated_of graph_of
    advanced = record {
      kept = but_then (but_wider 0 2048 (omega arith) (omega arith) R.kept)
          (but_then (but_wider 0 2048 (omega arith) (omega arith) D.kept)
          (but_then (but_wider 0 2048 (omega arith) (omega arith) T.swept.kept) (but_wider 0 2048 (omega arith) (omega arith) J.kept)));
      backward = record {
        settled = settled_add (separated_of g) n (known g l) (won g l) B.settled (component g l₂) (known g l₄) (won g l₄) drawn
            (λ j p c d. both j p c)
            (λ j p c d h. at_once marks_same j p ∙ T.swept.outside j p h ∙ at_once won_same j p)
            (λ j p h. at_once marks_same j p ∙ T.right j p h);
        ranked = record {
          ahead = λ c h. J.kept.high (1024 + c) (omega arith) ∙ T.swept.kept.high (1024 + c) (omega arith)
              ∙ D.kept.high (1024 + c) (omega arith) ∙ R.kept.high (1024 + c) (omega arith) ∙ B.ranked.ahead c h;
        };
        within = λ j p h. T.within j p (sym (at_once marks_same j p) ∙ h);
      };
      more = λ j p h. both j p (belongs_below g.input.states 96 l j p h) ∙ or_left (component g l₂ j p) h;
      here = both i o a ∙ or_right (known g l i o) root;
    }

pub advanced_not : (g : Game) (n i o : ℕ) (l : List ℕ) → Backward g n l → known g l i o ≡ true → SettledWith g n i o l l
advanced_not g n i o l B h = record { kept = but_self 0 2048 l; backward = B; more = λ j p k. k; here = h }
