-- The rows of nontrivial components, by the components' numbers.
--
--   component_word   : what `component` gives is the component
--   ahead-*          : the inputs whose component is ahead, from one number to the next
--   walked_join      : ways out and tours together are all rows of the component
--   number_in        : the states whose component has a number
use Prim.Native.Nat.{ℕ, ◌+◌, ◌≤◌, ◌<◌}
use mathlib.Core.Path.{◌≡◌, refl, sym, ◌∙◌, ap, subst}
use mathlib.Core.Bool.{true, false, not, ◌&&◌}
use mathlib.Core.List.{List}
use mathlib.Core.Logic.{◌⊎◌, inl, inr}
use native.Mathlib.Omega.{arith}
use native.Mathlib.Decide.{ℕ_discrete}
use lib.Dec.{leb}
use borrow.Author.Tests.{leb-true, le-leb}
use Rattle.finite.proofs.Truth.{decide, clash, false_of, same_test, and_intro, and_left, and_right, not_true, not_false, or_false_left, or_false_right, and_all}
use Rattle.bits.specs.Member.{has, pack}
use Rattle.bits.proofs.Membership.{has_pack_below}
use Rattle.sets.specs.Words.{sets_in}
use Rattle.graphs.specs.Component.{joined, number, nontrivial}
use Rattle.graphs.specs.Graph.{stuck}
use Rattle.graphs.proofs.Graph.{edge_from}
use Rattle.graphs.proofs.Component.{joined_self, joined_sym, number_joined, number_below, number_least, number_same, nontrivial_same, nontrivial_move}
use Rattle.game.specs.declared.Game.{Game}
use Rattle.graph_components.specs.Component.{together}
use Rattle.graph_components.proofs.Closed.{component_closed}
use Rattle.play.specs.Play.{graph_of, separated_of}
use Rattle.theory.specs.Region.{region}
use Rattle.theory.specs.Choice.{escapes}
use Rattle.theory.proofs.Delay.{region_same}
use Rattle.scratch.proofs.Areas.{in_closes}
use Rattle.environment_table.specs.Table.{Known, EnvironmentFilled}
use Rattle.environment_table.specs.Reading.{unwalked, plain}
use Rattle.environment_table.specs.Pressing.{Whole, Ahead, Escaped, pressed_at, leaving_at, touring_at}
use Rattle.environment_table.specs.Touring.{Left}
use Rattle.environment_table.proofs.Places.{filled_none, filled_join}
use Rattle.environment_table.proofs.Known.{known_core}
use Rattle.environment_table.proofs.Outward.{whole_of}

plain_lost : (g : Game) (a b : ℕ) → plain g a b ≡ false → region (separated_of g) a b ≡ false
unfolding plain
plain_lost g a b e = or_false_left (region (separated_of g) a b) (unwalked g a b) e

plain_free : (g : Game) (a b : ℕ) → plain g a b ≡ false → stuck (separated_of g).output b ≡ false
unfolding plain unwalked
plain_free g a b e =
    or_false_right (not (nontrivial (separated_of g).input a)) (stuck (separated_of g).output b)
    (or_false_right (region (separated_of g) a b) (unwalked g a b) e)

plain_core : (g : Game) (a b : ℕ) → plain g a b ≡ false → nontrivial (graph_of g.input) a ≡ true
unfolding plain unwalked separated_of
plain_core g a b e =
    not_false (nontrivial (graph_of g.input) a)
    (or_false_left (not (nontrivial (graph_of g.input) a)) (stuck (separated_of g).output b)
    (or_false_right (region (separated_of g) a b) (unwalked g a b) e))

core_below : (g : Game) (a : ℕ) → nontrivial (graph_of g.input) a ≡ true → a < g.input.states
unfolding graph_of
core_below g a e = let v = nontrivial_move (graph_of g.input) a e in edge_from (graph_of g.input) a v.0 v.1

pub component_word : (g : Game) (s : List ℕ) (inner : ℕ) → Known g s inner → (i : ℕ) {c : ℕ} → i < g.input.states
    → c ≡ pack g.input.states (together (sets_in s) i) → c ≡ pack g.input.states (joined (graph_of g.input) i)
component_word g s inner K i b e = e ∙ component_closed g.input (sets_in s) (in_closes K.ready.laid) i b

-- the states whose component has the number i
module _ (g : Game) (a i : ℕ) (b : a < g.input.states) (e : number (graph_of g.input) a ≡ i) where
  number_in : joined (graph_of g.input) i a ≡ true
  unfolding graph_of
  number_in =
      joined_sym (graph_of g.input) a i
      (subst (λ (k : ℕ). joined (graph_of g.input) a k ≡ true) e (number_joined (graph_of g.input) a b))

  number_own : number (graph_of g.input) i ≡ i
  number_own = number_same (graph_of g.input) i a number_in ∙ e

  number_core : nontrivial (graph_of g.input) a ≡ true → nontrivial (graph_of g.input) i ≡ true
  number_core n = nontrivial_same (graph_of g.input) i a number_in ∙ n

-- ---- the components whose number is still ahead

pub ahead_start : (g : Game) (s : List ℕ) (inner : ℕ) → Known g s inner → Ahead g 0 inner
unfolding separated_of
ahead_start g s inner K = record {
  is = λ a l.
      known_core g s inner K a l
      ∙ rw (le-leb 0 (number (graph_of g.input) a) (omega arith)) (sym (and_all (nontrivial (graph_of g.input) a) refl));
}

module _ (g : Game) (i : ℕ) (li : i < g.input.states) (x : ℕ) (A : Ahead g i x) where
  -- a component with the number i is ahead
  ahead_number : (a : ℕ) → a < g.input.states → nontrivial (graph_of g.input) a ≡ true → number (graph_of g.input) a ≡ i → has x i ≡ true
  ahead_number a l n e =
      A.is i li ∙ and_intro (number_core g a i l e n) (le-leb i (number (graph_of g.input) i) (omega (arith, number_own g a i l e)))

  pub ahead_skip : has x i ≡ false → (l : List ℕ)
      → EnvironmentFilled g (λ a h b. (number (graph_of g.input) a ≡ i) × (plain g a b ≡ false)) l l × Ahead g (i + 1) x
  ahead_skip e l = (
    filled_none g l
        (λ a h b p.
        let n = plain_core g a b p.1 in
        clash (ahead_number a (core_below g a n) n p.0) e),
    record { is = λ a b. A.is a b ∙ next a b },
  )
    where
      next : (a : ℕ) → a < g.input.states
          → (nontrivial (graph_of g.input) a && leb i (number (graph_of g.input) a))
          ≡ (nontrivial (graph_of g.input) a && leb (i + 1) (number (graph_of g.input) a))
      next a b =
          same_test (nontrivial (graph_of g.input) a && leb i (number (graph_of g.input) a))
          (nontrivial (graph_of g.input) a && leb (i + 1) (number (graph_of g.input) a))
          (λ h.
          let n = and_left (nontrivial (graph_of g.input) a) (leb i (number (graph_of g.input) a)) h in
          let m = leb-true i (number (graph_of g.input) a) (and_right (nontrivial (graph_of g.input) a) (leb i (number (graph_of g.input) a)) h) in
          and_intro n (past n m (ℕ_discrete (number (graph_of g.input) a) i)))
          (λ h.
          let n = and_left (nontrivial (graph_of g.input) a) (leb (i + 1) (number (graph_of g.input) a)) h in
          let m = leb-true (i + 1) (number (graph_of g.input) a)
          (and_right (nontrivial (graph_of g.input) a) (leb (i + 1) (number (graph_of g.input) a)) h) in
          and_intro n (le-leb i (number (graph_of g.input) a) (omega (arith, m))))
        where
          past : nontrivial (graph_of g.input) a ≡ true → i ≤ number (graph_of g.input) a → Dec (number (graph_of g.input) a ≡ i)
              → leb (i + 1) (number (graph_of g.input) a) ≡ true
          past n m (yes z) = clash (ahead_number a b n z) e
          past n m (no z) = le-leb (i + 1) (number (graph_of g.input) a) (omega (arith, m, z))

  module _ (e : has x i ≡ true) (c : ℕ) (w : c ≡ pack g.input.states (joined (graph_of g.input) i)) where
    mine : (nontrivial (graph_of g.input) i && leb i (number (graph_of g.input) i)) ≡ true
    mine = sym (A.is i li) ∙ e

    own : number (graph_of g.input) i ≡ i
    unfolding graph_of
    own =
        let most = number_least (graph_of g.input) i i (joined_self (graph_of g.input) i li) in
        let least = leb-true i (number (graph_of g.input) i) (and_right (nontrivial (graph_of g.input) i) (leb i (number (graph_of g.input) i)) mine) in
        omega (arith, most, least)

    pub ahead_whole : Whole g c i
    ahead_whole = record {
      below = li;
      first = own;
      is_nontrivial = and_left (nontrivial (graph_of g.input) i) (leb i (number (graph_of g.input) i)) mine;
      word = w;
    }

    pub ahead_next : {r : ℕ} → ((t : ℕ) → has r t ≡ (has x t && not (has c t))) → Ahead g (i + 1) r
    ahead_next {r} d = record { is = λ a l. d a ∙ same_test (has x a && not (has c a)) _ (to a l) (back a l) }
      where
        in_c : (a : ℕ) → a < g.input.states → has c a ≡ joined (graph_of g.input) i a
        in_c a l = ap (λ (k : ℕ). has k a) w ∙ has_pack_below g.input.states (joined (graph_of g.input) i) a l

        to : (a : ℕ) → a < g.input.states → (has x a && not (has c a)) ≡ true
            → (nontrivial (graph_of g.input) a && leb (i + 1) (number (graph_of g.input) a)) ≡ true
        to a l h =
            let left = sym (A.is a l) ∙ and_left (has x a) (not (has c a)) h in
            let out = not_true (has c a) (and_right (has x a) (not (has c a)) h) in
            let n = and_left (nontrivial (graph_of g.input) a) (leb i (number (graph_of g.input) a)) left in
            let from = and_right (nontrivial (graph_of g.input) a) (leb i (number (graph_of g.input) a)) left in
            and_intro n (past out (leb-true i (number (graph_of g.input) a) from) (ℕ_discrete (number (graph_of g.input) a) i))
          where
            past : has c a ≡ false → i ≤ number (graph_of g.input) a → Dec (number (graph_of g.input) a ≡ i)
                → leb (i + 1) (number (graph_of g.input) a) ≡ true
            past out from (yes z) = clash (in_c a l ∙ number_in g a i l z) out
            past out from (no z) = le-leb (i + 1) (number (graph_of g.input) a) (omega (arith, from, z))

        back : (a : ℕ) → a < g.input.states → (nontrivial (graph_of g.input) a && leb (i + 1) (number (graph_of g.input) a)) ≡ true
            → (has x a && not (has c a)) ≡ true
        back a l h =
            let n = and_left (nontrivial (graph_of g.input) a) (leb (i + 1) (number (graph_of g.input) a)) h in
            let past = leb-true (i + 1) (number (graph_of g.input) a)
            (and_right (nontrivial (graph_of g.input) a) (leb (i + 1) (number (graph_of g.input) a)) h) in
            and_intro (A.is a l ∙ and_intro n (le-leb i (number (graph_of g.input) a) (omega (arith, past))))
            (ap not (false_of (has c a)
            (λ q. absurd (omega (arith, past, own, number_same (graph_of g.input) i a (sym (in_c a l) ∙ q))))))

-- ---- ways out and tours together

module _ (g : Game) (c i : ℕ) (W : Whole g c i) {over : ℕ} {l m : List ℕ} (E : Escaped g i l m over) where
  pub walked_join : {n : List ℕ} → EnvironmentFilled g (λ a h b. (has c a ≡ true) × (has over b ≡ true)) m n
      → EnvironmentFilled g (λ a h b. (number (graph_of g.input) a ≡ i) × (plain g a b ≡ false)) l n
  unfolding leaving_at touring_at pressed_at separated_of graph_of
  walked_join T =
      filled_join g E.filled T
      (λ a h b x y z p. go a b z (number_in g a i x p.0) (plain_lost g a b p.1) (plain_free g a b p.1) (decide (escapes (separated_of g) i b)))
    where
      go : (a b : ℕ) → b < g.output.states → joined (graph_of g.input) i a ≡ true → region (separated_of g) a b ≡ false
          → stuck (separated_of g).output b ≡ false
          → (escapes (separated_of g) i b ≡ true) ⊎ (escapes (separated_of g) i b ≡ false)
          → ((joined (graph_of g.input) i a ≡ true) × (leaving_at g i b ≡ true)) ⊎ ((has c a ≡ true) × (has over b ≡ true))
      go a b z j r f (inl e) =
          inl (j, and_intro (and_intro (ap not (region_same (separated_of g) i a b b j (joined_self (graph_of g.output) b z) ∙ r)) (ap not f)) e)
      go a b z j r f (inr e) =
          inr (
            whole_of g c i W a j,
            ap (λ (x : ℕ). has x b) E.tours ∙ has_pack_below g.output.states (touring_at g i) b z
                ∙ and_intro (and_intro (ap not (region_same (separated_of g) i a b b j (joined_self (graph_of g.output) b z) ∙ r)) (ap not f)) (ap not e),
          )

  pub left_of : Left g c over
  left_of = record { first = i; whole = W; outputs = E.tours }

pub number_within : (g : Game) (a : ℕ) → a < g.input.states → number (graph_of g.input) a < g.input.states
unfolding graph_of
number_within g a b = number_below (graph_of g.input) a b
