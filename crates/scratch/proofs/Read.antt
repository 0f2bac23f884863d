-- What is read from scratch is the winning region.
--
--   won_in, won_out            : the two cases of `won_at`
--   won_all_in, -same, -out    : the outputs that are won with an input, in these cases
--   reaching_none              : no output reaches one of no states
--   some_won_in, some_won_out  : the two cases of `some_won_at`
--   won_region                 : where the rows of j and o are right, `won_at` is the region
--   ready_won, ready_row       : so it is where scratch is ready
use Prim.Native.Nat.{ℕ, ◌≤◌, ◌<◌}
use mathlib.Core.Path.{◌≡◌, refl, sym, ◌∙◌, ap, ap₂}
use mathlib.Core.Bool.{Bool, true, false, ◌&&◌}
use mathlib.Core.List.{List}
use mathlib.Core.Logic.{◌⊎◌, inl, inr}
use native.Mathlib.Omega.{arith}
use lib.Dec.{ltb}
use Rattle.finite.specs.Bounded.{any}
use Rattle.finite.proofs.Truth.{decide, clash, false_of, same_test, and_intro, and_left, and_right, and_false_right, and_comm}
use Rattle.finite.proofs.Bounded.{any_intro, any_elim, any_same}
use Rattle.bits.specs.Member.{has, pack, sets_meet}
use Rattle.bits.proofs.Membership.{ext, has_zero_lem, has_pack, has_pack_below, pack_ext}
use Rattle.bits.proofs.Compare.{meets_intro, meets_elim, meets_pack}
use Rattle.sets.specs.Words.{capacity, sets_in}
use Rattle.graphs.specs.Closure.{reaches}
use Rattle.graphs.specs.Component.{nontrivial}
use Rattle.arena.specs.Arena.{Separated}
use Rattle.game.specs.declared.Game.{Game}
use Rattle.play.specs.Play.{graph_of, separated_of}
use Rattle.theory.specs.Region.{home_for, settles, region}
use Rattle.theory.proofs.Region.{region_settles}
use Rattle.scratch.specs.Stored.{row_at, out_reach_at, reaching_at, stored_at, stored_row, won_at, some_won_at, Reached, Ready}

pub won_in : (l : List ℕ) (n c j o : ℕ) {r : Bool} → has c j ≡ true → r ≡ sets_meet capacity (row_at l n j) (out_reach_at l n o) → r ≡ won_at l n c j o
unfolding won_at
won_in l n c j o h e = rw (h, won_at) e

pub won_out : (l : List ℕ) (n c j o : ℕ) {r : Bool} → has c j ≡ false → r ≡ has (row_at l n j) o → r ≡ won_at l n c j o
unfolding won_at
won_out l n c j o h e = rw (h, won_at) e

-- the outputs that are won with i, x being its row
module _ (l : List ℕ) (n m c i r x : ℕ) (e : x ≡ row_at l n i) where
  pub won_all_in : has c i ≡ true → r ≡ pack m (reaching_at l n x) → r ≡ pack m (won_at l n c i)
  unfolding reaching_at
  won_all_in h q =
      q
      ∙ pack_ext m (reaching_at l n x) (won_at l n c i) (λ o b. won_in l n c i o h (ap (λ (y : ℕ). sets_meet capacity y (out_reach_at l n o)) e))

  pub won_all_same : has c i ≡ true → (y : ℕ) → x ≡ y → r ≡ pack m (reaching_at l n y) → r ≡ pack m (won_at l n c i)
  won_all_same h y q k = won_all_in h (k ∙ ap (λ (z : ℕ). pack m (reaching_at l n z)) (sym q))

  pub won_all_out : (b : ℕ) → has c i ≡ false → ((s : ℕ) → has b s ≡ ltb s m) → ((s : ℕ) → has r s ≡ (has x s && has b s)) → r ≡ pack m (won_at l n c i)
  won_all_out b h f g = ext r (pack m (won_at l n c i)) at
    where
      at : (s : ℕ) → has r s ≡ has (pack m (won_at l n c i)) s
      at s =
          g s ∙ ap₂ ◌&&◌ (won_out l n c i s h (ap (λ (y : ℕ). has y s) e)) (f s)
          ∙ and_comm (won_at l n c i s) (ltb s m) ∙ sym (has_pack m (won_at l n c i) s)

-- no output reaches one of no states
pub reaching_none : (l : List ℕ) (n m x y : ℕ) → x ≡ 0 → y ≡ 0 → y ≡ pack m (reaching_at l n x)
unfolding reaching_at
reaching_none l n m x y e q = q ∙ ext 0 (pack m (reaching_at l n x)) (λ s. has_zero_lem s ∙ sym (none s))
  where
    nothing : (o : ℕ) → sets_meet capacity x (out_reach_at l n o) ≡ false
    nothing o =
        false_of (sets_meet capacity x (out_reach_at l n o))
        (λ h.
        let w = meets_elim capacity x (out_reach_at l n o) h in
        clash w.2 (ap (λ (z : ℕ). has z w.0) e ∙ has_zero_lem w.0))

    none : (s : ℕ) → has (pack m (reaching_at l n x)) s ≡ false
    none s = has_pack m (reaching_at l n x) s ∙ and_false_right (ltb s m) (nothing s)

-- whether some output is won, z being what the outputs of y reach
module _ (l : List ℕ) (n m c j y z : ℕ) (R : Reached l n m y z) where
  won_of_lem : ℕ → Bool
  won_of_lem p = has y p && won_at l n c j p

  pub some_won_in : {r : Bool} → has c j ≡ true → r ≡ sets_meet capacity (row_at l n j) z → r ≡ some_won_at l n m c j y
  unfolding some_won_at won_of_lem
  some_won_in h e = e ∙ same_test (sets_meet capacity (row_at l n j) z) (any m won_of_lem) to back
    where
      to : sets_meet capacity (row_at l n j) z ≡ true → any m won_of_lem ≡ true
      to k =
          let w = meets_elim capacity (row_at l n j) z k in
          let v = R.reached w.0 w.3 in
          any_intro m won_of_lem v.0 (R.below v.0 v.1)
          (and_intro v.1 (sym (won_in l n c j v.0 h refl) ∙ meets_intro capacity (row_at l n j) (out_reach_at l n v.0) w.0 w.1 w.2 v.2))

      back : any m won_of_lem ≡ true → sets_meet capacity (row_at l n j) z ≡ true
      back k =
          let v = any_elim m won_of_lem k in
          let won = and_right (has y v.0) (won_at l n c j v.0) v.2 in
          let w = meets_elim capacity (row_at l n j) (out_reach_at l n v.0) (won_in l n c j v.0 h refl ∙ won) in
          meets_intro capacity (row_at l n j) z w.0 w.1 w.2
          (R.reaches v.0 w.0 (and_left (has y v.0) (won_at l n c j v.0) v.2) w.3)

  pub some_won_out : {r : Bool} → m ≤ capacity → has c j ≡ false → r ≡ sets_meet capacity (row_at l n j) y → r ≡ some_won_at l n m c j y
  unfolding some_won_at won_of_lem
  some_won_out small h e = e ∙ same_test (sets_meet capacity (row_at l n j) y) (any m won_of_lem) to back
    where
      to : sets_meet capacity (row_at l n j) y ≡ true → any m won_of_lem ≡ true
      to k =
          let w = meets_elim capacity (row_at l n j) y k in
          any_intro m won_of_lem w.0 (R.below w.0 w.3) (and_intro w.3 (sym (won_out l n c j w.0 h refl) ∙ w.2))

      back : any m won_of_lem ≡ true → sets_meet capacity (row_at l n j) y ≡ true
      back k =
          let v = any_elim m won_of_lem k in
          let won = and_right (has y v.0) (won_at l n c j v.0) v.2 in
          meets_intro capacity (row_at l n j) y v.0 (omega (arith, v.1)) (won_out l n c j v.0 h refl ∙ won)
          (and_left (has y v.0) (won_at l n c j v.0) v.2)

-- two sets of outputs meet exactly where some member is common
meets_packed : (m : ℕ) (p q : ℕ → Bool) → m ≤ capacity → sets_meet capacity (pack m p) (pack m q) ≡ any m (λ d. q d && p d)
meets_packed m p q b =
    meets_pack capacity m (pack m p) q b
    ∙ any_same m (λ d. has (pack m p) d && q d) (λ d. q d && p d) (λ d l. ap (λ (x : Bool). x && q d) (has_pack_below m p d l) ∙ and_comm (p d) (q d))

module _ (S : Separated) where
  pub stored_nontrivial : (j : ℕ) → nontrivial S.input j ≡ true → stored_row S j ≡ pack S.output.states (home_for S (region S) j)
  unfolding stored_row stored_at
  stored_nontrivial j t = pack_ext S.output.states (stored_at S j) (home_for S (region S) j) (λ o b. at o)
    where
      at : (o : ℕ) → stored_at S j o ≡ home_for S (region S) j o
      at o = rw (t, stored_at) refl

  pub stored_trivial : (j : ℕ) → nontrivial S.input j ≡ false → stored_row S j ≡ pack S.output.states (region S j)
  unfolding stored_row stored_at
  stored_trivial j t = pack_ext S.output.states (stored_at S j) (region S j) (λ o b. at o)
    where
      at : (o : ℕ) → stored_at S j o ≡ region S j o
      at o = rw (t, stored_at) refl

  settles_any : (j o : ℕ) → settles S (region S) j o ≡ any S.output.states (λ d. reaches S.output o d && home_for S (region S) j d)
  unfolding settles
  settles_any j o = refl

-- Where the rows of j and o are right, what is read is the region.
pub won_region : (g : Game) (l : List ℕ) (c j o : ℕ) → g.output.states ≤ capacity → j < g.input.states → o < g.output.states
    → c ≡ pack g.input.states (nontrivial (graph_of g.input))
    → row_at l g.input.states j ≡ stored_row (separated_of g) j
    → out_reach_at l g.input.states o ≡ pack g.output.states (reaches (graph_of g.output) o)
    → won_at l g.input.states c j o ≡ region (separated_of g) j o
unfolding separated_of graph_of
won_region g l c j o m a b inner row out = go (decide (nontrivial S.input j))
  where
    S : Separated
    S = separated_of g

    test : has c j ≡ nontrivial S.input j
    test = ap (λ (x : ℕ). has x j) inner ∙ has_pack_below g.input.states (nontrivial (graph_of g.input)) j a

    go : (nontrivial S.input j ≡ true) ⊎ (nontrivial S.input j ≡ false) → won_at l g.input.states c j o ≡ region S j o
    go (inl t) =
        sym (won_in l g.input.states c j o (test ∙ t) refl)
        ∙ ap₂ (λ (x y : ℕ). sets_meet capacity x y) (row ∙ stored_nontrivial S j t) out
        ∙ meets_packed g.output.states (home_for S (region S) j) (reaches (graph_of g.output) o) m
        ∙ sym (settles_any S j o) ∙ sym (region_settles S j o a b t)
    go (inr t) =
        sym (won_out l g.input.states c j o (test ∙ t) refl)
        ∙ ap (λ (x : ℕ). has x o) (row ∙ stored_trivial S j t) ∙ has_pack_below g.output.states (region S j) o b

-- scratch that is ready holds the region
module _ {g : Game} {s : List ℕ} {c : ℕ} (R : Ready g s c) where
  pub ready_won : (i o : ℕ) → i < g.input.states → o < g.output.states → won_at (sets_in s) g.input.states c i o ≡ region (separated_of g) i o
  ready_won i o a b = won_region g (sets_in s) c i o R.fits.output.most a b R.inner (R.rows i a) (R.laid.outputs o b)

  pub ready_row : (i : ℕ) → i < g.input.states
      → pack g.output.states (won_at (sets_in s) g.input.states c i) ≡ pack g.output.states (region (separated_of g) i)
  ready_row i a = pack_ext g.output.states (won_at (sets_in s) g.input.states c i) (region (separated_of g) i) (λ o b. ready_won i o a b)
