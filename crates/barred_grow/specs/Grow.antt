-- What is reached, grown step by step; ins and outs are the rows of both graphs, n inputs, v the goal, l the sets of scratch before, and m after. As long
-- as it grows, where the controller is staying has another use: the outputs with a reply to each input.
--
--   Entered outs v Z P j o         == some move of o enters, with input j, the goal inside Z, or P
--   Closed ins outs n v Z P        == what is in Z and enters so with every next input is in P
--   Sound outs n v Z P l           == what is kept is in Z, what is reached in P, and what is allowed with an input enters so
--   Low n x                        == the members of x are below n
--   Inside rows n                  == the moves of states below n are below n
--   Joins ins i r l                == r are outputs that are kept with i, not reached, and allowed with every next input
--   Grown ins outs n v x x' l m    == what is reached has grown, soundly; x are left to be followed before, and x' after
--   Wider g v l m                  == what is reached has grown inside what can be reached
use Rattle.std.specs.Prelude.{ℕ, ◌+◌, ◌<◌, ◌≡◌, true, false, List, ◌⊎◌, get_or}
use Rattle.finite.specs.But.{ButFor}
use Rattle.bits.specs.Member.{has}
use Rattle.arena.specs.Arena.{Requirement}
use Rattle.barred.specs.Arena.{Pairs}
use Rattle.barred.specs.Region.{reach}
use Rattle.game.specs.declared.Game.{Game}
use Rattle.play.specs.Play.{separated_of}
use Rattle.barred_rows.specs.Areas.{kept_pairs, reached_pairs, staying_pairs, reached_at, staying_at}

pub record Entered (outs : List ℕ) (v : ℕ) (Z P : Pairs) (j o : ℕ) : Type 0 where
  pub to : ℕ
  pub move : has (get_or outs o 0) to ≡ true
  pub good : ((has v to ≡ true) × (Z j to ≡ true)) ⊎ (P j to ≡ true)

pub record Closed (ins outs : List ℕ) (n v : ℕ) (Z P : Pairs) : Type 0 where
  pub closed : (i o : ℕ) → i < n → Z i o ≡ true → ((j : ℕ) → has (get_or ins i 0) j ≡ true → Entered outs v Z P j o) → P i o ≡ true

pub record Sound (outs : List ℕ) (n v : ℕ) (Z P : Pairs) (l : List ℕ) : Type 0 where
  pub kept : (i o : ℕ) → i < n → kept_pairs l i o ≡ true → Z i o ≡ true
  pub reached : (i o : ℕ) → i < n → reached_pairs l i o ≡ true → P i o ≡ true
  pub allowed : (j o : ℕ) → j < n → staying_pairs l j o ≡ true → Entered outs v Z P j o

pub record Low (n x : ℕ) : Type 0 where
  pub below : (j : ℕ) → has x j ≡ true → j < n

pub record Inside (rows : List ℕ) (n : ℕ) : Type 0 where
  pub below : (i j : ℕ) → i < n → has (get_or rows i 0) j ≡ true → j < n

pub record Joins (ins : List ℕ) (i r : ℕ) (l : List ℕ) : Type 0 where
  pub kept : (o : ℕ) → has r o ≡ true → kept_pairs l i o ≡ true
  pub new : (o : ℕ) → has r o ≡ true → reached_pairs l i o ≡ false
  pub allowed : (o j : ℕ) → has r o ≡ true → has (get_or ins i 0) j ≡ true → staying_pairs l j o ≡ true

pub record Grown (ins outs : List ℕ) (n v x x' : ℕ) (l m : List ℕ) : Type 0 where
  pub apart : ButFor reached_at (staying_at + n) l m
  pub more : (i o : ℕ) → i < n → reached_pairs l i o ≡ true → reached_pairs m i o ≡ true
  -- an input is left where it was left before, or where its row grew
  pub left : (i : ℕ) → has x' i ≡ true
      → (has x i ≡ true) ⊎ ((i < n) × ((o : ℕ) × (kept_pairs l i o ≡ true) × (reached_pairs l i o ≡ false) × (reached_pairs m i o ≡ true)))
  pub sound : (Z P : Pairs) → Closed ins outs n v Z P → Sound outs n v Z P l → Sound outs n v Z P m

pub record Wider (g : Game) (q : Requirement) (v : ℕ) (l m : List ℕ) : Type 0 where
  pub apart : ButFor reached_at (staying_at + g.input.states) l m
  pub more : (i o : ℕ) → i < g.input.states → reached_pairs l i o ≡ true → reached_pairs m i o ≡ true
  pub sound : ((i o : ℕ) → i < g.input.states → o < g.output.states → reached_pairs l i o ≡ true → reach (separated_of g) q (has v) (kept_pairs l) i o ≡ true)
      → (i o : ℕ) → i < g.input.states → o < g.output.states → reached_pairs m i o ≡ true → reach (separated_of g) q (has v) (kept_pairs l) i o ≡ true
