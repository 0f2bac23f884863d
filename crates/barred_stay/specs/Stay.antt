-- Where the controller can stay, worked out row by row; l are the sets of scratch before, and m after.
--
--   Within g l                       == what is kept are positions of g
--   RowShrunk i r w x x' l m         == row i of what is staying has been left with the outputs r; w are the inputs that are waited for, x are left to be
--                                       followed before, and x' after
--   Shrunk rows n j r w x x' l m     == so have the rows of all inputs below n that move to j
--   Followed ins n outs k v w x x' l m    == the lowest input of x has been followed, v being the goal; n inputs, k outputs
--   Stayed g v w l m                 == what is staying is where the controller can stay
use Rattle.std.specs.Prelude.{ℕ, ◌+◌, ◌<◌, ◌≡◌, true, false, ◌&&◌, ◌||◌, not, List, ◌⊎◌, eqb, get_or}
use Rattle.finite.specs.Bounded.{least}
use Rattle.finite.specs.But.{ButFor}
use Rattle.bits.specs.Member.{has, sets_meet, pack}
use Rattle.sets.specs.Words.{capacity}
use Rattle.game.specs.declared.Game.{Game}
use Rattle.play.specs.Play.{separated_of}
use Rattle.barred.specs.Region.{barred_target, stay}
use Rattle.barred_rows.specs.Areas.{kept_pairs, reached_pairs, staying_pairs, staying_at}

pub record Within (g : Game) (l : List ℕ) : Type 0 where
  pub outputs : (i o : ℕ) → i < g.input.states → kept_pairs l i o ≡ true → o < g.output.states

pub record RowShrunk (i r w x x' : ℕ) (l m : List ℕ) : Type 0 where
  pub apart : ButFor (staying_at + i) (staying_at + i + 1) l m
  pub row : (o : ℕ) → staying_pairs m i o ≡ (staying_pairs l i o && has r o)
  -- an input is left where it was left before, or where its row shrank
  pub more : (k : ℕ) → has x' k ≡ true → (has x k ≡ true) ⊎ ((k ≡ i) × ((o : ℕ) × (staying_pairs l i o ≡ true) × (staying_pairs m i o ≡ false)))
  pub done : (k : ℕ) → has x' k ≡ false → (has x k ≡ false) × (k ≡ i → has w i ≡ false → (o : ℕ) → staying_pairs l i o ≡ true → has r o ≡ true)

pub record Shrunk (rows : List ℕ) (n j r w x x' : ℕ) (l m : List ℕ) : Type 0 where
  pub apart : ButFor staying_at (staying_at + n) l m
  pub row : (i o : ℕ) → i < n → staying_pairs m i o ≡ (staying_pairs l i o && (not (has (get_or rows i 0) j) || has r o))
  pub more : (k : ℕ) → has x' k ≡ true → (has x k ≡ true) ⊎ ((k < n) × ((o : ℕ) × (staying_pairs l k o ≡ true) × (staying_pairs m k o ≡ false)))
  pub done : (k : ℕ) → has x' k ≡ false → (has x k ≡ false) × (has w k ≡ false → (o : ℕ) → staying_pairs l k o ≡ true → staying_pairs m k o ≡ true)

pub record Followed (ins : List ℕ) (n : ℕ) (outs : List ℕ) (k v w x x' : ℕ) (l m : List ℕ) : Type 0 where
  pub input : ℕ
  pub lowest : input ≡ least capacity (has x)
  pub rest : ℕ
  pub others : (t : ℕ) → has rest t ≡ (has x t && not (eqb t input))
  pub entered : ℕ
  pub target : (p : ℕ) → has entered p ≡ barred_target (has v) (has w) (kept_pairs l) (reached_pairs l) (staying_pairs l) input p
  pub shrunk : Shrunk ins n input (pack k (λ o. sets_meet capacity (get_or outs o 0) entered)) w rest x' l m

pub record Stayed (g : Game) (v w : ℕ) (l m : List ℕ) : Type 0 where
  pub apart : ButFor staying_at (staying_at + g.input.states) l m
  -- what is staying is kept
  pub inside : (i o : ℕ) → i < g.input.states → staying_pairs m i o ≡ true → kept_pairs l i o ≡ true
  pub found : (i o : ℕ) → i < g.input.states → o < g.output.states
      → staying_pairs m i o ≡ stay (separated_of g) (has v) (has w) (kept_pairs l) (reached_pairs l) i o
