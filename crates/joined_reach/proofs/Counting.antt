-- How many positions are found, and how many are ahead of each position.
--
--   counted_start, counted_more, counted_end    : counting row by row
--   Ranking, ranking_start, -more, -end         : the numbers of positions ahead, written one after the other
use Prim.Native.Nat.{ℕ, ◌+◌, ◌*◌, ◌/◌, ◌%◌, ◌≤◌, ◌<◌}
use native.Mathlib.Nat.{le_trans, mul-le-mul_left, suc-mul, zero-mul, div-lt_iff_lt-mul, mod-lt}
use native.Mathlib.Numerals.{add-one}
use mathlib.Core.Path.{◌≡◌, refl, sym, ◌∙◌, ap, ap₂}
use mathlib.Core.List.{List}
use native.Mathlib.Omega.{arith}
use native.Mathlib.Decide.{ℕ_discrete}
use lib.Arith.{digits_div, digits_mod}
use lib.ListN.{length, get_or, set}
use lib.Seq.{get_or-set_same, get_or-set_other}
use Rattle.finite.proofs.Rounds.{factor}
use Rattle.finite.specs.Bounded.{count}
use Rattle.finite.proofs.Truth.{false_of}
use Rattle.finite.proofs.Bounded.{count_same, count_wide, count_add}
use Rattle.finite.specs.But.{ButFor}
use Rattle.finite.proofs.But.{but_self, but_set, but_then, but_wider}
use Rattle.bits.specs.Member.{has}
use Rattle.joint.specs.Joint.{rank_at}
use Rattle.joint.proofs.Reached.{rank_at_count}
use Rattle.game.specs.declared.Game.{Game}
use Rattle.play.specs.Play.{graph_of, separated_of}
use Rattle.joined_reach.specs.Words.{belongs, Small, Ranked}
use Rattle.joined_reach.specs.Reach.{Within, Reached, found_below, Counted}
use Rattle.joined_reach.proofs.Words.{found_has}

module _ (g : Game) (S : Small g) (l : List ℕ) (W : Within g l) where
  pub counted_start : 0 ≡ found_below g l (0 * g.output.states)
  unfolding found_below count
  counted_start = rw zero-mul refl

  pub counted_more : (i k r : ℕ) → i < g.input.states → r ≡ count 64 (has (get_or l i 0)) → k ≡ found_below g l (i * g.output.states)
      → k + r ≡ found_below g l ((i + 1) * g.output.states)
  unfolding found_below
  counted_more i k r b e h =
      let O : ℕ = g.output.states in
      let q : (i + 1) * O ≡ i * O + O = ap (λ (x : ℕ). x * O) (add-one i) ∙ suc-mul i O in
      ap₂ ◌+◌ h (e ∙ row) ∙ sym (ap (found_below g l) q
      ∙ count_add (i * O) O (λ c. belongs g.input.states 0 l (c / g.output.states) (c % g.output.states)))
    where
      row : count 64 (has (get_or l i 0))
          ≡ count g.output.states
          (λ k. belongs g.input.states 0 l ((i * g.output.states + k) / g.output.states) ((i * g.output.states + k) % g.output.states))
      row =
          count_wide g.output.states 64 (has (get_or l i 0)) (omega (arith, S.outputs))
          (λ k c. false_of (has (get_or l i 0) k) (λ t. omega (arith, W.outputs i k b t, c)))
          ∙ count_same g.output.states (has (get_or l i 0))
          (λ k. belongs g.input.states 0 l ((i * g.output.states + k) / g.output.states) ((i * g.output.states + k) % g.output.states))
          (λ k c. sym (ap₂ (belongs g.input.states 0 l) (digits_div i c) (digits_mod i c) ∙ found_has g.input.states l i k b))

  pub counted_end : (i k : ℕ) → i ≤ g.input.states → g.input.states ≤ i → k ≡ found_below g l (i * g.output.states)
      → k ≡ found_below g l (g.input.states * g.output.states)
  counted_end i k a b h = let e : i ≡ g.input.states = omega arith in rw e at h

-- ---- all positions

pub record Ranking (g : Game) (c : ℕ) (l m : List ℕ) : Type 0 where
  pub kept : ButFor 0 2048 l m
  pub ranked : Ranked g c m

pub ranking_start : (g : Game) (l : List ℕ) → Ranking g 0 l l
ranking_start g l = record { kept = but_self 0 2048 l; ranked = record { ahead = λ c b. absurd (omega arith) } }

-- the two parts of a position's number
pub parts : (g : Game) (c : ℕ) → c < g.input.states * g.output.states
    → (c / g.output.states < g.input.states) × (c % g.output.states < g.output.states)
parts g c b =
    let pos = factor c g.input.states g.output.states b in
    ((div-lt_iff_lt-mul pos).1 b, mod-lt c pos)

-- a game of at most 32 states a graph has at most 1,024 positions
pub few_positions : (g : Game) → Small g → g.input.states * g.output.states ≤ 1024
few_positions g S =
    le_trans (mul-le-mul_left g.input.states S.outputs) (omega (arith, S.inputs))

module _ (g : Game) (S : Small g) (l m : List ℕ) (c : ℕ) (R : Ranking g c l m) (b : c < g.input.states * g.output.states) (long : 4096 ≤ length l) where
  pub ranking_more : (m' : List ℕ) → Reached g (c / g.output.states) (c % g.output.states) m m' → (n : ℕ)
      → n ≡ found_below g m' (g.input.states * g.output.states) → Ranking g (c + 1) l (set m' (1024 + c) n)
  unfolding separated_of graph_of found_below
  ranking_more m' C n e = record {
    kept = but_then (but_then R.kept (but_wider 0 2048 (omega arith) (omega arith) C.kept))
        (but_set 0 2048 m' (1024 + c) n (omega arith) (omega (arith, few_positions g S)));
    ranked = record { ahead = λ k h. ahead k h (ℕ_discrete k c) };
  }
    where
      fits : 1024 + c < length m'
      fits = omega (arith, C.kept.long, R.kept.long, few_positions g S)

      ahead : (k : ℕ) → k < c + 1 → Dec (k ≡ c)
          → get_or (set m' (1024 + c) n) (1024 + k) 0 ≡ rank_at (separated_of g) (k / g.output.states) (k % g.output.states)
      ahead k h (yes z) =
          rw z
          (get_or-set_same m' (1024 + c) n 0 fits ∙ e
          ∙ sym (rank_at_count (separated_of g) (belongs g.input.states 0 m') (c / g.output.states) (c % g.output.states)
          (λ j p a d. found_has g.input.states m' j p a ∙ C.found j p a d)))
      ahead k h (no z) =
          get_or-set_other m' (1024 + c) (1024 + k) n 0 (λ q. z (omega arith)) ∙ C.kept.high (1024 + k) (omega arith)
          ∙ R.ranked.ahead k (omega arith)

pub ranking_end : (g : Game) (l m : List ℕ) (c : ℕ) → c ≤ g.input.states * g.output.states → g.input.states * g.output.states ≤ c
    → Ranking g c l m → Counted g l m
ranking_end g l m c a b R =
    let e : c ≡ g.input.states * g.output.states = omega arith in
    record { kept = R.kept; ranked = rw e at R.ranked }
