-- All components, from the last ones backward.
--
--   passed_start, -more, -other    : positions by number
--   backward_start, -next          : numbers of positions ahead, one after the other
--   solved                         : where all numbers are done, the marks are the winning region
--   kept_drop                      : words past those that change
use Prim.Native.Nat.{ℕ, ◌+◌, ◌*◌, ◌/◌, ◌%◌, ◌-◌, ◌≤◌, ◌<◌}
use native.Mathlib.Numerals.{add-one}
use mathlib.Core.Path.{◌≡◌, sym, ◌∙◌, ap, ap₂}
use mathlib.Core.Bool.{true, false}
use mathlib.Core.List.{List}
use mathlib.Core.Logic.{◌≢◌}
use native.Mathlib.Omega.{arith}
use native.Mathlib.Decide.{ℕ_discrete, dec_lt}
use lib.Arith.{digits_lt, digits_div, digits_mod}
use lib.ListN.{length, get_or, drop, length-drop}
use lib.Seq.{ext_get_or, get_or-drop}
use Rattle.finite.proofs.Truth.{clash, false_of}
use Rattle.finite.specs.But.{ButFor}
use Rattle.finite.proofs.But.{but_self, but_then}
use Rattle.bits.specs.Member.{has, pack}
use Rattle.bits.proofs.Membership.{ext, has_zero_lem, has_pack_below, has_pack_past}
use Rattle.theory.specs.Region.{region}
use Rattle.joint.specs.Joint.{rank_at}
use Rattle.joint.proofs.Settled.{settled_start, settled_next, settled_end}
use Rattle.game.specs.declared.Game.{Game}
use Rattle.play.specs.Play.{graph_of, separated_of}
use Rattle.scratch_clearing.specs.Clearing.{cleared}
use Rattle.map_marks.specs.Marks.{map_row}
use Rattle.joined_reach.specs.Words.{belongs, Small}
use Rattle.joined_reach.specs.Reach.{Counted}
use Rattle.joined_reach.proofs.Words.{belongs_has, belongs_below, belongs_in, kept_cleared, cleared_zero}
use Rattle.joined_component.specs.Component.{won, known}
use Rattle.joined.specs.Order.{Backward, SettledWith, Passed, JoinedSolved}

-- ---- positions by number

module _ (g : Game) (n : ℕ) (l : List ℕ) where
  pub passed_start : Backward g n l → Passed g n 0 l l
  passed_start B = record { kept = but_self 0 2048 l; backward = B; done = λ c h. absurd (omega arith) }

  module _ (c : ℕ) (m : List ℕ) (P : Passed g n c l m) (b : c < g.input.states * g.output.states) where
    -- where n positions are ahead, told of scratch
    pub passed_rank : get_or m (1024 + c) 0 ≡ n → rank_at (separated_of g) (c / g.output.states) (c % g.output.states) ≡ n
    passed_rank e = sym (P.backward.ranked.ahead c b) ∙ e

    pub passed_more : (m' : List ℕ) → SettledWith g n (c / g.output.states) (c % g.output.states) m m' → Passed g n (c + 1) l m'
    passed_more m' A = record {
      kept = but_then P.kept A.kept;
      backward = A.backward;
      done = λ k h e. done k h e (ℕ_discrete k c);
    }
      where
        done : (k : ℕ) → k < c + 1 → rank_at (separated_of g) (k / g.output.states) (k % g.output.states) ≡ n → Dec (k ≡ c)
            → known g m' (k / g.output.states) (k % g.output.states) ≡ true
        done k h e (yes z) = rw z A.here
        done k h e (no z) = A.more (k / g.output.states) (k % g.output.states) (P.done k (omega arith) e)

    pub passed_other : get_or m (1024 + c) 0 ≢ n → Passed g n (c + 1) l m
    passed_other ne = record { kept = P.kept; backward = P.backward; done = λ k h e. done k h e (ℕ_discrete k c) }
      where
        done : (k : ℕ) → k < c + 1 → rank_at (separated_of g) (k / g.output.states) (k % g.output.states) ≡ n → Dec (k ≡ c)
            → known g m (k / g.output.states) (k % g.output.states) ≡ true
        done k h e (yes z) =
            absurd (ne (P.backward.ranked.ahead c b ∙ ap (λ (x : ℕ). rank_at (separated_of g) (x / g.output.states) (x % g.output.states)) (sym z) ∙ e))
        done k h e (no z) = P.done k (omega arith) e

-- ---- numbers of positions ahead

module _ (g : Game) (S : Small g) (l : List ℕ) where
  module _ (l₁ m : List ℕ) (long : 4096 ≤ length l) (C : Counted g l l₁) (e : m ≡ cleared 160 l₁) where
    clear_kept : ButFor 0 160 l₁ m
    clear_kept = kept_cleared 160 l₁ m (omega (arith, C.kept.long)) e

    none : (a i o : ℕ) → a + 32 ≤ 160 → belongs g.input.states a m i o ≡ false
    none a i o h =
        false_of (belongs g.input.states a m i o)
        (λ t. clash (belongs_in g.input.states a m i o t)
        (ap (λ (x : ℕ). has x o)
        (cleared_zero 160 l₁ m e (a + i) (omega (arith, belongs_below g.input.states a m i o t, S.inputs)))
        ∙ has_zero_lem o))

    pub begun_kept : ButFor 0 2048 l m
    begun_kept = but_then C.kept (record {
      long = clear_kept.long;
      low = λ k h. absurd (omega arith);
      high = λ k h. clear_kept.high k (omega arith);
    })

    pub backward_start : Backward g 1 m
    backward_start = record {
      settled = settled_start (separated_of g) (known g m) (won g m) (λ i o a b. none 96 i o (omega arith)) (λ i o a b. none 64 i o (omega arith));
      ranked = record { ahead = λ c h. clear_kept.high (1024 + c) (omega arith) ∙ C.ranked.ahead c h };
      within = λ i o h. clash h (none 64 i o (omega arith));
    }

  pub backward_next : (n : ℕ) (m : List ℕ) → Passed g n (g.input.states * g.output.states) l m → Backward g (n + 1) m
  unfolding separated_of graph_of
  backward_next n m P = record {
    settled = rw add-one (settled_next (separated_of g) n (known g m) (won g m) P.backward.settled all);
    ranked = P.backward.ranked;
    within = P.backward.within;
  }
    where
      all : (i o : ℕ) → i < g.input.states → o < g.output.states → rank_at (separated_of g) i o ≡ n → known g m i o ≡ true
      all i o a b e =
          let q = digits_div i b in
          let r = digits_mod i b in
          sym (ap₂ (known g m) q r) ∙ P.done (i * g.output.states + o) (digits_lt a b) (ap₂ (rank_at (separated_of g)) q r ∙ e)

  pub solved : (n : ℕ) → g.input.states * g.output.states < n → Backward g n l → JoinedSolved g l
  unfolding separated_of graph_of map_row
  solved n h B = record { rows = λ i a. ext (get_or l (64 + i) 0) (map_row g i) (λ o. bit i a o (dec_lt o g.output.states)) }
    where
      bit : (i : ℕ) → i < g.input.states → (o : ℕ) → Dec (o < g.output.states)
          → has (get_or l (64 + i) 0) o ≡ has (pack g.output.states (region (separated_of g) i)) o
      bit i a o (yes b) =
          sym (belongs_has g.input.states 64 l i o a)
          ∙ settled_end (separated_of g) n (known g l) (won g l) B.settled h i o a b
          ∙ sym (has_pack_below g.output.states (region (separated_of g) i) o b)
      bit i a o (no b) =
          false_of (has (get_or l (64 + i) 0) o) (λ t. absurd (b (B.within i o (belongs_has g.input.states 64 l i o a ∙ t))))
          ∙ sym (has_pack_past g.output.states (region (separated_of g) i) o (omega arith))

pub kept_drop : (n : ℕ) {a b : ℕ} {l m : List ℕ} → b ≤ n → ButFor a b l m → drop n m ≡ drop n l
kept_drop n {l = l} {m = m} h K =
    ext_get_or 0 (drop n m) (drop n l) (length-drop n m ∙ ap (λ (x : ℕ). x - n) K.long ∙ sym (length-drop n l))
    (λ k b. get_or-drop n m k 0 ∙ K.high (n + k) (omega arith) ∙ sym (get_or-drop n l k 0))
