-- A set of places emptied by attempts.
--
--   is_none, not_none  : what the test of an option says
--   removals_only      : nothing is put in
--   Emptying           == the places below v are out
--   emptying-*         : how that begins, goes on and ends
use Prim.Native.Nat.{ℕ, ◌+◌, ◌≤◌, ◌<◌}
use mathlib.Core.Path.{◌≡◌, refl, ◌∙◌, ap}
use mathlib.Core.Bool.{true, false}
use mathlib.Core.List.{List}
use mathlib.Core.Logic.{◌≢◌, inl, inr}
use native.Mathlib.Omega.{arith}
use lib.ListN.{length}
use Rattle.std.specs.declared.option.Option.TheVariants.{None, Some}
use Rattle.std.specs.Option.{is_some}
use Rattle.std.specs.Prelude.{Option}
use Rattle.finite.proofs.Truth.{clash, false_of}
use Rattle.finite.proofs.Bounded.{below_suc}
use Rattle.game.specs.declared.Requirement.{Requirement}
use Rattle.checker_search.specs.Turns.{marked}
use Rattle.checker_search.specs.Queues.{at}
use Rattle.checker_search.proofs.Turns.{marked_is, marked_not}
use Rattle.checker_order.specs.Picks.{Tries}
use Rattle.checker_rounds.specs.Rounds.{AttemptFits, Attempted}
use Rattle.checker_rounds.specs.declared.Tried.{Tried}
use Rattle.checker_pairs.specs.Pairs.{Removals, whole, next, PairFits, Left, Emptied}

pub is_none : (o : Option ℕ) → false ≡ is_some o → o ≡ None
is_none None e = refl
is_none (Some n) e = absurd cc

pub not_none : (o : Option ℕ) → true ≡ is_some o → o ≢ None
not_none None e z = absurd cc
not_none (Some n) e z = absurd cc

module _ (I N : ℕ) (rows to : List ℕ) (q : Requirement) where
  removals_only : {X Y : List ℕ} → Removals I N rows to q X Y → (k : ℕ) → marked Y k ≡ true → marked X k ≡ true
  removals_only whole k h = h
  removals_only (next R S) k h = removals_only R k (S.only k h)

  pub record Emptying (kept₀ kept mark queue from way walk : List ℕ) (n v : ℕ) : Type 0 where
    pub left : Left I N rows to mark queue from way walk n
    pub kept_long : length kept ≡ 4096
    pub removals : Removals I N rows to q kept₀ kept
    pub upto : v ≤ N
    pub gone : (k : ℕ) → k < v → marked kept k ≡ false

  module _ (kept₀ mark₀ queue₀ from₀ way₀ walk₀ : List ℕ) (n₀ : ℕ) (F : PairFits I N rows to q kept₀ mark₀ queue₀ from₀ way₀ walk₀ n₀) where
    pub emptying_start : Emptying kept₀ kept₀ mark₀ queue₀ from₀ way₀ walk₀ n₀ 0
    emptying_start = record {
      left = record { sized = F.sized; held = F.held; way_long = F.way_long; walk_long = F.walk_long };
      kept_long = F.kept_long;
      removals = whole;
      upto = omega arith;
      gone = λ k b. absurd (omega (arith, b));
    }

    module _ (kept mark queue from way walk : List ℕ) (n v : ℕ) (E : Emptying kept₀ kept mark queue from way walk n v) where
      pub emptying_skip : v < N → at kept v ≢ 1 → Emptying kept₀ kept mark queue from way walk n (v + 1)
      emptying_skip b d = record {
        left = E.left;
        kept_long = E.kept_long;
        removals = E.removals;
        upto = omega (arith, b);
        gone = λ k l. elim (below_suc k v (omega (arith, l))) [
          | inl z ↦ ap (marked kept) z ∙ marked_not kept v d
          | inr i ↦ E.gone k i
        ];
      }

      pub emptying_end : N ≤ v → Emptied I N rows to q kept₀ kept mark queue from way walk (record { found = n; round = None })
      emptying_end l = record {
        left = E.left;
        kept_long = E.kept_long;
        removals = λ z. E.removals;
        none = λ z k b. E.gone k (omega (arith, b, l));
        round = λ m z. absurd cc;
      }

      pub emptying_fits : {p : ℕ} → Tries N kept p → AttemptFits I N rows to q kept mark queue from way walk n p
      emptying_fits {p} P = record {
        grid = F.grid;
        few = F.few;
        sized = E.left.sized;
        held = E.left.held;
        kept_long = E.kept_long;
        way_long = E.left.way_long;
        walk_long = E.left.walk_long;
        below = P.below;
        inside = marked_is kept p P.inside;
      }

      module _ (kept' mark' queue' from' way' walk' : List ℕ) (t : Tried) (A : Attempted I N rows to q kept kept' mark' queue' from' way' walk' t) where
        left' : Left I N rows to mark' queue' from' way' walk' t.found
        left' = record { sized = A.sized; held = A.held; way_long = A.way_long; walk_long = A.walk_long }

        pub emptying_round : t.round ≢ None → Emptied I N rows to q kept₀ kept' mark' queue' from' way' walk' t
        emptying_round d = record {
          left = left';
          kept_long = A.kept_long;
          removals = λ z. absurd (d z);
          none = λ z. absurd (d z);
          round = λ m z. (kept, removals_only E.removals, A.round m z);
        }

        pub emptying_next : t.round ≡ None → Emptying kept₀ kept' mark' queue' from' way' walk' t.found v
        emptying_next z = record {
          left = left';
          kept_long = A.kept_long;
          removals = next E.removals (A.removed z);
          upto = E.upto;
          gone = λ k b. false_of (marked kept' k) (λ h. clash ((A.removed z).only k h) (E.gone k b));
        }
