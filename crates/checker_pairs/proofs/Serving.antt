-- Guarantees, and requirements, one after the other.
--
--   Serving, serving-*    : the first b guarantees
--   Judging, judging-*    : the first r requirements
use Prim.Native.Nat.{ℕ, zero, ◌+◌, ◌≤◌, ◌<◌}
use mathlib.Core.Path.{◌≡◌, sym, subst}
use mathlib.Core.Bool.{false}
use mathlib.Core.List.{List}
use mathlib.Core.Logic.{◌≢◌, inl, inr}
use native.Mathlib.Omega.{arith}
use Rattle.std.specs.declared.option.Option.TheVariants.{None, Some}
use lib.ListN.{length, replicate, length-replicate}
use Rattle.finite.proofs.Lists.{all_default}
use Rattle.finite.proofs.Truth.{clash}
use Rattle.checker_search.proofs.Turns.{marked_not}
use Rattle.finite.proofs.Bounded.{below_suc}
use Rattle.game.specs.declared.Requirement.{Requirement}
use Rattle.game.specs.declared.Game.{Game}
use Rattle.game.specs.Access.{requirement_at}
use Rattle.checker_search.specs.Turns.{marked}
use Rattle.checker_rounds.specs.declared.Tried.{Tried}
use Rattle.checker_pairs.specs.Pairs.{guarantee, KeepFits, Keep, PairFits, Left, Emptied, Cleared, ServeFits, Served, JudgeFits, Judged}
use Rattle.checker_pairs.proofs.Keeping.{keep_outside, keep_reached, keep_misses}

module _ (I N : ℕ) (rows to : List ℕ) (M : ℕ) where
  pub record Serving (q : Requirement) (reached kept mark queue from way walk : List ℕ) (n b : ℕ) : Type 0 where
    pub left : Left I N rows to mark queue from way walk n
    pub kept_long : length kept ≡ 4096
    pub upto : b ≤ q.guaranteed
    pub clear : (i : ℕ) → i < b → Cleared I N rows to M q i reached

  module _ (q : Requirement) (reached kept₀ mark₀ queue₀ from₀ way₀ walk₀ : List ℕ) (n₀ : ℕ)
      (F : ServeFits I N rows to M q kept₀ mark₀ queue₀ from₀ way₀ walk₀ n₀) where
    pub serving_start : Serving q reached kept₀ mark₀ queue₀ from₀ way₀ walk₀ n₀ 0
    serving_start =
        let P = F.fits in
        record {
          left = record { sized = P.sized; held = P.held; way_long = P.way_long; walk_long = P.walk_long };
          kept_long = P.kept_long;
          upto = omega arith;
          clear = λ i b. absurd (omega (arith, b));
        }

    module _ (kept mark queue from way walk : List ℕ) (n b : ℕ) (S : Serving q reached kept mark queue from way walk n b) where
      pub serving_keeps : KeepFits I M N kept
      serving_keeps =
          let K = F.keeps in
          record { inputs = K.inputs; counters = K.counters; places = K.places; output = K.output; long = S.kept_long }

      pub serving_end : q.guaranteed ≤ b → Served I N rows to M q reached kept mark queue from way walk (record { found = n; round = None })
      serving_end l = record {
        left = S.left;
        kept_long = S.kept_long;
        clear = λ z i m. S.clear i (omega (arith, m, l));
        broken = λ m z. absurd cc;
      }

      module _ (l : b < q.guaranteed) (kept' : List ℕ) (K : Keep I M N reached (guarantee q b) kept' N) where
        pub serving_fits : PairFits I N rows to q kept' mark queue from way walk n
        serving_fits = record {
          grid = F.fits.grid;
          few = F.fits.few;
          sized = S.left.sized;
          held = S.left.held;
          kept_long = K.size;
          way_long = S.left.way_long;
          walk_long = S.left.walk_long;
        }

        module _ (kept'' mark' queue' from' way' walk' : List ℕ) (t : Tried) (E : Emptied I N rows to q kept' kept'' mark' queue' from' way' walk' t) where
          pub serving_broken : t.round ≢ None → Served I N rows to M q reached kept'' mark' queue' from' way' walk' t
          serving_broken d = record {
            left = E.left;
            kept_long = E.kept_long;
            clear = λ z. absurd (d z);
            broken = λ m z. let r = E.round m z in (
              b,
              l,
              record {
                set = r.0;
                reaches = λ k m h. keep_reached I M N reached (guarantee q b) kept' K k m (r.1 k h);
                outside = λ k m h. keep_misses I M N reached (guarantee q b) kept' K k m (r.1 k h);
                round = r.2;
              },
            );
          }

          pub serving_next : t.round ≡ None → Serving q reached kept'' mark' queue' from' way' walk' t.found (b + 1)
          serving_next z = record {
            left = E.left;
            kept_long = E.kept_long;
            upto = omega (arith, l);
            clear = λ i m. elim (below_suc i b (omega (arith, m))) [
              | inl e ↦ subst (λ (j : ℕ). Cleared I N rows to M q j reached) (sym e) cleared
              | inr o ↦ S.clear i o
            ];
          }
            where
              cleared : Cleared I N rows to M q b reached
              cleared = record {
                all = kept';
                rest = kept'';
                outside = keep_outside I M N reached (guarantee q b) kept' K;
                removals = E.removals z;
                none = E.none z;
              }

  pub record Judging (g : Game) (reached kept mark queue from way walk : List ℕ) (n r : ℕ) : Type 0 where
    pub left : Left I N rows to mark queue from way walk n
    pub kept_long : length kept ≡ 4096
    pub upto : r ≤ g.k
    pub clear : (i : ℕ) → i < r → (b : ℕ) → b < (requirement_at g i).guaranteed → Cleared I N rows to M (requirement_at g i) b reached

  module _ (g : Game) (reached walk₀ : List ℕ) (F : JudgeFits I N rows to M g walk₀) where
    -- nothing is searched yet
    pub judging_start : Judging g reached (replicate 4096 0) (replicate 4096 0) (replicate 4096 0) (replicate 4096 0) (replicate 4096 0) walk₀ 0 0
    judging_start = record {
      left = record {
        sized = record { marks = length-replicate 4096 zero; places = length-replicate 4096 zero; finders = length-replicate 4096 zero };
        held = record {
          short = omega arith;
          long = length-replicate 4096 zero;
          inside = λ k b. absurd (omega (arith, b));
          found = λ a h. clash h (unmarked a);
        };
        way_long = length-replicate 4096 zero;
        walk_long = F.walk_long;
      };
      kept_long = length-replicate 4096 zero;
      upto = omega arith;
      clear = λ i b. absurd (omega (arith, b));
    }
      where
        unmarked : (a : ℕ) → marked (replicate 4096 0) a ≡ false
        unmarked a = marked_not (replicate 4096 0) a (λ e. omega (arith, e, all_default {A = ℕ} 4096 a 0))

    module _ (kept mark queue from way walk : List ℕ) (n r : ℕ) (J : Judging g reached kept mark queue from way walk n r) where
      pub judging_end : g.k ≤ r → Judged I N rows to M g reached walk None
      judging_end l = record { walk_long = J.left.walk_long; found = λ i m. J.clear i (omega (arith, m, l)) }

      module _ (l : r < g.k) where
        pub judging_place : r < 8
        judging_place = omega (arith, l, F.few)

        pub judging_fits : ServeFits I N rows to M (requirement_at g r) kept mark queue from way walk n
        judging_fits = record {
          fits = record {
            grid = F.grid;
            few = F.assumed r judging_place;
            sized = J.left.sized;
            held = J.left.held;
            kept_long = J.kept_long;
            way_long = J.left.way_long;
            walk_long = J.left.walk_long;
          };
          keeps = record { inputs = F.grid.some; counters = F.counters; places = F.grid.places; output = F.output; long = J.kept_long };
          sets = F.guaranteed r judging_place;
        }

        module _ (kept' mark' queue' from' way' walk' : List ℕ) (t : Tried)
            (S : Served I N rows to M (requirement_at g r) reached kept' mark' queue' from' way' walk' t) where
          pub judging_broken : (c : ℕ) → t.round ≡ Some c → Judged I N rows to M g reached walk' (Some (record { round = c; requirement = r }))
          judging_broken c e = record { walk_long = S.left.walk_long; found = (l, S.broken c e) }

          pub judging_next : t.round ≡ None → Judging g reached kept' mark' queue' from' way' walk' t.found (r + 1)
          judging_next z = record {
            left = S.left;
            kept_long = S.kept_long;
            upto = omega (arith, l);
            clear = λ i m. elim (below_suc i r (omega (arith, m))) [
              | inl e ↦ subst (λ (j : ℕ). (b : ℕ) → b < (requirement_at g j).guaranteed → Cleared I N rows to M (requirement_at g j) b reached)
                  (sym e) (S.clear z)
              | inr o ↦ J.clear i o
            ];
          }
