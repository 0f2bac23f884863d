-- One attempt: pivots, each reaching less than the one before.
--
--   Pivot                     == the search from the pivot is done
--   pivot_start, pivot_legs, pivot_next, pivot_falls    : how it goes on
--   fits_same, tried_same     : of the same set
--   attempt_missed, attempt_alone, attempt_round        : the three ends
use Prim.Native.Nat.{ℕ, ◌-◌, ◌%◌, ◌<◌}
use mathlib.Core.Path.{◌≡◌, refl, sym, ◌∙◌, ap, subst}
use mathlib.Core.Bool.{true, false}
use mathlib.Core.List.{List}
use mathlib.Core.Logic.{◌⊎◌, inl, inr, ◌≢◌}
use native.Mathlib.Omega.{arith}
use lib.ListN.{length, set}
use Rattle.finite.specs.Bounded.{count}
use Rattle.finite.proofs.Bounded.{count_less}
use Rattle.bits.specs.Member.{has}
use Rattle.game.specs.declared.Requirement.{Requirement}
use Rattle.std.specs.Prelude.{Option, IsSome}
use Rattle.std.specs.declared.option.Option.TheVariants.{None, Some}
use Rattle.checker_search.specs.Turns.{marked, follows}
use Rattle.checker_search.specs.Queues.{at, Held, Reach, FirstAt}
use Rattle.checker_search.proofs.Turns.{enters_both, marked_is, marked_not}
use Rattle.checker_rounds.specs.Rounds.{assumption, CutFits, Cut, LegFits, Leg, Walking, Round, LegsFit, Legs, AttemptFits, Attempted}
use Rattle.checker_rounds.specs.declared.Course.{Course}
use Rattle.checker_rounds.specs.declared.Tried.{Tried}
use Rattle.checker_rounds.proofs.Walking.{reach_held, reach_finders, walking_one, walking_on}

pub record Pivot (I N : ℕ) (rows to X mark queue from way walk : List ℕ) (u n : ℕ) : Type 0 where
  pub reach : Reach I N rows to X u mark queue from n
  pub way_long : length way ≡ 4096
  pub walk_long : length walk ≡ 24576
  pub below : u < N
  pub inside : marked X u ≡ true

module _ (I N : ℕ) (rows to : List ℕ) (q : Requirement) (X : List ℕ) (mark₀ queue₀ from₀ way₀ walk₀ : List ℕ) (n₀ v₀ : ℕ)
    (F : AttemptFits I N rows to q X mark₀ queue₀ from₀ way₀ walk₀ n₀ v₀) where
  pub pivot_start : (mark queue from : List ℕ) (n : ℕ) → Reach I N rows to X v₀ mark queue from n → Pivot I N rows to X mark queue from way₀ walk₀ v₀ n
  pivot_start mark queue from n R = record {
    reach = R;
    way_long = F.way_long;
    walk_long = F.walk_long;
    below = F.below;
    inside = F.inside;
  }

  -- what is marked inside X from a search's root is closed
  reach_enter : (u : ℕ) (mark queue from : List ℕ) (n : ℕ) → Reach I N rows to X u mark queue from n
      → (k : ℕ) → k < N → follows I rows to u k ≡ true → marked X k ≡ true → marked mark k ≡ true
  reach_enter u mark queue from n R k b h x = R.enter k b (enters_both I N rows to X u k h x)

  reach_on : (u : ℕ) (mark queue from : List ℕ) (n : ℕ) → Reach I N rows to X u mark queue from n
      → (k l : ℕ) → k < N → l < N → marked mark k ≡ true → follows I rows to k l ≡ true → marked X l ≡ true → marked mark l ≡ true
  reach_on u mark queue from n R k l a b m h x = R.on k l m b (enters_both I N rows to X k l h x)

  module _ (mark queue from way walk : List ℕ) (u n : ℕ) (P : Pivot I N rows to X mark queue from way walk u n) where
    pub pivot_legs : LegsFit I N rows to q X mark queue from way (set walk 0 u) n u
    pivot_legs = record {
      grid = F.grid;
      few = F.few;
      reach = P.reach;
      way_long = P.way_long;
      walking = walking_one I N rows to X u walk P.walk_long P.below P.inside;
    }

    pub alone_fits : CutFits X queue 0 u
    alone_fits = record {
      long = F.kept_long;
      short = omega arith;
      inside = λ k b. absurd (omega (arith, b));
      here = omega (arith, P.below, F.grid.places);
    }

    -- the pivot does not reach itself
    pub attempt_alone : at mark u ≢ 1 → (Y : List ℕ) → Cut X queue 0 u Y
        → Attempted I N rows to q X Y mark queue from way walk (record { found = n; round = None })
    attempt_alone m Y C = record {
      sized = P.reach.sized;
      held = reach_held I N rows to X u mark queue from n F.grid P.reach;
      kept_long = C.size;
      way_long = P.way_long;
      walk_long = P.walk_long;
      removed = λ z. record {
        pivot = u;
        below = P.below;
        found = marked mark;
        enter = reach_enter u mark queue from n P.reach;
        on = reach_on u mark queue from n P.reach;
        why = inr (marked_not mark u m, λ k b x y. elim (C.taken k x y) [ inl w ↦ absurd (omega (arith, w.1)) | inr e ↦ e ]);
        only = C.only;
        fewer = count_less N (marked Y) (marked X) (λ k b h. C.only k h) u P.below C.gone P.inside;
      };
      round = λ m z. absurd cc;
    }

    module _ (mark' queue' from' way' walk' : List ℕ) (r : Course) (L : Legs I N rows to q X u mark mark' queue' from' way' walk' r) where
      end_below : r.end < N
      end_below =
          let s = L.walking.some in
          omega (arith, L.walking.last, L.walking.below (L.length - 1) (omega (arith, s)))

      end_inside : marked X r.end ≡ true
      end_inside =
          let s = L.walking.some in
          ap (marked X) (sym L.walking.last) ∙ L.walking.inside (L.length - 1) (omega (arith, s))

      pub held : Held mark' queue' r.found
      held = reach_held I N rows to X r.end mark' queue' from' r.found F.grid L.reach

      pub missed_fits : CutFits X queue' r.found r.end
      missed_fits = record {
        long = F.kept_long;
        short = held.short;
        inside = held.inside;
        here = omega (arith, end_below, F.grid.places);
      }

      -- what the end of the legs reaches misses an assumption
      pub attempt_missed : r.length ≡ None → (Y : List ℕ) → Cut X queue' r.found r.end Y
          → Attempted I N rows to q X Y mark' queue' from' way' walk' (record { found = r.found; round = None })
      attempt_missed m Y C = record {
        sized = L.reach.sized;
        held = held;
        kept_long = C.size;
        way_long = L.way_long;
        walk_long = L.walking.long;
        removed = λ z. record {
          pivot = r.end;
          below = end_below;
          found = marked mark';
          enter = reach_enter r.end mark' queue' from' r.found L.reach;
          on = reach_on r.end mark' queue' from' r.found L.reach;
          why = let a = L.lacks m in inl (a.0, a.1, lacking a.0 a.2, λ k b x y. taken k (C.taken k x y));
          only = C.only;
          fewer = count_less N (marked Y) (marked X) (λ k b h. C.only k h) r.end end_below C.gone end_inside;
        };
        round = λ m z. absurd cc;
      }
        where
          lacking : (j : ℕ) → ((k : ℕ) → k < r.found → has (assumption q j) (at queue' k % I) ≡ false)
              → (k : ℕ) → k < N → marked mark' k ≡ true → has (assumption q j) (k % I) ≡ false
          lacking j f k b h = let w = L.reach.listed.found k h in ap (λ (s : ℕ). has (assumption q j) (s % I)) (sym w.2) ∙ f w.0 w.1

          taken : (k : ℕ) → ((i : ℕ) × (i < r.found) × (at queue' i ≡ k)) ⊎ (k ≡ r.end) → (marked mark' k ≡ true) ⊎ (k ≡ r.end)
          taken k (inl w) = inl (ap (marked mark') (sym w.2) ∙ L.reach.listed.known w.0 w.1)
          taken k (inr e) = inr e

      module _ (steps : ℕ) (visited : r.length ≡ Some steps) where
        whole : steps ≡ L.length
        whole = (L.visits steps visited).0

        -- the pivot is reached again
        pub closing_some : at mark' u ≡ 1 → (o : Option ℕ) → FirstAt queue' r.found u o → IsSome o
        closing_some m None A = let w = L.reach.listed.found u (marked_is mark' u m) in absurd (A w.0 w.1 w.2)
        closing_some m (Some k) A = refl

        module _ (m : at mark' u ≡ 1) (k : ℕ) (A : FirstAt queue' r.found u (Some k)) where
          closing_place : k < r.found
          closing_place = A.0

          pub closing_fits : LegFits from' k way' walk' steps
          closing_fits = record {
            place = omega (arith, closing_place, held.short);
            finders = reach_finders I N rows to X r.end mark' queue' from' r.found F.grid L.reach k closing_place;
            way_long = L.way_long;
            walk_long = L.walking.long;
            room = omega (arith, L.short, whole, F.few, closing_place, held.short);
          }

          pub attempt_round : (way'' walk'' : List ℕ) (n' : ℕ) → Leg queue' from' k walk' steps way'' walk'' n'
              → Attempted I N rows to q X X mark' queue' from' way'' walk'' (record { found = r.found; round = Some n' })
          attempt_round way'' walk'' n' M = record {
            sized = L.reach.sized;
            held = held;
            kept_long = F.kept_long;
            way_long = M.way_long;
            walk_long = M.walk_long;
            removed = λ z. absurd cc;
            round = λ m' z. let e : n' ≡ m' = cc in subst (Round I N rows to q X walk'') e closed;
          }
            where
              walked : Walking I N rows to X u r.end walk' steps
              walked = subst (Walking I N rows to X u r.end walk') (sym whole) L.walking

              closed : Round I N rows to q X walk'' n'
              closed = record {
                place = u;
                walking = subst (λ (w : ℕ). Walking I N rows to X u w walk'' n') A.1
                    (walking_on I N rows to X r.end mark' queue' from' r.found F.grid L.reach u walk' steps walked k closing_place way'' walk'' n' M);
                turns = omega (arith, M.more, walked.some);
                short = omega (arith, M.short, L.short, whole, F.few, closing_place, held.short);
                visits = λ j b. let w = (L.visits steps visited).1 j b in
                    (w.0, omega (arith, w.1, M.more), ap (λ (s : ℕ). has (assumption q j) (s % I)) (M.before w.0 w.1) ∙ w.2);
              }

        pub pivot_next : Pivot I N rows to X mark' queue' from' way' walk' r.end r.found
        pivot_next = record {
          reach = L.reach;
          way_long = L.way_long;
          walk_long = L.walking.long;
          below = end_below;
          inside = end_inside;
        }

        pub pivot_falls : at mark u ≡ 1 → at mark' u ≢ 1 → count N (marked mark') < count N (marked mark)
        pivot_falls m d =
            count_less N (marked mark') (marked mark) (λ k b h. L.less k h) u P.below (marked_not mark' u d) (marked_is mark u m)

-- the set as it is in the loop, and as it was before
pub fits_same : {I N : ℕ} {rows to : List ℕ} {q : Requirement} {X Y mark queue from way walk : List ℕ} {n v : ℕ} → X ≡ Y
    → AttemptFits I N rows to q X mark queue from way walk n v → AttemptFits I N rows to q Y mark queue from way walk n v
fits_same {I} {N} {rows} {to} {q} {mark = mark} {queue = queue} {from = from} {way = way} {walk = walk} {n = n} {v = v} e F =
    subst (λ (Z : List ℕ). AttemptFits I N rows to q Z mark queue from way walk n v) e F

pub tried_same : {I N : ℕ} {rows to : List ℕ} {q : Requirement} {X Y Z mark queue from way walk : List ℕ} {r : Tried} → X ≡ Y
    → Attempted I N rows to q Y Z mark queue from way walk r → Attempted I N rows to q X Z mark queue from way walk r
tried_same {I} {N} {rows} {to} {q} {Z = Z} {mark = mark} {queue = queue} {from = from} {way = way} {walk = walk} {r = r} e T =
    subst (λ (W : List ℕ). Attempted I N rows to q W Z mark queue from way walk r) (sym e) T
