-- Legs through the assumptions.
--
--   Going              == the first j assumptions are visited
--   going-*            : how that begins, goes on and ends
use Prim.Native.Nat.{ℕ, ◌+◌, ◌-◌, ◌*◌, ◌%◌, ◌≤◌, ◌<◌}
use mathlib.Core.Path.{◌≡◌, sym, ◌∙◌, ap}
use mathlib.Core.Bool.{true}
use mathlib.Core.List.{List}
use mathlib.Core.Logic.{inl, inr}
use native.Mathlib.Omega.{arith}
use lib.ListN.{length}
use Rattle.finite.proofs.Bounded.{below_suc}
use Rattle.bits.specs.Member.{has}
use Rattle.game.specs.declared.Requirement.{Requirement}
use Rattle.std.specs.declared.option.Option.TheVariants.{None, Some}
use Rattle.checker_search.specs.Turns.{marked}
use Rattle.checker_search.specs.Queues.{at, Reach, FirstIn}
use Rattle.checker_rounds.specs.Rounds.{assumption, LegFits, Leg, Walking, LegsFit, Legs}
use Rattle.checker_rounds.proofs.Walking.{reach_short, reach_below, reach_finders, reach_less, walking_on}

pub record Going (I N : ℕ) (rows to : List ℕ) (q : Requirement) (X : List ℕ) (v : ℕ) (mark₀ mark queue from way walk : List ℕ) (end found n j : ℕ) :
    Type 0 where
  pub upto : j ≤ q.assumed
  pub reach : Reach I N rows to X end mark queue from found
  pub way_long : length way ≡ 4096
  pub walking : Walking I N rows to X v end walk n
  pub short : n ≤ 1 + j * 4096
  pub less : (a : ℕ) → marked mark a ≡ true → marked mark₀ a ≡ true
  pub visits : (i : ℕ) → i < j → (k : ℕ) × (k < n) × (has (assumption q i) (at walk k % I) ≡ true)

module _ {I N : ℕ} {rows to : List ℕ} {q : Requirement} {X : List ℕ} {v : ℕ} {mark₀ queue₀ from₀ way₀ walk₀ : List ℕ} {n₀ : ℕ}
    (F : LegsFit I N rows to q X mark₀ queue₀ from₀ way₀ walk₀ n₀ v) where
  pub going_start : Going I N rows to q X v mark₀ mark₀ queue₀ from₀ way₀ walk₀ v n₀ 1 0
  going_start = record {
    upto = omega arith;
    reach = F.reach;
    way_long = F.way_long;
    walking = F.walking;
    short = omega arith;
    less = λ a h. h;
    visits = λ i b. absurd (omega (arith, b));
  }

  module _ {mark queue from way walk : List ℕ} {end found n j : ℕ} (S : Going I N rows to q X v mark₀ mark queue from way walk end found n j) where
    pub going_found : found ≤ 4096
    going_found = omega (arith, reach_short I N rows to X end mark queue from found F.grid S.reach, F.grid.places)

    pub going_missed : j < q.assumed → {x : ℕ} → x ≡ assumption q j → FirstIn I queue found x None
        → Legs I N rows to q X v mark₀ mark queue from way walk (record { end = end; found = found; length = None })
    going_missed b e f = record {
      reach = S.reach;
      way_long = S.way_long;
      length = n;
      walking = S.walking;
      short = omega (arith, S.short, b);
      less = S.less;
      lacks = λ m. (j, b, λ i l. ap (λ (y : ℕ). has y (at queue i % I)) (sym e) ∙ f i l);
      visits = λ m z. absurd cc;
    }

    pub going_end : q.assumed ≤ j → Legs I N rows to q X v mark₀ mark queue from way walk (record { end = end; found = found; length = Some n })
    going_end b = record {
      reach = S.reach;
      way_long = S.way_long;
      length = n;
      walking = S.walking;
      short = omega (arith, S.short, S.upto, b);
      less = S.less;
      lacks = λ z. absurd cc;
      visits = λ m z.
          let e : m ≡ n = cc in
          (e, λ i l. let w = S.visits i (omega (arith, l, b)) in (w.0, omega (arith, w.1, e), w.2));
    }

    module _ (b : j < q.assumed) {k x : ℕ} (e : x ≡ assumption q j) (f : FirstIn I queue found x (Some k)) where
      going_place : k < found
      going_place = f.0

      pub going_leg : LegFits from k way walk n
      going_leg = record {
        place = omega (arith, going_place, going_found);
        finders = reach_finders I N rows to X end mark queue from found F.grid S.reach k going_place;
        way_long = S.way_long;
        walk_long = S.walking.long;
        room = omega (arith, S.short, b, F.few, going_place, going_found);
      }

      pub going_below : at queue k < N
      going_below = reach_below I N rows to X end mark queue from found F.grid S.reach k going_place

      pub going_next : {way' walk' : List ℕ} {n' : ℕ} → Leg queue from k walk n way' walk' n' → {c : ℕ} → c ≡ at queue k
          → {mark' queue' from' : List ℕ} {found' : ℕ} → Reach I N rows to X c mark' queue' from' found'
          → Going I N rows to q X v mark₀ mark' queue' from' way' walk' c found' n' (j + 1)
      going_next {way'} {walk'} {n'} L {c} z {mark'} {queue'} {from'} {found'} R = record {
        upto = omega (arith, b);
        reach = R;
        way_long = L.way_long;
        walking = rw z (walking_on I N rows to X end mark queue from found F.grid S.reach v walk n S.walking k going_place way' walk' n' L);
        short = omega (arith, S.short, L.short, going_place, going_found);
        less = reach_less I N rows to X c mark' queue' from' found' F.grid R mark₀ F.reach.on
            (S.less c (ap (marked mark) z ∙ S.reach.listed.known k going_place));
        visits = λ i l. elim (below_suc i j (omega (arith, l))) [
          | inl y ↦ (
            n' - 1,
            omega (arith, L.more),
            (λ t. has (assumption q (y t)) (L.last t % I)) ∙ ap (λ (s : ℕ). has s (at queue k % I)) (sym e) ∙ f.1,
          )
          | inr m ↦ let w = S.visits i m in
              (w.0, omega (arith, w.1, L.more), ap (λ (s : ℕ). has (assumption q i) (s % I)) (L.before w.0 w.1) ∙ w.2)
        ];
      }
