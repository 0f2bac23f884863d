-- The winning region.
--
--   freed_none, freed_next       : what is not barred is kept, row after row
--   Keeping g b l m              == of what is kept nothing that is won and not barred has been taken out
--   keeping_start, keeping_next, keeping_falls, keeping_end
use Prim.Native.Nat.{ℕ, ◌+◌, ◌<◌}
use mathlib.Core.Path.{◌≡◌, refl, sym, ◌∙◌, ap}
use mathlib.Core.Bool.{Bool, true, false, ◌&&◌, not}
use mathlib.Core.List.{List, Memᴰ}
use native.Mathlib.Decide.{ℕ_discrete}
use native.Mathlib.Omega.{arith}
use lib.Dec.{ltb}
use lib.ListN.{length, get_or, set}
use lib.Seq.{get_or-set_same, get_or-set_other}
use borrow.Author.Tests.{ltb-true, lt-ltb}
use Rattle.finite.proofs.Lists.{member_place}
use Rattle.finite.proofs.Tabulate.{length_tabulate, get_d_tabulate}
use Rattle.finite.proofs.Truth.{and_intro, and_left, and_right, not_true, same_test}
use Rattle.finite.specs.But.{ButFor}
use Rattle.finite.proofs.But.{but_self, but_then, but_wider}
use Rattle.bits.specs.Member.{has, pack}
use Rattle.bits.proofs.Membership.{ext, has_pack}
use Rattle.sets.specs.Words.{bits_of}
use Rattle.barred.specs.Region.{reach, barred_region}
use Rattle.barred.proofs.Arena.{free_intro, free_unbarred}
use Rattle.barred.proofs.Rounds.{Sub, sub_intro, region_free}
use Rattle.barred.proofs.Passes.{region_found, region_trimmed}
use Rattle.game.specs.declared.Game.{Game}
use Rattle.game.specs.Access.{no_output, requirement_at}
use Rattle.game.specs.Fits.{Fits}
use Rattle.play.specs.Play.{graph_of, separated_of, requirement_of}
use Rattle.barred_rows.specs.Areas.{kept_pairs, kept_at, reached_at, staying_at}
use Rattle.barred_rows.proofs.Rows.{apart_set}
use Rattle.barred_stay.specs.Stay.{Within}
use Rattle.barred_region.specs.Region.{only, bar_of, Among, Trimmed, Endless, Passed, Freed, RegionKept}
use Rattle.barred_region.proofs.Among.{among_sub, sub_among, part_reach, counted, counted_less}
use Rattle.barred_region.proofs.Trimming.{trimmed_endless}

-- ---- what is not barred

module _ (g : Game) (b l : List ℕ) where
  pub freed_none : Freed g 0 b l l
  freed_none = record { apart = but_self kept_at 0 l; row = λ i o h. absurd (omega arith) }

  pub freed_next : (k : ℕ) (m : List ℕ) (x y v : ℕ) → Freed g k b l m → k < length m → ((o : ℕ) → has x o ≡ ltb o g.output.states) → y ≡ get_or b k 0
      → ((o : ℕ) → has v o ≡ (has x o && not (has y o))) → Freed g (k + 1) b l (set m k v)
  freed_next k m x y v T long e f d = record {
    apart = but_then (but_wider kept_at (k + 1) (omega arith) (omega arith) T.apart)
        (but_wider kept_at (k + 1) (omega arith) (omega arith) (apart_set m k v));
    row = λ i o h. row i o h (ℕ_discrete i k);
  }
    where
      row : (i o : ℕ) → i < k + 1 → Dec (i ≡ k) → kept_pairs (set m k v) i o ≡ (ltb o g.output.states && not (bar_of b i o))
      row i o h (no q) = ap (λ (z : ℕ). has z o) (get_or-set_other m k i v 0 q) ∙ T.row i o (omega arith)
      row i o h (yes q) = rw q (ap (λ (z : ℕ). has z o) (get_or-set_same m k v 0 long) ∙ d o ∙ rw (e o, f) refl)

-- ---- pass after pass

pub record Keeping (g : Game) (b l m : List ℕ) : Type 0 where
  pub apart : ButFor kept_at (staying_at + g.input.states) l m
  pub unbarred : (i o : ℕ) → i < g.input.states → kept_pairs m i o ≡ true → (o < g.output.states) × (bar_of b i o ≡ false)
  pub sound : Among g (barred_region (separated_of g) (bar_of b) (only g)) (kept_pairs m)
  pub endless : Endless g m

module _ (g : Game) (F : Fits g) (b l : List ℕ) where
  pub freed_within : (m : List ℕ) → Freed g g.input.states b l m → Within g m
  freed_within m T = record {
    outputs = λ i o h t. ltb-true o g.output.states (and_left (ltb o g.output.states) (not (bar_of b i o)) (sym (T.row i o h) ∙ t));
  }

  pub keeping_within : (m : List ℕ) → Keeping g b l m → Within g m
  keeping_within m T = record { outputs = λ i o h t. (T.unbarred i o h t).0 }

  pub keeping_start : (m n : List ℕ) → Freed g g.input.states b l m → Trimmed g m n → Keeping g b n n
  unfolding separated_of graph_of
  keeping_start m n E T = record {
    apart = but_self kept_at (staying_at + g.input.states) n;
    unbarred = λ i o h t. let u = sym (E.row i o h) ∙ T.inside i o h t in (
      ltb-true o g.output.states (and_left (ltb o g.output.states) (not (bar_of b i o)) u),
      not_true (bar_of b i o) (and_right (ltb o g.output.states) (not (bar_of b i o)) u),
    );
    sound = record {
      all = λ i o x y h. T.found i o x y
          ∙ (sub_among g (region_trimmed (separated_of g) (bar_of b) (only g) (kept_pairs m) (among_sub g everything))).all i o x y h;
    };
    endless = trimmed_endless g m n T;
  }
    where
      everything : Among g (barred_region (separated_of g) (bar_of b) (only g)) (kept_pairs m)
      everything = record {
        all = λ i o x y h. let f = region_free (separated_of g) (bar_of b) (only g) i o h in
            E.row i o x ∙ and_intro (lt-ltb o g.output.states y) (ap not (free_unbarred (separated_of g) (bar_of b) i o f));
      }

  module _ (m : List ℕ) (T : Keeping g b l m) (n : List ℕ) (r : Bool) (P : Passed g (requirement_at g 0).guaranteed m n r) where
    pub keeping_next : Keeping g b l n
    keeping_next = record {
      apart = but_then T.apart P.apart;
      unbarred = λ i o h t. T.unbarred i o h (P.inside i o h t);
      sound = P.sound (bar_of b) T.sound;
      endless = P.endless T.endless;
    }

    pub keeping_falls : r ≡ true → counted g (kept_pairs n) < counted g (kept_pairs m)
    keeping_falls e =
        let u = P.some e in
        counted_less g F (record { all = λ i o x y h. P.inside i o x h }) u.0 u.1 u.2 u.3 u.5 u.4

    pub keeping_end : r ≡ false → RegionKept g b l n
    unfolding separated_of graph_of only requirement_of
    keeping_end e = record {
      apart = keeping_next.apart;
      row = λ i h. ext (get_or n i 0) (pack g.output.states (barred_region (separated_of g) (bar_of b) (only g) i)) (λ o. bit i o h);
    }
      where
        settled : (s : ℕ → Bool) → Memᴰ s (only g).guarantees → Sub (separated_of g) (kept_pairs n) (reach (separated_of g) (only g) s (kept_pairs n))
        settled s mem =
            let u = member_place (only g).guarantees (λ k. false) mem in
            let h : u.0 < (requirement_at g 0).guaranteed = omega (arith, u.1, length_tabulate sets (requirement_at g 0).guaranteed) in
            let is : s ≡ sets u.0 = sym u.2 ∙ get_d_tabulate sets (requirement_at g 0).guaranteed u.0 (λ k. false) h in
            rw is (among_sub g (record {
              all = λ i o x y k. (part_reach g (sets u.0) (kept_pairs m) (kept_pairs n) back).all i o x y
                  ((P.none e u.0 h).all i o x y (sym (P.same e i o x) ∙ k));
            }))
          where
            sets : ℕ → ℕ → Bool
            sets j = has (bits_of (get_or (requirement_at g 0).guarantees j no_output).0)

            back : Among g (kept_pairs m) (kept_pairs n)
            back = record { all = λ i o x y k. P.same e i o x ∙ k }

        found : (i o : ℕ) → i < g.input.states → o < g.output.states → kept_pairs n i o ≡ barred_region (separated_of g) (bar_of b) (only g) i o
        found =
            region_found (separated_of g) (only g) (kept_pairs n) keeping_next.endless.replied settled (bar_of b) (among_sub g keeping_next.sound)
            (sub_intro (separated_of g) (λ i o x y h. free_intro (separated_of g) (bar_of b) i o x y (keeping_next.unbarred i o x h).1))

        bit : (i o : ℕ) → i < g.input.states
            → has (get_or n i 0) o ≡ has (pack g.output.states (barred_region (separated_of g) (bar_of b) (only g) i)) o
        bit i o h =
            same_test (has (get_or n i 0) o) (has (pack g.output.states (barred_region (separated_of g) (bar_of b) (only g) i)) o)
            (λ t. let k = (keeping_next.unbarred i o h t).0 in
            has_pack g.output.states (barred_region (separated_of g) (bar_of b) (only g) i) o
            ∙ and_intro (lt-ltb o g.output.states k) (sym (found i o h k) ∙ t))
            (λ t. let u = sym (has_pack g.output.states (barred_region (separated_of g) (bar_of b) (only g) i) o) ∙ t in
            let k = ltb-true o g.output.states (and_left (ltb o g.output.states) (barred_region (separated_of g) (bar_of b) (only g) i o) u) in
            found i o h k ∙ and_right (ltb o g.output.states) (barred_region (separated_of g) (bar_of b) (only g) i o) u)

  -- from before what is not barred was kept
  pub kept_from : (m n k : List ℕ) → Freed g g.input.states b l m → Trimmed g m n → RegionKept g b n k → RegionKept g b l k
  kept_from m n k E T K = record {
    apart = but_then (but_then (but_wider kept_at (staying_at + g.input.states) (omega arith) (omega arith) E.apart) T.apart) K.apart;
    row = K.row;
  }

-- and from before the tables were written
pub kept_prepared : (g : Game) (b k l m : List ℕ) → ButFor reached_at staying_at k l → RegionKept g b l m → RegionKept g b k m
kept_prepared g b k l m A K = record {
  apart = but_then (but_wider kept_at (staying_at + g.input.states) (omega arith) (omega arith) A) K.apart;
  row = K.row;
}
