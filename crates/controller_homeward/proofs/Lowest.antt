-- The inputs whose home at an output is d, and those with the same homes below d, asked once for each run.
--
--   lowest_is_lem         : the test of one row
--   settled_part, has_home_spread : the inputs whose home is d, from those of them that begin a run
--   alike_part, alike_spread     : the inputs with these lower homes
use Prim.Native.Nat.{ℕ}
use mathlib.Core.Path.{◌≡◌, sym, ◌∙◌, ap}
use mathlib.Core.Bool.{true, ◌&&◌}
use mathlib.Core.List.{List}
use lib.Dec.{eqb, ltb}
use borrow.Author.Tests.{lt-ltb}
use Rattle.finite.specs.Bounded.{least}
use Rattle.finite.proofs.Truth.{same_test, and_intro, and_left, and_right}
use Rattle.bits.specs.Member.{has, within, pack, both}
use Rattle.bits.proofs.Membership.{ext, has_pack, within_has}
use Rattle.sets.specs.Words.{capacity}
use Rattle.scratch.specs.Stored.{row_at, out_reach_at}
use Rattle.region_runs.specs.Runs.{Runs, spread_at}
use Rattle.region_runs.proofs.Runs.{spread_part, spread_all}
use Rattle.controller_rows.specs.Writes.{home_at, has_home_at}
use Rattle.controller_homeward.specs.Homes.{lowest_is, settled_at, lower_at, alike_at}

pub lowest_is_lem : (row reach d : ℕ) {x : ℕ} → x ≡ least capacity (both row reach) → eqb x d ≡ lowest_is row reach d
unfolding lowest_is
lowest_is_lem row reach d e = ap (λ (k : ℕ). eqb k d) e

module _ (s : List ℕ) (n f reach d x : ℕ) (e : x ≡ pack n (settled_at s n f reach d)) where
  pub settled_part : (t : ℕ) → has x t ≡ true → has f t ≡ true
  unfolding settled_at
  settled_part = spread_part n f x (λ j. lowest_is (row_at s n j) reach d) e

  pub has_home_spread : (c o : ℕ) → Runs s n c f → reach ≡ out_reach_at s n o → {y : ℕ} → y ≡ pack n (spread_at c f x) → y ≡ pack n (has_home_at s n c o d)
  unfolding settled_at has_home_at home_at lowest_is
  has_home_spread c o R r g =
      spread_all s n c f x R (λ j. lowest_is (row_at s n j) reach d) (λ i j q. ap (λ (k : ℕ). lowest_is k reach d) q) e g
      ∙ ap (λ (k : ℕ). pack n (λ j. has c j && lowest_is (row_at s n j) k d)) r

module _ (s : List ℕ) (n f homes d y : ℕ) (e : y ≡ pack n (λ j. has f j && alike_at s n d homes j)) where
  pub alike_part : (t : ℕ) → has y t ≡ true → has f t ≡ true
  alike_part = spread_part n f y (alike_at s n d homes) e

  pub alike_spread : (c x z : ℕ) → Runs s n c f → within x n ≡ true → ((j : ℕ) → has x j ≡ true → has c j ≡ true) → z ≡ pack n (spread_at c f y)
      → {r : ℕ} → ((t : ℕ) → has r t ≡ (has x t && has z t)) → r ≡ pack n (λ j. has x j && alike_at s n d homes j)
  unfolding alike_at lower_at
  alike_spread c x z R inside sub g {r} h =
      ext r (pack n (λ j. has x j && alike_at s n d homes j))
      (λ t. same_test (has r t) (has (pack n (λ j. has x j && alike_at s n d homes j)) t) (to t) (back t))
    where
      all : z ≡ pack n (λ j. has c j && alike_at s n d homes j)
      all = spread_all s n c f y R (alike_at s n d homes) (λ i j q. ap (λ (k : ℕ). eqb (pack d (has k)) homes) q) e g

      at : (t : ℕ) → has z t ≡ (ltb t n && (has c t && alike_at s n d homes t))
      at t = ap (λ (k : ℕ). has k t) all ∙ has_pack n (λ j. has c j && alike_at s n d homes j) t

      to : (t : ℕ) → has r t ≡ true → has (pack n (λ j. has x j && alike_at s n d homes j)) t ≡ true
      to t q =
          let in-x = and_left (has x t) (has z t) (sym (h t) ∙ q) in
          let in-z = sym (at t) ∙ and_right (has x t) (has z t) (sym (h t) ∙ q) in
          has_pack n (λ j. has x j && alike_at s n d homes j) t
          ∙ and_intro (lt-ltb t n (within_has x n t inside in-x))
          (and_intro in-x (and_right (has c t) (alike_at s n d homes t) (and_right (ltb t n) (has c t && alike_at s n d homes t) in-z)))

      back : (t : ℕ) → has (pack n (λ j. has x j && alike_at s n d homes j)) t ≡ true → has r t ≡ true
      back t q =
          let inside' = sym (has_pack n (λ j. has x j && alike_at s n d homes j) t) ∙ q in
          let own = and_right (ltb t n) (has x t && alike_at s n d homes t) inside' in
          let in-x = and_left (has x t) (alike_at s n d homes t) own in
          h t
          ∙ and_intro in-x
          (at t
          ∙ and_intro (and_left (ltb t n) (has x t && alike_at s n d homes t) inside')
          (and_intro (sub t in-x) (and_right (has x t) (alike_at s n d homes t) own)))
