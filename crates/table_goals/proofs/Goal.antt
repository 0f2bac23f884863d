-- Laws of a tour's counters.
--
--   first_is                   : how to tell the first member from g on
--   first_member, first_below  : it is a member, and below m
--   passed-*                   : the counter after a move
use Prim.Native.Nat.{ℕ, ◌+◌, ◌≤◌, ◌<◌}
use mathlib.Core.Path.{◌≡◌, refl, ◌∙◌, ap}
use mathlib.Core.Bool.{Bool, true, false}
use mathlib.Core.Logic.{inl, inr}
use native.Mathlib.Omega.{arith}
use Rattle.finite.proofs.Bounded.{least_below, least_member, least_unique}
use Rattle.bits.specs.Member.{has}
use Rattle.bits.proofs.Membership.{within_has}
use Rattle.bits.proofs.Compare.{nonzero_member}
use Rattle.theory.specs.Tour.{around}
use Rattle.theory.proofs.Around.{around_cases, around_below, distance, distance_below, around_distance}
use Rattle.table_goals.specs.Goal.{Goals, first_from, passed_counter}

-- the number r is first where it is a member and those before it, going round, are none
pub first_is : (m q g r d : ℕ) → d < m → around m g d ≡ r → has q r ≡ true → ((k : ℕ) → k < d → has q (around m g k) ≡ false) → first_from m q g ≡ r
unfolding first_from
first_is m q g r d b e h f =
    ap (around m g) (least_unique m (λ k. has q (around m g k)) d b (ap (has q) e ∙ h) f) ∙ e

-- the counter after a move

pub passed_stays : (m a : ℕ) (b : Bool) → b ≡ false → a ≡ passed_counter m b a
unfolding passed_counter
passed_stays m a b e = rw (e, passed_counter) refl

pub passed_on : (m a : ℕ) (b : Bool) → b ≡ true → a + 1 < m → a + 1 ≡ passed_counter m b a
unfolding passed_counter
passed_on m a b e h = rw (e, passed_counter) (elim (around_cases m a 1) [ inl c ↦ omega arith | inr c ↦ omega arith ])

pub passed_round : (m a : ℕ) (b : Bool) → b ≡ true → a < m → m ≤ a + 1 → 0 ≡ passed_counter m b a
unfolding passed_counter
passed_round m a b e l h = rw (e, passed_counter) (elim (around_cases m a 1) [ inl c ↦ omega arith | inr c ↦ omega arith ])

pub goals_at : (q m g h : ℕ) → Goals q m g → h < m → Goals q m h
goals_at q m g h G b = record { some = G.some; members = G.members; few = G.few; below = b }

-- the first member is one, so it is below m
pub first_member : (q m g : ℕ) → Goals q m g → has q (first_from m q g) ≡ true
unfolding first_from
first_member q m g G =
    let v = nonzero_member q G.some in
    let b = within_has q m v.0 G.members v.1 in
    least_member m (λ k. has q (around m g k))
    (least_below m (λ k. has q (around m g k)) (distance m g v.0) (distance_below m g v.0 G.below b)
    (ap (has q) (around_distance m g v.0 G.below b) ∙ v.1))

pub first_below : (q m g : ℕ) → Goals q m g → first_from m q g < m
first_below q m g G = within_has q m (first_from m q g) G.members (first_member q m g G)

pub passed_below : (m a : ℕ) (b : Bool) → a < m → passed_counter m b a < m
unfolding passed_counter
passed_below m a true h = around_below m a 1 h (omega arith)
passed_below m a false h = h
