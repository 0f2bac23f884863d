-- A walk through the members of a set, lowest first.
--
--   Lowest x s y      == s is the lowest member of x, and y has the others
--   LowestComes m r n == a step of the walk m gives r and leaves n: the lowest of those that are still to come; none where none is
use Rattle.std.specs.Prelude.{ℕ, ◌≡◌, ◌≢◌, ◌<◌, not, ◌&&◌, eqb, Option}
use Rattle.std.specs.declared.option.Option.TheVariants.{None, Some}
use Rattle.finite.specs.Bounded.{least, count}
use Rattle.bits.specs.Member.{has}
use Rattle.sets.specs.Words.{capacity, bits_of}
use Rattle.sets.specs.declared.Set.{Set}
use Rattle.sets.specs.declared.Members.{Members}

pub record Lowest (x : Set) (s : ℕ) (y : Set) : Type 0 where
  pub some : bits_of x ≢ 0
  pub lowest : s ≡ least capacity (has (bits_of x))
  pub others : (t : ℕ) → has (bits_of y) t ≡ (has (bits_of x) t && not (eqb t (least capacity (has (bits_of x)))))
  pub fewer : count capacity (has (bits_of y)) < count capacity (has (bits_of x))

abbrev pub LowestComes : Members → Option ℕ → Members → Type 0
LowestComes m None n = (bits_of m.rest ≡ 0) × (n ≡ m)
LowestComes m (Some s) n = Lowest m.rest s n.rest
