-- The figures of a catalogue, from the outcomes of its files.
--
--   is_system o, is_environment o, is_refused o   == the system wins, the environment wins, the file is refused
--   has_number n o      == the file is refused, and the refusal's number is n
--   won_of o            == the won positions of a game that is not refused
--   positions_of o      == its positions
--   how_many p os       == how many of the outcomes os have p
--   sum_of f os         == the sum of f over them
--   Tallied os t       == t holds the figures of the outcomes os
--   empty_tally         == the tally of no outcomes
--   added t o          == the tally t with the outcome o counted too
--   Modest o           == o has the positions of at most one game of 128 × 128 states
--   Within os t        == t has at most as many positions as such games
--   Roomy t            == t counts far fewer games and positions than its words hold
use Rattle.std.specs.Prelude.{ℕ, ◌+◌, ◌*◌, ◌≤◌, ◌<◌, Bool, true, false, List, [], ◌∷◌, ◌≡◌, eqb, length, get_or, set, replicate}
use Rattle.finite.specs.Bounded.{one}
use Rattle.game.specs.Refusals.{number}
use Rattle.catalogue_tally.specs.Outcome.{Outcome}
use Rattle.catalogue_tally.specs.declared.Counted.TheVariants.{System, Environment}
use Rattle.catalogue_tally.specs.declared.Tally.{Tally}
use Rattle.std.specs.declared.result.Result.TheVariants.{Ok, Err}

unfoldable pub is_system : Outcome → Bool
is_system (Ok (System w p)) = true
is_system (Ok (Environment w p)) = false
is_system (Err r) = false

unfoldable pub is_environment : Outcome → Bool
is_environment (Ok (System w p)) = false
is_environment (Ok (Environment w p)) = true
is_environment (Err r) = false

unfoldable pub is_refused : Outcome → Bool
is_refused (Ok (System w p)) = false
is_refused (Ok (Environment w p)) = false
is_refused (Err r) = true

unfoldable pub has_number : ℕ → Outcome → Bool
has_number n (Ok (System w p)) = false
has_number n (Ok (Environment w p)) = false
has_number n (Err r) = eqb (number r) n

unfoldable pub won_of : Outcome → ℕ
won_of (Ok (System w p)) = w
won_of (Ok (Environment w p)) = w
won_of (Err r) = 0

unfoldable pub positions_of : Outcome → ℕ
positions_of (Ok (System w p)) = p
positions_of (Ok (Environment w p)) = p
positions_of (Err r) = 0

unfoldable pub sum_of : (Outcome → ℕ) → List Outcome → ℕ
sum_of f [] = 0
sum_of f (o ∷ os) = f o + sum_of f os

unfoldable pub how_many : (Outcome → Bool) → List Outcome → ℕ
how_many p os = sum_of (λ o. one (p o)) os

-- "(system N), (environment N), (refused N), then (number R N) for each refusal number met, .. (won W P): won positions and all positions of the games
-- not refused"; "The first three sum to the games listed" (SPEC 16.1)
pub record Tallied (os : List Outcome) (t : Tally) : Type 0 where
  pub system : t.system ≡ how_many is_system os
  pub environment : t.environment ≡ how_many is_environment os
  pub refused : t.refused ≡ how_many is_refused os
  pub games : t.system + t.environment + t.refused ≡ length os
  pub counts : length t.numbers ≡ 256
  pub numbers : (r : ℕ) → r < 256 → get_or t.numbers r 0 ≡ how_many (has_number r) os
  pub won : t.won ≡ sum_of won_of os
  pub positions : t.positions ≡ sum_of positions_of os

unfoldable pub empty_tally : Tally
empty_tally = record { system = 0; environment = 0; refused = 0; numbers = replicate 256 0; won = 0; positions = 0 }

unfoldable pub added : Tally → Outcome → Tally
added t (Ok (System w p)) =
    record { system = t.system + 1; environment = t.environment; refused = t.refused; numbers = t.numbers; won = t.won + w; positions = t.positions + p }
added t (Ok (Environment w p)) =
    record { system = t.system; environment = t.environment + 1; refused = t.refused; numbers = t.numbers; won = t.won + w; positions = t.positions + p }
added t (Err r) =
    record {
      system = t.system;
      environment = t.environment;
      refused = t.refused + 1;
      numbers = set t.numbers (number r) (get_or t.numbers (number r) 0 + 1);
      won = t.won;
      positions = t.positions;
    }

pub record Modest (o : Outcome) : Type 0 where
  pub won : won_of o ≤ 16384
  pub positions : positions_of o ≤ 16384

pub record Roomy (t : Tally) : Type 0 where
  pub system : t.system < 4294967296
  pub environment : t.environment < 4294967296
  pub refused : t.refused < 4294967296
  pub numbers : (r : ℕ) → r < 256 → get_or t.numbers r 0 < 4294967296
  pub won : t.won < 4294967296
  pub positions : t.positions < 4294967296

pub record Within (os : List Outcome) (t : Tally) : Type 0 where
  pub won : t.won ≤ 16384 * length os
  pub positions : t.positions ≤ 16384 * length os
