-- What one file of a catalogue comes to.
--
--   positions g      == how many positions the game g has
--   marks l m n      == how many members below m the first n sets of l have together
--   Census g w       == w is the number of the won positions of g
--   Comes g v o      == the game g comes to the outcome o, the solver's answer being v
--   Answers a o      == a file comes to the outcome o, the answer to it being a
--   Judged s o       == a file of the bytes s comes to the outcome o
use Rattle.std.specs.Prelude.{ℕ, zero, suc, ◌+◌, ◌*◌, ◌<◌, true, List, ◌↔◌, ◌≡◌, get_or}
use Rattle.prints.specs.Prints.{room_entries}
use Rattle.finite.specs.Bounded.{count}
use Rattle.bits.specs.Member.{has}
use Rattle.arena.specs.Win.{Won}
use Rattle.game.specs.declared.Game.{Game}
use Rattle.demands.specs.Demands.{play_of}
use Rattle.scratch.specs.Scratch.{scratch_length}
use Rattle.solver.specs.Verdict.{Verdict}
use Rattle.solver.specs.declared.Winner.TheVariants.{System, Environment}
use Rattle.solver.specs.Promise.{verdict_answer}
use Rattle.text.specs.declared.Unread.TheVariants.{Misshapen, Refused}
use Rattle.text.specs.Reading.{Reading}
use Rattle.text.specs.Read.{Reads}
use Rattle.catalogue_tally.specs.Outcome.{Outcome}
use Rattle.catalogue_tally.specs.declared.Counted.TheVariants.{System as SystemGame, Environment as EnvironmentGame}
use Rattle.std.specs.declared.result.Result.TheVariants.{Ok, Err}
use Rattle.game.specs.declared.Refusal.TheVariants.{NoGame}

-- "all positions": an input and an output (SPEC 16.1)

unfoldable pub positions : Game → ℕ
positions g = g.input.states * g.output.states

unfoldable pub marks : List ℕ → ℕ → ℕ → ℕ
marks l m zero = 0
marks l m (suc n) = count m (has (get_or l n 0)) + marks l m n

-- "won positions": those of a map that marks a position exactly where it is won (SPEC 16.1)
pub record Census (g : Game) (w : ℕ) : Type 0 where
  pub map : List ℕ
  pub won : (i o : ℕ) → i < g.input.states → o < g.output.states → (has (get_or map i 0) o ≡ true) ↔ Won (play_of g) i o
  pub sum : w ≡ marks map g.output.states g.input.states

-- 9 and 10 are refusals, and a refused game has no positions here (SPEC 16.1)
unfoldable pub Comes : Game → Verdict → Outcome → Type 0
Comes g (Ok (System n)) o = (w : ℕ) × Census g w × (o ≡ Ok (SystemGame w (positions g)))
Comes g (Ok (Environment n)) o = (w : ℕ) × Census g w × (o ≡ Ok (EnvironmentGame w (positions g)))
Comes g (Err r) o = o ≡ Err r

-- "Rooms are the solve program's.", scratch as much as the game asks for (SPEC 16.1)
unfoldable pub Answers : Reading → Outcome → Type 0
Answers (Ok g) o = Comes g (verdict_answer g (scratch_length g) room_entries room_entries) o
Answers (Err (Misshapen p)) o = o ≡ Err NoGame
Answers (Err (Refused r)) o = o ≡ Err r

-- "each by the verdict on its own file" (SPEC 16.1)
pub record Judged (s : List ℕ) (o : Outcome) : Type 0 where
  pub reading : Reading
  pub reads : Reads s reading
  pub answers : Answers reading o
