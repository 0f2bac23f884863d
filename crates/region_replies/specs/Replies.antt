-- Replies to next inputs, told from the sets l of scratch, c being the inputs in nontrivial components.
--
--   replies_at l n c next moves m k  == each input below k that belongs to next has a reply in moves
--   reply_at g l c i o               == output o has a reply to every next input of i
--   answers_at rows x y o            == output o is in x and has a move into y
--   Held rows y x                   == every output of x has a move into y, if that has a state
--   Known rows x y r                == every output of x outside r has a move into y
use Rattle.std.specs.Prelude.{ℕ, ◌≡◌, Bool, true, false, not, ◌&&◌, ◌||◌, List, ◌≢◌, get_or}
use Rattle.finite.specs.Bounded.{all, any}
use Rattle.bits.specs.Member.{has, sets_meet}
use Rattle.game.specs.declared.Game.{Game}
use Rattle.sets.specs.Words.{capacity, sets_in}
use Rattle.scratch.specs.Stored.{won_at}

-- next input j needs no reply, or the output move p is one: next are the moves of the input, moves those of the output
unfoldable pub excused : List ℕ → ℕ → ℕ → ℕ → ℕ → ℕ → ℕ → Bool
excused l n c next moves j p = not (has next j) || (has moves p && won_at l n c j p)

unfoldable pub replied : List ℕ → ℕ → ℕ → ℕ → ℕ → ℕ → ℕ → Bool
replied l n c next moves m j = any m (excused l n c next moves j)

-- "it has a reply to every next input, each making a won position" (SPEC 4.4)
unfoldable pub replies_at : List ℕ → ℕ → ℕ → ℕ → ℕ → ℕ → ℕ → Bool
replies_at l n c next moves m k = all k (replied l n c next moves m)

-- output o, of the rows of moves, has a reply to every input of next
unfoldable pub reply_with : List ℕ → ℕ → ℕ → ℕ → List ℕ → ℕ → ℕ → Bool
reply_with l n c next rows m o = replies_at l n c next (get_or rows o 0) m n

unfoldable pub reply_at : Game → List ℕ → ℕ → ℕ → ℕ → Bool
reply_at g l c i = reply_with l g.input.states c (get_or (sets_in g.input.moves) i 0) (sets_in g.output.moves) g.output.states

-- output o, of the rows of moves, is in x and has a move into y
unfoldable pub answers_at : List ℕ → ℕ → ℕ → ℕ → Bool
answers_at rows x y o = has x o && sets_meet capacity (get_or rows o 0) y

pub record Held (rows : List ℕ) (y x : ℕ) : Type 0 where
  pub answers : y ≢ 0 → (o : ℕ) → has x o ≡ true → sets_meet capacity (get_or rows o 0) y ≡ true

pub record Known (rows : List ℕ) (x y r : ℕ) : Type 0 where
  pub answers : (o : ℕ) → has x o ≡ true → has r o ≡ false → sets_meet capacity (get_or rows o 0) y ≡ true
