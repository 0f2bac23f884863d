-- Sets of joined positions in scratch. A set is one word an input: word i has the outputs o with (i, o) in the set. Five sets begin at the words
-- below; from word 1,024 on stands, for each position, how many positions it reaches, the output running fastest.
--
--   joined_words            == how many words of scratch the map takes
--   found_at, followed_at, won_at, known_at, component_at, ahead_at    == where they begin
--   belongs n a l i o      == (i, o) belongs to the set of n inputs that begins at word a of l
--   Small g                == g is accepted, and has at most 32 states a graph
--   Ranked g k l           == l tells of the first k positions how many each reaches
use Rattle.std.specs.Prelude.{ℕ, ◌+◌, ◌/◌, ◌%◌, ◌≤◌, ◌<◌, ◌≡◌, Bool, ◌&&◌, List, ltb, get_or}
use Rattle.bits.specs.Member.{has}
use Rattle.joint.specs.Joint.{rank_at}
use Rattle.game.specs.declared.Game.{Game}
use Rattle.game.specs.Fits.{Fits}
use Rattle.play.specs.Play.{separated_of}

-- "Its scratch is 4,096 words" (M-108) (SPEC 14.3)
abbrev pub joined_words : ℕ
joined_words = 4096

abbrev pub found_at : ℕ
found_at = 0

abbrev pub followed_at : ℕ
followed_at = 32

abbrev pub won_at : ℕ
won_at = 64

abbrev pub known_at : ℕ
known_at = 96

abbrev pub component_at : ℕ
component_at = 128

abbrev pub ahead_at : ℕ
ahead_at = 1024

unfoldable pub belongs : ℕ → ℕ → List ℕ → ℕ → ℕ → Bool
belongs n a l i o = ltb i n && has (get_or l (a + i) 0) o

-- "for graphs of at most 32 states" (document 02, M-108) (SPEC 14.3)
pub record Small (g : Game) : Type 0 where
  pub fits : Fits g
  pub inputs : g.input.states ≤ 32
  pub outputs : g.output.states ≤ 32

pub record Ranked (g : Game) (k : ℕ) (l : List ℕ) : Type 0 where
  pub ahead : (c : ℕ) → c < k → get_or l (ahead_at + c) 0 ≡ rank_at (separated_of g) (c / g.output.states) (c % g.output.states)
