-- Writing a text into a buffer.
--
--   reached m at n       == the place behind n bytes from place at on in a buffer of m bytes, or its end where it is too short for them
--   Puts d at t r e      == the buffer d has become e by writing the text t at place at, what is past the end left out; r is the place behind it, or the end
--   PutsWithin m d t r e == so it has at its front, and m bytes have room for t
--   Fills d t n e        == the buffer d has room for the text t and has become e: t whole at the front, n bytes, and the rest as it was
--   Few q                == q has at most four sets in each list
--   Writable g           == the counts of g are those of a game that is accepted
use Rattle.std.specs.Prelude.{ℕ, ◌+◌, ◌≤◌, ◌<◌, min, max, List, ◌++◌, ◌≡◌, length, drop}
use Rattle.std.proofs.lemmas.List.Edits.{sets as stores}
use Rattle.sets.specs.Words.{capacity}
use Rattle.game.specs.declared.Requirement.{Requirement}
use Rattle.game.specs.declared.Game.{Game}
use Rattle.game.specs.Access.{requirement_at}

unfoldable pub reached : ℕ → ℕ → ℕ → ℕ
reached m at n = max at (min m (at + n))

pub record Puts (d : List ℕ) (at : ℕ) (t : List ℕ) (r : ℕ) (e : List ℕ) : Type 0 where
  pub next : r ≡ reached (length d) at (length t)
  pub buffer : e ≡ stores d at t

pub record PutsWithin (m : ℕ) (d t : List ℕ) (r : ℕ) (e : List ℕ) : Type 0 where
  pub puts : Puts d 0 t r e
  pub fits : length t ≤ m

pub record Fills (d t : List ℕ) (n : ℕ) (e : List ℕ) : Type 0 where
  pub room : length t ≤ length d
  pub bytes : n ≡ length t
  pub buffer : e ≡ t ++ drop n d

pub record Few (q : Requirement) : Type 0 where
  pub assumed : q.assumed ≤ 4
  pub guaranteed : q.guaranteed ≤ 4

pub record Writable (g : Game) : Type 0 where
  pub inputs : g.input.states ≤ capacity
  pub outputs : g.output.states ≤ capacity
  pub k : g.k ≤ 8
  pub sets : (r : ℕ) → r < g.k → Few (requirement_at g r)
