-- The table handed over as a part of its buffer.
--
--   side v b                            == whether the system wins
--   chosen v c e                        == the buffer of the side that wins
--   front g v                           == its table
--   Beaten g v t                        == demand 3 for the part t
--   Handed g v s s' n b b' c e p t      == the answer v handed over as the part t of the buffer p
use Rattle.std.specs.Prelude.{ℕ, ◌≡◌, Bool, true, false, List, []}
use Rattle.arena.specs.Win.{system, environment, DemandThree}
use Rattle.game.specs.declared.Game.{Game}
use Rattle.play.specs.Play.{separated_of}
use Rattle.theory.specs.Entries.{controller_entries, environment_entries}
use Rattle.demands.specs.Demands.{play_of, controller_of, environment_of}
use Rattle.solver.specs.Verdict.{Verdict}
use Rattle.solver.specs.declared.Winner.TheVariants.{System, Environment}
use Rattle.solver.specs.Promise.{verdict_number, verdict_scratch}
use Rattle.std.specs.declared.result.Result.TheVariants.{Ok, Err}

-- whether the system wins; a refusal leaves what was there
unfoldable pub side : Verdict → Bool → Bool
side (Ok (System n)) b = true
side (Ok (Environment n)) b = false
side (Err n) b = b

-- the buffer of the side that wins; a refusal hands back an empty part of the controller's
unfoldable pub chosen : {A : Type 0} → Verdict → A → A → A
chosen (Ok (System n)) c e = c
chosen (Ok (Environment n)) c e = e
chosen (Err n) c e = c

-- "the answer is the filled front of one of two lent rooms" (SPEC 7.4)
unfoldable pub front : Game → Verdict → List ℕ
front g (Ok (System n)) = controller_entries (separated_of g)
front g (Ok (Environment n)) = environment_entries (separated_of g)
front g (Err n) = []

-- Demand 3 for the part handed over.
unfoldable pub Beaten : Game → Verdict → List ℕ → Type 0
Beaten g (Ok (System n)) t = DemandThree (play_of g) (system (controller_of g t))
Beaten g (Ok (Environment n)) t = DemandThree (play_of g) (environment (environment_of g t))
Beaten g (Err n) t = Unit {0}

-- the answer v, handed over as the part t of the buffer p, with the refusal's number n and the side b (SPEC 7.4)
pub record Handed (g : Game) (v : Verdict) (s s' : List ℕ) (n : ℕ) (b b' : Bool) (c e p : ℕ × ℕ) (t : List ℕ) : Type 0 where
  pub scratch : s' ≡ verdict_scratch g v s
  pub refusal : n ≡ verdict_number v
  pub system : b' ≡ side v b
  pub buffer : p ≡ chosen v c e
  pub part : t ≡ front g v
  pub demand : Beaten g v t
