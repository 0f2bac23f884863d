-- The numbers of answers that come after a game's acceptance.
--
--   after a n      == the number of the refusal a, or else n
use Prim.Native.Nat.{ℕ}
use mathlib.Core.Bool.{Bool, true, false}
use mathlib.Core.List.{List, [], ◌∷◌, ◌++◌, append-nil}
use mathlib.Core.Path.{◌≡◌, refl, sym, ◌∙◌, ap}
use Rattle.game.specs.declared.Game.{Game}
use Rattle.std.specs.declared.result.Result.TheVariants.{Ok, Err}
use Rattle.game.specs.declared.Refusal.{Refusal}
use Rattle.game.specs.Refusals.{number}
use Rattle.game.specs.Acceptance.{tests, first_failing, Acceptance, acceptance, acceptance_number}
use Rattle.game.specs.Numbers.{numbered, first_of, game_tests, Accepts}

abbrev pub after : Acceptance → ℕ → ℕ
after (Ok u) n = n
after (Err r) n = number r

first_after : (ts : List (Refusal × Bool)) (rest : List (ℕ × Bool)) → first_of (numbered ts ++ rest) ≡ after (first_failing ts) (first_of rest)
unfolding numbered first_of first_failing
first_after [] rest = refl
first_after ((r, true) ∷ ts) rest = first_after ts rest
first_after ((r, false) ∷ ts) rest = refl

pub game_after : (g : Game) (rest : List (ℕ × Bool)) → first_of (game_tests g ++ rest) ≡ after (acceptance g) (first_of rest)
unfolding game_tests acceptance
game_after g rest = first_after (tests g) rest

-- with nothing to try afterwards
pub number_alone : (a : Acceptance) (ts : List (ℕ × Bool)) → ((rest : List (ℕ × Bool)) → first_of (ts ++ rest) ≡ after a (first_of rest))
    → acceptance_number a ≡ first_of ts
unfolding first_of
number_alone (Ok u) ts h = sym (sym (ap first_of (append-nil ts)) ∙ h [])
number_alone (Err r) ts h = sym (sym (ap first_of (append-nil ts)) ∙ h [])

pub accepts : (g : Game) {a : Acceptance} → a ≡ acceptance g → Accepts g a
accepts g h = record { answer = h; number = ap acceptance_number h ∙ number_alone (acceptance g) (game_tests g) (game_after g) }
