-- What a kit's table does, told of modes and commands alone.
--
--   starts_in d i           == i is an initial mode of the drive
--   reply e                == what a row's entry says: none, or a counter and a command of the new drive
--   KitFirst k l x         == an initial old mode with what its start in the table l gives
--   KitTurn k l u x y      == command u of the old drive, and the command with which the table l answers it, make y from x
--   KitMove k l x y        == some command makes y from x
--   allows_all d m us       == the drive allows the commands us one after the other, beginning in mode m
--   Answered k l x us      == the table l answers the commands us one after the other, beginning in x
--   mode_at d i us n        == the mode of a drive that begins in mode i, after the first n commands of us
--   Played k l i us f      == f is what the drives do where the old one begins in mode i and gets the commands us
--   Exchanged k l          == what the kit's table l is for
use Rattle.std.specs.Prelude.{ℕ, zero, suc, ◌+◌, ◌/◌, ◌%◌, ◌≡◌, Bool, true, false, ◌&&◌, eqb, ltb, get_or}
use mathlib.Core.List.{List, [], ◌∷◌, Memᴰ}
use Rattle.sets.specs.Words.{bits_of}
use Rattle.bits.specs.Member.{has}
use Rattle.arena.specs.Arena.{Requirement}
use Rattle.arena.specs.Table.{Answer, none, gives, Names}
use Rattle.arena.specs.Play.{Configuration, Reachable}
use Rattle.play.specs.Play.{requirements_of}
use Rattle.theory.specs.Entries.{none_entry, answer}
use Rattle.endless.specs.Endless.{Endless, RecurringMeet}
use Rattle.kit_drives.specs.declared.Drive.{Drive}
use Rattle.kit_drives.specs.declared.Kit.{Kit}
use Rattle.kit_drives.specs.Drive.{next_mode, allows, game_from}
use Rattle.kit_rows.specs.Rows.{counters, kit_place}

unfoldable pub starts_in : Drive → ℕ → Bool
starts_in d i = ltb i d.modes && has (bits_of d.initial) i

-- "the lowest command .. + 16 × next counter, or 65,535" (SPEC 13.2)
unfoldable pub reply : ℕ → Answer
reply e = elim (eqb e none_entry) [ true ↦ none | false ↦ gives (e / 16) (e % 16) ]

-- the modes of both drives are the input and the output of a configuration, the counter is its memory
pub record KitFirst (k : Kit) (l : List ℕ) (x : Configuration) : Type 0 where
  pub initial : starts_in k.old x.input ≡ true
  pub start : Names (counters k) (starts_in k.new) (answer (get_or l x.input none_entry)) x.memory x.output

pub record KitTurn (k : Kit) (l : List ℕ) (u : ℕ) (x y : Configuration) : Type 0 where
  pub allowed : allows k.old x.input u ≡ true
  pub input : y.input ≡ next_mode k.old x.input u
  pub command : ℕ
  pub row : Names (counters k) (allows k.new x.output) (reply (get_or l (kit_place k x.output x.memory x.input u) none_entry)) y.memory command
  pub output : y.output ≡ next_mode k.new x.output command

pub record KitMove (k : Kit) (l : List ℕ) (x y : Configuration) : Type 0 where
  pub command : ℕ
  pub turn : KitTurn k l command x y

unfoldable pub allows_all : Drive → ℕ → List ℕ → Bool
allows_all d m [] = true
allows_all d m (u ∷ us) = allows d m u && allows_all d (next_mode d m u) us

pub data Answered (k : Kit) (l : List ℕ) : Configuration → List ℕ → Type 0 where
  done : {x : Configuration} → Answered k l x []
  on : {x y : Configuration} {u : ℕ} {us : List ℕ} → KitTurn k l u x y → Answered k l y us → Answered k l x (u ∷ us)

unfoldable pub mode_at : Drive → ℕ → (ℕ → ℕ) → ℕ → ℕ
mode_at d i us zero = i
mode_at d i us (suc n) = next_mode d (mode_at d i us n) (us n)

pub record Played (k : Kit) (l : List ℕ) (i : ℕ) (us : ℕ → ℕ) (f : ℕ → Configuration) : Type 0 where
  pub first : KitFirst k l (f 0)
  pub begins : (f 0).input ≡ i
  pub turn : (n : ℕ) → KitTurn k l (us n) (f n) (f (n + 1))

-- SPEC 13.3
pub record Exchanged (k : Kit) (l : List ℕ) : Type 0 where
  -- "any sequence of commands the old drive allows is answered by commands the new drive allows": each initial mode of the old drive has a start,
  -- and in every configuration that is come to each command that the old drive allows there has an answer; (SPEC 13.3)
  pub starts : (i : ℕ) → starts_in k.old i ≡ true → (x : Configuration) × KitFirst k l x × (x.input ≡ i)
  pub answers : (x : Configuration) → Reachable (KitFirst k l) (KitMove k l) x → (u : ℕ) → allows k.old x.input u ≡ true
      → (y : Configuration) × KitTurn k l u x y
  -- so a sequence that ends is answered, command by command,
  pub lists : (i : ℕ) → starts_in k.old i ≡ true → (us : List ℕ) → allows_all k.old i us ≡ true
      → (x : Configuration) × KitFirst k l x × (x.input ≡ i) × Answered k l x us
  -- and one that never ends is answered for ever,
  pub plays : (i : ℕ) → starts_in k.old i ≡ true → (us : ℕ → ℕ) → ((n : ℕ) → allows k.old (mode_at k.old i us n) (us n) ≡ true)
      → (f : ℕ → Configuration) × Played k l i us f
  -- "and where the sequence never ends, the recurring modes meet every requirement" (SPEC 3.7, 13.3)
  pub meets : (f : ℕ → Configuration) → Endless (KitFirst k l) (KitMove k l) f → (q : Requirement) → Memᴰ q (requirements_of (game_from k))
      → RecurringMeet q f
