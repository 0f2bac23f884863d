-- From the solver's answer to the kit's.
--
--   game_accepted, words_of, length_of_lem, counters_of    : the game is the kit's
--   front_in, front_long    : the controller's table is a part of its room
--   scratch_ready           : scratch has a word for each old mode
--   ready                   : it is what the writing of the kit's table asks for
--   done_system, done_environment, done_refused    : the kit's answer
use Prim.Native.Nat.{ℕ, ◌≤◌}
use mathlib.Core.Path.{◌≡◌, sym, ◌∙◌, ap, subst}
use mathlib.Core.List.{List, ◌++◌}
use native.Mathlib.Omega.{arith}
use lib.ListN.{length, take, drop, length-append}
use Rattle.game.specs.declared.Game.{Game}
use Rattle.game.specs.Acceptance.{accepted, acceptance}
use Rattle.play.specs.Play.{separated_of}
use Rattle.theory.specs.Entries.{controller_counters, controller_entries}
use Rattle.scratch.specs.Scratch.{scratch_length}
use Rattle.scratch_clearing.specs.Clearing.{cleared}
use Rattle.solver.specs.Verdict.{Verdict}
use Rattle.solver.specs.declared.Winner.TheVariants.{System, Environment}
use Rattle.solver.specs.Promise.{controller_length, controller_after, Solved}
use Rattle.kit_drives.specs.declared.Kit.{Kit}
use Rattle.kit_drives.specs.Drive.{game_from}
use Rattle.kit_drives.specs.Acceptance.{kit_acceptance}
use Rattle.kit_drives.proofs.Acceptance.{kit_fitting}
use Rattle.kit_rows.specs.Rows.{counters, kit_length, kit_entries, KitReady}
use Rattle.kit.specs.Promise.{KitSolved}
use Rattle.kit.specs.Roomy.{Roomy}
use Rattle.kit.proofs.Answers.{system_length, handed, scratch_enough, kit_system, kit_environment, kit_refused}
use Rattle.kit.proofs.Lengths.{controller_long, kit_ready}
use Rattle.game.specs.declared.Refusal.{Refusal}
use Rattle.std.specs.declared.result.Result.TheVariants.{Ok, Err}

pub game_accepted : (k : Kit) (g : Game) → kit_acceptance k ≡ accepted → g ≡ game_from k → acceptance g ≡ accepted
game_accepted k g a q = ap acceptance q ∙ (kit_fitting k a).game

pub words_of : (k : Kit) (g : Game) (n : ℕ) → g ≡ game_from k → n ≡ scratch_length g → n ≡ scratch_length (game_from k)
words_of k g n q e = e ∙ ap (λ (x : Game). scratch_length x) q

pub length_of_lem : (k : Kit) (g : Game) (n : ℕ) → g ≡ game_from k → n ≡ length (controller_entries (separated_of g)) → n ≡ controller_length (game_from k)
length_of_lem k g n q e = e ∙ ap (λ (x : Game). length (controller_entries (separated_of x))) q ∙ controller_long k

pub counters_of : (k : Kit) (g : Game) (m : ℕ) → g ≡ game_from k → m ≡ controller_counters (separated_of g) → m ≡ counters k
unfolding counters
counters_of k g m q e = e ∙ ap (λ (x : Game). controller_counters (separated_of x)) q

module _ (k : Kit) (g : Game) (l : ℕ) (s s' c c' e e' t : List ℕ) (P : Roomy k g l (length s) (length c) (length t)) {v : Verdict}
    (S : Solved g s s' c c' e e' v) where
  of_kit : (w : Verdict) → v ≡ w → Solved (game_from k) s s' c c' e e' w
  of_kit w q = subst (Solved (game_from k) s s' c c' e e') q (subst (λ (h : Game). Solved h s s' c c' e e' v) P.game S)

  module _ {n : ℕ} (q : v ≡ Ok (System n)) where
    whole : take n c' ≡ controller_entries (separated_of (game_from k))
    whole = handed k s c e t P.accepted P.scratch P.controller P.room n s' c' e' (of_kit (Ok (System n)) q)

    pub front_long : n ≡ length (take n c')
    front_long =
        system_length k s c e t P.accepted P.scratch P.controller P.room n (of_kit (Ok (System n)) q).answer
        ∙ sym (ap length whole ∙ controller_long k)

    pub front_in : n ≤ length c'
    unfolding controller_after
    front_in =
        omega (
          arith,
          front_long,
          ap length whole,
          ap length (of_kit (Ok (System n)) q).controller ∙ length-append (controller_entries (separated_of (game_from k))) (drop n c),
        )

    pub ready : (m : ℕ) → m ≡ controller_counters (separated_of g) → KitReady k m (length (take n c')) (length t)
    ready m h =
        kit_ready k P.accepted m (counters_of k g m P.game h) (length (take n c')) (length t)
        (ap length whole ∙ controller_long k) P.room

    pub scratch_ready : k.old.modes ≤ length s'
    scratch_ready = scratch_enough k s c e t P.accepted P.scratch P.controller P.room n s' c' e' (of_kit (Ok (System n)) q)

    pub done_system : {s'' t' : List ℕ} → t' ≡ kit_entries k (take n c') ++ drop (kit_length k) t → s'' ≡ cleared k.old.modes s'
        → KitSolved k s s'' c c' e e' t t' (Ok (System l))
    done_system {s''} {t'} h w =
        subst (λ (m : ℕ). KitSolved k s s'' c c' e e' t t' (Ok (System m))) (sym P.table)
        (kit_system k s c e t P.accepted P.scratch P.controller P.room n s' s'' c' e' t' (of_kit (Ok (System n)) q) w h)

  pub done_environment : {n : ℕ} → v ≡ Ok (Environment n) → KitSolved k s s' c c' e e' t t (Ok (Environment n))
  done_environment {n} q = kit_environment k s c e t P.accepted P.scratch P.controller P.room n s' c' e' (of_kit (Ok (Environment n)) q)

  pub done_refused : {n : Refusal} → v ≡ Err n → KitSolved k s s' c c' e e' t t (Err n)
  done_refused {n} q = kit_refused k s c e t P.accepted P.scratch P.controller P.room n s' c' e' (of_kit (Err n) q)
