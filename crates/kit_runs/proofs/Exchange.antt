-- The kit's table does what it is for, where the controller's table wins.
--
--   come_kit           : what the kit comes to, the controller comes to
--   answered           : so every allowed command is answered
--   answered_all       : and a sequence of commands that ends is answered, command by command
--   At, run, run_played : a sequence of commands that never ends is answered for ever
--   kit_meets          : and along what it makes, recurring modes meet every requirement
--   kit_exchanged      : the theorem
use Prim.Native.Nat.{ℕ, zero, suc, ◌+◌}
use native.Mathlib.Numerals.{add-one}
use mathlib.Core.Path.{◌≡◌, ◌∙◌, ap, subst, subst⁻¹}
use mathlib.Core.Bool.{true}
use mathlib.Core.List.{List, [], ◌∷◌, Memᴰ}
use Rattle.finite.proofs.Truth.{and_left, and_right}
use Rattle.graphs.specs.Walk.{Walk, stay, step}
use Rattle.arena.specs.Arena.{Requirement, arena_of}
use Rattle.arena.specs.Play.{Configuration, Reachable}
use Rattle.arena.specs.Win.{ControllerWins}
use Rattle.arena.proofs.Bounds.{bounded_arena_of}
use Rattle.play.specs.Play.{requirements_of, separated_of}
use Rattle.demands.specs.Demands.{play_of, controller_of}
use Rattle.endless.specs.Endless.{Endless, RecurringMeet}
use Rattle.endless.proofs.Endless.{endless_meets}
use Rattle.kit_drives.specs.declared.Kit.{Kit}
use Rattle.kit_drives.specs.Drive.{next_mode, allows, game_from}
use Rattle.kit_drives.proofs.Acceptance.{Fitting}
use Rattle.kit_runs.specs.Exchange.{starts_in, KitFirst, KitTurn, KitMove, allows_all, Answered, done, on, mode_at, Played, Exchanged}
use Rattle.kit_runs.proofs.Turns.{Reads, Come, step_at, turn_kit, turn_controller, onward, first_controller, first_kit}

module _ (k : Kit) (F : Fitting k) (l t : List ℕ) (R : Reads k l t) (W : ControllerWins (play_of (game_from k)) (controller_of (game_from k) l)) where
  begun : (x : Configuration) → KitFirst k t x → Come k F l t R W x
  begun x f = record { origin = x; first = first_controller k F l t R W x f; walk = stay }

  along : (x y : Configuration) → Come k F l t R W x → Walk (KitMove k t) x y → Come k F l t R W y
  along x y r stay = r
  along x y r (step {b = z} m w) = along z y (onward k F l t R W x z m.command r m.turn) w

  come_kit : (x : Configuration) → Reachable (KitFirst k t) (KitMove k t) x → Come k F l t R W x
  come_kit x r = along r.origin x (begun r.origin r.first) r.walk

  answered : (x : Configuration) → Come k F l t R W x → (u : ℕ) → allows k.old x.input u ≡ true → (y : Configuration) × KitTurn k t u x y
  answered x r u a =
      let s = step_at k F l t R W x r u a in
      (record { input = next_mode k.old x.input u; output = s.output; memory = s.memory }, turn_kit k F l t R W x u a s)

  answered_all : (x : Configuration) → Come k F l t R W x → (us : List ℕ) → allows_all k.old x.input us ≡ true → Answered k t x us
  unfolding allows_all
  answered_all x r [] a = done
  answered_all x r (u ∷ us) a =
      let v = answered x r u (and_left (allows k.old x.input u) (allows_all k.old (next_mode k.old x.input u) us) a) in
      on v.1 (answered_all v.0 (onward k F l t R W x v.0 u r v.1) us
      (subst⁻¹ (λ (m : ℕ). allows_all k.old m us ≡ true) v.1.input
      (and_right (allows k.old x.input u) (allows_all k.old (next_mode k.old x.input u) us) a)))

  listed : (i : ℕ) → starts_in k.old i ≡ true → (us : List ℕ) → allows_all k.old i us ≡ true
      → (x : Configuration) × KitFirst k t x × (x.input ≡ i) × Answered k t x us
  listed i b us a =
      let v = first_kit k F l t R W i b in
      (v.0, v.1, v.2, answered_all v.0 (begun v.0 v.1) us (subst⁻¹ (λ (m : ℕ). allows_all k.old m us ≡ true) v.2 a))

  -- a sequence of commands that never ends, from mode i on
  module _ (i : ℕ) (b : starts_in k.old i ≡ true) (us : ℕ → ℕ) (a : (n : ℕ) → allows k.old (mode_at k.old i us n) (us n) ≡ true) where
    record At (n : ℕ) : Type 0 where
      pub here : Configuration
      come : Come k F l t R W here
      pub mode : here.input ≡ mode_at k.old i us n

    allowed_at : (n : ℕ) (p : At n) → allows k.old p.here.input (us n) ≡ true
    allowed_at n p = ap (λ (m : ℕ). allows k.old m (us n)) p.mode ∙ a n

    next : (n : ℕ) → At n → At (suc n)
    unfolding mode_at
    next n p =
        let v = answered p.here p.come (us n) (allowed_at n p) in record {
          here = v.0;
          come = onward k F l t R W p.here v.0 (us n) p.come v.1;
          mode = v.1.input ∙ ap (λ (m : ℕ). next_mode k.old m (us n)) p.mode;
        }

    run : (n : ℕ) → At n
    unfolding mode_at
    run zero =
        let v = first_kit k F l t R W i b in
        record { here = v.0; come = begun v.0 v.1; mode = v.2 }
    run (suc n) = next n (run n)

    run_played : Played k t i us (λ n. (run n).here)
    unfolding run next answered mode_at
    run_played = record {
      first = (first_kit k F l t R W i b).1;
      begins = (first_kit k F l t R W i b).2;
      turn = λ n. rw add-one (answered (run n).here (run n).come (us n) (allowed_at n (run n))).1;
    }

  come_along : (f : ℕ → Configuration) → Endless (KitFirst k t) (KitMove k t) f → (n : ℕ) → Come k F l t R W (f n)
  come_along f E zero = begun (f 0) E.first
  come_along f E (suc n) =
      subst (λ (m : ℕ). Come k F l t R W (f m)) (add-one n)
      (onward k F l t R W (f n) (f (n + 1)) (E.turn n).command (come_along f E n) (E.turn n).turn)

  kit_meets : (f : ℕ → Configuration) → Endless (KitFirst k t) (KitMove k t) f → (q : Requirement) → Memᴰ q (requirements_of (game_from k))
      → RecurringMeet q f
  unfolding play_of arena_of separated_of
  kit_meets f E q h =
      endless_meets (play_of (game_from k)) (bounded_arena_of (separated_of (game_from k))) (controller_of (game_from k) l) W f
      (record {
        first = first_controller k F l t R W (f 0) E.first;
        turn = λ n. turn_controller k F l t R W (f n) (f (n + 1)) (E.turn n).command (come_along f E n) (E.turn n).turn;
      })
      q h

  pub kit_exchanged : Exchanged k t
  kit_exchanged = record {
    starts = first_kit k F l t R W;
    answers = λ x r u a. answered x (come_kit x r) u a;
    lists = listed;
    plays = λ i b us a. (λ n. (run i b us a n).here, run_played i b us a);
    meets = kit_meets;
  }
