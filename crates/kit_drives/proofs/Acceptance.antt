-- Laws of a kit's acceptance.
--
--   refused_1, refused_17, refused_18, kit_game    : the tests in order
--   entry-..                                       : one place
--   kit_fitting                                    : what holds where the kit is accepted
--   kit_small, drive_named                         : small counts, and commands that lead to modes
--   kit_after_lem, kit_accepts                         : the numbers
use Prim.Native.Nat.{ℕ, ◌≤◌, ◌<◌}
use mathlib.Core.Path.{◌≡◌, refl, sym, ◌∙◌, ap}
use mathlib.Core.Bool.{Bool, true, false, ◌&&◌, ◌||◌}
use mathlib.Core.List.{List, ◌∷◌, ◌++◌}
use mathlib.Core.Logic.{◌≢◌, inl, inr}
use native.Mathlib.Omega.{arith}
use lib.Dec.{eqb, ltb, leb}
use borrow.Author.Tests.{eq-eqb, ne_eqb, lt-ltb, le-ltb, eqb-true, ltb-true, leb-true}
use Rattle.finite.specs.Bounded.{all}
use Rattle.finite.proofs.Truth.{and_left, and_right, or_left, or_cases}
use Rattle.finite.proofs.Bounded.{all_elim}
use Rattle.finite.proofs.Loops.{and_stop, and_next}
use Rattle.sets.specs.Words.{capacity}
use Rattle.game.specs.Acceptance.{accepted, Acceptance}
use Rattle.game.specs.Acceptance.{acceptance, acceptance_number}
use Rattle.game.specs.Numbers.{first_of, game_tests}
use Rattle.game.proofs.Numbers.{after, game_after, number_alone}
use Rattle.kit_drives.specs.declared.Drive.{Drive}
use Rattle.kit_drives.specs.declared.Kit.{Kit}
use Rattle.kit_drives.specs.Drive.{next_in, next_mode, game_from, Small}
use Rattle.kit_drives.specs.Acceptance.{modes_fit, commands_fit, entry_fits, entries_fit, both_drives, in_order, kit_acceptance, kit_tests, KitAccepts}
use Rattle.std.specs.declared.result.Result.TheVariants.{Err}
use Rattle.game.specs.declared.Refusal.TheVariants.{BadNextMode, CommandsOutOfRange, CountOutOfRange}

refused_at_1 : (b c e : Bool) (a : Acceptance) → b ≡ false → Err CountOutOfRange ≡ in_order b c e a
unfolding in_order
refused_at_1 b c e a p = rw p refl

refused_at_17 : (b c e : Bool) (a : Acceptance) → b ≡ true → c ≡ false → Err CommandsOutOfRange ≡ in_order b c e a
unfolding in_order
refused_at_17 b c e a p q = rw (p, q) refl

refused_at_18 : (b c e : Bool) (a : Acceptance) → b ≡ true → c ≡ true → e ≡ false → Err BadNextMode ≡ in_order b c e a
unfolding in_order
refused_at_18 b c e a p q r = rw (p, q, r) refl

past : (b c e : Bool) (a : Acceptance) → b ≡ true → c ≡ true → e ≡ true → a ≡ in_order b c e a
unfolding in_order
past b c e a p q r = rw (p, q, r) refl

module _ (k : Kit) where
  pub refused_1 : both_drives modes_fit k ≡ false → Err CountOutOfRange ≡ kit_acceptance k
  unfolding kit_acceptance
  refused_1 = refused_at_1 (both_drives modes_fit k) (both_drives commands_fit k) (both_drives entries_fit k) (acceptance (game_from k))

  pub refused_17 : both_drives modes_fit k ≡ true → both_drives commands_fit k ≡ false → Err CommandsOutOfRange ≡ kit_acceptance k
  unfolding kit_acceptance
  refused_17 = refused_at_17 (both_drives modes_fit k) (both_drives commands_fit k) (both_drives entries_fit k) (acceptance (game_from k))

  pub refused_18 : both_drives modes_fit k ≡ true → both_drives commands_fit k ≡ true → both_drives entries_fit k ≡ false → Err BadNextMode ≡ kit_acceptance k
  unfolding kit_acceptance
  refused_18 = refused_at_18 (both_drives modes_fit k) (both_drives commands_fit k) (both_drives entries_fit k) (acceptance (game_from k))

  pub kit_game : both_drives modes_fit k ≡ true → both_drives commands_fit k ≡ true → both_drives entries_fit k ≡ true → acceptance (game_from k) ≡ kit_acceptance k
  unfolding kit_acceptance
  kit_game = past (both_drives modes_fit k) (both_drives commands_fit k) (both_drives entries_fit k) (acceptance (game_from k))

small : (d : Drive) → modes_fit d ≡ true → commands_fit d ≡ true → Small d
unfolding modes_fit commands_fit
small d a b = record {
  modes = leb-true d.modes capacity (and_right (leb 1 d.modes) (leb d.modes capacity) a);
  commands = leb-true d.commands 16 (and_right (leb 1 d.commands) (leb d.commands 16) b);
}

pub kit_small : (k : Kit) → both_drives modes_fit k ≡ true → both_drives commands_fit k ≡ true → Small k.old × Small k.new
kit_small k a b = (
  small k.old (and_left (modes_fit k.old) (modes_fit k.new) a) (and_left (commands_fit k.old) (commands_fit k.new) b),
  small k.new (and_right (modes_fit k.old) (modes_fit k.new) a) (and_right (commands_fit k.old) (commands_fit k.new) b),
)

-- one place, t being what it holds
module _ (n : List ℕ) (M C m u t : ℕ) (e : t ≡ next_in n m u) where
  pub entry_barred : t ≡ 255 → true ≡ entry_fits n M C m u
  unfolding entry_fits
  entry_barred b = sym (or_left (ltb m M && (ltb u C && ltb (next_in n m u) M)) (eq-eqb (next_in n m u) 255 (sym e ∙ b)))

  named : t ≢ 255 → {b : Bool} → b ≡ (ltb m M && (ltb u C && ltb (next_in n m u) M)) → b ≡ entry_fits n M C m u
  unfolding entry_fits
  named b f = f ∙ sym (ap (λ (x : Bool). x || (ltb m M && (ltb u C && ltb (next_in n m u) M))) (ne_eqb (next_in n m u) 255 (λ h. b (e ∙ h))))

  pub entry_past_modes : t ≢ 255 → M ≤ m → false ≡ entry_fits n M C m u
  entry_past_modes b l = named b (and_stop (ltb u C && ltb (next_in n m u) M) (le-ltb m M l))

  pub entry_past_commands : t ≢ 255 → m < M → C ≤ u → false ≡ entry_fits n M C m u
  entry_past_commands b l k = named b (and_next (lt-ltb m M l) (and_stop (ltb (next_in n m u) M) (le-ltb u C k)))

  pub entry_names : t ≢ 255 → m < M → u < C → ltb t M ≡ entry_fits n M C m u
  entry_names b l k = named b (and_next (lt-ltb m M l) (and_next (lt-ltb u C k) (ap (λ (x : ℕ). ltb x M) e)))

-- where all places fit, a command that is not barred leads to a mode
pub drive_named : (d : Drive) → Small d → entries_fit d ≡ true → (m u : ℕ) → m < d.modes → u < d.commands → next_mode d m u ≢ 255 → next_mode d m u < d.modes
unfolding entries_fit entry_fits
drive_named d S e m u a b n =
    let f = all_elim 16 (entry_fits d.next d.modes d.commands m)
    (all_elim capacity (λ k. all 16 (entry_fits d.next d.modes d.commands k)) e m (omega (arith, S.modes))) u (omega (arith, S.commands)) in
    elim (or_cases (eqb (next_mode d m u) 255) (ltb m d.modes && (ltb u d.commands && ltb (next_mode d m u) d.modes)) f) [
      | inl h ↦ absurd (n (eqb-true (next_mode d m u) 255 h))
      | inr h ↦ ltb-true (next_mode d m u) d.modes
          (and_right (ltb u d.commands) (ltb (next_mode d m u) d.modes)
          (and_right (ltb m d.modes) (ltb u d.commands && ltb (next_mode d m u) d.modes) h))
    ]

-- what an accepted kit has
pub record Fitting (k : Kit) : Type 0 where
  pub modes : both_drives modes_fit k ≡ true
  pub commands : both_drives commands_fit k ≡ true
  pub entries : both_drives entries_fit k ≡ true
  pub game : acceptance (game_from k) ≡ accepted

passes : (b c e : Bool) (a : Acceptance) → in_order b c e a ≡ accepted → (b ≡ true) × (c ≡ true) × (e ≡ true) × (a ≡ accepted)
unfolding in_order
passes true true true a h = (refl, refl, refl, h)
passes true true false a h = absurd (let z : ◌≡◌ {A = ℕ} 0 1 = cc in omega arith)
passes true false e a h = absurd (let z : ◌≡◌ {A = ℕ} 0 1 = cc in omega arith)
passes false c e a h = absurd (let z : ◌≡◌ {A = ℕ} 0 1 = cc in omega arith)

pub kit_fitting : (k : Kit) → kit_acceptance k ≡ accepted → Fitting k
unfolding kit_acceptance
kit_fitting k h =
    let v = passes (both_drives modes_fit k) (both_drives commands_fit k) (both_drives entries_fit k) (acceptance (game_from k)) h in
    record { modes = v.0; commands = v.1; entries = v.2; game = v.3 }

in_order_after : (b c e : Bool) (a : Acceptance) (ts rest : List (ℕ × Bool)) → first_of (ts ++ rest) ≡ after a (first_of rest)
    → first_of (((1, b) ∷ (17, c) ∷ (18, e) ∷ ts) ++ rest) ≡ after (in_order b c e a) (first_of rest)
unfolding in_order first_of
in_order_after false c e a ts rest h = refl
in_order_after true false e a ts rest h = refl
in_order_after true true false a ts rest h = refl
in_order_after true true true a ts rest h = h

pub kit_after_lem : (k : Kit) (rest : List (ℕ × Bool)) → first_of (kit_tests k ++ rest) ≡ after (kit_acceptance k) (first_of rest)
unfolding kit_tests kit_acceptance
kit_after_lem k rest =
    in_order_after (both_drives modes_fit k) (both_drives commands_fit k) (both_drives entries_fit k) (acceptance (game_from k)) (game_tests (game_from k)) rest
    (game_after (game_from k) rest)

pub kit_accepts : (k : Kit) {a : Acceptance} → a ≡ kit_acceptance k → KitAccepts k a
kit_accepts k h = record { answer = h; number = ap acceptance_number h ∙ number_alone (kit_acceptance k) (kit_tests k) (kit_after_lem k) }
