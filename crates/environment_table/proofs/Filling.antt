-- The whole table.
--
--   roomy_of               : what the functions that fill it ask
--   start_length           : the start's place is there
--   filled_all             : the start, the rows that need no walk and the others are the table
use Prim.Native.Nat.{ℕ, zero, suc, ◌+◌, ◌*◌, ◌/◌, ◌%◌, ◌<◌}
use native.Mathlib.Nat.{div-add-mod', div-lt_iff_lt-mul, mod-lt}
use native.Mathlib.Numerals.{one-add}
use mathlib.Core.Path.{◌≡◌, ◌∙◌, ap, subst}
use mathlib.Core.Bool.{true, false}
use mathlib.Core.List.{List, ◌++◌}
use mathlib.Core.Logic.{◌⊎◌, inl, inr}
use native.Mathlib.Omega.{arith}
use lib.ListN.{length, get_or, drop, set}
use Rattle.theory.proofs.Demands.{environment_counts}
use Rattle.finite.proofs.Truth.{decide}
use Rattle.game.specs.declared.Game.{Game}
use Rattle.game.proofs.Laws.{accepted_fits}
use Rattle.play.specs.Play.{separated_of}
use Rattle.theory.specs.Choice.{environment_start}
use Rattle.theory.specs.Entries.{entry, environment_counters, environment_entries}
use Rattle.demands.proofs.Sizes.{environment_few}
use Rattle.table_filling.specs.Grows.{Right, Grows}
use Rattle.table_filling.proofs.Grows.{grows_set, grows_more, right_set, grows_done}
use Rattle.environment_table.specs.Table.{entries_of, environment_place, Solved, Roomy, EnvironmentFilled}
use Rattle.environment_table.specs.Reading.{plain}
use Rattle.environment_table.proofs.Places.{entries_length}

module _ (g : Game) (s : List ℕ) (inner n : ℕ) (D : Solved g s inner n) where
  pub roomy_of : {M k : ℕ} → M ≡ environment_counters (separated_of g) → k ≡ n → Roomy g M k
  unfolding entries_of
  roomy_of e f = record {
    accepted = D.known.accepted;
    counters = e;
    few = omega (arith, environment_few g (accepted_fits g D.known.accepted));
    inputs = (accepted_fits g D.known.accepted).input.most;
    outputs = (accepted_fits g D.known.accepted).output.most;
    room = omega (arith, D.room);
  }

  some_entries : 0 < length (entries_of g)
  some_entries = omega (arith, entries_length g)

  pub start_length : 0 < n
  unfolding entries_of
  start_length = omega (arith, D.room, some_entries)

  -- the digits of a place past the start
  module _ (r : ℕ) (b : r < g.input.states * environment_counters (separated_of g) * g.output.states) where
    output_in : r % g.output.states < g.output.states
    output_in = mod-lt r (accepted_fits g D.known.accepted).output.some

    counter_in : r / g.output.states % environment_counters (separated_of g) < environment_counters (separated_of g)
    counter_in = mod-lt (r / g.output.states) (environment_counts (separated_of g))

    input_in : r / g.output.states / environment_counters (separated_of g) < g.input.states
    input_in =
        (div-lt_iff_lt-mul (environment_counts (separated_of g))).1
        ((div-lt_iff_lt-mul (accepted_fits g D.known.accepted).output.some).1 b)

    digits : environment_place (environment_counters (separated_of g)) g.output.states (r / g.output.states / environment_counters (separated_of g))
        (r / g.output.states % environment_counters (separated_of g)) (r % g.output.states)
        ≡ suc r
    unfolding environment_place
    digits =
        one-add ((r / g.output.states / environment_counters (separated_of g) * environment_counters (separated_of g) + r / g.output.states %
        environment_counters (separated_of g)) * g.output.states + r % g.output.states)
        ∙ ap suc
        (ap (λ (q : ℕ). q * g.output.states + r % g.output.states) (div-add-mod' (r / g.output.states) (environment_counters (separated_of g)))
        ∙ div-add-mod' r g.output.states)

  module _ (l m k : List ℕ) (e : ℕ) (long : length l ≡ n) (start : e ≡ entry (environment_start (separated_of g)))
      (P : EnvironmentFilled g (λ a h b. plain g a b ≡ true) (set l 0 e) m) (Q : EnvironmentFilled g (λ a h b. plain g a b ≡ false) m k) where
    start_at : e ≡ get_or (entries_of g) 0 0
    unfolding entries_of environment_entries
    start_at = start

    started : Grows (entries_of g) l (set l 0 e)
    started = grows_set (entries_of g) l 0 e some_entries (omega (arith, start_length)) start_at

    first_right : Right (entries_of g) k 0
    first_right =
        Q.grows.kept 0 some_entries (P.grows.kept 0 some_entries (right_set (entries_of g) l 0 e (omega (arith, start_length)) start_at))

    row_right : (r : ℕ) → r < g.input.states * environment_counters (separated_of g) * g.output.states → Right (entries_of g) k (suc r)
    row_right r b = subst (Right (entries_of g) k) (digits r b) (go (decide (plain g i o)))
      where
        i : ℕ
        i = r / g.output.states / environment_counters (separated_of g)

        h : ℕ
        h = r / g.output.states % environment_counters (separated_of g)

        o : ℕ
        o = r % g.output.states

        go : (plain g (r / g.output.states / environment_counters (separated_of g)) (r % g.output.states) ≡ true)
            ⊎ (plain g (r / g.output.states / environment_counters (separated_of g)) (r % g.output.states) ≡ false)
            → Right (entries_of g) k (environment_place (environment_counters (separated_of g)) g.output.states
            (r / g.output.states / environment_counters (separated_of g))
            (r / g.output.states % environment_counters (separated_of g)) (r % g.output.states))
        go (inl t) =
            Q.grows.kept
            (environment_place (environment_counters (separated_of g)) g.output.states i h o) (rw (digits r b) (omega (arith, entries_length g)))
            (P.rows i h o (input_in r b) (counter_in r b) (output_in r b) t)
        go (inr t) = Q.rows i h o (input_in r b) (counter_in r b) (output_in r b) t

    right : (j : ℕ) → j < length (entries_of g) → Right (entries_of g) k j
    right zero b = first_right
    right (suc r) b = row_right r (omega (arith, entries_length g))

    pub filled_all : k ≡ environment_entries (separated_of g) ++ drop (length (environment_entries (separated_of g))) l
    unfolding entries_of
    filled_all =
        grows_done (entries_of g) l k (omega (arith, D.room)) (grows_more (entries_of g) started (grows_more (entries_of g) P.grows Q.grows)) right

    pub same_long : length k ≡ length l
    same_long = Q.grows.long ∙ P.grows.long ∙ started.long
