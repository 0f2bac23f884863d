-- What the call answers, case by case.
--
--   faulty, outside_input, outside_output, short    : the refusals
--   explained                                       : the answer to a position of an accepted game
use Prim.Native.Nat.{ℕ, zero, suc, ◌≤◌, ◌<◌}
use mathlib.Core.Path.{◌≡◌, refl, sym, ◌∙◌, ap}
use mathlib.Core.Bool.{Bool, true, false}
use mathlib.Core.List.{List, [], ◌∷◌}
use native.Mathlib.Omega.{arith}
use lib.Dec.{ltb, leb}
use lib.ListN.{length}
use borrow.Author.Tests.{le-leb, lt-leb, lt-ltb, le-ltb}
use Rattle.std.specs.Prelude.{Result}
use Rattle.std.specs.declared.result.Result.TheVariants.{Ok, Err}
use Rattle.finite.proofs.Truth.{and_intro, and_false_left, and_false_right}
use Rattle.game.specs.declared.Game.{Game}
use Rattle.game.specs.declared.InState.{InState}
use Rattle.game.specs.declared.OutState.{OutState}
use Rattle.game.specs.declared.Refusal.{Refusal}
use Rattle.game.specs.declared.Refusal.TheVariants.{ShortScratch, NoPosition}
use Rattle.game.specs.Refusals.{number}
use Rattle.game.specs.Acceptance.{Acceptance, accepted, acceptance}
use Rattle.game.specs.Numbers.{first_of}
use Rattle.game.proofs.Numbers.{after, game_after}
use Rattle.game.proofs.Refusals.{refused_code}
use Rattle.play.specs.Play.{graph_of, separated_of}
use Rattle.scratch_clearing.specs.Clearing.{cleared}
use Rattle.scratch.specs.Scratch.{scratch_length}
use Rattle.grounds.specs.Ground.{Ground, ground}
use Rattle.grounds.proofs.Explained.{ground_explains}
use Rattle.ground_search.specs.declared.Explanation.{Explanation}
use Rattle.ground_search.specs.Told.{told}
use Rattle.explain.specs.Explain.{
  in_game,
  explain_room,
  explain_position,
  explain_answer,
  explain_tests,
  explain_number,
  scratch_after,
  Explained,
}

explain_number_lem : (g : Game) (s : ℕ) (i : InState) (o : OutState) → explain_number (explain_answer g s i o) ≡ first_of (explain_tests g s i o)
unfolding explain_tests explain_answer explain_position explain_room first_of
explain_number_lem g s i o = go (acceptance g) ∙ sym (game_after g ((25, in_game g i o) ∷ (8, leb (scratch_length g) s) ∷ []))
  where
    x : Ground
    x = ground (separated_of g) i.0 o.0

    room : (b : Bool) → explain_number (elim b as (λ z. Result Explanation Refusal) [ true ↦ Ok (told x) | false ↦ Err ShortScratch ]) ≡ first_of ((8, b) ∷ [])
    room true = refl
    room false = refl

    here : (b : Bool)
        → explain_number (elim b as (λ z. Result Explanation Refusal) [ true ↦ explain_room g s i o | false ↦ Err NoPosition ])
        ≡ first_of ((25, b) ∷ (8, leb (scratch_length g) s) ∷ [])
    here true = room (leb (scratch_length g) s)
    here false = refl

    go : (a : Acceptance)
        → explain_number (elim a as (λ z. Result Explanation Refusal) [ Ok u ↦ explain_position g s i o | Err r ↦ Err r ])
        ≡ after a (first_of ((25, in_game g i o) ∷ (8, leb (scratch_length g) s) ∷ []))
    go (Ok u) = here (in_game g i o)
    go (Err r) = refl

-- ---- refusals

kept : (g : Game) (n : ℕ) (s : List ℕ) → 1 ≤ n → s ≡ scratch_after g n s
unfolding scratch_after
kept g zero s b = absurd (omega arith)
kept g (suc n) s b = refl

module _ (g : Game) (s : List ℕ) (i : InState) (o : OutState) where
  refused : (r : Refusal) → 1 ≤ number r → Err r ≡ explain_answer g (length s) i o → Explained g s s i o (Err r)
  refused r b e = record {
    answer = e;
    number = ap explain_number e ∙ explain_number_lem g (length s) i o;
    scratch = kept g (number r) s b;
    grounded = λ z. absurd (omega (arith, z));
  }

  pub faulty : (r : Refusal) → acceptance g ≡ Err r → Explained g s s i o (Err r)
  unfolding explain_answer
  faulty r e = refused r (refused_code g r e).0 (rw (e, explain_answer) refl)

  module _ (a : acceptance g ≡ accepted) where
    outside : in_game g i o ≡ false → Explained g s s i o (Err NoPosition)
    unfolding explain_answer explain_position
    outside e = refused NoPosition (omega arith) (rw (a, explain_answer) (rw (e, explain_position) refl))

    pub outside_input : g.input.states ≤ i.0 → Explained g s s i o (Err NoPosition)
    unfolding in_game
    outside_input b = outside (and_false_left (ltb o.0 g.output.states) (le-ltb i.0 g.input.states b))

    pub outside_output : g.output.states ≤ o.0 → Explained g s s i o (Err NoPosition)
    unfolding in_game
    outside_output b = outside (and_false_right (ltb i.0 g.input.states) (le-ltb o.0 g.output.states b))

    module _ (bi : i.0 < g.input.states) (bo : o.0 < g.output.states) where
      inside : in_game g i o ≡ true
      unfolding in_game
      inside = and_intro (lt-ltb i.0 g.input.states bi) (lt-ltb o.0 g.output.states bo)

      pub short : length s < scratch_length g → Explained g s s i o (Err ShortScratch)
      unfolding explain_answer explain_position explain_room
      short b =
          refused ShortScratch (omega arith)
          (rw (a, explain_answer) (rw (inside, explain_position) (rw (lt-leb (scratch_length g) (length s) b, explain_room) refl)))

      pub explained : {s' : List ℕ} {r : Result Explanation Refusal} → scratch_length g ≤ length s → s' ≡ cleared (scratch_length g) s
          → r ≡ Ok (told (ground (separated_of g) i.0 o.0)) → Explained g s s' i o r
      unfolding explain_answer explain_position explain_room scratch_after separated_of graph_of
      explained {s'} {r} b e h = record {
        answer = answer;
        number = ap explain_number answer ∙ explain_number_lem g (length s) i o;
        scratch = e ∙ ap (λ (n : ℕ). scratch_after g n s) (sym (ap explain_number h));
        grounded = λ z. record { ground = ground (separated_of g) i.0 o.0; tells = h; explains = ground_explains (separated_of g) i.0 o.0 bi bo };
      }
        where
          answer : r ≡ explain_answer g (length s) i o
          answer = h ∙ rw (a, explain_answer) (rw (inside, explain_position) (rw (le-leb (scratch_length g) (length s) b, explain_room) refl))
