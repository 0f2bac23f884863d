-- Both closures laid in scratch: the first state of the filling; and what lies past the sets that are kept, in words.
use Prim.Native.Nat.{ℕ, ◌^◌, ◌<◌}
use mathlib.Core.Path.{◌≡◌, sym, ◌∙◌}
use mathlib.Core.List.{List}
use lib.Dec.{ltb}
use lib.ListN.{get_or}
use borrow.Author.Tests.{lt-ltb, ltb-true}
use Rattle.finite.proofs.Truth.{clash}
use Rattle.bits.specs.Member.{has}
use Rattle.sets.proofs.Rows.{rest_words}
use Rattle.graphs.proofs.Closure.{reaches_from}
use Rattle.game.specs.declared.Game.{Game}
use Rattle.game.proofs.Laws.{Fits}
use Rattle.play.specs.Play.{graph_of}
use Rattle.scratch.specs.declared.Nontrivial.{Nontrivial}
use Rattle.scratch.specs.Scratch.{scratch_sets, Kept}
use Rattle.scratch.specs.Stored.{NontrivialOf, Laid}
use Rattle.region_rows.specs.Fill.{Filling, PastKept}

-- no row is asked for yet
pub filling_first : {g : Game} {s : List ℕ} → Fits g → Laid g s → (x : Nontrivial) → NontrivialOf g x → (left : ℕ)
    → ((j : ℕ) → has left j ≡ ltb j g.input.states) → Filling g x s left
unfolding graph_of
filling_first {g} F L x N left f = record {
  fits = F;
  laid = L;
  nontrivial = N;
  inside = record { below = λ j h. ltb-true j g.input.states (sym (f j) ∙ h) };
  stands = λ j b h. clash (f j ∙ lt-ltb j g.input.states b) h;
  closed = λ j t h r. clash (f j ∙ lt-ltb j g.input.states (reaches_from (graph_of g.input) j t r)) h;
}

pub kept_words : {g : Game} {s t u : List ℕ} → ((i : ℕ) → get_or t i 0 < 2 ^ 64) → ((i : ℕ) → get_or u i 0 < 2 ^ 64) → Kept g s t → PastKept g t u → Kept g s u
kept_words {g} {s} {t} {u} a b k p = record {
  long = p.long ∙ k.long;
  rest = rest_words (scratch_sets g.input.states g.output.states) u t b a p.long p.rest ∙ k.rest;
}
