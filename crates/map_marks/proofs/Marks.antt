-- What a map says: the bit of a position tells whether it is won.
use Prim.Native.Nat.{ℕ, ◌<◌}
use mathlib.Core.Path.{◌≡◌, sym, ◌∙◌, ap}
use mathlib.Core.Bool.{true}
use mathlib.Core.List.{List}
use mathlib.Core.Logic.{◌↔◌}
use lib.ListN.{get_or}
use Rattle.finite.proofs.Front.{front_at}
use Rattle.bits.specs.Member.{has}
use Rattle.bits.proofs.Membership.{has_pack_below}
use Rattle.sets.specs.Words.{sets_in}
use Rattle.arena.specs.Win.{Won}
use Rattle.game.specs.declared.Game.{Game}
use Rattle.play.specs.Play.{separated_of}
use Rattle.demands.specs.Demands.{play_of}
use Rattle.demands.proofs.Demands.{demand_two}
use Rattle.theory.specs.Region.{region}
use Rattle.map_marks.specs.Marks.{map_row, MapFilled}

row_bit : (g : Game) (i o : ℕ) → o < g.output.states → has (map_row g i) o ≡ region (separated_of g) i o
unfolding map_row
row_bit g i o b = has_pack_below g.output.states (region (separated_of g) i) o b

pub marks : (g : Game) (m m' : List ℕ) → MapFilled g m m' → (i o : ℕ) → i < g.input.states → o < g.output.states
    → (has (get_or (sets_in m') i 0) o ≡ true) ↔ Won (play_of g) i o
marks g m m' f i o a b =
    let d = (demand_two g).marks i o a b in
    (λ h. d.0 (sym bit ∙ h), λ w. bit ∙ d.1 w)
  where
    bit : has (get_or (sets_in m') i 0) o ≡ region (separated_of g) i o
    bit =
        ap (λ (x : List ℕ). has (get_or x i 0) o) f.sets ∙ ap (λ (x : ℕ). has x o) (front_at (map_row g) (sets_in m) g.input.states i 0 a)
        ∙ row_bit g i o b
