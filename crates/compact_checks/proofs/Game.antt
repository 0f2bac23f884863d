-- The laws of the smallest inputs for a game.
--
--   firsts_none, firsts_leader, firsts_other, firsts_end   : naming the smallest inputs
--   firsts_below, rows_long                                : what the test reads is in the table
--   parts_none, parts_next, parts_stop, parts_end          : the parts, one after the other
--   alone_fits                                             : where every input has a component of its own
use Prim.Native.Nat.{ℕ, ◌+◌, ◌*◌, ◌≤◌, ◌<◌}
use mathlib.Core.Path.{◌≡◌, refl, sym, ◌∙◌, ap, subst, subst⁻¹, subst₂}
use mathlib.Core.Bool.{true, false}
use mathlib.Core.List.{List}
use mathlib.Core.Logic.{◌⊎◌}
use native.Mathlib.Omega.{arith}
use lib.Dec.{ltb}
use lib.ListN.{length, get_or}
use borrow.Author.Tests.{lt-ltb}
use Rattle.compact.proofs.Rank.{number_leads}
use Rattle.bits.specs.Member.{has, pack}
use Rattle.bits.proofs.Membership.{has_pack_below}
use Rattle.graphs.specs.Component.{joined, number}
use Rattle.graphs.proofs.Component.{number_below}
use Rattle.arena.specs.Arena.{Separated}
use Rattle.game.specs.declared.Game.{Game}
use Rattle.play.specs.Play.{graph_of, separated_of}
use Rattle.theory.specs.Entries.{controller_counters}
use Rattle.compact.specs.Rank.{leads}
use Rattle.compact.specs.Compact.{full_length}
use Rattle.compact.specs.Moving.{rows_fit}
use Rattle.compact_checks.specs.Parts.{part_size, part_fits, Marked}
use Rattle.compact_checks.specs.Firsts.{Named, Firsts, AsFirst}
use Rattle.compact_checks.proofs.Firsts.{named_none, named_leader, named_other, named_end, same_next, same_stop, same_end}

module _ (g : Game) where
  abbrev S : Separated
  S = separated_of g

  abbrev I : ℕ
  I = g.input.states

  module _ (part n : ℕ) (in_graph : part + n ≤ I) where
    pub firsts_none : (F : List ℕ) → length F ≡ part_size → Named S part n 0 F
    unfolding separated_of graph_of
    firsts_none F e = named_none S part n in_graph F e

    module _ (j : ℕ) (lj : j < I) {b : ℕ} (e : b ≡ pack I (leads S)) where
      leads_of : has b j ≡ leads S j
      leads_of = ap (λ (x : ℕ). has x j) e ∙ has_pack_below I (leads S) j lj

      pub firsts_leader : {c : ℕ} {F F' : List ℕ} → has b j ≡ true → (leads S j ≡ true → c ≡ pack I (joined (graph_of g.input) j)) → Named S part n j F
          → Marked part n c j F F' → Named S part n (j + 1) F'
      unfolding separated_of graph_of
      firsts_leader h q D M = let l = sym leads_of ∙ h in named_leader S part n in_graph j D lj l (q l) M

      pub firsts_other : {F : List ℕ} → has b j ≡ false → Named S part n j F → Named S part n (j + 1) F
      unfolding separated_of graph_of
      firsts_other h D = named_other S part n in_graph j D (sym leads_of ∙ h)

    pub firsts_end : (j : ℕ) {F : List ℕ} → I ≤ j → Named S part n j F → Firsts g part n F
    unfolding separated_of graph_of
    firsts_end j b D = record { long = D.long; name = named_end S part n in_graph j b D }

  -- the smallest inputs are inputs
  pub firsts_below : (part n : ℕ) {F : List ℕ} → part + n ≤ I → Firsts g part n F → (k : ℕ) → k < n → get_or F k 0 < I
  unfolding separated_of graph_of
  firsts_below part n b D k l = omega (arith, D.name k l, number_below S.input (part + k) (omega arith))

  module _ (T : List ℕ) {R : ℕ} (q : R ≡ g.output.states * controller_counters S) where
    pub rows_long : length T ≡ full_length S → I + R * I ≡ length T
    unfolding separated_of graph_of full_length
    rows_long e = ap (λ (r : ℕ). I + r * I) q ∙ sym e

    pub parts_none : AsFirst S T R 0
    parts_none = record { entry = λ x j b l h. absurd (omega arith) }

    module _ (part n : ℕ) {F : List ℕ} {N : ℕ} (z : N ≡ I) (in_graph : part + n ≤ I) (D : Firsts g part n F) where
      pub parts_next : (n ≡ part_size) ⊎ (part + n ≡ I) → part_fits T F N R part n ≡ true → AsFirst S T R part → AsFirst S T R (part + part_size)
      unfolding separated_of graph_of
      parts_next e h P =
          subst⁻¹ (λ (r : ℕ). AsFirst S T r (part + part_size)) q
          (same_next S T F part n in_graph D.name e (subst₂ (λ (i r : ℕ). part_fits T F i r part n ≡ true) z q h)
          (subst (λ (r : ℕ). AsFirst S T r part) q P))

      pub parts_stop : length T ≡ full_length S → part_fits T F N R part n ≡ false → false ≡ rows_fit S T
      unfolding separated_of graph_of
      parts_stop e h = sym (same_stop S T F part n in_graph D.name e (subst₂ (λ (i r : ℕ). part_fits T F i r part n ≡ false) z q h))

    pub parts_end : (part : ℕ) → length T ≡ full_length S → I ≤ part → AsFirst S T R part → true ≡ rows_fit S T
    unfolding separated_of graph_of
    parts_end part e b P = sym (same_end S T part e b (subst (λ (r : ℕ). AsFirst S T r part) q P))

  -- where every input leads, it is its component's smallest itself
  pub alone_fits : (T : List ℕ) {b w : ℕ} → length T ≡ full_length S → b ≡ pack I (leads S) → ((s : ℕ) → has w s ≡ ltb s I) → b ≡ w → true ≡ rows_fit S T
  unfolding separated_of graph_of
  alone_fits T {b} {w} e p h q =
      parts_end T refl I e (omega arith) (record { entry = λ x j l lj d. ap (λ (i : ℕ). get_or T (I + x * I + i) 0) (sym (first j lj)) })
    where
      first : (j : ℕ) → j < I → number S.input j ≡ j
      first j lj =
          number_leads S j
          (sym (has_pack_below I (leads S) j lj) ∙ ap (λ (x : ℕ). has x j) (sym p ∙ q) ∙ h j ∙ lt-ltb j I lj)
