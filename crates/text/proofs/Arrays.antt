-- The lists of a game that is passed have the lengths of the arrays in its record, and its words 64 bits: the relation of its type says so.
--
--   GraphArrays h       == so it is of the graph h
--   RequirementArrays q == of the requirement q
--   Arrays g            == of the game g
--   game_arrays         : of every game that a caller passes
use Prim.Native.Nat.{ℕ, zero, suc, ◌<◌, ◌^◌}
use native.Mathlib.Omega.{arith}
use mathlib.Core.List.{List, [], ◌∷◌}
use mathlib.Core.Path.{◌≡◌, sym, subst}
use lib.Dec.{ltb}
use lib.ListN.{length, get_or, get_or-eq_default}
use borrow.Author.Tests.{ltb-true, ltb-false}
use mir.Val.{Val}
use base.Fml.{Fml}
use denote.Laws.{Is}
use denote.Shadow.{shadow}
use denote.Builtin.{u64}
use denote.Array.{each, in_array}
use denote.Struct.Declared.{row}
use Rattle.sets.specs.declared.Set.{Set}
use Rattle.sets.specs.Words.{row_words, WordsFit}
use Rattle.sets.specs.contracts.Set.{the_type as set-type}
use Rattle.game.specs.declared.Graph.{Graph}
use Rattle.game.specs.declared.Requirement.{Requirement}
use Rattle.game.specs.declared.Game.{Game}
use Rattle.game.specs.Access.{no_input, no_output, no_requirement, requirement_at}
use Rattle.game.specs.contracts.InSet.{the_type as in_set-type}
use Rattle.game.specs.contracts.OutSet.{the_type as out_set-type}
use Rattle.game.specs.contracts.Graph.{the_type as graph-type}
use Rattle.game.specs.contracts.Requirement.{the_type as requirement-type}
use Rattle.game.specs.contracts.Game.{the_type as game-type}
use Rattle.text_grammar.proofs.Format.{by_cases}

pub record GraphArrays (h : Graph) : Type 0 where
  pub rows : length h.moves ≡ row_words
  pub words : (i : ℕ) → get_or h.moves i 0 < 2 ^ 64
  pub initial : WordsFit h.initial

pub record RequirementArrays (q : Requirement) : Type 0 where
  pub assumptions : length q.assumptions ≡ 4
  pub guarantees : length q.guarantees ≡ 4
  pub in_sets_lem : (j : ℕ) → WordsFit (get_or q.assumptions j no_input).0
  pub out_sets_lem : (j : ℕ) → WordsFit (get_or q.guarantees j no_output).0

pub record Arrays (g : Game) : Type 0 where
  pub input : GraphArrays g.input
  pub output : GraphArrays g.output
  pub requirements : length g.requirements ≡ 8
  pub requirement : (r : ℕ) → r < 8 → RequirementArrays (requirement_at g r)

-- an array of n elements, of each of which the relation f speaks: its length, and the relation of each element
module _ {A : Type 0} (f : A → List Val → Fml) (a : A) where
  each_at : (xs : List A) (us : List Val) → shadow (each A f xs us) → (i : ℕ) → i < length xs → (u : Val) × shadow (f (get_or xs i a) (u ∷ []))
  each_at [] us s i h = absurd (omega arith)
  each_at (x ∷ xs) [] s i h = absurd s
  each_at (x ∷ xs) (u ∷ us) s zero h = (u, s.0)
  each_at (x ∷ xs) (u ∷ us) s (suc i) h = each_at xs us s.1 i (omega arith)

  module _ (n : ℕ) (xs : List A) {vs : List Val} (s : shadow (in_array A f n xs vs)) where
    array_length : length xs ≡ n
    array_length = s.1.0.1

    array_at : (i : ℕ) → i < n → (u : Val) × shadow (f (get_or xs i a) (u ∷ []))
    array_at i h = each_at xs s.0 s.1.1 i (omega (arith, array_length))

    -- what follows of an element, and holds past the end too
    array_all : (P : A → Type 0) → ((x : A) (u : Val) → shadow (f x (u ∷ [])) → P x) → P a → (i : ℕ) → P (get_or xs i a)
    array_all P h o i =
        by_cases (ltb i n)
        (λ b. let e = array_at i (ltb-true i n b) in h (get_or xs i a) e.0 e.1)
        (λ b. let q = ltb-false i n b in subst P (sym (get_or-eq_default xs a (omega (arith, array_length)))) o)

set_words : (x : Set) (vs : List Val) → Is (row set-type) x vs → WordsFit x
set_words x vs s = (s.1.1.0.1, s.1.1.1.0.1)

graph_arrays : (h : Graph) (vs : List Val) → Is (row graph-type) h vs → GraphArrays h
graph_arrays h vs s =
    let moves = s.1.1.1.1.0 in
    record {
      rows = array_length u64.own_val 0 row_words h.moves moves;
      words = array_all u64.own_val 0 row_words h.moves moves (λ (x : ℕ). x < 2 ^ 64) (λ x u e. e.1) (omega arith);
      initial = set_words h.initial _ s.1.1.1.0;
    }

requirement_arrays : (q : Requirement) (vs : List Val) → Is (row requirement-type) q vs → RequirementArrays q
requirement_arrays q vs s =
    let ins = s.1.1.0 in
    let outs = s.1.1.1.1.0 in
    record {
      assumptions = array_length (row in_set-type).own_val no_input 4 q.assumptions ins;
      guarantees = array_length (row out_set-type).own_val no_output 4 q.guarantees outs;
      in_sets_lem =
          array_all (row in_set-type).own_val no_input 4 q.assumptions ins (λ x. WordsFit x.0) (λ x u e. set_words x.0 _ e.1.1.0) (omega arith, omega arith);
      out_sets_lem =
          array_all (row out_set-type).own_val no_output 4 q.guarantees outs (λ x. WordsFit x.0) (λ x u e. set_words x.0 _ e.1.1.0) (omega arith, omega arith);
    }

pub game_arrays : (g : Game) (vs : List Val) → Is (row game-type) g vs → Arrays g
game_arrays g vs s =
    let qs = s.1.1.1.1.1.0 in
    record {
      input = graph_arrays g.input _ s.1.1.0;
      output = graph_arrays g.output _ s.1.1.1.0;
      requirements = array_length (row requirement-type).own_val no_requirement 8 g.requirements qs;
      requirement = λ r h.
          let e = array_at (row requirement-type).own_val no_requirement 8 g.requirements qs r h in
          requirement_arrays (requirement_at g r) _ e.1;
    }
