-- A tally that is right stays right as one outcome more is counted.
use Prim.Native.Nat.{ℕ, suc, ◌+◌, ◌≤◌, ◌<◌}
use native.Mathlib.Omega.{arith}
use mathlib.Core.Bool.{Bool, true, false}
use mathlib.Core.Logic.{inl, inr}
use mathlib.Core.List.{List, [], ◌∷◌, ◌++◌}
use mathlib.Core.Path.{◌≡◌, refl, sym, ◌∙◌, ap}
use lib.Dec.{eqb}
use lib.ListN.{length, get_or, set, length-append, length-set}
use lib.Seq.{get_or-set_same, get_or-set_other}
use borrow.Author.Tests.{eqb-true, eqb-false}
use Rattle.finite.proofs.Truth.{decide}
use Rattle.finite.proofs.Lists.{all_default}
use Rattle.finite.specs.Bounded.{one}
use Rattle.catalogue_tally.specs.Outcome.{Outcome}
use Rattle.catalogue_tally.specs.declared.Counted.TheVariants.{System, Environment}
use Rattle.catalogue_tally.specs.declared.Tally.{Tally}
use Rattle.catalogue_tally.specs.Figures.{
  is_system,
  is_environment,
  is_refused,
  has_number,
  won_of,
  positions_of,
  sum_of,
  how_many,
  Tallied,
  empty_tally,
  added,
  Modest,
  Roomy,
  Within,
}
use Rattle.game.specs.declared.Refusal.{Refusal}
use Rattle.game.specs.Refusals.{number}
use Rattle.std.specs.declared.result.Result.TheVariants.{Ok, Err}

-- of one outcome

module _ {o : Outcome} {w p : ℕ} where
  pub modest_system : o ≡ Ok (System w p) → Modest o → (w ≤ 16384) × (p ≤ 16384)
  unfolding won_of positions_of
  modest_system e m = (omega (arith, ap won_of e, m.won), omega (arith, ap positions_of e, m.positions))

  pub modest_environment : o ≡ Ok (Environment w p) → Modest o → (w ≤ 16384) × (p ≤ 16384)
  unfolding won_of positions_of
  modest_environment e m = (omega (arith, ap won_of e, m.won), omega (arith, ap positions_of e, m.positions))

-- an outcome more, at the end of the list
sum_snoc : (f : Outcome → ℕ) (os : List Outcome) (o : Outcome) → sum_of f (os ++ o ∷ []) ≡ sum_of f os + f o
unfolding sum_of
sum_snoc f [] o = omega arith
sum_snoc f (x ∷ os) o = omega (arith, sum_snoc f os o)

many_snoc : (p : Outcome → Bool) (os : List Outcome) (o : Outcome) → how_many p (os ++ o ∷ []) ≡ how_many p os + one (p o)
unfolding how_many
many_snoc p os o = sum_snoc (λ x. one (p x)) os o

many_most : (p : Outcome → Bool) (os : List Outcome) → how_many p os ≤ length os
unfolding how_many sum_of one
many_most p [] = omega arith
many_most p (o ∷ os) = go (p o) (many_most p os)
  where
    go : (b : Bool) → sum_of (λ x. one (p x)) os ≤ length os → one b + sum_of (λ x. one (p x)) os ≤ suc (length os)
    go true h = omega arith
    go false h = omega arith

length_snoc : (os : List Outcome) (o : Outcome) → length (os ++ o ∷ []) ≡ length os + 1
length_snoc os o = length-append os (o ∷ [])

-- a count of numbers, with the number n counted once more
number_added : (l : List ℕ) (n r : ℕ) → r < length l → get_or (set l n (get_or l n 0 + 1)) r 0 ≡ get_or l r 0 + one (eqb n r)
unfolding one
number_added l n r h = elim (decide (eqb n r)) [ inl e ↦ same e | inr e ↦ other e ]
  where
    same : eqb n r ≡ true → get_or (set l n (get_or l n 0 + 1)) r 0 ≡ get_or l r 0 + one (eqb n r)
    same e =
        let q = eqb-true n r e in
        let k : n < length l = omega arith in
        ap (λ (i : ℕ). get_or (set l n (get_or l n 0 + 1)) i 0) (sym q) ∙ get_or-set_same l n (get_or l n 0 + 1) 0 k
        ∙ ap (λ (i : ℕ). get_or l i 0 + 1) q ∙ sym (ap (λ (b : Bool). get_or l r 0 + one b) e)

    other : eqb n r ≡ false → get_or (set l n (get_or l n 0 + 1)) r 0 ≡ get_or l r 0 + one (eqb n r)
    other e = get_or-set_other l n r (get_or l n 0 + 1) 0 (λ q. eqb-false n r e (sym q)) ∙ sym (ap (λ (b : Bool). get_or l r 0 + one b) e ∙ omega arith)

module _ {os : List Outcome} {t : Tally} (T : Tallied os t) where
  tallied_system : (w p : ℕ) → Tallied (os ++ Ok (System w p) ∷ []) (added t (Ok (System w p)))
  unfolding added is_system is_environment is_refused has_number won_of positions_of one
  tallied_system w p =
      let o : Outcome = Ok (System w p) in
      record {
        system = omega (arith, T.system, many_snoc is_system os o);
        environment = omega (arith, T.environment, many_snoc is_environment os o);
        refused = omega (arith, T.refused, many_snoc is_refused os o);
        games = omega (arith, T.games, length_snoc os o);
        counts = T.counts;
        numbers = λ r h. omega (arith, T.numbers r h, many_snoc (has_number r) os o);
        won = omega (arith, T.won, sum_snoc won_of os o);
        positions = omega (arith, T.positions, sum_snoc positions_of os o);
      }

  tallied_environment : (w p : ℕ) → Tallied (os ++ Ok (Environment w p) ∷ []) (added t (Ok (Environment w p)))
  unfolding added is_system is_environment is_refused has_number won_of positions_of one
  tallied_environment w p =
      let o : Outcome = Ok (Environment w p) in
      record {
        system = omega (arith, T.system, many_snoc is_system os o);
        environment = omega (arith, T.environment, many_snoc is_environment os o);
        refused = omega (arith, T.refused, many_snoc is_refused os o);
        games = omega (arith, T.games, length_snoc os o);
        counts = T.counts;
        numbers = λ r h. omega (arith, T.numbers r h, many_snoc (has_number r) os o);
        won = omega (arith, T.won, sum_snoc won_of os o);
        positions = omega (arith, T.positions, sum_snoc positions_of os o);
      }

  tallied_refused : (e : Refusal) → Tallied (os ++ Err e ∷ []) (added t (Err e))
  unfolding added is_system is_environment is_refused has_number won_of positions_of one
  tallied_refused e =
      let o : Outcome = Err e in
      record {
        system = omega (arith, T.system, many_snoc is_system os o);
        environment = omega (arith, T.environment, many_snoc is_environment os o);
        refused = omega (arith, T.refused, many_snoc is_refused os o);
        games = omega (arith, T.games, length_snoc os o);
        counts = length-set t.numbers (number e) (get_or t.numbers (number e) 0 + 1) ∙ T.counts;
        numbers = λ r h.
            number_added t.numbers (number e) r (omega (arith, T.counts)) ∙ ap (λ (k : ℕ). k + one (eqb (number e) r)) (T.numbers r h)
            ∙ sym (many_snoc (has_number r) os o);
        won = omega (arith, T.won, sum_snoc won_of os o);
        positions = omega (arith, T.positions, sum_snoc positions_of os o);
      }

  -- the outcomes counted are one more
  pub tallied_add : (o : Outcome) → Tallied (os ++ o ∷ []) (added t o)
  tallied_add (Ok (System w p)) = tallied_system w p
  tallied_add (Ok (Environment w p)) = tallied_environment w p
  tallied_add (Err e) = tallied_refused e

  -- a thousand outcomes leave room in each word
  pub tallied_roomy : length os ≤ 1000 → Within os t → Roomy t
  tallied_roomy h W =
      record {
        system = omega (arith, T.games);
        environment = omega (arith, T.games);
        refused = omega (arith, T.games);
        numbers = λ r b. omega (arith, T.numbers r b, many_most (has_number r) os);
        won = omega (arith, W.won);
        positions = omega (arith, W.positions);
      }

pub within_add : {os : List Outcome} {t : Tally} (o : Outcome) → Within os t → Modest o → Within (os ++ o ∷ []) (added t o)
unfolding added won_of positions_of
within_add {os} (Ok (System w p)) W M = record {
  won = omega (arith, W.won, M.won, length_snoc os (Ok (System w p)));
  positions = omega
      (arith, W.positions, M.positions, length_snoc os (Ok (System w p)));
}
within_add {os} (Ok (Environment w p)) W M = record {
  won = omega (arith, W.won, M.won, length_snoc os (Ok (Environment w p)));
  positions = omega
      (arith, W.positions, M.positions, length_snoc os (Ok (Environment w p)));
}
within_add {os} (Err n) W M = record {
  won = omega (arith, W.won, length_snoc os (Err n));
  positions = omega
      (arith, W.positions, length_snoc os (Err n));
}

pub tallied_nothing : Tallied [] empty_tally
unfolding empty_tally how_many sum_of
tallied_nothing =
    record {
      system = refl;
      environment = refl;
      refused = refl;
      games = refl;
      counts = refl;
      numbers = λ r h. all_default 256 r 0;
      won = refl;
      positions = refl;
    }

pub within_nothing : Within [] empty_tally
unfolding empty_tally
within_nothing = record { won = omega arith; positions = omega arith }

-- the tally by what the outcome is
pub added_as : (t : Tally) {o q : Outcome} → o ≡ q → added t q ≡ added t o
added_as t h = sym (ap (added t) h)
