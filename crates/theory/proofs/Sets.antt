-- The sets of all requirements, in file order: each set of a requirement stands at some member_place among them.
use Prim.Native.Nat.{ℕ, ◌<◌}
use mathlib.Core.Path.{◌≡◌}
use mathlib.Core.Bool.{Bool, true, false}
use mathlib.Core.List.Memᴰ
use mathlib.Core.List.{List, [], ◌∷◌, ◌++◌, Memᴰ}
use mathlib.Core.Logic.{◌⊎◌, inl, inr}
use lib.ListN.{length}
use Rattle.finite.proofs.Truth.{clash, false_of}
use Rattle.finite.proofs.Lists.{all_of_intro, all_of_fails, member_place}
use Rattle.arena.specs.Arena.{Requirement, Separated}
use Rattle.arena.specs.Play.{Configuration, visits_input, visits_output, meets, breaks}
use Rattle.arena.proofs.Meets.{breaks_intro, meets_elim}
use Rattle.theory.specs.Tour.{goal_at}
use Rattle.theory.specs.Choice.{sets_of, guarantees, assumptions}

in_sets_lem : (f : Requirement → List (ℕ → Bool)) (l : List Requirement) (q : Requirement) (s : ℕ → Bool) → Memᴰ q l → Memᴰ s (f q)
    → Memᴰ s (sets_of f l)
unfolding sets_of
in_sets_lem f [] q s m n = absurd (Memᴰ.not-nil m)
in_sets_lem f (x ∷ l) q s m n = go (Memᴰ.cases_cons m) (λ k. in_sets_lem f l q s k n)
  where
    go : (q ≡ x) ⊎ Memᴰ q l → (Memᴰ q l → Memᴰ s (sets_of f l)) → Memᴰ s (f x ++ sets_of f l)
    go (inl e) rec = Memᴰ.append_left (sets_of f l) (rw e at n)
    go (inr k) rec = Memᴰ.append_right (f x) (rec k)

pub guarantee_at_lem : (S : Separated) (q : Requirement) (s : ℕ → Bool) → Memᴰ q S.requirements → Memᴰ s q.guarantees
    → (k : ℕ) × (k < length (guarantees S)) × (goal_at (guarantees S) k ≡ s)
unfolding guarantees goal_at
guarantee_at_lem S q s m n =
    member_place (sets_of (λ x. x.guarantees) S.requirements) (λ t. false) (in_sets_lem (λ x. x.guarantees) S.requirements q s m n)

pub assumption_at_lem : (S : Separated) (q : Requirement) (s : ℕ → Bool) → Memᴰ q S.requirements → Memᴰ s q.assumptions
    → (k : ℕ) × (k < length (assumptions S)) × (goal_at (assumptions S) k ≡ s)
unfolding assumptions goal_at
assumption_at_lem S q s m n =
    member_place (sets_of (λ x. x.assumptions) S.requirements) (λ t. false) (in_sets_lem (λ x. x.assumptions) S.requirements q s m n)

-- a requirement is broken where all its input sets are visited and some output set is not
pub breaks_when : (q : Requirement) (cs : List Configuration)
    → ((s : ℕ → Bool) → Memᴰ s q.assumptions → visits_input s cs ≡ true)
    → (s : ℕ → Bool) → Memᴰ s q.guarantees → visits_output s cs ≡ false → breaks q cs ≡ true
breaks_when q cs f s m h =
    breaks_intro q cs
    (false_of (meets q cs)
    (λ e. clash
    (meets_elim q cs e (all_of_intro (λ t. visits_input t cs) q.assumptions f))
    (all_of_fails (λ t. visits_output t cs) m h)))
