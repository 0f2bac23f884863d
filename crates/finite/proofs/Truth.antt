-- Tests as facts: what a conjunction, a disjunction or a negation that computes to true or false says.
--
--   decide b          : b is true or b is false
--   clash             : no test is both
--   true_of, false_of : a test from the refutation of the other answer
use mathlib.Core.Path.{◌≡◌, refl, sym, ◌∙◌}
use mathlib.Core.Bool.{Bool, true, false, ◌&&◌, ◌||◌, not, true≢false}
use mathlib.Core.Logic.{◌⊎◌, inl, inr}

pub decide : (b : Bool) → (b ≡ true) ⊎ (b ≡ false)
decide true = inl refl
decide false = inr refl

pub clash {ℓ} : {A : Type ℓ} {b : Bool} → b ≡ true → b ≡ false → A
clash p q = absurd (true≢false (sym p ∙ q))

pub true_of : (b : Bool) → ((b ≡ false) → ⊥) → b ≡ true
true_of true h = refl
true_of false h = absurd (h refl)

pub false_of : (b : Bool) → ((b ≡ true) → ⊥) → b ≡ false
false_of true h = absurd (h refl)
false_of false h = refl

pub and_intro : {a b : Bool} → a ≡ true → b ≡ true → (a && b) ≡ true
and_intro p q = rw (p, q) refl

pub and_left : (a b : Bool) → (a && b) ≡ true → a ≡ true
and_left true b h = refl
and_left false b h = h

pub and_right : (a b : Bool) → (a && b) ≡ true → b ≡ true
and_right true b h = h
and_right false b h = clash h refl

pub and_false_left : {a : Bool} (b : Bool) → a ≡ false → (a && b) ≡ false
and_false_left b p = rw p refl

pub and_false_right : (a : Bool) {b : Bool} → b ≡ false → (a && b) ≡ false
and_false_right true q = q
and_false_right false q = refl

pub and_cases : (a b : Bool) → (a && b) ≡ false → (a ≡ false) ⊎ (b ≡ false)
and_cases true b h = inr h
and_cases false b h = inl refl

pub and_both : (a b : Bool) → (a && b) ≡ true → (a ≡ true) × (b ≡ true)
and_both a b h = (and_left a b h, and_right a b h)

pub and_all : (a : Bool) {b : Bool} → b ≡ true → (a && b) ≡ a
and_all true q = q
and_all false q = refl

pub and_assoc : (a b c : Bool) → ((a && b) && c) ≡ (a && (b && c))
and_assoc true b c = refl
and_assoc false b c = refl

pub and_comm : (a b : Bool) → (a && b) ≡ (b && a)
and_comm true b = sym (and_all b refl)
and_comm false b = sym (and_false_right b refl)

pub or_left : {a : Bool} (b : Bool) → a ≡ true → (a || b) ≡ true
or_left b p = rw p refl

pub or_right : (a : Bool) {b : Bool} → b ≡ true → (a || b) ≡ true
or_right true q = refl
or_right false q = q

pub or_cases : (a b : Bool) → (a || b) ≡ true → (a ≡ true) ⊎ (b ≡ true)
or_cases true b h = inl refl
or_cases false b h = inr h

pub or_false : {a b : Bool} → a ≡ false → b ≡ false → (a || b) ≡ false
or_false p q = rw (p, q) refl

pub or_none : (a : Bool) {b : Bool} → b ≡ false → (a || b) ≡ a
or_none true q = refl
or_none false q = q

pub or_false_left : (a b : Bool) → (a || b) ≡ false → a ≡ false
or_false_left true b h = h
or_false_left false b h = refl

pub or_false_right : (a b : Bool) → (a || b) ≡ false → b ≡ false
or_false_right true b h = clash refl h
or_false_right false b h = h

pub not_true : (a : Bool) → not a ≡ true → a ≡ false
not_true true h = clash h refl
not_true false h = refl

pub not_false : (a : Bool) → not a ≡ false → a ≡ true
not_false true h = refl
not_false false h = clash refl h

-- two tests that imply each other are equal
pub same_test : (a b : Bool) → (a ≡ true → b ≡ true) → (b ≡ true → a ≡ true) → a ≡ b
same_test true b f g = sym (f refl)
same_test false true f g = g refl
same_test false false f g = refl

-- an implication between tests
pub implies_intro : (a b : Bool) → (a ≡ true → b ≡ true) → (not a || b) ≡ true
implies_intro true b f = f refl
implies_intro false b f = refl

pub implies_elim : (a b : Bool) → (not a || b) ≡ true → a ≡ true → b ≡ true
implies_elim true b h e = h
implies_elim false b h e = clash e refl
