-- A list's names, from the front on.
use Prim.Native.Nat.{ℕ, zero, suc, ◌+◌, ◌≤◌, ◌<◌}
use native.Mathlib.Omega.{arith}
use mathlib.Core.Bool.{Bool, true, false, not}
use mathlib.Core.Logic.{◌≢◌, inl, inr}
use mathlib.Core.List.{List, [], ◌∷◌}
use mathlib.Core.Path.{◌≡◌, refl, sym, ◌∙◌, ap}
use native.Mathlib.Numerals.{add-one}
use lib.Dec.{eqb}
use lib.ListN.{length, take, drop, get_or, length-drop}
use lib.Seq.{drop-cons, drop-drop}
use borrow.Author.Tests.{eq-eqb, ne_eqb, le-leb, lt-leb}
use Rattle.finite.proofs.Truth.{decide}
use Rattle.catalogue_names.specs.Names.{push_byte, names, front, has_zero, fit_name, NextName}

pub past : {A : Type 0} (l : List A) (n : ℕ) → length l ≤ n → drop n l ≡ []
past [] zero b = refl
past [] (suc n) b = refl
past (x ∷ l) zero b = absurd (omega arith)
past (x ∷ l) (suc n) b = past l n (omega arith)

front_stop : (b : ℕ) (l : List ℕ) → eqb b 10 ≡ true → front (b ∷ l) ≡ []
unfolding front
front_stop b l h = rw (h, front) refl

front_on : (b : ℕ) (l : List ℕ) → eqb b 10 ≡ false → front (b ∷ l) ≡ b ∷ front l
unfolding front
front_on b l h = rw (h, front) refl

pub names_stop : (b : ℕ) (l : List ℕ) → eqb b 10 ≡ true → names (b ∷ l) ≡ [] ∷ names l
unfolding names
names_stop b l h = rw (h, names) refl

pub names_on : (b : ℕ) (l : List ℕ) → eqb b 10 ≡ false → names (b ∷ l) ≡ push_byte b (names l)
unfolding names
names_on b l h = rw (h, names) refl

-- the place behind the name that begins at place i
module _ (l : List ℕ) (i : ℕ) (h : i < length l) where
  pub front_ends : get_or l i 0 ≡ 10 → i + length (front (drop i l)) ≡ i
  front_ends e =
      let f : front (drop i l) ≡ [] = ap front (drop-cons l i 0 h) ∙ front_stop (get_or l i 0) (drop (suc i) l) (eq-eqb (get_or l i 0) 10 e) in
      omega (arith, ap length f)

  pub front_goes : get_or l i 0 ≢ 10 → i + length (front (drop i l)) ≡ i + 1 + length (front (drop (i + 1) l))
  front_goes e =
      let f : front (drop i l) ≡ get_or l i 0 ∷ front (drop (suc i) l) =
      ap front (drop-cons l i 0 h) ∙ front_on (get_or l i 0) (drop (suc i) l) (ne_eqb (get_or l i 0) 10 e) in
      omega (arith, ap length f, ap (λ (k : ℕ). length (front (drop k l))) (add-one i))

pub front_last : (l : List ℕ) (i : ℕ) → length l ≤ i → i + length (front (drop i l)) ≡ i
unfolding front
front_last l i h = omega (arith, ap (λ (x : List ℕ). length (front x)) (past l i h))

pub front_short : (l : List ℕ) → length (front l) ≤ length l
unfolding front
front_short [] = omega arith
front_short (b ∷ l) = go (eqb b 10) (front_short l)
  where
    go : (t : Bool) → length (front l) ≤ length l → length {A = ℕ} (elim t as (λ x. List ℕ) [ true ↦ [] | false ↦ b ∷ front l ]) ≤ suc (length l)
    go true h = omega arith
    go false h = omega arith

pub take_front : (l : List ℕ) → take (length (front l)) l ≡ front l
unfolding front
take_front [] = refl
take_front (b ∷ l) = go (eqb b 10) (take_front l)
  where
    go : (t : Bool) → take (length (front l)) l ≡ front l → take (length {A = ℕ} (elim t as (λ x. List ℕ) [ true ↦ [] | false ↦ b ∷ front l ])) (b ∷ l)
        ≡ elim t as (λ x. List ℕ) [ true ↦ [] | false ↦ b ∷ front l ]
    go true h = refl
    go false h = ap (λ (x : List ℕ). b ∷ x) h

names_first : (b : ℕ) (l : List ℕ) → eqb b 10 ≡ true → names (b ∷ l) ≡ front (b ∷ l) ∷ names (drop (suc (length (front (b ∷ l)))) (b ∷ l))
names_first b l h = names_stop b l h ∙ rw (front_stop b l h) refl

-- a list that has a byte has a name
names_cons : (b : ℕ) (l : List ℕ) → names (b ∷ l) ≡ front (b ∷ l) ∷ names (drop (suc (length (front (b ∷ l)))) (b ∷ l))
unfolding names push_byte front
names_cons b [] = elim (decide (eqb b 10)) [ inl h ↦ names_first b [] h | inr h ↦ names_on b [] h ∙ rw (front_on b [] h) refl ]
names_cons b (d ∷ k) =
    let r = names_cons d k in
    elim (decide (eqb b 10)) [ inl h ↦ names_first b (d ∷ k) h | inr h ↦ names_on b (d ∷ k) h ∙ ap (push_byte b) r ∙ rw (front_on b (d ∷ k) h) refl ]

names_some : (l : List ℕ) → 0 < length l → names l ≡ front l ∷ names (drop (suc (length (front l))) l)
names_some [] h = absurd (omega arith)
names_some (b ∷ l) h = names_cons b l

module _ (l : List ℕ) (a : ℕ) (h : a < length l) where
  names_drop : names (drop a l) ≡ front (drop a l) ∷ names (drop (a + length (front (drop a l)) + 1) l)
  names_drop =
      let s : a + suc (length (front (drop a l))) ≡ a + length (front (drop a l)) + 1 = omega arith in
      names_some (drop a l) (omega (arith, length-drop a l))
      ∙ ap (λ (x : List ℕ). front (drop a l) ∷ names x) (drop-drop (suc (length (front (drop a l)))) a l ∙ ap (λ (k : ℕ). drop k l) s)

  front_within : a + length (front (drop a l)) ≤ length l
  front_within = omega (arith, front_short (drop a l), length-drop a l)

  pub next_inside : (e : ℕ) → e ≡ a + length (front (drop a l)) → e < length l → NextName l a (e + 1)
  next_inside e q b =
      record { name = names_drop ∙ ap (λ (k : ℕ). front (drop a l) ∷ names (drop (k + 1) l)) (sym q); on = omega arith; within = omega arith }

  pub next_last : (e : ℕ) → e ≡ a + length (front (drop a l)) → length l ≤ e → NextName l a (length l)
  next_last e q b =
      record {
        name =
            names_drop
            ∙ ap (λ (x : List ℕ). front (drop a l) ∷ names x)
            (past l (a + length (front (drop a l)) + 1) (omega arith) ∙ sym (past l (length l) (omega arith)));
        on = h;
        within = omega arith;
      }

-- counting
pub names_more : {l : List ℕ} {a r : ℕ} → NextName l a r → length (names (drop a l)) ≡ suc (length (names (drop r l)))
names_more N = ap length N.name

pub names_end : (l : List ℕ) (a : ℕ) → length l ≤ a → length (names (drop a l)) ≡ 0
unfolding names
names_end l a h = ap (λ (x : List ℕ). length (names x)) (past l a h)

-- the test on a name
module _ (l : List ℕ) (i : ℕ) (h : i < length l) where
  pub zero_here : get_or l i 0 ≡ 0 → has_zero (drop i l) ≡ true
  unfolding has_zero
  zero_here e = ap has_zero (drop-cons l i 0 h) ∙ rw (eq-eqb (get_or l i 0) 0 e) refl

  pub zero_later : get_or l i 0 ≢ 0 → has_zero (drop i l) ≡ has_zero (drop (i + 1) l)
  unfolding has_zero
  zero_later e = ap has_zero (drop-cons l i 0 h) ∙ rw (ne_eqb (get_or l i 0) 0 e) (ap (λ (k : ℕ). has_zero (drop k l)) (sym (add-one i)))

pub zero_nowhere : (l : List ℕ) (i : ℕ) → length l ≤ i → has_zero (drop i l) ≡ false
unfolding has_zero
zero_nowhere l i h = ap has_zero (past l i h)

pub unfit_long : (n : List ℕ) → 255 < length n → false ≡ fit_name n
unfolding fit_name
unfit_long n h = sym (rw (lt-leb (length n) 255 h) refl)

pub fit_short : (n : List ℕ) {r : Bool} → length n ≤ 255 → r ≡ has_zero n → not r ≡ fit_name n
unfolding fit_name
fit_short n h e = ap not e ∙ sym (rw (le-leb (length n) 255 h) refl)
