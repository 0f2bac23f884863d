-- Laws of lists of sets in words, for any number of words a set and any width. Two words of 64 bits are an instance (Rows).
--
--   held_long, held_at          : how many sets there are, and set number s
--   held_put                    : a set's words stored among the others
--   held_take, held_drop, held_append : the sets in a part of the words
--   held_same                   : words that hold the same sets are the same
--   value_spread, spread_value  : a number's words, and back
--   held_spreads, spreads_held  : the same of lists of sets
--   spreads_put                 : a set's words stored among those of others
use Prim.Native.Nat.{ℕ, zero, suc, ◌+◌, ◌-◌, ◌*◌, ◌/◌, ◌%◌, ◌^◌, ◌≤◌, ◌<◌, min}
use mathlib.Core.Path.{◌≡◌, refl, sym, ◌∙◌, ap, ap₂}
use mathlib.Core.List.{List, [], ◌∷◌, ◌++◌}
use native.Mathlib.Nat.{suc-mul, zero-mul}
use native.Mathlib.Omega.{arith}
use lib.Pow.{split, high, low}
use lib.ListN.{length, get_or, set, take, drop, length-append, length-take, length-drop, take-append-drop}
use lib.Seq.{sets as stores, drop-drop, take-take, take-nil, drop-nil, drop-append-le, take_at, drop_at, take-append-le, take-set-le, drop-set-add, sets-eq, length-take-le}
use Rattle.sets.specs.Words.{value, held, spread, spreads}
use Rattle.sets.proofs.Values.{Words, words_same}

-- stores from place m on or later leave the first m elements, and those past them are the stores in what is left
take_stores : (x l : List ℕ) (m i : ℕ) → m ≤ i → take m (stores l i x) ≡ take m l
take_stores [] l m i h = refl
take_stores (a ∷ x) l m i h = take_stores x (set l i a) m (suc i) (omega arith) ∙ take-set-le m l i a h

drop_stores : (x l : List ℕ) (m i : ℕ) → drop m (stores l (m + i) x) ≡ stores (drop m l) i x
drop_stores [] l m i = refl
drop_stores (a ∷ x) l m i =
    let e : suc (m + i) ≡ m + suc i = omega arith in
    ap (λ (k : ℕ). drop m (stores (set l (m + i) a) k x)) e ∙ drop_stores x (set l (m + i) a) m (suc i)
    ∙ ap (λ (k : List ℕ). stores k (suc i) x) (drop-set-add m l i a)

stores_none : (x : List ℕ) (i : ℕ) → stores [] i x ≡ []
stores_none [] i = refl
stores_none (a ∷ x) i = stores_none x (suc i)

-- where words are cut, both parts are words
words_take : (w n : ℕ) (l : List ℕ) → Words w l → Words w (take n l)
words_take w zero l r = Words.none
words_take w (suc n) [] Words.none = Words.none
words_take w (suc n) (x ∷ l) (Words.more h r) = Words.more h (words_take w n l r)

words_drop : (w n : ℕ) (l : List ℕ) → Words w l → Words w (drop n l)
words_drop w zero l r = r
words_drop w (suc n) [] Words.none = Words.none
words_drop w (suc n) (x ∷ l) (Words.more h r) = words_drop w n l r

drop_take : (n m : ℕ) (l : List ℕ) → drop n (take (n + m) l) ≡ take m (drop n l)
drop_take zero m l = let e : 0 + m ≡ m = omega arith in ap (λ (k : ℕ). take k l) e
drop_take (suc n) m [] = simp (take-nil, drop-nil)
drop_take (suc n) m (x ∷ l) = let e : suc n + m ≡ suc (n + m) = omega arith in ap (λ (k : ℕ). drop (suc n) (take k (x ∷ l))) e ∙ drop_take n m l

none_left : (l : List ℕ) → length l ≡ 0 → l ≡ []
none_left [] e = refl
none_left (x ∷ l) e = absurd (omega arith)

module _ (w n : ℕ) where
  -- one set more begins n words later
  later_words : (k : ℕ) → suc k * n ≡ n + k * n
  later_words k = omega (arith, suc-mul k n)

  pub held_long : (k : ℕ) (l : List ℕ) → length (held w n k l) ≡ k
  unfolding held
  held_long zero l = refl
  held_long (suc k) l = ap suc (held_long k (drop n l))

  pub held_at : (k : ℕ) (l : List ℕ) (s : ℕ) → s < k → get_or (held w n k l) s 0 ≡ value w (take n (drop (s * n) l))
  unfolding held
  held_at zero l s h = absurd (omega arith)
  held_at (suc k) l zero h = ap (λ (m : ℕ). value w (take n (drop m l))) (sym (zero-mul n))
  held_at (suc k) l (suc s) h =
      held_at k (drop n l) s (omega arith) ∙ ap (λ (m : List ℕ). value w (take n m)) (drop-drop (s * n) n l)
      ∙ ap (λ (m : ℕ). value w (take n (drop m l))) (sym (later_words s))

  pub held_put : (k : ℕ) (l : List ℕ) (s : ℕ) (x : List ℕ) → s < k → length x ≡ n → suc s * n ≤ length l
      → held w n k (stores l (s * n) x) ≡ set (held w n k l) s (value w x)
  unfolding held
  held_put zero l s x h e b = absurd (omega arith)
  held_put (suc k) l zero x h e b =
      let start : 0 + length x ≡ n = omega arith in
      let room : 0 + length x ≤ length l = omega (arith, later_words 0) in
      let all : stores l (0 * n) x ≡ x ++ drop n l =
      ap (λ (i : ℕ). stores l i x) (zero-mul n) ∙ sets-eq x l 0 room ∙ ap (λ (m : ℕ). x ++ drop m l) start in
      ap₂ (λ (a : ℕ) (m : List ℕ). a ∷ m) (ap (λ (m : List ℕ). value w (take n m)) all ∙ ap (value w) (take_at x (drop n l) n e))
      (ap (λ (m : List ℕ). held w n k (drop n m)) all ∙ ap (held w n k) (drop_at x (drop n l) n e))
  held_put (suc k) l (suc s) x h e b =
      let at : stores l (suc s * n) x ≡ stores l (n + s * n) x = ap (λ (i : ℕ). stores l i x) (later_words s) in
      ap₂ (λ (a : ℕ) (m : List ℕ). a ∷ m)
      (ap (λ (m : List ℕ). value w (take n m)) at ∙ ap (value w) (take_stores x l n (n + s * n) (omega arith)))
      (ap (λ (m : List ℕ). held w n k (drop n m)) at ∙ ap (held w n k) (drop_stores x l n (s * n))
      ∙ held_put k (drop n l) s x (omega arith) e (omega (arith, length-drop n l, later_words (suc s))))

  pub held_take : (j k : ℕ) (l : List ℕ) → j ≤ k → held w n j (take (j * n) l) ≡ take j (held w n k l)
  unfolding held
  held_take zero k l h = refl
  held_take (suc j) zero l h = absurd (omega arith)
  held_take (suc j) (suc k) l h =
      ap₂ (λ (a : ℕ) (m : List ℕ). a ∷ m) (ap (value w) (first l)) (ap (held w n j) (rest l) ∙ held_take j k (drop n l) (omega arith))
    where
      first : (l : List ℕ) → take n (take (suc j * n) l) ≡ take n l
      first l = take-take n (suc j * n) l (omega (arith, later_words j))

      rest : (l : List ℕ) → drop n (take (suc j * n) l) ≡ take (j * n) (drop n l)
      rest l = ap (λ (m : ℕ). drop n (take m l)) (later_words j) ∙ drop_take n (j * n) l

  pub held_drop : (j k : ℕ) (l : List ℕ) → held w n k (drop (j * n) l) ≡ drop j (held w n (j + k) l)
  unfolding held
  held_drop zero k l =
      let e : k ≡ 0 + k = omega arith in ap₂ (λ (m i : ℕ). held w n i (drop m l)) (zero-mul n) e
  held_drop (suc j) k l =
      let e : suc j + k ≡ suc (j + k) = omega arith in
      ap (λ (m : ℕ). held w n k (drop m l)) (later_words j) ∙ ap (held w n k) (sym (drop-drop (j * n) n l)) ∙ held_drop j k (drop n l)
      ∙ ap (λ (i : ℕ). drop (suc j) (held w n i l)) (sym e)

  pub held_append : (j k : ℕ) (a b : List ℕ) → length a ≡ j * n → held w n (j + k) (a ++ b) ≡ held w n j a ++ held w n k b
  unfolding held
  held_append zero k a b e =
      let z : 0 + k ≡ k = omega arith in
      ap₂ (λ (i : ℕ) (m : List ℕ). held w n i (m ++ b)) z (none_left a (e ∙ zero-mul n))
  held_append (suc j) k a b e =
      let z : suc j + k ≡ suc (j + k) = omega arith in
      let long : n ≤ length a = omega (arith, later_words j) in
      ap (λ (i : ℕ). held w n i (a ++ b)) z
      ∙ ap₂ (λ (v : ℕ) (m : List ℕ). v ∷ m) (ap (value w) (take-append-le n a b long))
      (ap (held w n (j + k)) (drop-append-le n a b long) ∙ held_append j k (drop n a) b (omega (arith, length-drop n a, later_words j)))

  pub held_same : (k : ℕ) (l m : List ℕ) → Words w l → Words w m → length l ≡ length m → length l ≤ k * n → held w n k l ≡ held w n k m → l ≡ m
  unfolding held
  held_same zero l m r s e b q = none_left l (omega (arith, zero-mul n)) ∙ sym (none_left m (omega (arith, zero-mul n)))
  held_same (suc k) l m r s e b q =
      let long : length (take n l) ≡ length (take n m) = length-take n l ∙ ap (min n) e ∙ sym (length-take n m) in
      let first : take n l ≡ take n m =
      words_same w (take n l) (take n m) (words_take w n l r) (words_take w n m s) long (ap (λ (x : List ℕ). get_or x 0 0) q) in
      let rest : drop n l ≡ drop n m =
      held_same k (drop n l) (drop n m) (words_drop w n l r) (words_drop w n m s) (length-drop n l ∙ ap (λ (i : ℕ). i - n) e ∙ sym (length-drop n m))
      (omega (arith, length-drop n l, later_words k)) (ap (λ (x : List ℕ). drop 1 x) q) in
      sym (take-append-drop n l) ∙ ap₂ (λ (x y : List ℕ). x ++ y) first rest ∙ take-append-drop n m

-- the words of a number, of which there is one at least

module _ (w : ℕ) where
  pub spread_long : (n x : ℕ) → length (spread w n x) ≡ n
  unfolding spread
  spread_long zero x = refl
  spread_long (suc zero) x = refl
  spread_long (suc (suc n)) x = ap suc (spread_long (suc n) (x / 2 ^ w))

  pub value_spread : (n x : ℕ) → value w (spread w (suc n) x) ≡ x
  unfolding spread value
  value_spread zero x = omega arith
  value_spread (suc n) x = ap (λ (y : ℕ). y * 2 ^ w + x % 2 ^ w) (value_spread n (x / 2 ^ w)) ∙ split x w

  pub spread_value : (n : ℕ) (l : List ℕ) → Words w l → length l ≡ suc n → spread w (suc n) (value w l) ≡ l
  unfolding spread value
  spread_value n [] r e = absurd (omega arith)
  spread_value zero (x ∷ []) r e = ap (λ (y : ℕ). y ∷ []) (omega arith)
  spread_value zero (x ∷ y ∷ l) r e = absurd (omega arith)
  spread_value (suc n) (x ∷ l) (Words.more h r) e =
      ap₂ (λ (y : ℕ) (m : List ℕ). y ∷ m) (low (value w l) w h)
      (ap (spread w (suc n)) (high (value w l) w h) ∙ spread_value n l r (omega arith))

  pub held_spreads : (n : ℕ) (xs : List ℕ) → held w (suc n) (length xs) (spreads w (suc n) xs) ≡ xs
  unfolding held spreads
  held_spreads n [] = refl
  held_spreads n (x ∷ xs) =
      let e = spread_long (suc n) x in
      ap₂ (λ (y : ℕ) (m : List ℕ). y ∷ m) (ap (value w) (take_at (spread w (suc n) x) (spreads w (suc n) xs) (suc n) e) ∙ value_spread n x)
      (ap (held w (suc n) (length xs)) (drop_at (spread w (suc n) x) (spreads w (suc n) xs) (suc n) e) ∙ held_spreads n xs)

  pub spreads_held : (n k : ℕ) (l : List ℕ) → Words w l → length l ≡ k * suc n → spreads w (suc n) (held w (suc n) k l) ≡ l
  unfolding held spreads
  spreads_held n zero l r e = sym (none_left l (e ∙ zero-mul (suc n)))
  spreads_held n (suc k) l r e =
      let long : suc n ≤ length l = omega (arith, later_words w (suc n) k) in
      ap₂ (λ (x y : List ℕ). x ++ y)
      (spread_value n (take (suc n) l) (words_take w (suc n) l r) (length-take-le (suc n) l long))
      (spreads_held n k (drop (suc n) l) (words_drop w (suc n) l r) (omega (arith, length-drop (suc n) l, later_words w (suc n) k)))
      ∙ take-append-drop (suc n) l

  -- a set's words stored among those of others
  pub spreads_put : (n : ℕ) (xs : List ℕ) (s x : ℕ) → stores (spreads w n xs) (s * n) (spread w n x) ≡ spreads w n (set xs s x)
  unfolding spreads
  spreads_put n [] s x = stores_none (spread w n x) (s * n)
  spreads_put n (y ∷ xs) zero x =
      let e = spread_long n x in
      let room : 0 + length (spread w n x) ≤ length (spread w n y ++ spreads w n xs) =
      omega (arith, spread_long n y, length-append (spread w n y) (spreads w n xs)) in
      let start : 0 + length (spread w n x) ≡ n = omega arith in
      ap (λ (i : ℕ). stores (spread w n y ++ spreads w n xs) i (spread w n x)) (zero-mul n)
      ∙ sets-eq (spread w n x) (spread w n y ++ spreads w n xs) 0 room
      ∙ ap (λ (m : ℕ). spread w n x ++ drop m (spread w n y ++ spreads w n xs)) start
      ∙ ap (λ (m : List ℕ). spread w n x ++ m) (drop_at (spread w n y) (spreads w n xs) n (spread_long n y))
  spreads_put n (y ∷ xs) (suc s) x =
      let all = spread w n y ++ spreads w n xs in
      let v = spread w n x in
      ap (λ (i : ℕ). stores all i v) (later_words w n s) ∙ sym (take-append-drop n (stores all (n + s * n) v))
      ∙ ap₂ (λ (a b : List ℕ). a ++ b)
      (take_stores v all n (n + s * n) (omega arith) ∙ take_at (spread w n y) (spreads w n xs) n (spread_long n y))
      (drop_stores v all n (s * n) ∙ ap (λ (m : List ℕ). stores m (s * n) v) (drop_at (spread w n y) (spreads w n xs) n (spread_long n y))
      ∙ spreads_put n xs s x)
