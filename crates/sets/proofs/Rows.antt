-- Laws of sets and of the sets that words hold. No crate above unfolds `bits_of`, `sets_in` or `set_count`.
--
--   none, some         : the test of `is_empty`, taken and not
--   is_none, is_some   : the test of `!is_empty`, not taken and taken
--   low_some           : a set whose lowest member is of the low word is not empty
--   alike, differ      : the test of `!same`, not taken and taken
--   count_same         : as many sets in as many words
--   sets_long          : what the words hold is in the list of sets
--   sets_parts         : how many sets begin in the words
--   words_none         : empty sets are words of 0
--   words_put          : a set put among others
--   sets_words         : what the words of sets hold
--   words_held, words_long       : so many sets are in so many words, and the other way round
--   sets_take, sets_drop, count_drop, sets_append : the sets in a part of the words
--   rest_words                   : where the sets past the first k are the same, so are the words
--   bits_of_lem, set_is    : a set and its number
--   low_word, word_low : a set of low states and its word
--   sets_all, words_sets, rows_put  : the rows of a graph, as words and as sets
--   no_bits, no_states_lem : the empty set has no members
--   set_bits           : a set of the list as a record, and as a number
use Prim.Native.Nat.{ℕ, suc, ◌+◌, ◌-◌, ◌*◌, ◌/◌, ◌%◌, ◌^◌, ◌≤◌, ◌<◌}
use mathlib.Core.Path.{◌≡◌, refl, sym, ◌∙◌, ap, ap₂}
use mathlib.Core.Bool.{Bool, true, false, not}
use mathlib.Core.List.{List, [], ◌∷◌, ◌++◌}
use mathlib.Core.Logic.{◌≢◌, ◌⊎◌, inl, inr}
use lib.Dec.{eqb}
use lib.Seq.{get_or-drop, length-take-le}
use lib.ListN.{length, get_or, set, replicate, take, drop, length-append, length-drop, length-set, drop_of_length-le, get_or-eq_default}
use native.Mathlib.Omega.{arith}
use native.Mathlib.Decide.{dec_lt}
use borrow.Author.Tests.{eqb-true, eqb-false}
use Rattle.sets.proofs.Values.{Words}
use Rattle.sets.proofs.Held.{
  held_at,
  held_put,
  held_take,
  held_drop,
  held_append,
  held_same,
  held_spreads,
  spreads_held,
  spreads_put,
}
use Rattle.sets.proofs.Pair.{pair_zero, pair_low, pair_is}
use Rattle.finite.specs.Bounded.{least}
use Rattle.finite.proofs.Bounded.{least_member}
use Rattle.finite.proofs.Truth.{decide, clash, not_true, not_false}
use Rattle.bits.specs.Member.{has}
use Rattle.bits.proofs.Membership.{has_zero_lem, has_past, ext}
use Rattle.sets.specs.declared.Set.{Set}
use Rattle.sets.specs.Words.{capacity, low_states, row_words, value, held, spread, spreads, bits_of, set_of, sets_in, set_count, words_of, put_set, words_for, no_states, set_at}

pub none : {b : Bool} (x : ℕ) → b ≡ eqb x 0 → b ≡ true → x ≡ 0
none x e q = eqb-true x 0 (sym e ∙ q)

pub some : {b : Bool} (x : ℕ) → b ≡ eqb x 0 → b ≡ false → x ≢ 0
some x e q = eqb-false x 0 (sym e ∙ q)

pub is_some : {b : Bool} (x : ℕ) → b ≡ eqb x 0 → not b ≡ true → x ≢ 0
is_some {b} x e q = some x e (not_true b q)

pub is_none : {b : Bool} (x : ℕ) → b ≡ eqb x 0 → not b ≡ false → x ≡ 0
is_none {b} x e q = none x e (not_false b q)

-- a set whose lowest member is known has a member
pub low_some : {x : ℕ} → least capacity (has x) < 64 → x ≢ 0
low_some {x} l z =
    clash (least_member capacity (has x) (omega arith)) (ap (λ (k : ℕ). has k (least capacity (has x))) z ∙ has_zero_lem (least capacity (has x)))

pub differ : {b : Bool} (x y : ℕ) → b ≡ eqb x y → not b ≡ true → x ≢ y
differ {b} x y e q = eqb-false x y (sym e ∙ not_true b q)

pub alike : {b : Bool} (x y : ℕ) → b ≡ eqb x y → not b ≡ false → x ≡ y
alike {b} x y e q = eqb-true x y (sym e ∙ not_false b q)

pub count_same : (l m : List ℕ) → length l ≡ length m → set_count l ≡ set_count m
unfolding set_count
count_same l m e = ap (λ (n : ℕ). n / 2) e

count_room : (l : List ℕ) (n : ℕ) → n ≤ set_count l → 2 * n ≤ length l
unfolding set_count
count_room l n h = omega arith

place_low : (l : List ℕ) (s : ℕ) → s < set_count l → 2 * s + 2 ≤ length l
unfolding set_count
place_low l s h = omega arith

-- two words a set, and a last word alone
pub sets_parts : (l : List ℕ) → length (sets_in l) ≡ length l / 2 + length l % 2
unfolding sets_in
sets_parts [] = refl
sets_parts (x ∷ []) = refl
sets_parts (x ∷ y ∷ l) = omega (arith, sets_parts l)

-- the sets of two words of 64 bits: the laws of Held at these numbers
sets_held : (l : List ℕ) → sets_in l ≡ held 64 2 (length (sets_in l)) l
unfolding sets_in held
sets_held [] = refl
sets_held (x ∷ []) = refl
sets_held (x ∷ y ∷ l) = ap (◌∷◌ (value 64 (x ∷ y ∷ []))) (sets_held l)

sets_many : (l : List ℕ) (k : ℕ) → length l / 2 + length l % 2 ≡ k → sets_in l ≡ held 64 2 k l
sets_many l k e = sets_held l ∙ ap (λ (n : ℕ). held 64 2 n l) (sets_parts l ∙ e)

pub sets_long : (l : List ℕ) → set_count l ≤ length (sets_in l)
unfolding set_count
sets_long l = omega (arith, sets_parts l)

-- the first two words of a list; one that it lacks is 0
front_pair : (l : List ℕ) → value 64 (get_or l 0 0 ∷ get_or l 1 0 ∷ []) ≡ value 64 (take 2 l)
unfolding value
front_pair [] = refl
front_pair (x ∷ []) = refl
front_pair (x ∷ y ∷ l) = refl

pub rows_at : (l : List ℕ) (s : ℕ) → value 64 (get_or l (2 * s) 0 ∷ get_or l (2 * s + 1) 0 ∷ []) ≡ get_or (sets_in l) s 0
unfolding value
rows_at l s = words ∙ front_pair (drop (s * 2) l) ∙ go (dec_lt s (length (sets_in l)))
  where
    words : value 64 (get_or l (2 * s) 0 ∷ get_or l (2 * s + 1) 0 ∷ []) ≡ value 64 (get_or (drop (s * 2) l) 0 0 ∷ get_or (drop (s * 2) l) 1 0 ∷ [])
    words =
        let e : 2 * s ≡ s * 2 + 0 = omega arith in
        let f : 2 * s + 1 ≡ s * 2 + 1 = omega arith in
        ap₂ (λ (a b : ℕ). value 64 (a ∷ b ∷ []))
        (ap (λ (i : ℕ). get_or l i 0) e ∙ sym (get_or-drop (s * 2) l 0 0)) (ap (λ (i : ℕ). get_or l i 0) f ∙ sym (get_or-drop (s * 2) l 1 0))

    past : drop (s * 2) l ≡ [] → value 64 (take 2 (drop (s * 2) l)) ≡ 0
    past e = ap (λ (m : List ℕ). value 64 (take 2 m)) e

    go : Dec (s < length (sets_in l)) → value 64 (take 2 (drop (s * 2) l)) ≡ get_or (sets_in l) s 0
    go (yes b) = sym (ap (λ (m : List ℕ). get_or m s 0) (sets_held l) ∙ held_at 64 2 (length (sets_in l)) l s b)
    go (no b) = past (drop_of_length-le l {i = s * 2} (omega (arith, sets_parts l))) ∙ sym (get_or-eq_default (sets_in l) 0 (omega arith))

pub pair_put : (l : List ℕ) (s a b : ℕ) → 2 * s + 2 ≤ length l → sets_in (set (set l (2 * s) a) (2 * s + 1) b) ≡ set (sets_in l) s (value 64 (a ∷ b ∷ []))
pair_put l s a b h =
    let k = length l / 2 + length l % 2 in
    let e : 2 * s ≡ s * 2 = omega arith in
    let f : 2 * s + 1 ≡ suc (s * 2) = omega arith in
    let m = set (set l (2 * s) a) (2 * s + 1) b in
    let long : length m ≡ length l = simp length-set in
    sets_many m k (ap (λ (n : ℕ). n / 2 + n % 2) long) ∙ ap₂ (λ (i j : ℕ). held 64 2 k (set (set l i a) j b)) e f
    ∙ held_put 64 2 k l s (a ∷ b ∷ []) (omega arith) refl (omega arith) ∙ ap (λ (n : List ℕ). set n s (value 64 (a ∷ b ∷ []))) (sym (sets_many l k refl))

-- a number's two words
parted : (x : ℕ) → value 64 (x % 2 ^ 64 ∷ x / 2 ^ 64 ∷ []) ≡ x
unfolding value
parted x = omega arith

parted_low : (x y : ℕ) → x < 2 ^ 64 → value 64 (x ∷ y ∷ []) % 2 ^ 64 ≡ x
unfolding value
parted_low x y h = omega arith

parted_high : (x y : ℕ) → x < 2 ^ 64 → value 64 (x ∷ y ∷ []) / 2 ^ 64 ≡ y
unfolding value
parted_high x y h = omega arith

pub no_bits : bits_of no_states ≡ 0
unfolding bits_of
no_bits = pair_zero refl refl

pub set_bits : (l : List ℕ) (s : ℕ) → bits_of (set_at l s) ≡ get_or (sets_in l) s 0
unfolding bits_of
set_bits l s = rows_at l s

pub words_none : replicate row_words 0 ≡ words_of (replicate capacity 0)
unfolding words_of
words_none = refl

words_spread : (xs : List ℕ) → words_of xs ≡ spreads 64 2 xs
unfolding words_of spreads spread
words_spread [] = refl
words_spread (x ∷ xs) = ap (λ (l : List ℕ). x % 2 ^ 64 ∷ x / 2 ^ 64 ∷ l) (words_spread xs)

words_two : (xs : List ℕ) → length (words_of xs) ≡ 2 * length xs
unfolding words_of
words_two [] = refl
words_two (x ∷ xs) = omega (arith, words_two xs)

pub words_put : (xs : List ℕ) (s x : ℕ) → put_set (words_of xs) s x ≡ words_of (set xs s x)
unfolding put_set spread
words_put xs s x =
    let e : 2 * s ≡ s * 2 = omega arith in
    let f : 2 * s + 1 ≡ suc (s * 2) = omega arith in
    ap₂ (λ (i j : ℕ). set (set (words_of xs) i (x % 2 ^ 64)) j (x / 2 ^ 64)) e f
    ∙ ap (λ (l : List ℕ). set (set l (s * 2) (x % 2 ^ 64)) (suc (s * 2)) (x / 2 ^ 64)) (words_spread xs) ∙ spreads_put 64 2 xs s x
    ∙ sym (words_spread (set xs s x))

pub sets_words : (xs : List ℕ) → sets_in (words_of xs) ≡ xs
sets_words xs =
    sets_many (words_of xs) (length xs) (omega (arith, words_two xs)) ∙ ap (held 64 2 (length xs)) (words_spread xs) ∙ held_spreads 64 1 xs

-- a set's words, put as its number
pub put_words : (l : List ℕ) (s x y : ℕ) → x < 2 ^ 64 → set (set l (2 * s) x) (2 * s + 1) y ≡ put_set l s (value 64 (x ∷ y ∷ []))
unfolding put_set
put_words l s x y h = rw (parted_low x y h, parted_high x y h) refl

pub words_held : (l : List ℕ) (k : ℕ) → words_for k ≤ length l → k ≤ set_count l
unfolding set_count
words_held l k b = omega arith

pub words_long : (l : List ℕ) (k : ℕ) → k ≤ set_count l → words_for k ≤ length l
words_long l k b = count_room l k b

pub sets_take : (l : List ℕ) (k : ℕ) → k ≤ set_count l → sets_in (take (words_for k) l) ≡ take k (sets_in l)
unfolding set_count
sets_take l k b =
    let e : 2 * k ≡ k * 2 = omega arith in
    let long : length (take (2 * k) l) ≡ 2 * k = length-take-le (2 * k) l (omega arith) in
    sets_many (take (2 * k) l) k (omega arith) ∙ ap (λ (i : ℕ). held 64 2 k (take i l)) e
    ∙ held_take 64 2 k (length (sets_in l)) l (omega (arith, sets_parts l)) ∙ ap (take k) (sym (sets_held l))

pub sets_drop : (l : List ℕ) (k : ℕ) → sets_in (drop (words_for k) l) ≡ drop k (sets_in l)
unfolding sets_in
sets_drop l k = go (dec_lt k (length (sets_in l)))
  where
    past : drop (2 * k) l ≡ [] → sets_in (drop (2 * k) l) ≡ []
    past e = ap sets_in e

    go : Dec (k < length (sets_in l)) → sets_in (drop (2 * k) l) ≡ drop k (sets_in l)
    go (yes b) =
        let j = length (sets_in l) - k in
        let e : 2 * k ≡ k * 2 = omega arith in
        let f : k + j ≡ length (sets_in l) = omega arith in
        sets_many (drop (2 * k) l) j (omega (arith, length-drop (2 * k) l, sets_parts l)) ∙ ap (λ (i : ℕ). held 64 2 j (drop i l)) e
        ∙ held_drop 64 2 k j l ∙ ap (λ (i : ℕ). drop k (held 64 2 i l)) f ∙ ap (drop k) (sym (sets_held l))
    go (no b) =
        past (drop_of_length-le l {i = 2 * k} (omega (arith, sets_parts l))) ∙ sym (drop_of_length-le (sets_in l) {i = k} (omega arith))

pub count_drop : (l : List ℕ) (k n : ℕ) → k + n ≤ set_count l → n ≤ set_count (drop (words_for k) l)
unfolding set_count
count_drop l k n b = omega (arith, length-drop (2 * k) l)

pub sets_append : (a b : List ℕ) (k : ℕ) → length a ≡ words_for k → sets_in (a ++ b) ≡ sets_in a ++ sets_in b
sets_append a b k e =
    let f : length a ≡ k * 2 = omega arith in
    sets_many (a ++ b) (k + length (sets_in b)) (omega (arith, length-append a b, sets_parts b)) ∙ held_append 64 2 k (length (sets_in b)) a b f
    ∙ ap₂ (λ (l m : List ℕ). l ++ m) (sym (sets_many a k (omega arith))) (sym (sets_held b))

words_fit : (l : List ℕ) → ((i : ℕ) → get_or l i 0 < 2 ^ 64) → Words 64 l
words_fit [] f = Words.none
words_fit (x ∷ l) f = Words.more (f 0) (words_fit l (λ i. f (suc i)))

-- words of 64 bits that hold the same sets are the same
words_same : (l m : List ℕ) → ((i : ℕ) → get_or l i 0 < 2 ^ 64) → ((i : ℕ) → get_or m i 0 < 2 ^ 64) → length l ≡ length m → sets_in l ≡ sets_in m → l ≡ m
words_same l m a b e h =
    let k = length l / 2 + length l % 2 in
    held_same 64 2 k l m (words_fit l a) (words_fit m b) e (omega arith)
    (sym (sets_many l k refl) ∙ h ∙ sets_many m k (ap (λ (n : ℕ). n / 2 + n % 2) (sym e)))

pub rest_words : (k : ℕ) (l m : List ℕ) → ((i : ℕ) → get_or l i 0 < 2 ^ 64) → ((i : ℕ) → get_or m i 0 < 2 ^ 64) → length l ≡ length m
    → drop k (sets_in l) ≡ drop k (sets_in m) → drop (words_for k) l ≡ drop (words_for k) m
rest_words k l m a b e h =
    words_same (drop (2 * k) l) (drop (2 * k) m) (part l a) (part m b) (length-drop (2 * k) l ∙ ap (λ (n : ℕ). n - 2 * k) e ∙ sym (length-drop (2 * k) m))
    (sets_drop l k ∙ h ∙ sym (sets_drop m k))
  where
    part : (n : List ℕ) → ((i : ℕ) → get_or n i 0 < 2 ^ 64) → (i : ℕ) → get_or (drop (2 * k) n) i 0 < 2 ^ 64
    part n f i = rw (get_or-drop (2 * k) n i 0) (f (2 * k + i))

pub no_states_lem : set_of 0 ≡ no_states
unfolding set_of
no_states_lem = refl

pub bits_of_lem : (x : ℕ) → bits_of (set_of x) ≡ x
unfolding bits_of set_of
bits_of_lem x = parted x

-- of a parameter and of a call's result the premise is found by `omega`: a set's number tells its words where the low one has 64 bits
pub set_is : (x : Set) → x.low < 2 ^ 64 → set_of (bits_of x) ≡ x
unfolding bits_of set_of
set_is x h = λ i. record { low = parted_low x.low x.high h i; high = parted_high x.low x.high h i }

-- of a parameter the range of its words is found by `omega`
pub low_word : (x : Set) → x.low < 2 ^ 64 → ((s : ℕ) → has (bits_of x) s ≡ true → s < low_states) → x.low ≡ bits_of x
unfolding bits_of
low_word x h b = ext x.low (bits_of x) (λ s. go s (dec_lt s 64))
  where
    none : (s : ℕ) → 64 ≤ s → (has (bits_of x) s ≡ true) ⊎ (has (bits_of x) s ≡ false) → has (bits_of x) s ≡ false
    none s l (inl q) = let c = b s q in absurd (omega arith)
    none s l (inr q) = q

    go : (s : ℕ) → Dec (s < low_states) → has x.low s ≡ has (bits_of x) s
    go s (yes l) = sym (pair_low x.low x.high h s l)
    go s (no l) = has_past 64 x.low s h (omega arith) ∙ sym (none s (omega arith) (decide (has (bits_of x) s)))

pub word_low : (w : ℕ) → w < 2 ^ 64 → bits_of (record { low = w; high = 0 }) ≡ w
unfolding bits_of
word_low w h =
    ext (bits_of (record { low = w; high = 0 })) w
    (pair_is w 0 h (has w) (λ t l. refl) (λ t. has_zero_lem t ∙ sym (has_past 64 w (64 + t) h (omega arith))))

pub sets_all : (l : List ℕ) → length l ≡ row_words → length (sets_in l) ≡ capacity
sets_all l h = omega (arith, sets_parts l)

pub words_sets : (l : List ℕ) → length l ≡ row_words → ((i : ℕ) → get_or l i 0 < 2 ^ 64) → words_of (sets_in l) ≡ l
words_sets l h f =
    words_spread (sets_in l) ∙ ap (spreads 64 2) (sets_many l capacity (omega arith)) ∙ spreads_held 64 1 capacity l (words_fit l f) h

pub rows_put : (l m : List ℕ) (s x : ℕ) → words_of (sets_in l) ≡ l → m ≡ put_set l s x → (sets_in m ≡ set (sets_in l) s x) × (words_of (sets_in m) ≡ m)
rows_put l m s x h e =
    let to : m ≡ words_of (set (sets_in l) s x) = e ∙ ap (λ (k : List ℕ). put_set k s x) (sym h) ∙ words_put (sets_in l) s x in
    let sets : sets_in m ≡ set (sets_in l) s x = ap sets_in to ∙ sets_words (set (sets_in l) s x) in
    (sets, ap words_of sets ∙ sym to)
