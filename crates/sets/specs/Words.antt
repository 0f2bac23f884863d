-- Sets of states in words of 64 bits, low states first, and lists of them. How many words a set has, and so how many states it can hold, is known in
-- this crate alone: the crates above it speak of a set's number, of the sets that words hold, and of `capacity`.
--
--   capacity    == how many states a set can hold
--   highest     == the highest of them
--   low_states   == how many of them are low: those that the first word of a set holds
--   row_words    == how many words the rows of a graph take
--   value w l   == the number whose words of w bits are l, low first: laws of it hold for any number of words
--   held w n k l   == the numbers of the first k sets that the words l hold, n words of w bits a set: laws of it hold for any number of words a set
--   spread w n x   == the n words of w bits of the set with the number x
--   spreads w n xs == the words of sets, one set after the other
--   bits_of x    == the number of the set x: state s belongs to x when `has (bits_of x) s`
--   sets_in l    == the numbers of the sets that the words l hold
--   set_count l  == how many sets the words l hold
--   words_of xs  == the words that hold the sets with the numbers xs
--   put_set l s x  == the words l with set number s replaced by that with the number x
--   set_of x     == the set with the number x
--   words_for n  == how many words n sets have
--   WordsFit x  == each word of the set x has 64 bits: so in every program
--   no_states    == the empty set
--   set_at l s   == set number s of the words l, as a record
use Rattle.std.specs.Prelude.{ℕ, zero, suc, ◌+◌, ◌*◌, ◌/◌, ◌%◌, ◌^◌, ◌<◌, List, [], ◌∷◌, ◌++◌, length, get_or, set, take, drop}
use Rattle.sets.specs.declared.Set.{Set}

-- "A set becomes two 64-bit words, low states first, in every record." (M-105) (SPEC 1.5)
abbrev pub capacity : ℕ
capacity = 128

abbrev pub highest : ℕ
highest = 127

abbrev pub low_states : ℕ
low_states = 64

abbrev pub row_words : ℕ
row_words = 256

unfoldable pub value : ℕ → List ℕ → ℕ
value w [] = 0
value w (x ∷ l) = value w l * 2 ^ w + x

unfoldable pub held : ℕ → ℕ → ℕ → List ℕ → List ℕ
held w n zero l = []
held w n (suc k) l = value w (take n l) ∷ held w n k (drop n l)

unfoldable pub spread : ℕ → ℕ → ℕ → List ℕ
spread w zero x = []
spread w (suc zero) x = x ∷ []
spread w (suc (suc n)) x = x % 2 ^ w ∷ spread w (suc n) (x / 2 ^ w)

unfoldable pub spreads : ℕ → ℕ → List ℕ → List ℕ
spreads w n [] = []
spreads w n (x ∷ xs) = spread w n x ++ spreads w n xs

-- "state s belongs when the bit worth 2 to the power s is set" (SPEC 1.5)
unfoldable pub bits_of : Set → ℕ
unfolding value
bits_of x = value 64 (x.low ∷ x.high ∷ [])

unfoldable pub set_of : ℕ → Set
set_of x = record { low = x % 2 ^ 64; high = x / 2 ^ 64 }

unfoldable pub sets_in : List ℕ → List ℕ
sets_in [] = []
sets_in (x ∷ []) = value 64 (x ∷ []) ∷ []
sets_in (x ∷ y ∷ l) = value 64 (x ∷ y ∷ []) ∷ sets_in l

unfoldable pub set_count : List ℕ → ℕ
set_count l = length l / 2

unfoldable pub words_of : List ℕ → List ℕ
words_of [] = []
words_of (x ∷ xs) = x % 2 ^ 64 ∷ x / 2 ^ 64 ∷ words_of xs

unfoldable pub put_set : List ℕ → ℕ → ℕ → List ℕ
put_set l s x = set (set l (2 * s) (x % 2 ^ 64)) (2 * s + 1) (x / 2 ^ 64)

abbrev pub words_for : ℕ → ℕ
words_for n = 2 * n

abbrev pub WordsFit : Set → Type 0
WordsFit x = (x.low < 2 ^ 64) × (x.high < 2 ^ 64)

abbrev pub no_states : Set
no_states = record { low = 0; high = 0 }

abbrev pub set_at : List ℕ → ℕ → Set
set_at l s = record { low = get_or l (2 * s) 0; high = get_or l (2 * s + 1) 0 }
