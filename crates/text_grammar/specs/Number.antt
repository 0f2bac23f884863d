-- Decimal numbers in a format.
--
--   decimal v              == the decimal digits of v, without leading zeros
--   digit b                == the byte b is a digit
--   within_range lo hi v    == lo ≤ v ≤ hi
--   ranges_meet lo hi a b   == some number is in lo..hi and in a..b
--   digits_begin lo hi v    == the digits of v begin those of some number in lo..hi, which has up to two more
--   tenfold v b            == the number whose digits are those of v and then the digit b
--   extends lo hi v b      == b is a digit that may follow the digits of v
--   num lo hi k            == a decimal number v in lo..hi, then the format k v
--   number_at lo hi w i     == the number in lo..hi that stands in w at place i, as far as its own bytes decide
use Rattle.std.specs.Prelude.{ℕ, zero, suc, ◌+◌, ◌-◌, ◌*◌, ◌/◌, ◌%◌, Bool, true, false, ◌&&◌, ◌||◌, List, [], ◌∷◌, ◌++◌, leb, ltb}
use Rattle.text_grammar.specs.Format.{Format, Run, may_begin, child}
use Rattle.text_grammar.specs.Format.Format.{node}
use Rattle.text_grammar.specs.Format.Run.{got, fault}
use Rattle.text_grammar.specs.Marks.{digit_zero}

-- the digits of v, given more turns than v has digits
unfoldable pub digits : ℕ → ℕ → List ℕ
digits zero v = []
digits (suc n) v = elim (ltb v 10) [ true ↦ (digit_zero + v) ∷ [] | false ↦ digits n (v / 10) ++ (digit_zero + v % 10) ∷ [] ]

-- SPEC 8.1
unfoldable pub decimal : ℕ → List ℕ
decimal v = digits (suc v) v

unfoldable pub digit : ℕ → Bool
digit b = leb digit_zero b && leb b 57

unfoldable pub within_range : ℕ → ℕ → ℕ → Bool
within_range lo hi v = leb lo v && leb v hi

unfoldable pub ranges_meet : ℕ → ℕ → ℕ → ℕ → Bool
ranges_meet lo hi a b = leb lo hi && leb lo b && leb a hi

unfoldable pub digits_begin : ℕ → ℕ → ℕ → Bool
digits_begin lo hi v = within_range lo hi v || ltb 0 v && (ranges_meet lo hi (10 * v) (10 * v + 9) || ranges_meet lo hi (100 * v) (100 * v + 99))

unfoldable pub tenfold : ℕ → ℕ → ℕ
tenfold v b = 10 * v + (b - digit_zero)

unfoldable pub extends : ℕ → ℕ → ℕ → ℕ → Bool
extends lo hi v b = digit b && ltb 0 v && digits_begin lo hi (tenfold v b)

-- after the digits of v: at most n more, then k of the number
unfoldable pub after : {R : Type 0} → ℕ → ℕ → ℕ → (ℕ → Format R) → ℕ → Format R
after zero lo hi k v = node (λ b. within_range lo hi v && may_begin (k v) b) (λ b. child (k v) b)
after (suc n) lo hi k v =
    node (λ b. extends lo hi v b || within_range lo hi v && may_begin (k v) b)
    (λ b. elim (extends lo hi v b) [ true ↦ after n lo hi k (tenfold v b) | false ↦ child (k v) b ])

unfoldable pub starts : ℕ → ℕ → ℕ → Bool
starts lo hi b = digit b && digits_begin lo hi (b - digit_zero)

unfoldable pub num : {R : Type 0} → ℕ → ℕ → (ℕ → Format R) → Format R
num lo hi k = node (λ b. starts lo hi b) (λ b. after 2 lo hi k (b - digit_zero))

unfoldable pub number_end : ℕ → ℕ → ℕ → ℕ → Run ℕ
number_end lo hi v j = elim (within_range lo hi v) [ true ↦ got v j | false ↦ fault j ]

unfoldable pub digits_at : ℕ → ℕ → ℕ → ℕ → (ℕ → ℕ) → ℕ → Run ℕ
digits_at zero lo hi v w j = number_end lo hi v j
digits_at (suc n) lo hi v w j =
    elim (extends lo hi v (w j)) [ true ↦ digits_at n lo hi (tenfold v (w j)) w (suc j) | false ↦ number_end lo hi v j ]

unfoldable pub number_at : ℕ → ℕ → (ℕ → ℕ) → ℕ → Run ℕ
number_at lo hi w i = elim (starts lo hi (w i)) [ true ↦ digits_at 2 lo hi (w i - digit_zero) w (suc i) | false ↦ fault i ]
