-- The laws of decimal numbers in a format, for numbers below 1,000.
use Prim.Native.Nat.{ℕ, zero, suc, ◌+◌, ◌-◌, ◌*◌, ◌/◌, ◌%◌, ◌≤◌, ◌<◌, max}
use native.Mathlib.Omega.{arith}
use mathlib.Core.Bool.{Bool, true, false, ◌&&◌, ◌||◌}
use mathlib.Core.List.{List, [], ◌∷◌, ◌++◌, append_assoc, append-nil}
use mathlib.Core.Logic.{◌⊎◌, inl, inr}
use mathlib.Core.Path.{◌≡◌, refl, sym, ◌∙◌, ap, subst}
use lib.Dec.{leb, ltb, eqb}
use lib.ListN.{length, length-append}
use borrow.Author.Tests.{le-leb, lt-leb, leb-true, lt-ltb, le-ltb, ltb-true, ltb-false, eqb-true}
use Rattle.text_grammar.specs.Format.{Format, Run, TextOf, run, Live, lit, alt, may_begin, child, follow, IsNode}
use Rattle.text_grammar.specs.Format.Format.{done, node}
use Rattle.text_grammar.specs.Format.Run.{got, fault}
use Rattle.text_grammar.specs.Number.{
  digits,
  decimal,
  digit,
  within_range,
  ranges_meet,
  digits_begin,
  tenfold,
  extends,
  after,
  starts,
  num,
  number_end,
  digits_at,
  number_at,
}
use Rattle.finite.proofs.Truth.{clash, and_left, and_right, or_left, or_right, or_cases}
use Rattle.text_grammar.proofs.Format.{by_cases, run_step, run_stop, follow_got, follow_fault, lit_node, alt_node, not_fault}

-- the tests, as facts
pub digit_bounds : (b : ℕ) → digit b ≡ true → (48 ≤ b) × (b ≤ 57)
unfolding digit
digit_bounds b h = (leb-true 48 b (and_left (leb 48 b) (leb b 57) h), leb-true b 57 (and_right (leb 48 b) (leb b 57) h))

digit_intro : (b : ℕ) → 48 ≤ b → b ≤ 57 → digit b ≡ true
unfolding digit
digit_intro b p q = rw (le-leb 48 b p) (le-leb b 57 q)

inside_bounds : (lo hi v : ℕ) → within_range lo hi v ≡ true → (lo ≤ v) × (v ≤ hi)
unfolding within_range
inside_bounds lo hi v h = (leb-true lo v (and_left (leb lo v) (leb v hi) h), leb-true v hi (and_right (leb lo v) (leb v hi) h))

pub inside_intro : (lo hi v : ℕ) → lo ≤ v → v ≤ hi → within_range lo hi v ≡ true
unfolding within_range
inside_intro lo hi v p q = rw (le-leb lo v p) (le-leb v hi q)

record Common (lo hi a b : ℕ) : Type 0 where
  at : ℕ
  low : lo ≤ at
  high : at ≤ hi
  from : a ≤ at
  upto : at ≤ b

meets_elim : (lo hi a b : ℕ) → a ≤ b → ranges_meet lo hi a b ≡ true → Common lo hi a b
unfolding ranges_meet
meets_elim lo hi a b l h =
    let q = and_left (leb lo hi && leb lo b) (leb a hi) h in
    let x = leb-true lo hi (and_left (leb lo hi) (leb lo b) q) in
    let y = leb-true lo b (and_right (leb lo hi) (leb lo b) q) in
    let z = leb-true a hi (and_right (leb lo hi && leb lo b) (leb a hi) h) in
    record { at = max lo a; low = omega arith; high = omega arith; from = omega arith; upto = omega arith }

meets_intro : (lo hi a b u : ℕ) → lo ≤ u → u ≤ hi → a ≤ u → u ≤ b → ranges_meet lo hi a b ≡ true
unfolding ranges_meet
meets_intro lo hi a b u p q r s =
    rw (le-leb lo hi (omega arith)) (rw (le-leb lo b (omega arith)) (le-leb a hi (omega arith)))

pos_of : (v : ℕ) → (v ≡ 0 → ⊥) → 0 < v
pos_of zero n = absurd (n refl)
pos_of (suc v) n = omega arith

-- a number in lo..hi whose digits those of v begin
record Reach (lo hi v : ℕ) : Type 0 where
  at : ℕ
  low : lo ≤ at
  high : at ≤ hi
  begun : (at ≡ v) ⊎ (((0 < v) × (at / 10 ≡ v)) ⊎ ((0 < v) × (at / 100 ≡ v)))

begins_elim : (lo hi v : ℕ) → digits_begin lo hi v ≡ true → Reach lo hi v
unfolding digits_begin
begins_elim lo hi v h = first (or_cases (within_range lo hi v) _ h)
  where
    second : 0 < v → (ranges_meet lo hi (10 * v) (10 * v + 9) ≡ true) ⊎ (ranges_meet lo hi (100 * v) (100 * v + 99) ≡ true) → Reach lo hi v
    second pos (inl e) =
        let c = meets_elim lo hi (10 * v) (10 * v + 9) (omega arith) e in
        record { at = c.at; low = c.low; high = c.high; begun = inr (inl (pos, omega arith)) }
    second pos (inr e) =
        let c = meets_elim lo hi (100 * v) (100 * v + 99) (omega arith) e in
        record { at = c.at; low = c.low; high = c.high; begun = inr (inr (pos, omega arith)) }

    first : (within_range lo hi v ≡ true) ⊎ ((ltb 0 v && (ranges_meet lo hi (10 * v) (10 * v + 9) || ranges_meet lo hi (100 * v) (100 * v + 99)))
        ≡ true) → Reach lo hi v
    first (inl e) = let p = inside_bounds lo hi v e in record { at = v; low = p.0; high = p.1; begun = inl refl }
    first (inr e) =
        second (ltb-true 0 v (and_left (ltb 0 v) _ e))
        (or_cases (ranges_meet lo hi (10 * v) (10 * v + 9)) _ (and_right (ltb 0 v) _ e))

begins_most : (lo hi v : ℕ) → digits_begin lo hi v ≡ true → v ≤ hi
begins_most lo hi v h = go (begins_elim lo hi v h)
  where
    go : Reach lo hi v → v ≤ hi
    go c = elim c.begun [
      | inl e ↦ subst (λ (x : ℕ). x ≤ hi) e c.high
      | inr d ↦ elim d [ inl e ↦ tenth c.at c.high e.1 | inr e ↦ hundredth c.at c.high e.1 ]
    ]
      where
        tenth : (u : ℕ) → u ≤ hi → u / 10 ≡ v → v ≤ hi
        tenth u q e = omega arith

        hundredth : (u : ℕ) → u ≤ hi → u / 100 ≡ v → v ≤ hi
        hundredth u q e = omega arith

begins_self : (lo hi u : ℕ) → lo ≤ u → u ≤ hi → digits_begin lo hi u ≡ true
unfolding digits_begin
begins_self lo hi u p q = or_left _ (inside_intro lo hi u p q)

begins_tenth : (lo hi v u : ℕ) → lo ≤ u → u ≤ hi → 0 < v → u / 10 ≡ v → digits_begin lo hi v ≡ true
unfolding digits_begin
begins_tenth lo hi v u p q pos e =
    or_right (within_range lo hi v)
    (rw (lt-ltb 0 v pos) (or_left _ (meets_intro lo hi (10 * v) (10 * v + 9) u p q (omega arith) (omega arith))))

begins_hundredth : (lo hi v u : ℕ) → lo ≤ u → u ≤ hi → 0 < v → u / 100 ≡ v → digits_begin lo hi v ≡ true
unfolding digits_begin
begins_hundredth lo hi v u p q pos e =
    or_right (within_range lo hi v)
    (rw (lt-ltb 0 v pos) (or_right (ranges_meet lo hi (10 * v) (10 * v + 9)) (meets_intro lo hi (100 * v) (100 * v + 99) u p q (omega arith) (omega arith))))

record Extended (lo hi v b : ℕ) : Type 0 where
  low : 48 ≤ b
  high : b ≤ 57
  pos : 0 < v
  goes : digits_begin lo hi (tenfold v b) ≡ true

extends_elim : (lo hi v b : ℕ) → extends lo hi v b ≡ true → Extended lo hi v b
unfolding extends
extends_elim lo hi v b h =
    let q = and_left (digit b && ltb 0 v) (digits_begin lo hi (tenfold v b)) h in
    let d = digit_bounds b (and_left (digit b) (ltb 0 v) q) in
    record {
      low = d.0;
      high = d.1;
      pos = ltb-true 0 v (and_right (digit b) (ltb 0 v) q);
      goes = and_right (digit b && ltb 0 v) (digits_begin lo hi (tenfold v b)) h;
    }

extends_intro : (lo hi v b : ℕ) → 48 ≤ b → b ≤ 57 → 0 < v → digits_begin lo hi (tenfold v b) ≡ true → extends lo hi v b ≡ true
unfolding extends
extends_intro lo hi v b p q pos h = rw (digit_intro b p q) (rw (lt-ltb 0 v pos) h)

pub extends_digit : (lo hi v b : ℕ) → digit b ≡ false → extends lo hi v b ≡ false
unfolding extends
extends_digit lo hi v b h = rw h

-- the tests in the order in which code takes them
pub meets_off : (lo hi a b : ℕ) → hi < lo → ranges_meet lo hi a b ≡ false
unfolding ranges_meet
meets_off lo hi a b h = rw (lt-leb lo hi h)

pub meets_on : (lo hi a b : ℕ) → lo ≤ hi → ranges_meet lo hi a b ≡ (leb lo b && leb a hi)
unfolding ranges_meet
meets_on lo hi a b h = rw (le-leb lo hi h)

pub begins_inside : (lo hi v : ℕ) → within_range lo hi v ≡ true → digits_begin lo hi v ≡ true
unfolding digits_begin
begins_inside lo hi v h = rw h

pub begins_zero : (lo hi v : ℕ) → v ≡ 0 → within_range lo hi v ≡ false → digits_begin lo hi v ≡ false
unfolding digits_begin
begins_zero lo hi v z h = rw (h, le-ltb 0 v (omega arith))

pub begins_ten : (lo hi v : ℕ) → (v ≡ 0 → ⊥) → ranges_meet lo hi (10 * v) (10 * v + 9) ≡ true → digits_begin lo hi v ≡ true
unfolding digits_begin
begins_ten lo hi v n h = or_right (within_range lo hi v) (rw (lt-ltb 0 v (pos_of v n), h))

pub begins_hundred : (lo hi v : ℕ) → within_range lo hi v ≡ false → (v ≡ 0 → ⊥) → ranges_meet lo hi (10 * v) (10 * v + 9) ≡ false
    → digits_begin lo hi v ≡ ranges_meet lo hi (100 * v) (100 * v + 99)
unfolding digits_begin
begins_hundred lo hi v i n h = rw (i, lt-ltb 0 v (pos_of v n), h)

pub extends_zero : (lo hi v b : ℕ) → v ≡ 0 → extends lo hi v b ≡ false
unfolding extends
extends_zero lo hi v b z = let e = le-ltb 0 v (omega arith) in by_cases (digit b) (λ h. rw (h, e)) (λ h. rw h)

pub extends_by : (lo hi v b : ℕ) → (v ≡ 0 → ⊥) → digit b ≡ true → extends lo hi v b ≡ digits_begin lo hi (10 * v + (b - 48))
unfolding extends tenfold
extends_by lo hi v b n h = rw (h, lt-ltb 0 v (pos_of v n))

pub starts_by : (lo hi b : ℕ) → digit b ≡ true → starts lo hi b ≡ digits_begin lo hi (b - 48)
unfolding starts
starts_by lo hi b h = rw h

pub starts_not : (lo hi b : ℕ) → digit b ≡ false → starts lo hi b ≡ false
unfolding starts
starts_not lo hi b h = rw h

-- decimal digits
digits_more : (n m v : ℕ) → v < n → v < m → digits n v ≡ digits m v
unfolding digits
digits_more zero m v p q = absurd (omega arith)
digits_more (suc n) zero v p q = absurd (omega arith)
digits_more (suc n) (suc m) v p q =
    by_cases (ltb v 10)
    (λ e. rw (e, digits))
    (λ e. let l : 10 ≤ v = ltb-false v 10 e in rw (e, digits)
    (ap (λ (l : List ℕ). l ++ (48 + v % 10) ∷ []) (digits_more n m (v / 10) (omega arith) (omega arith))))

pub decimal_one : (v : ℕ) → v < 10 → decimal v ≡ (48 + v) ∷ []
unfolding decimal digits
decimal_one v h = rw (lt-ltb v 10 h, digits)

pub decimal_step : (v : ℕ) → 10 ≤ v → decimal v ≡ decimal (v / 10) ++ (48 + v % 10) ∷ []
unfolding decimal digits
decimal_step v h =
    rw (le-ltb v 10 h, digits) (ap (λ (l : List ℕ). l ++ (48 + v % 10) ∷ []) (digits_more v (suc (v / 10)) (v / 10) (omega arith) (omega arith)))

decimal_tenfold : (v b : ℕ) → 0 < v → 48 ≤ b → b ≤ 57 → decimal (tenfold v b) ≡ decimal v ++ b ∷ []
unfolding tenfold
decimal_tenfold v b pos p q =
    let tenth : (10 * v + (b - 48)) / 10 ≡ v = omega arith in
    let unit : 48 + (10 * v + (b - 48)) % 10 ≡ b = omega arith in
    decimal_step (10 * v + (b - 48)) (omega arith) ∙ ap (λ (x : ℕ). decimal x ++ (48 + (10 * v + (b - 48)) % 10) ∷ []) tenth
    ∙ ap (λ (x : ℕ). decimal v ++ x ∷ []) unit

tenfold_tenth : (u : ℕ) → tenfold (u / 10) (48 + u % 10) ≡ u
unfolding tenfold
tenfold_tenth u = omega arith

tenfold_le : (v b : ℕ) → 10 * v ≤ tenfold v b
unfolding tenfold
tenfold_le v b = omega arith

-- the bytes of a number, one at a time
pub number_end_lem : (lo hi v j : ℕ) → within_range lo hi v ≡ true → number_end lo hi v j ≡ got v j
unfolding number_end
number_end_lem lo hi v j h = rw (h, number_end)

pub number_out : (lo hi v j : ℕ) → within_range lo hi v ≡ false → number_end lo hi v j ≡ fault j
unfolding number_end
number_out lo hi v j h = rw (h, number_end)

number_more : (n lo hi v : ℕ) (w : ℕ → ℕ) (j : ℕ) → extends lo hi v (w j) ≡ true
    → digits_at (suc n) lo hi v w j ≡ digits_at n lo hi (tenfold v (w j)) w (suc j)
unfolding digits_at
number_more n lo hi v w j h = rw (h, digits_at)

number_stop : (n lo hi v : ℕ) (w : ℕ → ℕ) (j : ℕ) → extends lo hi v (w j) ≡ false → digits_at n lo hi v w j ≡ number_end lo hi v j
unfolding digits_at
number_stop zero lo hi v w j h = refl
number_stop (suc n) lo hi v w j h = rw (h, digits_at)

number_start : (lo hi : ℕ) (w : ℕ → ℕ) (i : ℕ) → starts lo hi (w i) ≡ true → number_at lo hi w i ≡ digits_at 2 lo hi (w i - 48) w (suc i)
unfolding number_at
number_start lo hi w i h = rw (h, number_at)

number_none : (lo hi : ℕ) (w : ℕ → ℕ) (i : ℕ) → starts lo hi (w i) ≡ false → number_at lo hi w i ≡ fault i
unfolding number_at
number_none lo hi w i h = rw (h, number_at)

-- one turn of reading digits, the byte b having been read
pub digits_go : (x : Run ℕ) (left lo hi v : ℕ) (w : ℕ → ℕ) (j b : ℕ) → x ≡ digits_at left lo hi v w j → 0 < left → b ≡ w j → extends lo hi v b ≡ true
    → x ≡ digits_at (left - 1) lo hi (10 * v + (b - 48)) w (j + 1)
unfolding tenfold
digits_go x zero lo hi v w j b e p q h = absurd (omega arith)
digits_go x (suc n) lo hi v w j b e p q h =
    e ∙ number_more n lo hi v w j (ap (extends lo hi v) (sym q) ∙ h)
    ∙ ap (λ (c : ℕ). digits_at n lo hi (10 * v + (c - 48)) w (suc j)) (sym q)
    ∙ ap (λ (m : ℕ). digits_at m lo hi (10 * v + (b - 48)) w (suc j)) (less n)
    ∙ ap (λ (i : ℕ). digits_at (suc n - 1) lo hi (10 * v + (b - 48)) w i) (next j)
  where
    less : (n : ℕ) → n ≡ suc n - 1
    less n = omega arith

    next : (j : ℕ) → suc j ≡ j + 1
    next j = omega arith

pub digits_stop : (x : Run ℕ) (left lo hi v : ℕ) (w : ℕ → ℕ) (j b : ℕ) → x ≡ digits_at left lo hi v w j → b ≡ w j → extends lo hi v b ≡ false
    → x ≡ number_end lo hi v j
digits_stop x left lo hi v w j b e q h = e ∙ number_stop left lo hi v w j (ap (extends lo hi v) (sym q) ∙ h)

pub digits_done : (x : Run ℕ) (left lo hi v : ℕ) (w : ℕ → ℕ) (j : ℕ) → x ≡ digits_at left lo hi v w j → left ≤ 0 → x ≡ number_end lo hi v j
unfolding digits_at
digits_done x zero lo hi v w j e h = e
digits_done x (suc left) lo hi v w j e h = absurd (omega arith)

pub extended_digit : (lo hi v b : ℕ) → extends lo hi v b ≡ true → (48 ≤ b) × (b ≤ 57)
extended_digit lo hi v b h = let e = extends_elim lo hi v b h in (e.low, e.high)

pub extended_small : (lo hi v b : ℕ) → extends lo hi v b ≡ true → 10 * v + (b - 48) ≤ hi
unfolding tenfold
extended_small lo hi v b h = begins_most lo hi (10 * v + (b - 48)) (extends_elim lo hi v b h).goes

pub started_digit : (lo hi b : ℕ) → starts lo hi b ≡ true → (48 ≤ b) × (b ≤ 57)
unfolding starts
started_digit lo hi b h = digit_bounds b (and_left (digit b) _ h)

pub number_first : (lo hi : ℕ) (w : ℕ → ℕ) (i b : ℕ) → b ≡ w i → starts lo hi b ≡ true → number_at lo hi w i ≡ digits_at 2 lo hi (b - 48) w (i + 1)
number_first lo hi w i b q h =
    number_start lo hi w i (ap (starts lo hi) (sym q) ∙ h)
    ∙ ap (λ (c : ℕ). digits_at 2 lo hi (c - 48) w (suc i)) (sym q) ∙ ap (digits_at 2 lo hi (b - 48) w) (next i)
  where
    next : (j : ℕ) → suc j ≡ j + 1
    next j = omega arith

pub number_never : (lo hi : ℕ) (w : ℕ → ℕ) (i b : ℕ) → b ≡ w i → starts lo hi b ≡ false → number_at lo hi w i ≡ fault i
number_never lo hi w i b q h = number_none lo hi w i (ap (starts lo hi) (sym q) ∙ h)

-- a number that is read is in range, and its end is past its start
number_end_range : (lo hi v j u i : ℕ) → number_end lo hi v j ≡ got u i → (lo ≤ u) × (u ≤ hi)
unfolding number_end
number_end_range lo hi v j u i h =
    by_cases (within_range lo hi v)
    (λ e.
    let same : got v j ≡ got u i = sym (number_end_lem lo hi v j e) ∙ h in
    let k : v ≡ u = cc in
    let b = inside_bounds lo hi v e in
    (subst (λ (x : ℕ). lo ≤ x) k b.0, subst (λ (x : ℕ). x ≤ hi) k b.1))
    (λ e. not_fault (sym (number_out lo hi v j e) ∙ h))

digits_range : (n lo hi v : ℕ) (w : ℕ → ℕ) (j u i : ℕ) → digits_at n lo hi v w j ≡ got u i → (lo ≤ u) × (u ≤ hi)
unfolding digits_at
digits_range zero lo hi v w j u i h = number_end_range lo hi v j u i h
digits_range (suc n) lo hi v w j u i h =
    by_cases (extends lo hi v (w j))
    (λ e. digits_range n lo hi (tenfold v (w j)) w (suc j) u i (sym (number_more n lo hi v w j e) ∙ h))
    (λ e. number_end_range lo hi v j u i (sym (number_stop (suc n) lo hi v w j e) ∙ h))

pub number_range : (lo hi : ℕ) (w : ℕ → ℕ) (i u j : ℕ) → number_at lo hi w i ≡ got u j → (lo ≤ u) × (u ≤ hi)
number_range lo hi w i u j h =
    by_cases (starts lo hi (w i))
    (λ e. digits_range 2 lo hi (w i - 48) w (suc i) u j (sym (number_start lo hi w i e) ∙ h))
    (λ e. not_fault (sym (number_none lo hi w i e) ∙ h))

-- a format by its first byte
open_text : {R : Type 0} (f : Format R) (b : ℕ) (t : List ℕ) (r : R) → may_begin f b ≡ true → TextOf (child f b) t r → TextOf f (b ∷ t) r
unfolding may_begin child TextOf
open_text (done x) b t r o p = clash o refl
open_text (node ok next) b t r o p = (o, p)

node_text : {R : Type 0} (f : Format R) (r : R) → IsNode f → TextOf f [] r → ⊥
unfolding IsNode TextOf
node_text (done x) r n p = n
node_text (node ok next) r n p = p

text_open : {R : Type 0} (f : Format R) (b : ℕ) (t : List ℕ) (r : R) → TextOf f (b ∷ t) r → (may_begin f b ≡ true) × TextOf (child f b) t r
unfolding may_begin child TextOf
text_open (done x) b t r p = absurd p
text_open (node ok next) b t r p = p

live_opens : {R : Type 0} (f : Format R) → Live f → IsNode f → (b : ℕ) × (may_begin f b ≡ true)
unfolding may_begin Live IsNode
live_opens (done x) l n = absurd n
live_opens (node ok next) l n = l.0

live_mark : {R : Type 0} (f : Format R) → Live f → may_begin f 256 ≡ false
unfolding may_begin Live
live_mark (done x) l = refl
live_mark (node ok next) l = l.2

live_child : {R : Type 0} (f : Format R) (b : ℕ) → Live f → may_begin f b ≡ true → Live (child f b)
unfolding may_begin child Live
live_child (done x) b l o = l
live_child (node ok next) b l o = l.1 b o

-- what may stand behind a number: a byte, and no digit
pub record Ends {R : Type 0} (f : Format R) : Type 0 where
  pub wants : IsNode f
  pub plain : (b : ℕ) → may_begin f b ≡ true → digit b ≡ false

pub record NumberParts {R : Type 0} (lo hi : ℕ) (k : ℕ → Format R) (t : List ℕ) (r : R) : Type 0 where
  pub value : ℕ
  pub back : List ℕ
  pub low : lo ≤ value
  pub high : value ≤ hi
  pub whole : t ≡ decimal value ++ back
  pub is_back : TextOf (k value) back r

-- the same behind the digits s
record AfterParts {R : Type 0} (lo hi : ℕ) (k : ℕ → Format R) (s t : List ℕ) (r : R) : Type 0 where
  value : ℕ
  front : List ℕ
  back : List ℕ
  low : lo ≤ value
  high : value ≤ hi
  digits_are : decimal value ≡ s ++ front
  whole : t ≡ front ++ back
  is_back : TextOf (k value) back r

module _ {R : Type 0} (lo hi : ℕ) (k : ℕ → Format R) where
  after_here : (v b : ℕ) (t : List ℕ) (r : R) → (within_range lo hi v && may_begin (k v) b) ≡ true → TextOf (child (k v) b) t r
      → AfterParts lo hi k (decimal v) (b ∷ t) r
  after_here v b t r o p =
      let l = inside_bounds lo hi v (and_left (within_range lo hi v) _ o) in
      record {
        value = v;
        front = [];
        back = b ∷ t;
        low = l.0;
        high = l.1;
        digits_are = sym (append-nil (decimal v));
        whole = refl;
        is_back = open_text (k v) b t r (and_right (within_range lo hi v) _ o) p;
      }

  after_parts : (n v : ℕ) (t : List ℕ) (r : R) → TextOf (after n lo hi k v) t r → AfterParts lo hi k (decimal v) t r
  unfolding after TextOf
  after_parts zero v [] r p = absurd p
  after_parts zero v (b ∷ t) r p = after_here v b t r p.0 p.1
  after_parts (suc n) v [] r p = absurd p
  after_parts (suc n) v (b ∷ t) r p =
      by_cases (extends lo hi v b)
      (λ e.
      let x = extends_elim lo hi v b e in
      let q = after_parts n (tenfold v b) t r (rw e at p).1 in
      record {
        value = q.value;
        front = b ∷ q.front;
        back = q.back;
        low = q.low;
        high = q.high;
        digits_are =
            q.digits_are ∙ ap (λ (l : List ℕ). l ++ q.front) (decimal_tenfold v b x.pos x.low x.high)
            ∙ append_assoc (decimal v) (b ∷ []) q.front;
        whole = ap (λ (l : List ℕ). b ∷ l) q.whole;
        is_back = q.is_back;
      })
      (λ e. let q = rw e at p in after_here v b t r q.0 q.1)

  pub num_parts : (t : List ℕ) (r : R) → TextOf (num lo hi k) t r → NumberParts lo hi k t r
  unfolding num TextOf starts
  num_parts [] r p = absurd p
  num_parts (b ∷ t) r p =
      let d = digit_bounds b (and_left (digit b) _ p.0) in
      let q = after_parts 2 (b - 48) t r p.1 in
      let one : decimal (b - 48) ≡ b ∷ [] =
      decimal_one (b - 48) (omega arith) ∙ ap (λ (x : ℕ). x ∷ []) (omega arith) in
      record {
        value = q.value;
        back = q.back;
        low = q.low;
        high = q.high;
        whole = ap (λ (l : List ℕ). b ∷ l) q.whole ∙ sym (ap (λ (l : List ℕ). l ++ q.back) (q.digits_are ∙ ap (λ (l : List ℕ). l ++ q.front) one));
        is_back = q.is_back;
      }

  -- the number ends here
  after_end : (n v b : ℕ) (t : List ℕ) (r : R) → Ends (k v) → within_range lo hi v ≡ true → TextOf (k v) (b ∷ t) r → TextOf (after n lo hi k v) (b ∷ t) r
  unfolding after TextOf
  after_end zero v b t r E i p = let q = text_open (k v) b t r p in rw i q
  after_end (suc n) v b t r E i p =
      let q = text_open (k v) b t r p in
      rw (extends_digit lo hi v b (E.plain b q.0)) (rw i q)

  after_more : (n v b : ℕ) (t : List ℕ) (r : R) → extends lo hi v b ≡ true → TextOf (after n lo hi k (tenfold v b)) t r
      → TextOf (after (suc n) lo hi k v) (b ∷ t) r
  unfolding after TextOf
  after_more n v b t r e p = rw e (refl, p)

  num_first : (v : ℕ) (t : List ℕ) (r : R) → v < 10 → digits_begin lo hi v ≡ true → TextOf (after 2 lo hi k v) t r → TextOf (num lo hi k) ((48 + v) ∷ t) r
  unfolding num TextOf starts
  num_first v t r l b p =
      let same : 48 + v - 48 ≡ v = omega arith in (
        rw (digit_intro (48 + v) (omega arith) (omega arith)) (ap (digits_begin lo hi) same ∙ b),
        subst (λ (x : ℕ). TextOf (after 2 lo hi k x) t r) (sym same) p,
      )

  -- one, two and three digits
  num_one : (u b : ℕ) (t : List ℕ) (r : R) → lo ≤ u → u ≤ hi → u < 10 → Ends (k u) → TextOf (k u) (b ∷ t) r → TextOf (num lo hi k) (decimal u ++ b ∷ t) r
  num_one u b t r p q l E x =
      rw (decimal_one u l) (num_first u (b ∷ t) r l (begins_self lo hi u p q) (after_end 2 u b t r E (inside_intro lo hi u p q) x))

  -- the last digit of u, behind the others
  after_last : (n u b : ℕ) (t : List ℕ) (r : R) → lo ≤ u → u ≤ hi → 10 ≤ u → Ends (k u) → TextOf (k u) (b ∷ t) r
      → TextOf (after (suc n) lo hi k (u / 10)) ((48 + u % 10) ∷ b ∷ t) r
  after_last n u b t r p q l E x =
      let same = tenfold_tenth u in
      after_more n (u / 10) (48 + u % 10) (b ∷ t) r
      (extends_intro lo hi (u / 10) (48 + u % 10) (omega arith) (omega arith) (omega arith) (rw same (begins_self lo hi u p q)))
      (rw same (after_end n u b t r E (inside_intro lo hi u p q) x))

  num_two : (u b : ℕ) (t : List ℕ) (r : R) → lo ≤ u → u ≤ hi → 10 ≤ u → u < 100 → Ends (k u) → TextOf (k u) (b ∷ t) r
      → TextOf (num lo hi k) (decimal u ++ b ∷ t) r
  num_two u b t r p q l m E x =
      rw (decimal_step u l, decimal_one (u / 10) (omega arith))
      (num_first (u / 10) ((48 + u % 10) ∷ b ∷ t) r (omega arith) (begins_tenth lo hi (u / 10) u p q (omega arith) refl)
      (after_last 1 u b t r p q l E x))

  num_three : (u b : ℕ) (t : List ℕ) (r : R) → lo ≤ u → u ≤ hi → 100 ≤ u → u < 1000 → Ends (k u) → TextOf (k u) (b ∷ t) r
      → TextOf (num lo hi k) (decimal u ++ b ∷ t) r
  num_three u b t r p q l m E x =
      let tail : List ℕ = (48 + u % 10) ∷ b ∷ t in
      let same = tenfold_tenth (u / 10) in
      rw (decimal_step u (omega arith), decimal_step (u / 10) (omega arith), decimal_one (u / 10 / 10) (omega arith))
      (num_first (u / 10 / 10) ((48 + u / 10 % 10) ∷ tail) r (omega arith)
      (begins_hundredth lo hi (u / 10 / 10) u p q (omega arith) (omega arith))
      (after_more 1 (u / 10 / 10) (48 + u / 10 % 10) tail r
      (extends_intro lo hi (u / 10 / 10) (48 + u / 10 % 10) (omega arith) (omega arith) (omega arith)
      (rw same (begins_tenth lo hi (u / 10) u p q (omega arith) refl)))
      (rw same (after_last 0 u b t r p q (omega arith) E x))))

  pub num_text : (u : ℕ) (t : List ℕ) (r : R) → hi < 1000 → lo ≤ u → u ≤ hi → Ends (k u) → TextOf (k u) t r → TextOf (num lo hi k) (decimal u ++ t) r
  num_text u [] r h p q E x = absurd (node_text (k u) r E.wants x)
  num_text u (b ∷ t) r h p q E x =
      by_cases (ltb u 10)
      (λ e. num_one u b t r p q (ltb-true u 10 e) E x)
      (λ e. by_cases (ltb u 100)
      (λ f. num_two u b t r p q (ltb-false u 10 e) (ltb-true u 100 f) E x)
      (λ f. num_three u b t r p q (ltb-false u 100 f) (omega arith) E x))

  -- every way can be finished
  after_live_step : (n v : ℕ) → ((u : ℕ) → lo ≤ u → u ≤ hi → Live (k u) × IsNode (k u)) → digits_begin lo hi v ≡ true
      → ((b : ℕ) → extends lo hi v b ≡ true → Live (after n lo hi k (tenfold v b))) → Live (after (suc n) lo hi k v)
  unfolding after Live digit
  after_live_step n v K h step = (some (begins_elim lo hi v h), each, no_mark)
    where
      no_mark : (extends lo hi v 256 || within_range lo hi v && may_begin (k v) 256) ≡ false
      no_mark =
          rw (extends_digit lo hi v 256 refl)
          (by_cases (within_range lo hi v)
          (λ e. let l = inside_bounds lo hi v e in rw e (live_mark (k v) (K v l.0 l.1).0))
          (λ e. rw e))

      here : lo ≤ v → v ≤ hi → (b : ℕ) × ((extends lo hi v b || within_range lo hi v && may_begin (k v) b) ≡ true)
      here p q =
          let o = live_opens (k v) (K v p q).0 (K v p q).1 in
          (o.0, or_right (extends lo hi v o.0) (rw (inside_intro lo hi v p q) o.1))

      digit_to : (u : ℕ) → 0 < v → u / 10 ≡ v → digits_begin lo hi u ≡ true → (b : ℕ) × ((extends lo hi v b || within_range lo hi v && may_begin (k v) b) ≡ true)
      digit_to u pos e g =
          let same : tenfold v (48 + u % 10) ≡ u = ap (λ (x : ℕ). tenfold x (48 + u % 10)) (sym e) ∙ tenfold_tenth u in
          (48 + u % 10, or_left _ (extends_intro lo hi v (48 + u % 10) (omega arith) (omega arith) pos (ap (digits_begin lo hi) same ∙ g)))

      unit : (u : ℕ) → lo ≤ u → u ≤ hi → 0 < v → u / 10 ≡ v → (b : ℕ) × ((extends lo hi v b || within_range lo hi v && may_begin (k v) b) ≡ true)
      unit u p q pos e = digit_to u pos e (begins_self lo hi u p q)

      ten : (u : ℕ) → lo ≤ u → u ≤ hi → 0 < v → u / 100 ≡ v → (b : ℕ) × ((extends lo hi v b || within_range lo hi v && may_begin (k v) b) ≡ true)
      ten u p q pos e = digit_to (u / 10) pos (omega arith) (begins_tenth lo hi (u / 10) u p q (omega arith) refl)

      some : Reach lo hi v → (b : ℕ) × ((extends lo hi v b || within_range lo hi v && may_begin (k v) b) ≡ true)
      some c = elim c.begun [
        | inl e ↦ here (subst (λ (x : ℕ). lo ≤ x) e c.low) (subst (λ (x : ℕ). x ≤ hi) e c.high)
        | inr d ↦ elim d [ inl e ↦ unit c.at c.low c.high e.0 e.1 | inr e ↦ ten c.at c.low c.high e.0 e.1 ]
      ]

      each : (b : ℕ) → (extends lo hi v b || within_range lo hi v && may_begin (k v) b) ≡ true
          → Live {R = R} (elim (extends lo hi v b) [ true ↦ after n lo hi k (tenfold v b) | false ↦ child (k v) b ])
      each b o =
          by_cases (extends lo hi v b)
          (λ e. rw e (step b e))
          (λ e. let q = rw e at o in
          rw e (let l = inside_bounds lo hi v (and_left (within_range lo hi v) _ q) in live_child (k v) b (K v l.0 l.1).0
          (and_right (within_range lo hi v) _ q)))

  -- no digit is left: the number itself is in range
  after_live_last : (v : ℕ) → ((u : ℕ) → lo ≤ u → u ≤ hi → Live (k u) × IsNode (k u)) → digits_begin lo hi v ≡ true → hi < 10 * v → Live (after 0 lo hi k v)
  unfolding after Live
  after_live_last v K h l = let i = own (begins_elim lo hi v h) in (some i, each i, no_mark i)
    where
      own : Reach lo hi v → (lo ≤ v) × (v ≤ hi)
      own c = elim c.begun [
        | inl e ↦ (subst (λ (x : ℕ). lo ≤ x) e c.low, subst (λ (x : ℕ). x ≤ hi) e c.high)
        | inr d ↦ elim d [ inl e ↦ absurd (tenth c.at c.high e.1) | inr e ↦ absurd (hundredth c.at c.high e.1) ]
      ]
        where
          tenth : (u : ℕ) → u ≤ hi → u / 10 ≡ v → ⊥
          tenth u q e = omega arith

          hundredth : (u : ℕ) → u ≤ hi → u / 100 ≡ v → ⊥
          hundredth u q e = omega arith

      no_mark : (lo ≤ v) × (v ≤ hi) → (within_range lo hi v && may_begin (k v) 256) ≡ false
      no_mark i = rw (inside_intro lo hi v i.0 i.1) (live_mark (k v) (K v i.0 i.1).0)

      some : (lo ≤ v) × (v ≤ hi) → (b : ℕ) × ((within_range lo hi v && may_begin (k v) b) ≡ true)
      some i =
          let o = live_opens (k v) (K v i.0 i.1).0 (K v i.0 i.1).1 in
          (o.0, rw (inside_intro lo hi v i.0 i.1) o.1)

      each : (lo ≤ v) × (v ≤ hi) → (b : ℕ) → (within_range lo hi v && may_begin (k v) b) ≡ true → Live (child (k v) b)
      each i b o = live_child (k v) b (K v i.0 i.1).0 (and_right (within_range lo hi v) _ o)

  pub num_live : lo ≤ hi → hi < 1000 → ((u : ℕ) → lo ≤ u → u ≤ hi → Live (k u) × IsNode (k u)) → Live (num lo hi k)
  unfolding num Live starts digit
  num_live p q K = (first, λ b o. two (b - 48) (and_right (digit b) _ o), refl)
    where
      none : (v : ℕ) → digits_begin lo hi v ≡ true → hi < 10 * v → Live (after 0 lo hi k v)
      none v h l = after_live_last v K h l

      one : (v : ℕ) → digits_begin lo hi v ≡ true → hi < 100 * v → Live (after 1 lo hi k v)
      one v h l = after_live_step 0 v K h (λ b e. let x = extends_elim lo hi v b e in none (tenfold v b) x.goes (omega (arith, tenfold_le v b)))

      two : (v : ℕ) → digits_begin lo hi v ≡ true → Live (after 2 lo hi k v)
      two v h =
          after_live_step 1 v K h (λ b e. let x = extends_elim lo hi v b e in let pos : 0 < v = x.pos in one (tenfold v b) x.goes
          (omega (arith, tenfold_le v b)))

      with_first : (v : ℕ) → v < 10 → digits_begin lo hi v ≡ true → (b : ℕ) × ((digit b && digits_begin lo hi (b - 48)) ≡ true)
      with_first v l h =
          let same : 48 + v - 48 ≡ v = omega arith in
          (48 + v, rw (digit_intro (48 + v) (omega arith) (omega arith)) (ap (digits_begin lo hi) same ∙ h))

      first : (b : ℕ) × ((digit b && digits_begin lo hi (b - 48)) ≡ true)
      first =
          by_cases (ltb lo 10)
          (λ e. with_first lo (ltb-true lo 10 e) (begins_self lo hi lo (omega arith) p))
          (λ e. let l = ltb-false lo 10 e in
          by_cases (ltb lo 100)
          (λ f. let m = ltb-true lo 100 f in with_first (lo / 10) (omega arith) (begins_tenth lo hi (lo / 10) lo (omega arith) p (omega arith) refl))
          (λ f. let m = ltb-false lo 100 f in with_first (lo / 100) (omega arith) (begins_hundredth lo hi (lo / 100) lo (omega arith) p (omega arith) refl)))

  pub num_node : IsNode (num lo hi k)
  unfolding num IsNode
  num_node = tt

  -- following the format along an input: first the number's own bytes, then what its value asks for
  module _ (K : (v : ℕ) → IsNode (k v)) (w : ℕ → ℕ) where
    run_child : (f : Format R) → IsNode f → (j : ℕ) → run (node (λ b. may_begin f b) (λ b. child f b)) w j ≡ run f w j
    unfolding run may_begin child IsNode
    run_child (done x) n j = absurd n
    run_child (node ok next) n j = refl

    run_end : (v j : ℕ) → run (node (λ b. within_range lo hi v && may_begin (k v) b) (λ b. child (k v) b)) w j
        ≡ follow (number_end lo hi v j) (λ u i. run (k u) w i)
    run_end v j =
        by_cases (within_range lo hi v)
        (λ e. ap (λ (x : Bool). run (node (λ b. x && may_begin (k v) b) (λ b. child (k v) b)) w j) e ∙ run_child (k v) (K v) j
        ∙ sym (follow_got (λ u i. run (k u) w i) v j (number_end_lem lo hi v j e)))
        (λ e. run_stop (λ b. within_range lo hi v && may_begin (k v) b) (λ b. child (k v) b) w j (rw e)
        ∙ sym (follow_fault (λ u i. run (k u) w i) j (number_out lo hi v j e)))

    run_after : (n v j : ℕ) → run (after n lo hi k v) w j ≡ follow (digits_at n lo hi v w j) (λ u i. run (k u) w i)
    unfolding after digits_at
    run_after zero v j = run_end v j
    run_after (suc n) v j =
        let ok : ℕ → Bool = λ b. extends lo hi v b || within_range lo hi v && may_begin (k v) b in
        let next : ℕ → Format R = λ b. elim (extends lo hi v b) [ true ↦ after n lo hi k (tenfold v b) | false ↦ child (k v) b ] in
        let rest : ℕ → ℕ → Run R = λ u i. run (k u) w i in
        by_cases (extends lo hi v (w j))
        (λ e.
        let same : next (w j) ≡ after n lo hi k (tenfold v (w j)) = rw e in
        run_step ok next w j (rw e) ∙ ap (λ (f : Format R). run f w (suc j)) same ∙ run_after n (tenfold v (w j)) (suc j)
        ∙ ap (λ (x : Run ℕ). follow x rest) (sym (number_more n lo hi v w j e)))
        (λ e.
        let same : next (w j) ≡ child (k v) (w j) = rw e in
        let end : run (node ok next) w j ≡ run (node (λ b. within_range lo hi v && may_begin (k v) b) (λ b. child (k v) b)) w j =
        by_cases (within_range lo hi v && may_begin (k v) (w j))
        (λ h. run_step ok next w j (rw e h) ∙ ap (λ (f : Format R). run f w (suc j)) same
        ∙ sym (run_step (λ b. within_range lo hi v && may_begin (k v) b) (λ b. child (k v) b) w j h))
        (λ h. run_stop ok next w j (rw e h)
        ∙ sym (run_stop (λ b. within_range lo hi v && may_begin (k v) b) (λ b. child (k v) b) w j h)) in
        end ∙ run_end v j ∙ ap (λ (x : Run ℕ). follow x rest) (sym (number_stop (suc n) lo hi v w j e)))

    pub run_num : (i : ℕ) → run (num lo hi k) w i ≡ follow (number_at lo hi w i) (λ u j. run (k u) w j)
    unfolding num
    run_num i =
        by_cases (starts lo hi (w i))
        (λ e. run_step (λ b. starts lo hi b) (λ b. after 2 lo hi k (b - 48)) w i e ∙ run_after 2 (w i - 48) (suc i)
        ∙ ap (λ (x : Run ℕ). follow x (λ u j. run (k u) w j)) (sym (number_start lo hi w i e)))
        (λ e. run_stop (λ b. starts lo hi b) (λ b. after 2 lo hi k (b - 48)) w i e
        ∙ sym (follow_fault (λ u j. run (k u) w j) i (number_none lo hi w i e)))

-- a byte behind a number
pub ends_lit : {R : Type 0} (b : ℕ) (f : Format R) → digit b ≡ false → Ends (lit b f)
unfolding lit may_begin
ends_lit b f h = record { wants = lit_node b f; plain = λ c e. ap digit (eqb-true c b e) ∙ h }

pub ends_alt : {R : Type 0} (b : ℕ) (f g : Format R) → digit b ≡ false → Ends g → Ends (alt b f g)
unfolding alt may_begin
ends_alt b f g h E =
    record {
      wants = alt_node b f g;
      plain = λ c e. elim (or_cases (eqb c b) (may_begin g c) e) [ inl x ↦ ap digit (eqb-true c b x) ∙ h | inr x ↦ E.plain c x ];
    }

pub opens_num : {R : Type 0} (lo hi : ℕ) (k : ℕ → Format R) (b : ℕ) → digit b ≡ false → may_begin (num lo hi k) b ≡ false
unfolding may_begin num starts
opens_num lo hi k b h = rw h

-- a number below a power of ten has no more digits than that has noughts
unfoldable pub tens : ℕ → ℕ
tens zero = 10
tens (suc k) = 10 * tens k

pub digits_count : (k v : ℕ) → v < tens k → length (decimal v) ≤ suc k
unfolding tens
digits_count zero v h = omega (arith, ap length (decimal_one v h))
digits_count (suc k) v h =
    by_cases (ltb v 10)
    (λ b. omega (arith, ap length (decimal_one v (ltb-true v 10 b))))
    (λ b.
    let l = ltb-false v 10 b in
    omega (arith, ap length (decimal_step v l), length-append (decimal (v / 10)) ((48 + v % 10) ∷ []), digits_count k (v / 10) (omega arith)))

pub three_digits : (v : ℕ) → v < 1000 → length (decimal v) ≤ 3
unfolding tens
three_digits v h = digits_count 2 v h
