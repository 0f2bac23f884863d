-- How long a text is, by counting.
--
--   few, set_counted          : of a set's members with a blank before each, by the counts of all, of those from 10 on and of those from 100 on
--   bracket_length            : of items in brackets, the first of which has no blank before it
--   listed n j ws             == of n sets of ws from j on with a blank before each
--   listed-*, states-*, requirements-*    : one more at a time
--   Listing n ws to j         == to is what has been counted of j of the first n sets of ws; listing-* are the turns of a loop that counts them
--   header_counted, state_counted         : of lines
use Prim.Native.Nat.{ℕ, zero, suc, ◌+◌, ◌*◌, ◌-◌, ◌≤◌, ◌<◌}
use native.Mathlib.Omega.{arith}
use mathlib.Core.Bool.{Bool, true, false, ◌&&◌, not}
use mathlib.Core.List.{List, [], ◌∷◌, map}
use mathlib.Core.Path.{◌≡◌, refl, sym, ◌∙◌, ap}
use lib.Dec.{ltb}
use lib.ListN.{length, get_or, length-append}
use borrow.Author.Tests.{ltb-true, ltb-false}
use native.Mathlib.Numerals.{add-one}
use Rattle.finite.specs.Bounded.{one, count}
use Rattle.finite.proofs.Bounded.{count_le}
use Rattle.bits.specs.Member.{has}
use Rattle.sets.specs.Words.{capacity}
use Rattle.text_grammar.specs.Number.{decimal}
use Rattle.text_grammar.proofs.Format.{by_cases}
use Rattle.game.specs.Access.{no_requirement}
use Rattle.game.specs.declared.Requirement.{Requirement}
use Rattle.text_shape.specs.Text.{
  PlainGraph,
  gap_text,
  items,
  bracket,
  members,
  set_text,
  cells,
  header_line,
  state_line,
  state_lines,
  requirement_line,
  requirement_lines,
}
use Rattle.text_shape.specs.Shape.{opening}
use Rattle.text_shape.proofs.Members.{members_take, members_skip}
use Rattle.text_put.proofs.Bounds.{set_few}
use Rattle.text_put.proofs.Buffer.{digits_one, digits_two, digits_three}
use Rattle.text_put.proofs.Pieces.{header_length, state_length, requirements_none, requirements_take, requirements_last, requirement_past}

-- y: the members of x from 10 on, z: those from 100 on
module _ (x y z : ℕ) (tens : (s : ℕ) → has y s ≡ (has x s && not (ltb s 10))) (hundreds : (s : ℕ) → has z s ≡ (has x s && not (ltb s 100))) where
  -- what is counted of the numbers below n
  abbrev spent : ℕ → ℕ
  spent n = 2 * count n (has x) + count n (has y) + count n (has z)

  member_length : (s : ℕ) → s < 1000 → has x s ≡ true → 1 + length (decimal s) ≡ 2 * one (has x s) + one (has y s) + one (has z s)
  unfolding one
  member_length s l h = rw (tens s, hundreds s) (rw h (by_size (ltb s 10) (ltb s 100) refl refl))
    where
      by_size : (a b : Bool) → a ≡ ltb s 10 → b ≡ ltb s 100 → 1 + length (decimal s) ≡ 2 + one (not a) + one (not b)
      by_size true true p q = omega (arith, digits_one s (ltb-true s 10 (sym p)))
      by_size true false p q = absurd (omega (arith, ltb-true s 10 (sym p), ltb-false s 100 (sym q)))
      by_size false true p q = omega (arith, digits_two s (ltb-false s 10 (sym p)) (ltb-true s 100 (sym q)))
      by_size false false p q = omega (arith, digits_three s (ltb-false s 100 (sym q)) l)

  member_none : (s : ℕ) → has x s ≡ false → 2 * one (has x s) + one (has y s) + one (has z s) ≡ 0
  unfolding one
  member_none s h = rw (tens s, hundreds s) (rw h refl)

  members_length : (n lo : ℕ) → lo + n ≤ 1000 → length (items true (map decimal (members n lo x))) + spent lo ≡ spent (lo + n)
  unfolding members items count gap_text
  members_length zero lo h = let e : lo + 0 ≡ lo = omega arith in omega (arith, ap spent e)
  members_length (suc n) lo h =
      let rest = members_length n (suc lo) (omega arith) in
      let next : suc lo + n ≡ lo + suc n = omega arith in
      let end = ap spent next in
      by_cases (has x lo)
      (λ b. rw (members_take n lo x b)
      (omega (arith, member_length lo (omega arith) b, length-append (decimal lo) (items true (map decimal (members n (suc lo) x))), rest, end)))
      (λ b. rw (members_skip n lo x b) (omega (arith, member_none lo b, rest, end)))

-- a set, where p, q and r are the counts
pub few : {r : ℕ} (p : ℕ → Bool) → r ≡ count capacity p → r ≤ capacity
few p e = omega (arith, count_le capacity p)

none : (p : ℕ → Bool) → count 0 p ≡ 0
unfolding count
none p = refl

module _ (x y z t h : ℕ) (below-ten : (s : ℕ) → has t s ≡ ltb s 10) (less-ten : (s : ℕ) → has y s ≡ (has x s && not (has t s)))
    (below-hundred : (s : ℕ) → has h s ≡ ltb s 100) (less-hundred : (s : ℕ) → has z s ≡ (has x s && not (has h s))) where
  pub set_counted : (p q r : ℕ) → p ≡ count capacity (has x) → q ≡ count capacity (has y) → r ≡ count capacity (has z)
      → 2 * p + q + r ≡ length (items true (map decimal (members capacity 0 x)))
  set_counted p q r a b c =
      omega (
        arith,
        none (has x),
        none (has y),
        none (has z),
        members_length x y z (λ s. less-ten s ∙ ap (λ (u : Bool). has x s && not u) (below-ten s))
            (λ s. less-hundred s ∙ ap (λ (u : Bool). has x s && not u) (below-hundred s)) capacity 0 (omega arith),
      )

-- items in brackets
items_gap : (ws : List (List ℕ)) → length (items false ws) ≡ length (items true ws) - 1
unfolding items gap_text
items_gap [] = refl
items_gap (w ∷ ws) = omega arith

pub bracket_length : (ws : List (List ℕ)) → length (bracket ws) ≡ 2 + (length (items true ws) - 1)
unfolding bracket
bracket_length ws = omega (arith, length-append (items false ws) (41 ∷ []), items_gap ws)

-- a list of sets, one more at a time
unfoldable pub listed : ℕ → ℕ → List ℕ → ℕ
listed n j ws = length (items true (map set_text (cells n j ws)))

listed_all : (n : ℕ) (ws : List ℕ) → 0 + listed (n - 0) 0 ws ≡ listed n 0 ws
listed_all n ws = let all : n - 0 ≡ n = omega arith in omega (arith, ap (λ (k : ℕ). listed k 0 ws) all)

listed_next : (n j : ℕ) (ws : List ℕ) (x r : ℕ) → j < n → x ≡ get_or ws j 0 → r ≡ length (set_text x)
    → listed (n - j) j ws ≡ 1 + r + listed (n - (j + 1)) (j + 1) ws
unfolding listed cells items gap_text
listed_next n j ws x r l e h =
    let split : n - j ≡ suc (n - (j + 1)) = omega arith in
    let rest = items true (map set_text (cells (n - (j + 1)) (suc j) ws)) in
    omega (
      arith,
      ap (λ (k : ℕ). listed k j ws) split,
      ap (λ (y : ℕ). length (set_text y)) e,
      length-append (set_text (get_or ws j 0)) rest,
      ap (λ (i : ℕ). listed (n - (j + 1)) i ws) (add-one j),
    )

listed_end : (n j : ℕ) (ws : List ℕ) → n ≤ j → listed (n - j) j ws ≡ 0
unfolding listed cells items
listed_end n j ws l = let none : n - j ≡ 0 = omega arith in ap (λ (k : ℕ). listed k j ws) none

pub record Listing (n : ℕ) (ws : List ℕ) (to j : ℕ) : Type 0 where
  pub within : j ≤ n
  pub short : to ≤ 515 * j
  pub whole : to + listed (n - j) j ws ≡ listed n 0 ws

pub listing_start : (n : ℕ) (ws : List ℕ) → Listing n ws 0 0
listing_start n ws = record { within = omega arith; short = omega arith; whole = listed_all n ws }

pub listing_next : {n : ℕ} {ws : List ℕ} {to j : ℕ} (x r : ℕ) → Listing n ws to j → j < n → x ≡ get_or ws j 0 → r ≡ length (set_text x)
    → Listing n ws (to + (1 + r)) (j + 1)
listing_next {n} {ws} {to} {j} x r L l e h = record {
  within = omega arith;
  short = omega (arith, L.short, set_few x h);
  whole = omega (arith, L.whole, listed_next n j ws x r l e h);
}

pub listing_end : {n : ℕ} {ws : List ℕ} {to j : ℕ} → Listing n ws to j → n ≤ j → to ≡ listed n 0 ws
listing_end {n} {ws} {to} {j} L l = omega (arith, L.whole, listed_end n j ws l)

-- lines
pub header_counted : (i o k : ℕ) → length (header_line i o k) ≡ length (opening 0) + length (decimal i) + length (decimal o) + length (decimal k) + 4
header_counted i o k =
    omega (
      arith,
      header_length i o k,
      length-append (decimal i) (32 ∷ []),
      length-append (decimal o) (32 ∷ []),
      length-append (decimal k) (41 ∷ []),
    )

pub state_counted : (w s f x : ℕ) → f < 10 → length (state_line w s f x) ≡ length (opening w) + length (decimal s) + length (set_text x) + 5
state_counted w s f x h =
    omega (arith, state_length w s f x, length-append (decimal s) (32 ∷ []), length-append (decimal f) (32 ∷ []), digits_one f h)

one_small : (b : Bool) → one b < 10
unfolding one
one_small true = omega arith
one_small false = omega arith

-- states, one more at a time
pub states_all : (w n : ℕ) (h : PlainGraph) → 0 + length (state_lines w (n - 0) 0 h) ≡ length (state_lines w n 0 h)
states_all w n h = let all : n - 0 ≡ n = omega arith in omega (arith, ap (λ (k : ℕ). length (state_lines w k 0 h)) all)

pub states_next : (w n s : ℕ) (h : PlainGraph) (x r : ℕ) → s < n → x ≡ get_or h.moves s 0 → ((f : ℕ) → f < 10 → r ≡ length (state_line w s f x))
    → length (state_lines w (n - s) s h) ≡ r + length (state_lines w (n - (s + 1)) (s + 1) h)
unfolding state_lines
states_next w n s h x r l e c =
    let split : n - s ≡ suc (n - (s + 1)) = omega arith in
    let f = one (has h.initial s) in
    omega (
      arith,
      ap (λ (k : ℕ). length (state_lines w k s h)) split,
      length-append (state_line w s f (get_or h.moves s 0)) (state_lines w (n - (s + 1)) (suc s) h),
      ap (λ (y : ℕ). length (state_line w s f y)) e,
      c f (one_small (has h.initial s)),
      ap (λ (i : ℕ). length (state_lines w (n - (s + 1)) i h)) (add-one s),
    )

pub states_end : (w n s : ℕ) (h : PlainGraph) → n ≤ s → length (state_lines w (n - s) s h) ≡ 0
unfolding state_lines
states_end w n s h l = let none : n - s ≡ 0 = omega arith in ap (λ (k : ℕ). length (state_lines w k s h)) none

-- requirements, one more at a time
pub requirements_all : (n : ℕ) (qs : List Requirement) → 0 + length (requirement_lines (n - 0) 0 qs) ≡ length (requirement_lines n 0 qs)
requirements_all n qs = omega (arith, ap length (requirements_none n qs))

pub requirements_next : (n r : ℕ) (qs : List Requirement) (l : ℕ) → r < n → l ≡ length (requirement_line (get_or qs r no_requirement))
    → length (requirement_lines (n - r) r qs) ≡ l + length (requirement_lines (n - (r + 1)) (r + 1) qs)
requirements_next n r qs l h e =
    let q = get_or qs r no_requirement in
    omega (
      arith,
      ap length (requirements_take n r qs q h (requirement_past qs r)),
      length-append (requirement_line q) (requirement_lines (n - (r + 1)) (r + 1) qs),
    )

pub requirements_end : (n r : ℕ) (qs : List Requirement) → n ≤ r → length (requirement_lines (n - r) r qs) ≡ 0
requirements_end n r qs l = ap length (requirements_last n r qs l)
