-- A buffer under way: what is left to write makes the whole.
use Prim.Native.Nat.{ℕ, suc, ◌+◌, ◌/◌, ◌%◌, ◌≤◌, ◌<◌, max}
use native.Mathlib.Omega.{arith}
use native.Mathlib.Decide.{dec_le}
use mathlib.Core.List.{List, [], ◌∷◌, ◌++◌, append_assoc, append-nil}
use mathlib.Core.Path.{◌≡◌, refl, sym, ◌∙◌, ap, subst}
use lib.ListN.{length, set, drop, length-append}
use native.Mathlib.Nat.{zero-add}
use lib.Seq.{set_out, sets, length-sets, sets-eq}
use Rattle.text_grammar.specs.Number.{decimal}
use Rattle.text_grammar.proofs.Number.{decimal_one, decimal_step}
use Rattle.text_put.specs.Put.{reached, Puts, Fills}

-- places
module _ (m at : ℕ) where
  pub reached_inside : (n : ℕ) → at + n ≤ m → reached m at n ≡ at + n
  unfolding reached
  reached_inside n h = omega arith

  pub reached_full : (n : ℕ) → m ≤ at + n → reached m at n ≡ max at m
  unfolding reached
  reached_full n h = omega arith

  pub reached_none : reached m at 0 ≡ at
  unfolding reached
  reached_none = omega arith

pub reached_join : (m at n k : ℕ) → reached m (reached m at n) k ≡ reached m at (n + k)
unfolding reached
reached_join m at n k = omega arith

-- stores from a place on
pub sets_out : (t d : List ℕ) (at : ℕ) → length d ≤ at → sets d at t ≡ d
sets_out [] d at h = refl
sets_out (b ∷ t) d at h = ap (λ (e : List ℕ). sets e (suc at) t) (set_out d at b h) ∙ sets_out t d (suc at) (omega arith)

sets_append : (t u d : List ℕ) (at : ℕ) → sets (sets d at t) (at + length t) u ≡ sets d at (t ++ u)
sets_append [] u d at = ap (λ (k : ℕ). sets d k u) (omega arith)
sets_append (b ∷ t) u d at =
    let e : at + suc (length t) ≡ suc at + length t = omega arith in
    ap (λ (k : ℕ). sets (sets (set d at b) (suc at) t) k u) e ∙ sets_append t u (set d at b) (suc at)

sets_then : (t u d : List ℕ) (at : ℕ) → sets (sets d at t) (reached (length d) at (length t)) u ≡ sets d at (t ++ u)
sets_then t u d at =
    elim (dec_le (at + length t) (length d)) [
      | yes h ↦ ap (λ (k : ℕ). sets (sets d at t) k u) (reached_inside (length d) at (length t) h) ∙ sets_append t u d at
      | no h ↦ (
          let l = length-sets d at t in
          sets_out u (sets d at t) (reached (length d) at (length t)) (omega (arith, reached_full (length d) at (length t) (omega arith)))
          ∙ sym (sets_out u (sets d at t) (at + length t) (omega arith)) ∙ sets_append t u d at
          )
    ]

-- nothing; one byte, in the buffer or past its end
pub puts_nothing : (d : List ℕ) (at : ℕ) → Puts d at [] at d
puts_nothing d at = record { next = sym (reached_none (length d) at); buffer = refl }

pub put_in : (d : List ℕ) (at b : ℕ) → at < length d → Puts d at (b ∷ []) (at + 1) (set d at b)
put_in d at b h = record { next = sym (reached_inside (length d) at 1 (omega arith)); buffer = refl }

pub put_past : (d : List ℕ) (at b : ℕ) → length d ≤ at → Puts d at (b ∷ []) at d
put_past d at b h = record { next = omega (arith, reached_full (length d) at 1 (omega arith)); buffer = sym (set_out d at b h) }

-- one text, and another behind it
pub puts_then : {d : List ℕ} {at : ℕ} {t : List ℕ} {m : ℕ} {e u : List ℕ} {r : ℕ} {f : List ℕ} → Puts d at t m e → Puts e m u r f → Puts d at (t ++ u) r f
puts_then {d} {at} {t} {m} {e} {u} P Q =
    let l : length e ≡ length d = ap length P.buffer ∙ length-sets d at t in
    record {
      next =
          Q.next ∙ (λ i. reached (l i) (P.next i) (length u)) ∙ reached_join (length d) at (length t) (length u)
          ∙ ap (reached (length d) at) (sym (length-append t u));
      buffer = Q.buffer ∙ (λ i. sets (P.buffer i) (P.next i) u) ∙ sets_then t u d at;
    }

pub puts_as : {d : List ℕ} {at : ℕ} {t u : List ℕ} {r : ℕ} {e : List ℕ} → t ≡ u → Puts d at t r e → Puts d at u r e
puts_as {d} {at} {r = r} {e = e} h P = subst (λ (x : List ℕ). Puts d at x r e) h P

pub puts_length : {d : List ℕ} {at : ℕ} {t : List ℕ} {r : ℕ} {e : List ℕ} → Puts d at t r e → length e ≡ length d
puts_length {d} {at} {t} P = ap length P.buffer ∙ length-sets d at t

-- of the text `all`, which begins at place i of the buffer d, `rest` is still to be written, at place at of the buffer e
pub record Remains (d : List ℕ) (i : ℕ) (all e : List ℕ) (at : ℕ) (rest : List ℕ) : Type 0 where
  written : List ℕ
  whole : written ++ rest ≡ all
  puts : Puts d i written at e

pub remains_all : (d : List ℕ) (i : ℕ) (t : List ℕ) → Remains d i t d i t
remains_all d i t = record { written = []; whole = refl; puts = puts_nothing d i }

-- one piece is written
pub remains_step : {d : List ℕ} {i : ℕ} {all e : List ℕ} {at : ℕ} {rest : List ℕ} (t u : List ℕ) {r : ℕ} {f : List ℕ}
    → Remains d i all e at rest → rest ≡ t ++ u → Puts e at t r f → Remains d i all f r u
remains_step t u R s P =
    record {
      written = R.written ++ t;
      whole = append_assoc R.written t u ∙ ap (λ (x : List ℕ). R.written ++ x) (sym s) ∙ R.whole;
      puts = puts_then R.puts P;
    }

-- nothing is left
pub remains_none : {d : List ℕ} {i : ℕ} {all e : List ℕ} {at : ℕ} → Remains d i all e at [] → Puts d i all at e
remains_none R = puts_as (sym (append-nil R.written) ∙ R.whole) R.puts

-- numbers
pub digits_one : (v : ℕ) → v < 10 → length (decimal v) ≡ 1
digits_one v h = ap length (decimal_one v h)

digits_more : (v : ℕ) → 10 ≤ v → length (decimal v) ≡ length (decimal (v / 10)) + 1
digits_more v h = ap length (decimal_step v h) ∙ length-append (decimal (v / 10)) ((48 + v % 10) ∷ [])

pub digits_two : (v : ℕ) → 10 ≤ v → v < 100 → length (decimal v) ≡ 2
digits_two v h l = omega (arith, digits_more v h, digits_one (v / 10) (omega arith))

pub digits_three : (v : ℕ) → 100 ≤ v → v < 1000 → length (decimal v) ≡ 3
digits_three v h l = omega (arith, digits_more v (omega arith), digits_two (v / 10) (omega arith) (omega arith))

pub two_digits : (v : ℕ) → 10 ≤ v → v < 100 → (48 + v / 10) ∷ [] ++ (48 + v % 10) ∷ [] ≡ decimal v
two_digits v h l = sym (decimal_step v h ∙ ap (λ (t : List ℕ). t ++ (48 + v % 10) ∷ []) (decimal_one (v / 10) (omega arith)))

pub remains_as : {d : List ℕ} {i : ℕ} {all e : List ℕ} {at : ℕ} {t u : List ℕ} → Remains d i all e at t → t ≡ u → Remains d i all e at u
remains_as {d} {i} {all} {e} {at} R h = subst (λ (x : List ℕ). Remains d i all e at x) h R

-- a text that the buffer holds whole fills its front
pub sets_front : (d t : List ℕ) → length t ≤ length d → sets d 0 t ≡ t ++ drop (length t) d
sets_front d t h = sets-eq t d 0 (omega arith) ∙ ap (λ (k : ℕ). t ++ drop k d) (zero-add (length t))

pub puts_fills : {d t : List ℕ} {n : ℕ} {e : List ℕ} → Puts d 0 t n e → length t ≤ length d → Fills d t n e
puts_fills {d} {t} P h =
    let b = P.next ∙ reached_inside (length d) 0 (length t) (omega arith) ∙ zero-add (length t) in
    record { room = h; bytes = b; buffer = P.buffer ∙ sets_front d t h ∙ ap (λ (k : ℕ). t ++ drop k d) (sym b) }
