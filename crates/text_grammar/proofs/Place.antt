-- A whole input against a format: it is read exactly where it is a text, and else the fault's place is that of the longest front that begins one.
use Prim.Native.Nat.{ℕ, suc, ◌+◌, ◌-◌, ◌≤◌, ◌<◌}
use native.Mathlib.Omega.{arith}
use native.Mathlib.Nat.{zero-add}
use mathlib.Core.List.{List, [], ◌∷◌, ◌++◌, append_assoc, append-nil}
use mathlib.Core.Path.{◌≡◌, refl, sym, ◌∙◌, ap, subst}
use lib.Dec.{eqb}
use lib.ListN.{length, get_or, take, drop, length-append, take-append-drop, get_or-eq_default, drop_of_length-le}
use lib.Seq.{drop-cons, take_at, take-append-add, length-take-le}
use borrow.Author.Tests.{eq-eqb, ne_eqb, eqb-true, eqb-false, ltb-true, ltb-false}
use lib.Dec.{ltb}
use Rattle.finite.proofs.Lists.{any_default}
use Rattle.text_grammar.specs.Format.{Format, Run, TextOf, Stands, run, Live}
use Rattle.text_grammar.specs.Format.Format.{done, node}
use Rattle.text_grammar.specs.Format.Run.{got, fault}
use Rattle.text_grammar.specs.Place.{bytes, Begins, Longest, at_end, reading}
use Rattle.finite.proofs.Truth.{clash}
use Rattle.text_grammar.proofs.Format.{by_cases, run_text, run_got, run_begun, run_longest, not_fault, same_fault}

-- no byte of t is 256
NoMark : List ℕ → Type 0
NoMark [] = Unit {0}
NoMark (b ∷ t) = (b ≡ 256 → ⊥) × NoMark t

text_no_mark : {R : Type 0} (f : Format R) (t : List ℕ) (r : R) → Live f → TextOf f t r → NoMark t
unfolding Live TextOf NoMark
text_no_mark (done x) [] r l p = tt
text_no_mark (done x) (b ∷ t) r l p = absurd p
text_no_mark (node ok next) [] r l p = absurd p
text_no_mark (node ok next) (b ∷ t) r l p = (λ e. clash (sym (ap ok e) ∙ p.0) l.2, text_no_mark (next b) t r (l.1 b p.0) p.1)

no_mark_front : (s t : List ℕ) → NoMark (s ++ t) → NoMark s
unfolding NoMark
no_mark_front [] t h = tt
no_mark_front (b ∷ s) t h = (h.0, no_mark_front s t h.1)

-- what stands in the input is a part of it
stands_part : (s : List ℕ) (i : ℕ) (t : List ℕ) → NoMark t → Stands (bytes s) i t → (u : List ℕ) × (drop i s ≡ t ++ u)
unfolding Stands NoMark bytes
stands_part s i [] n h = (drop i s, refl)
stands_part s i (b ∷ t) n h =
    let rest = stands_part s (suc i) t n.1 h.1 in
    let l : i < length s =
    by_cases (ltb i (length s))
    (λ e. ltb-true i (length s) e)
    (λ e. absurd (n.0 (sym h.0 ∙ get_or-eq_default s 256 (ltb-false i (length s) e)))) in
    (rest.0, drop-cons s i 256 l ∙ ap (λ (x : ℕ). x ∷ drop (suc i) s) h.0 ∙ ap (λ (x : List ℕ). b ∷ x) rest.1)

too_short : (s : List ℕ) (i b : ℕ) (t : List ℕ) → length s ≤ i → drop i s ≡ b ∷ t → ⊥
too_short s i b t l h = let z : ◌≡◌ {A = ℕ} 0 (suc (length t)) = ap length (sym (drop_of_length-le s l) ∙ h) in omega arith

part_stands : (s : List ℕ) (i : ℕ) (t u : List ℕ) → drop i s ≡ t ++ u → Stands (bytes s) i t
unfolding Stands bytes
part_stands s i [] u h = tt
part_stands s i (b ∷ t) u h =
    let l : i < length s =
    by_cases (ltb i (length s))
    (λ e. ltb-true i (length s) e)
    (λ e. absurd (too_short s i b (t ++ u) (ltb-false i (length s) e) h)) in
    let both : get_or s i 256 ∷ drop (suc i) s ≡ b ∷ (t ++ u) = sym (drop-cons s i 256 l) ∙ h in
    (cc, part_stands s (suc i) t u (cc))

-- fronts of the input
front_stands : (s : List ℕ) (q : ℕ) → Stands (bytes s) 0 (take q s)
front_stands s q = part_stands s 0 (take q s) (drop q s) (sym (take-append-drop q s))

whole_stands : (s : List ℕ) → Stands (bytes s) 0 s
whole_stands s = part_stands s 0 s [] (sym (append-nil s))

pub end_here : {R : Type 0} (s : List ℕ) (r : R) (j : ℕ) → j ≡ length s → at_end s (got r j) ≡ got r j
unfolding at_end
end_here s r j h = rw (eq-eqb j (length s) h, at_end)

pub end_before : {R : Type 0} (s : List ℕ) (r : R) (j : ℕ) → (j ≡ length s → ⊥) → at_end s (got r j) ≡ fault j
unfolding at_end
end_before s r j h = rw (ne_eqb j (length s) h, at_end)

-- a text is read, with its value
read_text : {R : Type 0} (f : Format R) (s : List ℕ) (r : R) → TextOf f s r → reading f s ≡ got r (length s)
unfolding reading
read_text f s r p =
    ap (at_end s) (run_text f (bytes s) 0 s p (whole_stands s))
    ∙ end_here s r (0 + length s) (zero-add (length s))
    ∙ ap (got r) (zero-add (length s))

-- a text is read in one way
pub one_value : {R : Type 0} (f : Format R) (s : List ℕ) (r q : R) → TextOf f s r → TextOf f s q → r ≡ q
one_value f s r q p o = let e : got r (length s) ≡ got q (length s) = sym (read_text f s r p) ∙ read_text f s q o in cc

module _ {R : Type 0} (f : Format R) (l : Live f) (s : List ℕ) where
  -- what is found is a front of the input
  record Front (r : R) (j : ℕ) : Type 0 where
    text : List ℕ
    back : List ℕ
    is_text : TextOf f text r
    parts : s ≡ text ++ back
    end : j ≡ length text

  found_front : (r : R) (j : ℕ) → run f (bytes s) 0 ≡ got r j → Front r j
  found_front r j h =
      let F = run_got f (bytes s) 0 h in
      let p = stands_part s 0 F.text (text_no_mark f F.text r l F.is_text) F.stands in
      record { text = F.text; back = p.0; is_text = F.is_text; parts = p.1; end = F.behind ∙ zero-add (length F.text) }

  empty_back : (t u : List ℕ) → length (t ++ u) ≡ length t → t ++ u ≡ t
  empty_back t [] h = append-nil t
  empty_back t (b ∷ u) h = absurd (omega (arith, length-append t (b ∷ u)))

  -- what is read is a text
  pub read_got : {r : R} {j : ℕ} → reading f s ≡ got r j → TextOf f s r
  unfolding reading at_end
  read_got {r} {j} h = go (run f (bytes s) 0) refl h
    where
      whole : (q : R) (i : ℕ) → Front q i → i ≡ length s → TextOf f s q
      whole q i F e =
          subst (λ (x : List ℕ). TextOf f x q)
          (sym (F.parts ∙ empty_back F.text F.back (sym (ap length F.parts) ∙ sym e ∙ F.end))) F.is_text

      go : (x : Run R) → run f (bytes s) 0 ≡ x → at_end s x ≡ got r j → TextOf f s r
      go (got q i) e a =
          by_cases (eqb i (length s))
          (λ t.
          let same : got q i ≡ got r j = sym (end_here s q i (eqb-true i (length s) t)) ∙ a in
          let v : q ≡ r = cc in
          subst (λ (x : R). TextOf f s x) v (whole q i (found_front q i e) (eqb-true i (length s) t)))
          (λ t. not_fault (sym (end_before s q i (eqb-false i (length s) t)) ∙ a))
      go (fault p) e a = not_fault a

  -- the longest front, where the fault came before the end of a text
  begun_longest : (p : ℕ) → run f (bytes s) 0 ≡ fault p → Longest f s p
  begun_longest p h =
      let B = run_begun f (bytes s) 0 l h in
      let part = stands_part s 0 B.front (no_mark_front B.front B.back (text_no_mark f (B.front ++ B.back) B.value l B.is_text)) B.stands in
      let end : length B.front ≡ p = sym (B.place ∙ zero-add (length B.front)) in
      let cut : take p s ≡ B.front = ap (take p) part.1 ∙ take_at B.front part.0 p end in
      record {
        within = omega (arith, ap length part.1 ∙ length-append B.front part.0);
        front = record { back = B.back; value = B.value; is_text = rw cut B.is_text };
        longest = λ q more within C.
            let n : length (take q s) ≡ q = length-take-le q s within in
            let m = run_longest f (bytes s) 0 (take q s) C.back C.value h C.is_text (front_stands s q) in
            omega arith;
      }

  -- a text that goes on where another has ended
  no_longer : (r : R) (j : ℕ) → Front r j → (q : ℕ) → j < q → q ≤ length s → Begins f (take q s) → ⊥
  no_longer r j F q more within C =
      let t = F.text in
      let e : length t ≡ j = sym F.end in
      let n : length (take q s) ≡ q = length-take-le q s within in
      let sum : q ≡ length t + (q - j) = omega arith in
      let first : take q s ≡ t ++ take (q - j) F.back =
      ap (λ (x : ℕ). take x s) sum ∙ ap (take (length t + (q - j))) F.parts ∙ take-append-add t F.back (q - j) in
      let all : take q s ++ C.back ≡ t ++ (take (q - j) F.back ++ C.back) =
      ap (λ (x : List ℕ). x ++ C.back) first ∙ append_assoc t (take (q - j) F.back) C.back in
      let whole = take q s ++ C.back in
      let one = run_text f (bytes whole) 0 whole C.is_text (whole_stands whole) in
      let two = run_text f (bytes whole) 0 t F.is_text (part_stands whole 0 t (take (q - j) F.back ++ C.back) all) in
      let both : got C.value (0 + length whole) ≡ got r (0 + length t) = sym one ∙ two in
      let len : 0 + length whole ≡ 0 + length t = cc in
      omega (arith, length-append (take q s) C.back)

  -- where nothing is read, the place is that of the longest front that begins a text
  pub read_fault : {p : ℕ} → reading f s ≡ fault p → Longest f s p
  unfolding reading at_end
  read_fault {p} h = go (run f (bytes s) 0) refl h
    where
      go : (x : Run R) → run f (bytes s) 0 ≡ x → at_end s x ≡ fault p → Longest f s p
      go (got r i) e a =
          by_cases (eqb i (length s))
          (λ t. not_fault (sym a ∙ end_here s r i (eqb-true i (length s) t)))
          (λ t.
          let same : i ≡ p = same_fault {R = R} (sym (end_before s r i (eqb-false i (length s) t)) ∙ a) in
          let F = found_front r i e in
          let cut : take p s ≡ F.text = ap (take p) F.parts ∙ take_at F.text F.back p (sym F.end ∙ same) in
          record {
            within = omega (arith, ap length F.parts ∙ length-append F.text F.back);
            front = record { back = []; value = r; is_text = rw cut (rw append-nil F.is_text) };
            longest = λ q more within C. no_longer r i F q (omega arith) within C;
          })
      go (fault q) e a = let same : q ≡ p = same_fault {R = R} a in subst (λ (x : ℕ). Longest f s x) same (begun_longest q e)

  pub read_fault_none : {p : ℕ} → reading f s ≡ fault p → (r : R) → TextOf f s r → ⊥
  read_fault_none h r t = not_fault (sym h ∙ read_text f s r t)

pub bytes_in : (s : List ℕ) (i : ℕ) → i < length s → get_or s i 0 ≡ bytes s i
unfolding bytes
bytes_in s i h = any_default s i 0 256 h

pub bytes_past : (s : List ℕ) (i : ℕ) → length s ≤ i → 256 ≡ bytes s i
unfolding bytes
bytes_past s i h = sym (get_or-eq_default s 256 h)

-- a place with a byte is within the input
pub byte_within : (s : List ℕ) (i b : ℕ) → bytes s i ≡ b → b < 256 → i < length s
byte_within s i b e h =
    by_cases (ltb i (length s))
    (λ t. ltb-true i (length s) t)
    (λ t. let past = bytes_past s i (ltb-false i (length s) t) in absurd (omega arith))
