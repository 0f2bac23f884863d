-- One step of the reader against the format: what the next byte or piece makes of what is left to read.
use Prim.Native.Nat.{ℕ, zero, suc, ◌+◌, ◌-◌, ◌≤◌, ◌<◌}
use native.Mathlib.Omega.{arith}
use native.Mathlib.Numerals.{add-one}
use mathlib.Core.Bool.{◌||◌}
use mathlib.Core.Path.{◌≡◌, sym, ◌∙◌, ap}
use Rattle.std.specs.Prelude.{Ok, Err, None, Some}
use lib.Dec.{eqb}
use mathlib.Core.Logic.{◌⊎◌, inl, inr}
use borrow.Author.Tests.{eq-eqb, ne_eqb, eqb-true, eqb-false}
use Rattle.bits.specs.Member.{has}
use Rattle.bits.proofs.Membership.{ext}
use Rattle.sets.specs.Words.{capacity, highest}
use Rattle.text_grammar.specs.Format.{Format, Run, run, lit, alt, bind, IsNode}
use Rattle.text_grammar.specs.Format.Format.{done}
use Rattle.text_grammar.specs.Format.Run.{got, fault}
use Rattle.text_grammar.specs.Number.{num, number_at}
use Rattle.text_grammar.proofs.Format.{by_cases, run_bind, run_done, run_lit, run_lit_fault, run_alt_left, run_alt_right, follow_got, follow_fault, lit_node}
use Rattle.text_grammar.proofs.Number.{run_num, num_node, number_range}
use Rattle.text_shape.specs.Shape.{insert, more_members, members_format, set_format, num_then}
use Rattle.text_pieces.proofs.Outcomes.{ok_not_err}
use Rattle.text_pieces.specs.Pieces.{next_member, member_of}
use Rattle.text_pieces.specs.declared.Fault.{Fault}
use Rattle.text_pieces.specs.declared.Found.{Found}
use Rattle.text_shape.proofs.Members.{has_insert, more_on, more_off, more_ends}

-- bytes
pub lit_got : {R : Type 0} (b : ℕ) (r : R) (w : ℕ → ℕ) (i : ℕ) → w i ≡ b → run (lit b (done r)) w i ≡ got r (i + 1)
lit_got b r w i h = run_lit b (done r) w i h ∙ run_done r w (suc i) ∙ ap (got r) (sym (add-one i))

pub lit_on : {R : Type 0} (b : ℕ) (f : Format R) (w : ℕ → ℕ) (i : ℕ) → w i ≡ b → run (lit b f) w i ≡ run f w (i + 1)
lit_on b f w i h = run_lit b f w i h ∙ ap (run f w) (sym (add-one i))

-- one piece, and the rest
pub bind_got : {A B : Type 0} (f : Format A) (k : A → Format B) (w : ℕ → ℕ) (i : ℕ) (a : A) (j : ℕ) → run f w i ≡ got a j → run (bind f k) w i ≡ run (k a) w j
bind_got f k w i a j h = run_bind f k w i ∙ follow_got (λ b n. run (k b) w n) a j h

pub bind_fault : {A B : Type 0} (f : Format A) (k : A → Format B) (w : ℕ → ℕ) (i p : ℕ) → run f w i ≡ fault p → run (bind f k) w i ≡ fault p
bind_fault f k w i p h = run_bind f k w i ∙ follow_fault (λ b n. run (k b) w n) p h

-- numbers
module _ {R : Type 0} (lo hi : ℕ) (k : ℕ → Format R) (K : (v : ℕ) → IsNode (k v)) (w : ℕ → ℕ) (i : ℕ) where
  num_got : (v j : ℕ) → number_at lo hi w i ≡ got v j → run (num lo hi k) w i ≡ run (k v) w j
  num_got v j h = run_num lo hi k K w i ∙ follow_got (λ b n. run (k b) w n) v j h

  num_fault : (p : ℕ) → number_at lo hi w i ≡ fault p → run (num lo hi k) w i ≡ fault p
  num_fault p h = run_num lo hi k K w i ∙ follow_fault (λ b n. run (k b) w n) p h

pub then_got : (lo hi b : ℕ) (w : ℕ → ℕ) (i v j : ℕ) → number_at lo hi w i ≡ got v j → w j ≡ b → run (num_then lo hi b) w i ≡ got v (j + 1)
unfolding num_then
then_got lo hi b w i v j h e = num_got lo hi (λ u. lit b (done u)) (λ u. lit_node b (done u)) w i v j h ∙ lit_got b v w j e

pub then_miss : (lo hi b : ℕ) (w : ℕ → ℕ) (i v j : ℕ) → number_at lo hi w i ≡ got v j → (w j ≡ b → ⊥) → run (num_then lo hi b) w i ≡ fault j
unfolding num_then
then_miss lo hi b w i v j h e = num_got lo hi (λ u. lit b (done u)) (λ u. lit_node b (done u)) w i v j h ∙ run_lit_fault b (done v) w j e

pub then_fault : (lo hi b : ℕ) (w : ℕ → ℕ) (i p : ℕ) → number_at lo hi w i ≡ fault p → run (num_then lo hi b) w i ≡ fault p
unfolding num_then
then_fault lo hi b w i p h = num_fault lo hi (λ u. lit b (done u)) (λ u. lit_node b (done u)) w i p h

-- what follows a member
pub next_closed : (lo : ℕ) (w : ℕ → ℕ) (i : ℕ) → w i ≡ 41 → Ok None ≡ next_member lo w i
unfolding next_member
next_closed lo w i h = sym (rw (eq-eqb (w i) 41 h, next_member))

next_blank : (lo : ℕ) (w : ℕ → ℕ) (i : ℕ) → w i ≡ 32 → member_of (number_at lo highest w (i + 1)) ≡ next_member lo w i
unfolding next_member
next_blank lo w i h =
    sym (rw (ne_eqb (w i) 41 (λ (e : w i ≡ 41). omega arith), next_member)
    (rw (eq-eqb (w i) 32 h) (ap (λ (j : ℕ). member_of (number_at lo highest w j)) (sym (add-one i)))))

pub next_member_lem : (lo : ℕ) (w : ℕ → ℕ) (i v j : ℕ) → w i ≡ 32 → number_at lo highest w (i + 1) ≡ got v j
    → Ok (Some (record { value = v; end = j })) ≡ next_member lo w i
unfolding member_of
next_member_lem lo w i v j h e = sym (ap member_of e) ∙ next_blank lo w i h

pub next_fault : (lo : ℕ) (w : ℕ → ℕ) (i p : ℕ) → w i ≡ 32 → number_at lo highest w (i + 1) ≡ fault p → Err (record { at = p }) ≡ next_member lo w i
unfolding member_of
next_fault lo w i p h e = sym (ap member_of e) ∙ next_blank lo w i h

pub next_none : (lo : ℕ) (w : ℕ → ℕ) (i : ℕ) → (w i ≡ 41 → ⊥) → (w i ≡ 32 → ⊥) → Err (record { at = i }) ≡ next_member lo w i
unfolding next_member
next_none lo w i p q = sym (rw (ne_eqb (w i) 41 p, next_member) (rw (ne_eqb (w i) 32 q)))

-- a set and one more member
pub insert_is : (r x v : ℕ) → ((t : ℕ) → has r t ≡ (has x t || eqb t v)) → r ≡ insert x v
insert_is r x v h = ext r (insert x v) (λ t. h t ∙ sym (has_insert x v t))

next_cases : (lo : ℕ) (w : ℕ → ℕ) (i : ℕ) → (w i ≡ 41) ⊎ ((w i ≡ 32) ⊎ ((w i ≡ 41 → ⊥) × (w i ≡ 32 → ⊥)))
next_cases lo w i =
    by_cases (eqb (w i) 41)
    (λ b. inl (eqb-true (w i) 41 b))
    (λ b. by_cases (eqb (w i) 32)
    (λ d. inr (inl (eqb-true (w i) 32 d)))
    (λ d. inr (inr (eqb-false (w i) 41 b, eqb-false (w i) 32 d))))

member_not_closed : {A : Type 0} (y : Run ℕ) → Ok None ≡ member_of y → A
unfolding member_of
member_not_closed (got v i) e = let z : ◌≡◌ {A = ℕ} 0 1 = cc in absurd (omega arith)
member_not_closed (fault p) e = let z : ◌≡◌ {A = ℕ} 0 1 = cc in absurd (omega arith)

fault_member : (y : Run ℕ) (q : Fault) → Err q ≡ member_of y → y ≡ fault q.at
unfolding member_of
fault_member (got v i) q e = let z : ◌≡◌ {A = ℕ} 0 1 = cc in absurd (omega arith)
fault_member (fault p) q e = let same : record { at = p } ≡ q = cc in ap (λ (f : Fault). fault f.at) same

got_member : (y : Run ℕ) (n : Found ℕ) → Ok (Some n) ≡ member_of y → y ≡ got n.value n.end
unfolding member_of
got_member (got u i) n e = let same : record { value = u; end = i } ≡ n = cc in ap (λ (f : Found ℕ). got f.value f.end) same
got_member (fault p) n e = let z : ◌≡◌ {A = ℕ} 0 1 = cc in absurd (omega arith)

-- no member means that the closing bracket stands there
pub closed_byte : (lo : ℕ) (w : ℕ → ℕ) (i : ℕ) → Ok None ≡ next_member lo w i → w i ≡ 41
closed_byte lo w i n = elim (next_cases lo w i) [
  | inl c ↦ c
  | inr d ↦ elim d [
    | inl c ↦ member_not_closed (number_at lo highest w (i + 1)) (n ∙ sym (next_blank lo w i c))
    | inr c ↦ ok_not_err (n ∙ sym (next_none lo w i c.0 c.1))
  ]
]

-- one turn of reading members
module _ (x : Run ℕ) (left lo acc : ℕ) (w : ℕ → ℕ) (i : ℕ) (e : x ≡ run (more_members left lo acc) w i) where
  pub members_past : highest < lo → x ≡ run (lit 41 (done acc)) w i
  members_past h = e ∙ ap (λ (f : Format ℕ). run f w i) (more_off left lo acc h)

  pub members_end : left ≤ 0 → x ≡ run (lit 41 (done acc)) w i
  unfolding more_members
  members_end h = go left e h
    where
      go : (n : ℕ) → x ≡ run (more_members n lo acc) w i → n ≤ 0 → x ≡ run (lit 41 (done acc)) w i
      go zero f l = f
      go (suc n) f l = absurd (omega arith)

  module _ (p : 0 < left) (h : lo ≤ highest) where
    members_open : x ≡ run (alt 41 (done acc) (lit 32 (num lo highest (λ v. more_members (left - 1) (suc v) (insert acc v))))) w i
    members_open = go left p e
      where
        less : (n : ℕ) → n ≡ suc n - 1
        less n = omega arith

        go : (n : ℕ) → 0 < n → x ≡ run (more_members n lo acc) w i
            → x ≡ run (alt 41 (done acc) (lit 32 (num lo highest (λ v. more_members (n - 1) (suc v) (insert acc v))))) w i
        go zero q f = absurd (omega arith)
        go (suc n) q f =
            f ∙ ap (λ (g : Format ℕ). run g w i) (more_on n lo acc h)
            ∙ ap (λ (m : ℕ). run (alt 41 (done acc) (lit 32 (num lo highest (λ v. more_members m (suc v) (insert acc v))))) w i) (less n)

    pub members_closed : Ok None ≡ next_member lo w i → x ≡ got acc (i + 1)
    members_closed n =
        members_open ∙ run_alt_left 41 (done acc) _ w i (closed_byte lo w i n) ∙ run_done acc w (suc i) ∙ ap (got acc) (sym (add-one i))

    blank_on : w i ≡ 32 → x ≡ run (num lo highest (λ v. more_members (left - 1) (suc v) (insert acc v))) w (i + 1)
    blank_on c =
        members_open ∙ run_alt_right 41 (done acc) _ w i (λ (z : w i ≡ 41). omega arith) (lit_node 32 _)
        ∙ lit_on 32 (num lo highest (λ v. more_members (left - 1) (suc v) (insert acc v))) w i c

    wants : (v : ℕ) → IsNode (more_members (left - 1) (suc v) (insert acc v))
    wants v = (more_ends (left - 1) (suc v) (insert acc v)).wants

    pub members_fault : (q : Fault) → Err q ≡ next_member lo w i → x ≡ fault q.at
    members_fault q n = elim (next_cases lo w i) [
      | inl c ↦ ok_not_err (next_closed lo w i c ∙ sym n)
      | inr d ↦ elim d [
        | inl c ↦ (
            let f = fault_member (number_at lo highest w (i + 1)) q (n ∙ sym (next_blank lo w i c)) in
            blank_on c ∙ num_fault lo highest (λ v. more_members (left - 1) (suc v) (insert acc v)) wants w (i + 1) q.at f)
        | inr c ↦ (
            let same : Err q ≡ Err (record { at = i }) = n ∙ sym (next_none lo w i c.0 c.1) in
            let k : record { at = i } ≡ q = cc in
            members_open ∙ run_alt_right 41 (done acc) _ w i c.0 (lit_node 32 _) ∙ run_lit_fault 32 _ w i c.1 ∙ ap (λ (f : Fault). fault f.at) k)
      ]
    ]

    pub members_more : (m : Found ℕ) → Ok (Some m) ≡ next_member lo w i
        → (lo ≤ m.value) × (m.value ≤ highest) × (x ≡ run (more_members (left - 1) (m.value + 1) (insert acc m.value)) w m.end)
    members_more m n = elim (next_cases lo w i) [
      | inl c ↦ (let no : Ok (Some m) ≡ Ok None = n ∙ sym (next_closed lo w i c) in let z : ◌≡◌ {A = ℕ} 0 1 = cc in absurd (omega arith))
      | inr d ↦ elim d [
        | inl c ↦ (
            let f = got_member (number_at lo highest w (i + 1)) m (n ∙ sym (next_blank lo w i c)) in
            let r = number_range lo highest w (i + 1) m.value m.end f in (
              r.0,
              r.1,
              blank_on c ∙ num_got lo highest (λ u. more_members (left - 1) (suc u) (insert acc u)) wants w (i + 1) m.value m.end f
                  ∙ ap (λ (k : ℕ). run (more_members (left - 1) k (insert acc m.value)) w m.end) (sym (add-one m.value)),
            ))
        | inr c ↦ ok_not_err (n ∙ sym (next_none lo w i c.0 c.1))
      ]
    ]

    pub members_next : (m : Found ℕ) (y : ℕ) → Ok (Some m) ≡ next_member lo w i → ((t : ℕ) → has y t ≡ (has acc t || eqb t m.value))
        → (x ≡ run (more_members (left - 1) (m.value + 1) y) w m.end) × (m.value + 1 ≤ capacity)
    members_next m y n g =
        let r = members_more m n in
        let high = r.1 in
        (r.2 ∙ ap (λ (z : ℕ). run (more_members (left - 1) (m.value + 1) z) w m.end) (sym (insert_is y acc m.value g)), omega arith)

-- behind the opening bracket
pub members_none : (w : ℕ → ℕ) (i y : ℕ) → w i ≡ 41 → y ≡ 0 → run members_format w i ≡ got y (i + 1)
unfolding members_format
members_none w i y h e = run_alt_left 41 (done 0) _ w i h ∙ run_done 0 w (suc i) ∙ (λ n. got (sym e n) (sym (add-one i) n))

first_wants : (v : ℕ) → IsNode (more_members highest (suc v) (insert 0 v))
first_wants v = (more_ends highest (suc v) (insert 0 v)).wants

pub members_first : (w : ℕ → ℕ) (i v j : ℕ) → (w i ≡ 41 → ⊥) → number_at 0 highest w i ≡ got v j
    → run members_format w i ≡ run (more_members highest (v + 1) (insert 0 v)) w j
unfolding members_format
members_first w i v j h e =
    run_alt_right 41 (done 0) _ w i h (num_node 0 highest _) ∙ num_got 0 highest (λ u. more_members highest (suc u) (insert 0 u)) first_wants w i v j e
    ∙ ap (λ (m : ℕ). run (more_members highest m (insert 0 v)) w j) (sym (add-one v))

pub members_begun : (w : ℕ → ℕ) (i v j x y : ℕ) → (w i ≡ 41 → ⊥) → number_at 0 highest w i ≡ got v j → x ≡ 0 → ((t : ℕ) → has y t ≡ (has x t || eqb t v))
    → run members_format w i ≡ run (more_members highest (v + 1) y) w j
members_begun w i v j x y h e o g =
    members_first w i v j h e ∙ ap (λ (z : ℕ). run (more_members highest (v + 1) z) w j) (sym (insert_is y x v g ∙ ap (λ (z : ℕ). insert z v) o))

pub members_wrong : (w : ℕ → ℕ) (i p : ℕ) → (w i ≡ 41 → ⊥) → number_at 0 highest w i ≡ fault p → run members_format w i ≡ fault p
unfolding members_format
members_wrong w i p h e =
    run_alt_right 41 (done 0) _ w i h (num_node 0 highest _)
    ∙ num_fault 0 highest (λ u. more_members highest (suc u) (insert 0 u)) first_wants w i p e

pub set_on : (w : ℕ → ℕ) (i : ℕ) → w i ≡ 40 → run set_format w i ≡ run members_format w (i + 1)
unfolding set_format
set_on w i h = lit_on 40 members_format w i h

pub set_off : (w : ℕ → ℕ) (i : ℕ) → (w i ≡ 40 → ⊥) → run set_format w i ≡ fault i
unfolding set_format
set_off w i h = run_lit_fault 40 members_format w i h
