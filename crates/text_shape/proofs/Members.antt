-- A set's text: its members in brackets.
use Prim.Native.Nat.{ℕ, zero, suc, ◌+◌, ◌-◌, ◌≤◌, ◌<◌, ◌^◌}
use native.Mathlib.Omega.{arith}
use mathlib.Core.Bool.{Bool, true, false, ◌||◌}
use mathlib.Core.List.{List, [], ◌∷◌, ◌++◌, map, append_assoc}
use mathlib.Core.Logic.{◌⊎◌, inl, inr}
use mathlib.Core.Path.{◌≡◌, refl, sym, ◌∙◌, ap, subst}
use lib.Arith.{lt_of_le-ne}
use lib.Dec.{eqb, leb}
use borrow.Author.Tests.{eq-eqb, ne_eqb, eqb-true, eqb-false, leb-false, le-leb, lt-leb, leb-true}
use Rattle.finite.proofs.Truth.{clash, or_right, false_of, or_none}
use Rattle.bits.specs.Member.{has, within}
use Rattle.bits.proofs.Membership.{has_or, has_single, has_zero_lem, ext, has_within, within_has, zero_within}
use Rattle.sets.specs.Words.{capacity, highest}
use Rattle.text_grammar.specs.Format.{Format, TextOf, Live, lit, alt, IsNode}
use Rattle.text_grammar.specs.Format.Format.{done}
use Rattle.text_grammar.specs.Number.{decimal, num, digit}
use Rattle.text_grammar.proofs.Format.{
  by_cases,
  lit_text,
  lit_parts,
  lit_live,
  lit_node,
  alt_left,
  alt_right,
  alt_parts,
  alt_live,
  done_text,
  done_parts,
  done_live,
  opens_lit,
}
use Rattle.text_grammar.proofs.Number.{num_text, num_parts, num_live, num_node, Ends, ends_lit, ends_alt, opens_num}
use Rattle.text_shape.specs.Text.{items, gap_text, bracket, members, set_text}
use Rattle.text_shape.specs.Shape.{insert, more_members, members_format, set_format}

pub has_insert : (x v s : ℕ) → has (insert x v) s ≡ (has x s || eqb s v)
unfolding insert
has_insert x v s = has_or x (2 ^ v) s ∙ ap (λ (b : Bool). has x s || b) (has_single v s)

pub insert_same : (x v : ℕ) → has (insert x v) v ≡ true
insert_same x v = has_insert x v v ∙ or_right (has x v) (eq-eqb v v refl)

pub insert_other : (x v s : ℕ) → (s ≡ v → ⊥) → has (insert x v) s ≡ has x s
insert_other x v s h = has_insert x v s ∙ ap (λ (b : Bool). has x s || b) (ne_eqb s v h) ∙ or_none (has x s) refl

-- the members of a set, one at a time
pub members_take : (n lo x : ℕ) → has x lo ≡ true → members (suc n) lo x ≡ lo ∷ members n (suc lo) x
unfolding members
members_take n lo x h = rw (h, members)

pub members_skip : (n lo x : ℕ) → has x lo ≡ false → members (suc n) lo x ≡ members n (suc lo) x
unfolding members
members_skip n lo x h = rw (h, members)

members_none : (n lo x : ℕ) → ((s : ℕ) → lo ≤ s → has x s ≡ false) → members n lo x ≡ []
unfolding members
members_none zero lo x h = refl
members_none (suc n) lo x h = members_skip n lo x (h lo (omega arith)) ∙ members_none n (suc lo) x (λ s l. h s (omega arith))

-- d states that do not belong are passed over
members_jump : (d n lo x : ℕ) → ((s : ℕ) → lo ≤ s → s < lo + d → has x s ≡ false) → members (d + n) lo x ≡ members n (lo + d) x
members_jump zero n lo x h = ap (λ (m : ℕ). members m lo x) (omega arith) ∙ ap (λ (l : ℕ). members n l x) (omega arith)
members_jump (suc d) n lo x h =
    ap (λ (m : ℕ). members m lo x) (suc_add d n)
    ∙ members_skip (d + n) lo x (h lo (omega arith) (omega arith))
    ∙ members_jump d n (suc lo) x (λ s l m. h s (omega arith) (omega arith))
    ∙ ap (λ (l : ℕ). members n l x) (add_suc' lo d)
  where
    suc_add : (a b : ℕ) → suc a + b ≡ suc (a + b)
    suc_add a b = omega arith

    add_suc' : (a b : ℕ) → suc a + b ≡ a + suc b
    add_suc' a b = omega arith

-- v is the first member from lo on; n counts the states behind it
record First (lo x v n : ℕ) : Type 0 where
  from : lo ≤ v
  end : suc v + n ≡ capacity
  is : has x v ≡ true
  before : (s : ℕ) → lo ≤ s → s < v → has x s ≡ false

members_first : (m lo x v n : ℕ) → lo + m ≡ capacity → First lo x v n → members m lo x ≡ v ∷ members n (suc v) x
members_first m lo x v n e F =
    let l = F.from in
    let f = F.end in
    let split : m ≡ (v - lo) + suc n = omega arith in
    let to : lo + (v - lo) ≡ v = omega arith in
    ap (λ (i : ℕ). members i lo x) split
    ∙ members_jump (v - lo) (suc n) lo x (λ s p q. F.before s p (omega arith))
    ∙ ap (λ (i : ℕ). members (suc n) i x) to
    ∙ members_take n v x F.is

-- the next member from lo on, if there is one
next : (m lo x : ℕ) → lo + m ≡ capacity → ((s : ℕ) → lo ≤ s → s < capacity → has x s ≡ false) ⊎ ((v : ℕ) × (n : ℕ) × First lo x v n)
next zero lo x e = inl (λ s p q. absurd (omega arith))
next (suc m) lo x e =
    by_cases (has x lo)
    (λ h. inr (lo, m, record { from = omega arith; end = omega arith; is = h; before = λ s p q. absurd (omega arith) }))
    (λ h. elim (next m (suc lo) x (omega arith)) [
      | inl none ↦ inl (λ s p q. none_from h none s p q)
      | inr f ↦ inr (f.0, f.1, further h f.0 f.1 f.2)
    ])
  where
    or_later : has x lo ≡ false → (s : ℕ) → lo ≤ s → (suc lo ≤ s → has x s ≡ false) → has x s ≡ false
    or_later h s p k =
        by_cases (eqb lo s)
        (λ q. ap (has x) (sym (eqb-true lo s q)) ∙ h)
        (λ q. let ne = eqb-false lo s q in k (lt_of_le-ne p ne))

    none_from : has x lo ≡ false → ((s : ℕ) → suc lo ≤ s → s < capacity → has x s ≡ false) → (s : ℕ) → lo ≤ s → s < capacity → has x s ≡ false
    none_from h none s p q = or_later h s p (λ l. none s l q)

    further : has x lo ≡ false → (v n : ℕ) → First (suc lo) x v n → First lo x v n
    further h v n F = let l = F.from in record { from = omega arith; end = F.end; is = F.is; before = λ s p q. or_later h s p (λ m. F.before s m q) }

-- behind a member: what a finished list is
record MoreParts (lo m acc : ℕ) (t : List ℕ) (x : ℕ) : Type 0 where
  text : t ≡ items true (map decimal (members m lo x)) ++ 41 ∷ []
  below : (s : ℕ) → s < lo → has x s ≡ has acc s
  small : (s : ℕ) → has x s ≡ true → s < capacity

Fresh : ℕ → ℕ → Type 0
Fresh lo x = (s : ℕ) → lo ≤ s → has x s ≡ false

insert_fresh : (lo v x : ℕ) → lo ≤ v → Fresh lo x → Fresh (suc v) (insert x v)
unfolding Fresh
insert_fresh lo v x l h s p = insert_other x v s (λ e. omega arith) ∙ h s (omega arith)

close_parts : (lo m acc : ℕ) (t : List ℕ) (x : ℕ) → lo ≤ capacity → Fresh lo acc → t ≡ 41 ∷ [] → x ≡ acc → MoreParts lo m acc t x
unfolding Fresh items
close_parts lo m acc t x l h e f =
    record {
      text = e ∙ sym (ap (λ (ws : List ℕ). items true (map decimal ws) ++ 41 ∷ []) (members_none m lo x (λ s p. ap (λ (y : ℕ). has y s) f ∙ h s p)));
      below = λ s p. ap (λ (y : ℕ). has y s) f;
      small = λ s p. by_cases (leb lo s)
          (λ q. clash (ap (λ (y : ℕ). has y s) (sym f) ∙ p) (h s (leb-true lo s q)))
          (λ q. let less = leb-false lo s q in omega arith);
    }

lit_end_parts : (b : ℕ) (acc : ℕ) (t : List ℕ) (x : ℕ) → TextOf (lit b (done acc)) t x → (t ≡ b ∷ []) × (x ≡ acc)
lit_end_parts b acc t x p =
    let q = lit_parts b (done acc) t x p in
    let d = done_parts acc q.0 x q.2 in
    (q.1 ∙ ap (λ (l : List ℕ). b ∷ l) d.0, d.1)

-- a member v, and then the rest: the whole list from lo on
first_member : (lo acc v n : ℕ) (t : List ℕ) (x : ℕ) → suc v + n ≡ capacity → lo ≤ v → Fresh lo acc → MoreParts (suc v) n (insert acc v) t x → First lo x v n
unfolding Fresh
first_member lo acc v n t x f l h M =
    record {
      from = l;
      end = f;
      is = M.below v (omega arith) ∙ insert_same acc v;
      before = λ s p q. M.below s (omega arith) ∙ insert_other acc v s (λ (i : s ≡ v). omega arith) ∙ h s p;
    }

member_text : (gap : Bool) (v : ℕ) (ms : List ℕ)
    → items gap (map decimal (v ∷ ms)) ++ 41 ∷ [] ≡ gap_text gap ++ (decimal v ++ (items true (map decimal ms) ++ 41 ∷ []))
unfolding items
member_text gap v ms = append_assoc (gap_text gap) _ _ ∙ ap (λ (l : List ℕ). gap_text gap ++ l) (append_assoc (decimal v) _ _)

blank_parts : (lo m acc v n : ℕ) (t u : List ℕ) (x : ℕ) → lo + m ≡ capacity → suc v + n ≡ capacity → lo ≤ v → Fresh lo acc → t ≡ 32 ∷ (decimal v ++ u)
    → MoreParts (suc v) n (insert acc v) u x → MoreParts lo m acc t x
unfolding gap_text
blank_parts lo m acc v n t u x e f l h w M =
    let F = first_member lo acc v n u x f l h M in
    record {
      text =
          w ∙ ap (λ (y : List ℕ). 32 ∷ (decimal v ++ y)) M.text
          ∙ sym (member_text true v (members n (suc v) x))
          ∙ sym (ap (λ (ms : List ℕ). items true (map decimal ms) ++ 41 ∷ []) (members_first m lo x v n e F));
      below = λ s p. M.below s (omega arith) ∙ insert_other acc v s (λ (i : s ≡ v). omega arith);
      small = M.small;
    }

pub more_on : (n lo acc : ℕ) → lo ≤ highest
    → more_members (suc n) lo acc ≡ alt 41 (done acc) (lit 32 (num lo highest (λ v. more_members n (suc v) (insert acc v))))
unfolding more_members
more_on n lo acc h = rw (le-leb lo highest h, more_members)

pub more_off : (n lo acc : ℕ) → highest < lo → more_members n lo acc ≡ lit 41 (done acc)
unfolding more_members
more_off zero lo acc h = refl
more_off (suc n) lo acc h = rw (lt-leb lo highest h, more_members)

more_sound : (n lo m acc : ℕ) (t : List ℕ) (x : ℕ) → lo + m ≡ capacity → capacity ≤ lo + n → Fresh lo acc
    → TextOf (more_members n lo acc) t x → MoreParts lo m acc t x
more_sound zero lo m acc t x e f h p =
    let q = lit_end_parts 41 acc t x (rw (more_off zero lo acc (omega arith)) at p) in
    close_parts lo m acc t x (omega arith) h q.0 q.1
more_sound (suc n) lo m acc t x e f h p =
    by_cases (leb lo highest)
    (λ b. elim (alt_parts 41 (done acc) (lit 32 (num lo highest (λ v. more_members n (suc v) (insert acc v)))) t x
    (rw (more_on n lo acc (leb-true lo highest b)) at p)) [
      | inl c ↦ (let d = done_parts acc c.0 x c.2 in close_parts lo m acc t x (omega arith) h (c.1 ∙ ap (λ (l : List ℕ). 41 ∷ l) d.0) d.1)
      | inr c ↦ (
          let q = lit_parts 32 (num lo highest (λ v. more_members n (suc v) (insert acc v))) t x c in
          let N = num_parts lo highest (λ v. more_members n (suc v) (insert acc v)) q.0 x q.2 in
          let v = N.value in
          let low : lo ≤ v = N.low in
          let high : v ≤ highest = N.high in
          let M = more_sound n (suc v) (highest - v) (insert acc v) N.back x (omega arith) (omega arith) (insert_fresh lo v acc low h) N.is_back in
          blank_parts lo m acc v (highest - v) t N.back x e (omega arith) low h (q.1 ∙ ap (λ (l : List ℕ). 32 ∷ l) N.whole) M)
    ])
    (λ b.
    let q = lit_end_parts 41 acc t x (rw (more_off (suc n) lo acc (leb-false lo highest b)) at p) in
    close_parts lo m acc t x (omega arith) h q.0 q.1)

-- behind the members of x below lo, the text of the others finishes x
Same-below : ℕ → ℕ → ℕ → Type 0
Same-below lo x acc = (s : ℕ) → s < lo → has x s ≡ has acc s

pub more_ends : (n lo acc : ℕ) → Ends (more_members n lo acc)
unfolding more_members digit
more_ends n lo acc =
    by_cases (leb lo highest)
    (λ b. on n (leb-true lo highest b))
    (λ b. rw (more_off n lo acc (leb-false lo highest b)) (ends_lit 41 (done acc) refl))
  where
    on : (n : ℕ) → lo ≤ highest → Ends (more_members n lo acc)
    on zero l = ends_lit 41 (done acc) refl
    on (suc n) l = rw (more_on n lo acc l) (ends_alt 41 (done acc) _ refl (ends_lit 32 _ refl))

more_close : (n lo acc : ℕ) → TextOf (more_members n lo acc) (41 ∷ []) acc
unfolding more_members
more_close zero lo acc = lit_text 41 (done acc) [] acc (done_text acc)
more_close (suc n) lo acc =
    by_cases (leb lo highest)
    (λ b. rw (more_on n lo acc (leb-true lo highest b)) (alt_left 41 (done acc) _ [] acc (done_text acc)))
    (λ b. rw (more_off (suc n) lo acc (leb-false lo highest b)) (lit_text 41 (done acc) [] acc (done_text acc)))

-- a member and what follows it
member_complete : (lo : ℕ) (k : ℕ → Format ℕ) (v : ℕ) (t : List ℕ) (x : ℕ) → lo ≤ v → v ≤ highest → Ends (k v) → TextOf (k v) t x
    → TextOf (num lo highest k) (decimal v ++ t) x
member_complete lo k v t x p q E h = num_text lo highest k v t x (omega arith) p q E h

-- no member is left
more_last : (n lo m acc x : ℕ) → Fresh lo acc → Same-below lo x acc → ((s : ℕ) → lo ≤ s → has x s ≡ false)
    → TextOf (more_members n lo acc) (items true (map decimal (members m lo x)) ++ 41 ∷ []) x
unfolding Fresh Same-below items
more_last n lo m acc x h g none =
    let same : acc ≡ x =
    ext acc x (λ s. by_cases (leb lo s)
    (λ b. h s (leb-true lo s b) ∙ sym (none s (leb-true lo s b)))
    (λ b. sym (g s (leb-false lo s b)))) in
    rw (members_none m lo x none) (subst (λ (y : ℕ). TextOf (more_members n lo acc) (41 ∷ []) y) same (more_close n lo acc))

past_none : (lo x : ℕ) → within x capacity ≡ true → ((s : ℕ) → lo ≤ s → s < capacity → has x s ≡ false) → (s : ℕ) → lo ≤ s → has x s ≡ false
past_none lo x w none s p = false_of (has x s) (λ e. clash e (none s p (within_has x capacity s w e)))

same_insert : (lo acc x v n : ℕ) → Fresh lo acc → Same-below lo x acc → First lo x v n → Same-below (suc v) x (insert acc v)
unfolding Fresh Same-below
same_insert lo acc x v n h g F s l =
    by_cases (eqb s v)
    (λ b. let e = eqb-true s v b in ap (has x) e ∙ F.is ∙ sym (insert_same acc v) ∙ ap (has (insert acc v)) (sym e))
    (λ b.
    let ne = eqb-false s v b in
    let less : s < v = lt_of_le-ne (omega arith) ne in
    by_cases (leb lo s)
    (λ c. F.before s (leb-true lo s c) less ∙ sym (h s (leb-true lo s c)) ∙ sym (insert_other acc v s ne))
    (λ c. g s (leb-false lo s c) ∙ sym (insert_other acc v s ne)))

more_complete : (n lo m acc x : ℕ) → lo + m ≡ capacity → capacity ≤ lo + n → Fresh lo acc → Same-below lo x acc → within x capacity ≡ true
    → TextOf (more_members n lo acc) (items true (map decimal (members m lo x)) ++ 41 ∷ []) x
unfolding gap_text
more_complete zero lo m acc x e f h g w = more_last zero lo m acc x h g (past_none lo x w (λ s p q. absurd (omega arith)))
more_complete (suc n) lo m acc x e f h g w =
    elim (next m lo x e) [
      | inl none ↦ more_last (suc n) lo m acc x h g (past_none lo x w none)
      | inr N ↦ (
          let v = N.0 in
          let n' = N.1 in
          let F = N.2 in
          let low : lo ≤ v = F.from in
          let end : suc v + n' ≡ capacity = F.end in
          let rest = more_complete n (suc v) n' (insert acc v) x end (omega arith) (insert_fresh lo v acc low h) (same_insert lo acc x v n' h g F) w in
          let t = items true (map decimal (members n' (suc v) x)) ++ 41 ∷ [] in
          let k : ℕ → Format ℕ = λ u. more_members n (suc u) (insert acc u) in
          let number = member_complete lo k v t x low (omega arith) (more_ends n (suc v) (insert acc v)) rest in
          let blank = lit_text 32 (num lo highest k) (decimal v ++ t) x number in
          rw (members_first m lo x v n' e F, member_text true v, more_on n lo acc (omega arith))
          (alt_right 41 (done acc) (lit 32 (num lo highest k)) (32 ∷ (decimal v ++ t)) x (opens_lit 32 (num lo highest k) 41) blank
          (lit_node 32 (num lo highest k))))
    ]

-- every way can be finished
more_live : (n lo acc : ℕ) → Live (more_members n lo acc)
unfolding more_members
more_live zero lo acc = lit_live 41 (done acc) (omega arith) (done_live acc)
more_live (suc n) lo acc =
    by_cases (leb lo highest)
    (λ b.
    let k : ℕ → Format ℕ = λ u. more_members n (suc u) (insert acc u) in
    let rest : Live (num lo highest k) = num_live lo highest k (leb-true lo highest b) (omega arith)
    (λ u p q. (more_live n (suc u) (insert acc u), (more_ends n (suc u) (insert acc u)).wants)) in
    rw (more_on n lo acc (leb-true lo highest b))
    (alt_live 41 (done acc) (lit 32 (num lo highest k)) (omega arith) (done_live acc) (lit_live 32 (num lo highest k) (omega arith) rest)
    (lit_node 32 (num lo highest k))))
    (λ b. rw (more_off (suc n) lo acc (leb-false lo highest b)) (lit_live 41 (done acc) (omega arith) (done_live acc)))

-- a set
fresh_zero : Fresh 0 0
unfolding Fresh
fresh_zero s p = has_zero_lem s

none_below : (x : ℕ) → Same-below 0 x 0
unfolding Same-below
none_below x s p = absurd (omega arith)

pub set_node : IsNode set_format
unfolding set_format
set_node = lit_node 40 _

pub set_live : Live set_format
unfolding set_format members_format
set_live =
    lit_live 40 (alt 41 (done 0) (num 0 highest (λ v. more_members highest (suc v) (insert 0 v)))) (omega arith)
    (alt_live 41 (done 0) (num 0 highest (λ v. more_members highest (suc v) (insert 0 v))) (omega arith) (done_live 0)
    (num_live 0 highest (λ v. more_members highest (suc v) (insert 0 v)) (omega arith) (omega arith)
    (λ u p q. (more_live highest (suc u) (insert 0 u), (more_ends highest (suc u) (insert 0 u)).wants)))
    (num_node 0 highest (λ v. more_members highest (suc v) (insert 0 v))))

pub set_sound : (t : List ℕ) (x : ℕ) → TextOf set_format t x → (within x capacity ≡ true) × (t ≡ set_text x)
unfolding set_format members_format set_text bracket gap_text items
set_sound t x p =
    let k : ℕ → Format ℕ = λ v. more_members highest (suc v) (insert 0 v) in
    let o = lit_parts 40 (alt 41 (done 0) (num 0 highest k)) t x p in
    elim (alt_parts 41 (done 0) (num 0 highest k) o.0 x o.2) [
      | inl c ↦ (let d = done_parts 0 c.0 x c.2 in empty d.1 (o.1 ∙ ap (λ (l : List ℕ). 40 ∷ l) (c.1 ∙ ap (λ (l : List ℕ). 41 ∷ l) d.0)))
      | inr c ↦ (
          let N = num_parts 0 highest k o.0 x c in
          let v = N.value in
          let high : v ≤ highest = N.high in
          let M = more_sound highest (suc v) (highest - v) (insert 0 v) N.back x (omega arith) (omega arith) (insert_fresh 0 v 0 (omega arith) fresh_zero)
          N.is_back in
          let F = first_member 0 0 v (highest - v) N.back x (omega arith) (omega arith) fresh_zero M in (
            has_within x capacity M.small,
            o.1 ∙ ap (λ (l : List ℕ). 40 ∷ l)
                (N.whole ∙ ap (λ (l : List ℕ). decimal v ++ l) M.text
                ∙ sym (member_text false v (members (highest - v) (suc v) x))
                ∙ sym (ap (λ (ms : List ℕ). items false (map decimal ms) ++ 41 ∷ []) (members_first capacity 0 x v (highest - v) (omega arith) F))),
          ))
    ]
  where
    empty : x ≡ 0 → t ≡ 40 ∷ 41 ∷ [] → (within x capacity ≡ true) × (t ≡ 40 ∷ (items false (map decimal (members capacity 0 x)) ++ 41 ∷ []))
    empty e f = (
      subst (λ (y : ℕ). within y capacity ≡ true) (sym e) (zero_within capacity),
      f ∙ sym (ap (λ (ms : List ℕ). 40 ∷ (items false (map decimal ms) ++ 41 ∷ []))
          (members_none capacity 0 x (λ s q. ap (λ (y : ℕ). has y s) e ∙ has_zero_lem s))),
    )

pub set_complete : (x : ℕ) → within x capacity ≡ true → TextOf set_format (set_text x) x
unfolding set_format members_format set_text bracket gap_text items digit
set_complete x w =
    let k : ℕ → Format ℕ = λ v. more_members highest (suc v) (insert 0 v) in
    lit_text 40 (alt 41 (done 0) (num 0 highest k)) (items false (map decimal (members capacity 0 x)) ++ 41 ∷ []) x
    (elim (next capacity 0 x refl) [
      | inl none ↦ (
          let all = past_none 0 x w none in
          let zero_set : 0 ≡ x = ext 0 x (λ s. has_zero_lem s ∙ sym (all s (omega arith))) in
          rw (members_none capacity 0 x all)
          (subst (λ (y : ℕ). TextOf (alt 41 (done 0) (num 0 highest k)) (41 ∷ []) y) zero_set (alt_left 41 (done 0) (num 0 highest k) [] 0 (done_text 0))))
      | inr N ↦ (
          let v = N.0 in
          let n = N.1 in
          let F = N.2 in
          let end : suc v + n ≡ capacity = F.end in
          let nothing : Same-below 0 x 0 = none_below x in
          let rest = more_complete highest (suc v) n (insert 0 v) x end (omega arith) (insert_fresh 0 v 0 (omega arith) fresh_zero)
          (same_insert 0 0 x v n fresh_zero nothing F) w in
          let t = items true (map decimal (members n (suc v) x)) ++ 41 ∷ [] in
          let number = member_complete 0 k v t x (omega arith) (omega arith) (more_ends highest (suc v) (insert 0 v)) rest in
          rw (members_first capacity 0 x v n refl F, member_text false v)
          (alt_right 41 (done 0) (num 0 highest k) (decimal v ++ t) x (opens_num 0 highest k 41 refl) number (num_node 0 highest k)))
    ])
