-- Walking the components by their smallest states, and the ranks that are written or read on the way.
--
--   Left, left_start, -below, -leads, -whole, -next, -skip   : the inputs whose component's smallest state has not been passed
--   Putting, putting_start, -in, -next, -falls, -end         : one value written for the members of a set, a place each
--   Checking, checking_start, -below, -next, -falls, -end, -fails : one rank read for them
--   Ranking, ranking_start, -next, -skip, -end               : the ranks written
--   Reading, reading_start, -next, -skip, -end, -fails       : the ranks read
use Prim.Native.Nat.{ℕ, ◌+◌, ◌≤◌, ◌<◌}
use native.Mathlib.Numerals.{add-one}
use mathlib.Core.Path.{◌≡◌, refl, sym, ◌∙◌, ap}
use mathlib.Core.Bool.{true, false, ◌&&◌, ◌||◌, not}
use mathlib.Core.List.{List}
use mathlib.Core.Logic.{◌⊎◌, inl, inr, ◌≢◌}
use native.Mathlib.Omega.{arith}
use native.Mathlib.Decide.{ℕ_discrete, dec_lt}
use lib.Dec.{eqb, ltb}
use lib.ListN.{length, get_or, set, length-set}
use lib.Seq.{get_or-set_same, get_or-set_other}
use borrow.Author.Tests.{eqb-true, eq-eqb, ne_eqb, ltb-true, ltb-false, lt-ltb, le-ltb}
use Rattle.compact.proofs.Rank.{number_leads}
use Rattle.finite.specs.Bounded.{least, count}
use Rattle.finite.proofs.Truth.{decide, clash, false_of, same_test, and_intro, and_left, and_right}
use Rattle.finite.proofs.Truth.{or_left, or_right, or_cases, or_false, or_false_left, or_false_right, not_true, not_false}
use Rattle.finite.proofs.Bounded.{all_intro, all_elim, all_fails, all_false}
use Rattle.bits.specs.Member.{has, pack}
use Rattle.bits.proofs.Membership.{has_zero_lem, has_pack, has_pack_below}
use Rattle.bits.proofs.Remove.{less_in, less_other, less_falls}
use Rattle.bits.proofs.Visit.{small_word, lowest_in_lem, lowest_less}
use Rattle.sets.specs.Words.{capacity}
use Rattle.graphs.specs.Component.{joined, number}
use Rattle.graphs.proofs.Component.{joined_sym, joined_to, number_same, number_joined, number_below, number_least, joined_self}
use Rattle.arena.specs.Arena.{Separated}
use Rattle.compact.specs.Rank.{leads, rank_of}
use Rattle.compact.specs.Moving.{ranks_fit}
use Rattle.finite.proofs.Bounded.{count_in, count_out}
use Rattle.finite.proofs.Lists.{any_default}
use Rattle.theory.specs.Entries.{none_entry}
use Rattle.graph_ranks.specs.Ranks.{Put, ranked}

module _ (S : Separated) where
  abbrev n : ℕ
  n = S.input.states

  -- ---- the walk

  -- left: the inputs whose component's smallest state has not been passed
  abbrev pub Left : ℕ → ℕ → Type 0
  Left j left = (t : ℕ) → has left t ≡ (ltb t n && not (ltb (number S.input t) j))

  left_intro : (j left t : ℕ) → Left j left → t < n → j ≤ number S.input t → has left t ≡ true
  left_intro j left t L a b = L t ∙ and_intro (lt-ltb t n a) (ap not (le-ltb (number S.input t) j b))

  pub left_below : (j left t : ℕ) → Left j left → has left t ≡ true → t < n
  left_below j left t L m = ltb-true t n (and_left (ltb t n) (not (ltb (number S.input t) j)) (sym (L t) ∙ m))

  left_number : (j left t : ℕ) → Left j left → has left t ≡ true → j ≤ number S.input t
  left_number j left t L m =
      ltb-false (number S.input t) j
      (not_true (ltb (number S.input t) j) (and_right (ltb t n) (not (ltb (number S.input t) j)) (sym (L t) ∙ m)))

  -- what is left, told by its members
  left_is : (j left : ℕ) → ((t : ℕ) → has left t ≡ true → (t < n) × (j ≤ number S.input t))
      → ((t : ℕ) → t < n → j ≤ number S.input t → has left t ≡ true) → Left j left
  left_is j left f g t =
      same_test (has left t) (ltb t n && not (ltb (number S.input t) j))
      (λ m. let x = f t m in and_intro (lt-ltb t n x.0) (ap not (le-ltb (number S.input t) j x.1)))
      (λ m. g t (ltb-true t n (and_left (ltb t n) (not (ltb (number S.input t) j)) m))
      (ltb-false (number S.input t) j
      (not_true (ltb (number S.input t) j) (and_right (ltb t n) (not (ltb (number S.input t) j)) m))))

  pub left_start : (left : ℕ) → ((t : ℕ) → has left t ≡ ltb t n) → Left 0 left
  left_start left d = left_is 0 left (λ t m. (ltb-true t n (sym (d t) ∙ m), omega arith)) (λ t a b. d t ∙ lt-ltb t n a)

  leads_intro : (j : ℕ) → number S.input j ≡ j → leads S j ≡ true
  unfolding leads
  leads_intro j e = eq-eqb (number S.input j) j e

  number_le : (j : ℕ) → j < n → number S.input j ≤ j
  number_le j b = number_least S.input j j (joined_self S.input j b)

  pub left_leads : (j left : ℕ) → Left j left → j < n → has left j ≡ leads S j
  left_leads j left L b =
      same_test (has left j) (leads S j) (λ m. leads_intro j (omega (arith, number_le j b, left_number j left j L m)))
      (λ m. left_intro j left j L b (omega (arith, number_leads S j m)))

  -- the members of a component have its smallest state for their number
  member_number : (j t : ℕ) → leads S j ≡ true → joined S.input j t ≡ true → number S.input t ≡ j
  member_number j t l m = sym (number_same S.input j t m) ∙ number_leads S j l

  number_member : (j t : ℕ) → t < n → number S.input t ≡ j → joined S.input j t ≡ true
  number_member j t b e =
      joined_sym S.input t j (ap (joined S.input t) (sym e) ∙ number_joined S.input t b)

  -- the members of a component are not below the one that leads it
  pub led_above : (j t : ℕ) → leads S j ≡ true → joined S.input j t ≡ true → j ≤ t
  led_above j t l m = omega (arith, member_number j t l m, number_le t (joined_to S.input j t m))

  -- a component whose smallest state comes next is left as a whole
  pub left_whole : (j left t : ℕ) → Left j left → leads S j ≡ true → joined S.input j t ≡ true → has left t ≡ true
  left_whole j left t L l m = left_intro j left t L (joined_to S.input j t m) (omega (arith, member_number j t l m))

  pub left_next : (j left c r : ℕ) → Left j left → leads S j ≡ true → c ≡ pack n (joined S.input j)
      → ((t : ℕ) → has r t ≡ (has left t && not (has c t))) → Left (j + 1) r
  left_next j left c r L l e d = left_is (j + 1) r (λ t m. there t (sym (d t) ∙ m)) back
    where
      member : (t : ℕ) → t < n → has c t ≡ joined S.input j t
      member t a = ap (λ (x : ℕ). has x t) e ∙ has_pack_below n (joined S.input j) t a

      there : (t : ℕ) → (has left t && not (has c t)) ≡ true → (t < n) × (j + 1 ≤ number S.input t)
      there t m =
          let o = and_left (has left t) (not (has c t)) m in
          let a = left_below j left t L o in
          elim (ℕ_discrete (number S.input t) j) [
            | yes k ↦ clash (member t a ∙ number_member j t a k) (not_true (has c t) (and_right (has left t) (not (has c t)) m))
            | no k ↦ (a, omega (arith, left_number j left t L o))
          ]

      back : (t : ℕ) → t < n → j + 1 ≤ number S.input t → has r t ≡ true
      back t a b =
          d t
          ∙ and_intro (left_intro j left t L a (omega arith))
          (ap not (false_of (has c t) (λ m. absurd (omega (arith, member_number j t l (sym (member t a) ∙ m))))))

  -- no input's component has a smallest state that is not one
  not_number : (j t : ℕ) → leads S j ≡ false → t < n → number S.input t ≢ j
  not_number j t l b e =
      clash (leads_intro j (sym (number_same S.input t j (joined_sym S.input j t (number_member j t b e))) ∙ e)) l

  pub left_skip : (j left : ℕ) → Left j left → leads S j ≡ false → Left (j + 1) left
  left_skip j left L l =
      left_is (j + 1) left (λ t m.
      let a = left_below j left t L m in
      elim (ℕ_discrete (number S.input t) j) [
        | yes k ↦ absurd (not_number j t l a k)
        | no k ↦ (a, omega (arith, left_number j left t L m))
      ])
      (λ t a b. left_intro j left t L a (omega arith))

  pub count_next : (j k : ℕ) → k ≡ count j (leads S) → leads S j ≡ true → k + 1 ≡ count (j + 1) (leads S)
  count_next j k e l = rw (add-one j) (omega (arith, count_in (leads S) j l))

  pub count_skip : (j k : ℕ) → k ≡ count j (leads S) → leads S j ≡ false → k ≡ count (j + 1) (leads S)
  count_skip j k e l = rw (add-one j) (omega (arith, count_out (leads S) j l))

  rank_at_lem : (j t : ℕ) → leads S j ≡ true → joined S.input j t ≡ true → rank_of S t ≡ count j (leads S)
  unfolding rank_of
  rank_at_lem j t l m = ap (λ (k : ℕ). count k (leads S)) (member_number j t l m)

  -- ---- the ranks written

  pub record Ranking (j : ℕ) (l m : List ℕ) : Type 0 where
    pub long : length m ≡ length l
    pub rank : (t : ℕ) → t < n → number S.input t < j → get_or m (n + t) 0 ≡ rank_of S t
    pub front : (k : ℕ) → k < n → get_or m k 0 ≡ get_or l k 0
    pub rest : (k : ℕ) → n + n ≤ k → get_or m k 0 ≡ get_or l k 0

  pub ranking_start : (l : List ℕ) → Ranking 0 l l
  ranking_start l = record {
    long = refl;
    rank = λ t a b. absurd (omega arith);
    front = λ k b. refl;
    rest = λ k b. refl;
  }

  module _ (j c : ℕ) (e : c ≡ pack n (joined S.input j)) where
    pub members_below : (t : ℕ) → has c t ≡ true → t < n
    members_below t m =
        ltb-true t n (and_left (ltb t n) (joined S.input j t) (sym (ap (λ (x : ℕ). has x t) e ∙ has_pack n (joined S.input j) t) ∙ m))

    member_of_lem : (t : ℕ) → t < n → has c t ≡ joined S.input j t
    member_of_lem t b = ap (λ (x : ℕ). has x t) e ∙ has_pack_below n (joined S.input j) t b

    -- a number below j + 1 is one below j, or that of the component
    number_cases : (t : ℕ) → t < n → number S.input t < j + 1 → (number S.input t < j) ⊎ (joined S.input j t ≡ true)
    number_cases t b m =
        elim (dec_lt (number S.input t) j) [
          | yes k ↦ inl k
          | no k ↦ inr (number_member j t b (omega arith))
        ]

    pub ranking_next : (k : ℕ) (l m r : List ℕ) → leads S j ≡ true → k ≡ count j (leads S) → Ranking j l m → Put n c k m r → Ranking (j + 1) l r
    ranking_next k l m r d q R P = record {
      long = P.long ∙ R.long;
      rank = λ t a b. elim (number_cases t a b) [
        | inl x ↦ elim (decide (has c t)) [
          | inl y ↦ P.inside t y ∙ q ∙ sym (rank_at_lem j t d (sym (member_of_lem t a) ∙ y))
          | inr y ↦ P.outside (n + t) (λ u i z. clash i (let f : u ≡ t = omega arith in rw f y)) ∙ R.rank t a x
        ]
        | inr x ↦ P.inside t (member_of_lem t a ∙ x) ∙ q ∙ sym (rank_at_lem j t d x)
      ];
      front = λ p b. P.outside p (λ u i z. omega arith) ∙ R.front p b;
      rest = λ p b. P.outside p (λ u i z. omega (arith, members_below u i)) ∙ R.rest p b;
    }

  pub ranking_skip : (j : ℕ) (l m : List ℕ) → leads S j ≡ false → Ranking j l m → Ranking (j + 1) l m
  ranking_skip j l m d R = record {
    long = R.long;
    rank = λ t a b. R.rank t a (elim (ℕ_discrete (number S.input t) j) [
      | yes k ↦ absurd (not_number j t d a k)
      | no k ↦ omega arith
    ]);
    front = R.front;
    rest = R.rest;
  }

  -- ---- the ranks read

  abbrev pub Reading : ℕ → List ℕ → Type 0
  Reading j l = (t : ℕ) → t < n → number S.input t < j → get_or l (n + t) none_entry ≡ rank_of S t

  pub reading_start : (l : List ℕ) → Reading 0 l
  reading_start l t a b = absurd (omega arith)

  pub reading_skip : (j : ℕ) (l : List ℕ) → leads S j ≡ false → Reading j l → Reading (j + 1) l
  reading_skip j l d R t a b = R t a (elim (ℕ_discrete (number S.input t) j) [
    | yes k ↦ absurd (not_number j t d a k)
    | no k ↦ omega arith
  ])

  module _ (j c k : ℕ) (l : List ℕ) (e : c ≡ pack n (joined S.input j)) (d : leads S j ≡ true) (q : k ≡ count j (leads S)) where
    pub reading_next : Reading j l → ((t : ℕ) → has c t ≡ true → get_or l (n + t) none_entry ≡ k) → Reading (j + 1) l
    reading_next R f t a b =
        elim (number_cases j c e t a b) [
          | inl x ↦ R t a x
          | inr x ↦ f t (member_of_lem j c e t a ∙ x) ∙ q ∙ sym (rank_at_lem j t d x)
        ]

    pub reading_fails : (t : ℕ) → has c t ≡ true → get_or l (n + t) none_entry ≢ k → ranks_fit S l ≡ false
    unfolding ranks_fit
    reading_fails t m f =
        let b = members_below j c e t m in
        all_fails n (λ i. eqb (get_or l (n + i) none_entry) (rank_of S i)) t b
        (ne_eqb (get_or l (n + t) none_entry) (rank_of S t) (λ i. f (i ∙ rank_at_lem j t d (sym (member_of_lem j c e t b) ∙ m) ∙ sym q)))

  pub reading_end : (j : ℕ) (l : List ℕ) → n ≤ j → Reading j l → ranks_fit S l ≡ true
  unfolding ranks_fit
  reading_end j l b R =
      all_intro n (λ i. eqb (get_or l (n + i) none_entry) (rank_of S i))
      (λ t a. eq-eqb (get_or l (n + t) none_entry) (rank_of S t) (R t a (omega (arith, number_below S.input t a))))

-- ---- one value, for the members of a set

-- written at the place of each member; no two have one place
module _ (place : ℕ → ℕ) (c v : ℕ) where
  pub record Putting (l m : List ℕ) (rest : ℕ) : Type 0 where
    pub long : length m ≡ length l
    pub left : (t : ℕ) → has rest t ≡ true → has c t ≡ true
    pub inside : (t : ℕ) → has c t ≡ true → has rest t ≡ false → get_or m (place t) 0 ≡ v
    pub outside : (k : ℕ) → ((t : ℕ) → has c t ≡ true → k ≢ place t) → get_or m k 0 ≡ get_or l k 0

  pub putting_start : (l : List ℕ) → Putting l l c
  putting_start l = record {
    long = refl;
    left = λ t m. m;
    inside = λ t m o. clash m o;
    outside = λ k f. refl;
  }

  module _ (l m : List ℕ) (rest h : ℕ) (P : Putting l m rest) (fits : (t : ℕ) → has c t ≡ true → (t < capacity) × (place t < length l))
      (apart : (t u : ℕ) → has c t ≡ true → has c u ≡ true → place t ≡ place u → t ≡ u) (some : rest ≢ 0) (e : h ≡ least capacity (has rest)) where
    lowest : has rest h ≡ true
    lowest = lowest_in_lem capacity rest h (small_word capacity rest (λ t i. (fits t (P.left t i)).0)) some e

    pub putting_in : has c h ≡ true
    putting_in = P.left h lowest

    module _ (r : ℕ) (d : (s : ℕ) → has r s ≡ (has rest s && not (eqb s (least capacity (has rest))))) where
      strip : (s : ℕ) → has r s ≡ (has rest s && not (eqb s h))
      strip = lowest_less capacity rest h r e d

      pub putting_falls : count capacity (has r) < count capacity (has rest)
      putting_falls = less_falls rest h r strip capacity (fits h putting_in).0 lowest

      pub putting_next : Putting l (set m (place h) v) r
      putting_next = record {
        long = length-set m (place h) v ∙ P.long;
        left = λ t i. P.left t (less_in rest h r strip t i);
        inside = λ t i o. elim (ℕ_discrete t h) [
          | yes q ↦ rw q (get_or-set_same m (place h) v 0 (omega (arith, (fits h putting_in).1, P.long)))
          | no q ↦ get_or-set_other m (place h) (place t) v 0 (λ z. q (apart t h i putting_in z)) ∙ P.inside t i (sym (less_other rest h r strip t q) ∙ o)
        ];
        outside = λ k f. get_or-set_other m (place h) k v 0 (f h putting_in) ∙ P.outside k f;
      }

-- ---- one rank

module _ (n c v : ℕ) where
  pub putting_end : (l m : List ℕ) (rest : ℕ) → Putting (◌+◌ n) c v l m rest → rest ≡ 0 → Put n c v l m
  putting_end l m rest P e = record {
    long = P.long;
    inside = λ t i. P.inside t i (ap (λ (x : ℕ). has x t) e ∙ has_zero_lem t);
    outside = P.outside;
  }

  pub record Checking (l : List ℕ) (rest : ℕ) : Type 0 where
    pub left : (t : ℕ) → has rest t ≡ true → has c t ≡ true
    pub inside : (t : ℕ) → has c t ≡ true → has rest t ≡ false → get_or l (n + t) none_entry ≡ v

  pub checking_start : (l : List ℕ) → Checking l c
  checking_start l = record { left = λ t m. m; inside = λ t m o. clash m o }

  pub checking_end : (l : List ℕ) (rest : ℕ) → Checking l rest → rest ≡ 0 → true ≡ ranked n c v l
  unfolding ranked
  checking_end l rest K e =
      sym (all_intro capacity (λ t. not (has c t) || eqb (get_or l (n + t) none_entry) v) (λ t b. elim (decide (has c t)) [
        | inl m ↦ or_right (not (has c t)) (eq-eqb (get_or l (n + t) none_entry) v (K.inside t m (ap (λ (x : ℕ). has x t) e ∙ has_zero_lem t)))
        | inr m ↦ or_left (eqb (get_or l (n + t) none_entry) v) (ap not m)
      ]))

  pub ranked_elim : (l : List ℕ) → ((t : ℕ) → has c t ≡ true → t < capacity) → ranked n c v l ≡ true
      → (t : ℕ) → has c t ≡ true → get_or l (n + t) none_entry ≡ v
  unfolding ranked
  ranked_elim l small e t m =
      elim (or_cases (not (has c t)) (eqb (get_or l (n + t) none_entry) v)
      (all_elim capacity (λ t. not (has c t) || eqb (get_or l (n + t) none_entry) v) e t (small t m))) [
        | inl q ↦ clash m (not_true (has c t) q)
        | inr q ↦ eqb-true (get_or l (n + t) none_entry) v q
      ]

  pub ranked_fails : (l : List ℕ) → ranked n c v l ≡ false → (t : ℕ) × (has c t ≡ true) × (get_or l (n + t) none_entry ≢ v)
  unfolding ranked
  ranked_fails l e =
      let x = all_false capacity (λ t. not (has c t) || eqb (get_or l (n + t) none_entry) v) e in
      let t = x.0 in (
        t,
        not_false (has c t) (or_false_left (not (has c t)) (eqb (get_or l (n + t) none_entry) v) x.2),
        λ q. clash (eq-eqb (get_or l (n + t) none_entry) v q) (or_false_right (not (has c t)) (eqb (get_or l (n + t) none_entry) v) x.2),
      )

  module _ (l : List ℕ) (rest h : ℕ) (K : Checking l rest) (fits : (t : ℕ) → has c t ≡ true → (t < capacity) × (n + t < length l)) (some : rest ≢ 0)
      (e : h ≡ least capacity (has rest)) where
    first : has rest h ≡ true
    first = lowest_in_lem capacity rest h (small_word capacity rest (λ t i. (fits t (K.left t i)).0)) some e

    pub checking_below : n + h < length l
    checking_below = (fits h (K.left h first)).1

    pub checking_fails : get_or l (n + h) 0 ≢ v → false ≡ ranked n c v l
    unfolding ranked
    checking_fails f =
        sym (all_fails capacity (λ t. not (has c t) || eqb (get_or l (n + t) none_entry) v) h (fits h (K.left h first)).0
        (or_false (ap not (K.left h first))
        (ne_eqb (get_or l (n + h) none_entry) v (λ q. f (any_default l (n + h) 0 none_entry checking_below ∙ q)))))

    module _ (r : ℕ) (d : (s : ℕ) → has r s ≡ (has rest s && not (eqb s (least capacity (has rest))))) where
      less : (s : ℕ) → has r s ≡ (has rest s && not (eqb s h))
      less = lowest_less capacity rest h r e d

      pub checking_falls : count capacity (has r) < count capacity (has rest)
      checking_falls = less_falls rest h r less capacity (fits h (K.left h first)).0 first

      pub checking_next : get_or l (n + h) 0 ≡ v → Checking l r
      checking_next f = record {
        left = λ t i. K.left t (less_in rest h r less t i);
        inside = λ t i o. elim (ℕ_discrete t h) [
          | yes q ↦ rw q (any_default l (n + h) none_entry 0 checking_below ∙ f)
          | no q ↦ K.inside t i (sym (less_other rest h r less t q) ∙ o)
        ];
      }
