-- A queue that grows.
--
--   grown_none, grown_join             : nothing more, and one growth after the other
--   visited_still, visited_new         : one visit
--   Spreading                          == the turns of a place, those of the moves in `rest` being left
--   spreading-*                        : how that begins, goes on and ends
--   reach_fits, reach_end              : the whole search from a place
--   exhausting-*                       : the search, the first k of the queue being followed
use Prim.Native.Nat.{ℕ, suc, ◌+◌, ◌*◌, ◌/◌, ◌%◌, ◌≤◌, ◌<◌, ◌^◌}
use native.Mathlib.Nat.{mod-lt}
use mathlib.Core.Path.{◌≡◌, refl, sym, ◌∙◌, ap, subst}
use mathlib.Core.Bool.{Bool, true, false, ◌&&◌, not}
use mathlib.Core.List.{List}
use mathlib.Core.Logic.{◌≢◌, inl, inr}
use native.Mathlib.Omega.{arith}
use native.Mathlib.Decide.{ℕ_discrete}
use lib.Dec.{eqb}
use lib.ListN.{length, get_or, set, length-set}
use lib.Seq.{get_or-set_same, get_or-set_other}
use Rattle.finite.specs.Bounded.{count, least}
use Rattle.finite.proofs.Truth.{clash}
use Rattle.finite.proofs.Bounded.{below_suc, count_le, count_less}
use Rattle.bits.specs.Member.{has}
use Rattle.bits.proofs.Membership.{has_zero_lem}
use Rattle.bits.proofs.Remove.{less_in, less_other, less_falls}
use Rattle.bits.proofs.Visit.{small_word, lowest_below, lowest_in_lem, lowest_less}
use Rattle.sets.specs.Words.{capacity, sets_in}
use Rattle.checker_places.proofs.Listed.{listed_none, listed_add}
use Rattle.checker_search.specs.Turns.{marked, enters, Grid}
use Rattle.checker_search.specs.Queues.{at, InQueue, Sized, Queued, FinderFits, Grown, Visited, Spread, Exhausted, Unmarked, Reach}
use Rattle.checker_search.proofs.Turns.{marked_new, marked_more, marked_old, enters_here, enters_move, enters_row, enters_in}

pub grown_none : (N : ℕ) (mark queue from : List ℕ) (n : ℕ) → Queued N mark queue from n → Grown N mark queue from n mark queue from n
grown_none N mark queue from n Q = record { queued = Q; more = omega arith; marks = λ a h. h; front = λ k b. refl }

grown_join : {N : ℕ} {a b c a' b' c' a'' b'' c'' : List ℕ} {n n' n'' : ℕ} → Grown N a b c n a' b' c' n' → Grown N a' b' c' n' a'' b'' c'' n''
    → Grown N a b c n a'' b'' c'' n''
grown_join G H = record {
  queued = H.queued;
  more = omega (arith, G.more, H.more);
  marks = λ k h. H.marks k (G.marks k h);
  front = λ k b. H.front k (omega (arith, b, G.more)) ∙ G.front k b;
}

-- as long as a place is not marked, the queue is not full
pub queued_fits : (N : ℕ) (mark queue from : List ℕ) (n : ℕ) → Queued N mark queue from n → (d : ℕ) → d < N → marked mark d ≡ false → n < N
queued_fits N mark queue from n Q d b h =
    omega (arith, Q.few, count_less N (marked mark) (λ k. true) (λ k l m. refl) d b h refl, count_le N (λ k. true))

module _ (N : ℕ) (X : List ℕ) (f d : ℕ) (mark queue from : List ℕ) (n : ℕ) (F : FinderFits N f mark queue from n) where
  pub visited_still : (d < N → marked X d ≡ true → marked mark d ≡ true) → Visited N X f d mark queue from n mark queue from n
  visited_still h = record { grown = grown_none N mark queue from n F.queued; there = h; listed = λ p r a b L. L }

  module _ (b : d < N) (h : marked mark d ≡ false) where
    abbrev marks : List ℕ
    marks = set mark d 1

    abbrev places : List ℕ
    places = set queue n d

    abbrev finders : List ℕ
    finders = set from n f

    full : n < N
    full = queued_fits N mark queue from n F.queued d b h

    in_mark : d < length mark
    in_mark = omega (arith, b, F.queued.places, F.queued.sized.marks)

    in_queue : n < length queue
    in_queue = omega (arith, full, F.queued.places, F.queued.sized.places)

    in_from : n < length from
    in_from = omega (arith, full, F.queued.places, F.queued.sized.finders)

    same : (k : ℕ) → k < n → at places k ≡ at queue k
    same k l = get_or-set_other queue n k d 0 (λ e. omega (arith, e, l))

    kept : at finders n ≡ f
    kept = get_or-set_same from n f 0 in_from

    more : count N (marked mark) < count N (marked marks)
    more = count_less N (marked mark) (marked marks) (λ k l m. marked_old mark d in_mark k m) d b h (marked_new mark d in_mark)

    pub visited_new : marked X d ≡ true → Visited N X f d mark queue from n (set mark d 1) (set queue n d) (set from n f) (n + 1)
    visited_new x = record {
      grown = record {
        queued = record {
          sized = record {
            marks = length-set mark d 1 ∙ F.queued.sized.marks;
            places = length-set queue n d ∙ F.queued.sized.places;
            finders = length-set from n f ∙ F.queued.sized.finders;
          };
          places = F.queued.places;
          few = omega (arith, F.queued.few, more);
          below = λ k l. elim (below_suc k n (omega (arith, l))) [
            | inl e ↦ omega (arith, b, ap (at places) e, get_or-set_same queue n d 0 in_queue)
            | inr i ↦ omega (arith, same k i, F.queued.below k i)
          ];
        };
        more = omega arith;
        marks = marked_old mark d in_mark;
        front = same;
      };
      there = λ i y. marked_new mark d in_mark;
      listed = λ p r first later L.
          let one_more : suc n ≡ n + 1 = omega arith in
          subst (InQueue p r N marks places finders) one_more
          (listed_add (λ a. p a ≡ true) (λ a c. r a c ≡ true) N n (at queue) (at from) (marked mark) L d b h (at places) (at finders) (marked marks)
          same (get_or-set_same queue n d 0 in_queue) (λ k l. get_or-set_other from n k f 0 (λ e. omega (arith, e, l)))
          (omega (arith, F.finder, kept)) (λ z. first b x (sym kept ∙ z)) (λ m z. later m b x (sym kept ∙ z)) (marked_more mark d in_mark));
    }

-- c is the place, x the moves of its input
pub record Spreading (I N : ℕ) (rows to X : List ℕ) (f c : ℕ) (mark queue from : List ℕ) (n : ℕ) (mark' queue' from' : List ℕ) (n' rest : ℕ) : Type 0 where
  pub grown : Grown N mark queue from n mark' queue' from' n'
  pub inside : (j : ℕ) → has rest j ≡ true → has (get_or (sets_in rows) (c % I) 0) j ≡ true
  pub there : (j : ℕ) → has (get_or (sets_in rows) (c % I) 0) j ≡ true → has rest j ≡ false → at to (c / I * I + j) < N
      → marked X (at to (c / I * I + j)) ≡ true → marked mark' (at to (c / I * I + j)) ≡ true
  pub listed : (p : ℕ → Bool) → ((d : ℕ) → f ≡ 0 → enters I rows to X c d ≡ true → p d ≡ true) → ((m : ℕ) → f ≡ suc m → at queue m ≡ c)
      → InQueue p (enters I rows to X) N mark queue from n → InQueue p (enters I rows to X) N mark' queue' from' n'

module _ (I N : ℕ) (rows to X : List ℕ) (f c : ℕ) (mark queue from : List ℕ) (n : ℕ)
    (P : Grid I N rows to × FinderFits N f mark queue from n × (c < N)) where
  G : Grid I N rows to
  G = P.0

  F : FinderFits N f mark queue from n
  F = P.1

  b : c < N
  b = P.2

  pub spreading_start : (x : ℕ) → x ≡ get_or (sets_in rows) (c % I) 0 → Spreading I N rows to X f c mark queue from n mark queue from n x
  spreading_start x e = record {
    grown = grown_none N mark queue from n F.queued;
    inside = λ j h. ap (λ (y : ℕ). has y j) (sym e) ∙ h;
    there = λ j h l. clash (ap (λ (y : ℕ). has y j) e ∙ h) l;
    listed = λ p a s L. L;
  }

  module _ (mark' queue' from' : List ℕ) (n' rest : ℕ) (S : Spreading I N rows to X f c mark queue from n mark' queue' from' n' rest) where
    pub spreading_fits : FinderFits N f mark' queue' from' n'
    spreading_fits = record { queued = S.grown.queued; finder = omega (arith, F.finder, S.grown.more) }

    module _ (ne : rest ≢ 0) (h : ℕ) (e : h ≡ least capacity (has rest)) where
      small : rest < 2 ^ capacity
      small = small_word capacity rest
          (λ s a. let m : s < I = G.move (c % I) s (mod-lt c G.some) (S.inside s a) in omega (arith, m, G.few))

      taken : has rest h ≡ true
      taken = lowest_in_lem capacity rest h small ne e

      move : has (get_or (sets_in rows) (c % I) 0) h ≡ true
      move = S.inside h taken

      spreading_input : h < I
      spreading_input = G.move (c % I) h (mod-lt c G.some) move

      pub spreading_row : c / I * I + h < 4096
      spreading_row = omega (arith, G.whole c h b spreading_input, G.places)

      module _ (r : ℕ) (d : (s : ℕ) → has r s ≡ (has rest s && not (eqb s (least capacity (has rest))))) where
        less : (s : ℕ) → has r s ≡ (has rest s && not (eqb s h))
        less = lowest_less capacity rest h r e d

        pub spreading_falls : count capacity (has r) < count capacity (has rest)
        spreading_falls = less_falls rest h r less capacity (lowest_below capacity rest h small ne e) taken

        pub spreading_next : (to-h : ℕ) → to-h ≡ at to (c / I * I + h) → (mark'' queue'' from'' : List ℕ) (n'' : ℕ)
            → Visited N X f to-h mark' queue' from' n' mark'' queue'' from'' n'' → Spreading I N rows to X f c mark queue from n mark'' queue'' from'' n'' r
        spreading_next t q mark'' queue'' from'' n'' v = record {
          grown = grown_join S.grown v.grown;
          inside = λ j a. S.inside j (less_in rest h r less j a);
          there = λ j m o l x. there j m o l x (ℕ_discrete j h);
          listed = λ p first later L. v.listed p (enters I rows to X) (λ l x z. first t z (turn l x))
              (λ m l x z. let same = S.grown.front m (omega (arith, F.finder, z)) ∙ later m z in
              ap (λ (y : ℕ). enters I rows to X y t) same ∙ turn l x)
              (S.listed p first later L);
        }
          where
            turn : t < N → marked X t ≡ true → enters I rows to X c t ≡ true
            turn l x =
                ap (enters I rows to X c) q
                ∙ enters_here I N rows to X G c h b move (omega (arith, q, l)) (ap (marked X) (sym q) ∙ x)

            there : (j : ℕ) → has (get_or (sets_in rows) (c % I) 0) j ≡ true → has r j ≡ false → at to (c / I * I + j) < N
                → marked X (at to (c / I * I + j)) ≡ true → Dec (j ≡ h) → marked mark'' (at to (c / I * I + j)) ≡ true
            there j m o l x (yes z) =
                let s : t ≡ at to (c / I * I + j) = q ∙ ap (λ (y : ℕ). at to (c / I * I + y)) (sym z) in
                ap (marked mark'') (sym s) ∙ v.there (omega (arith, s, l)) (ap (marked X) s ∙ x)
            there j m o l x (no z) =
                v.grown.marks (at to (c / I * I + j)) (S.there j m (sym (less_other rest h r less j z) ∙ o) l x)

    pub spreading_end : rest ≡ 0 → Spread I N rows to X f c mark queue from n mark' queue' from' n'
    spreading_end z = record {
      grown = S.grown;
      there = λ d l h.
          let e = enters_row I N rows to X c d h in
          ap (marked mark') (sym e)
          ∙ S.there (d % I) (enters_move I N rows to X c d h) (ap (λ (y : ℕ). has y (d % I)) z ∙ has_zero_lem (d % I)) (omega (arith, e, l))
          (ap (marked X) e ∙ enters_in I N rows to X c d h);
      listed = S.listed;
    }

-- the first k places of the queue are followed
pub record Exhausting (I N : ℕ) (rows to X mark queue from : List ℕ) (n : ℕ) (mark' queue' from' : List ℕ) (n' a : ℕ) : Type 0 where
  pub grown : Grown N mark queue from n mark' queue' from' n'
  pub upto : a ≤ n'
  pub on : (k d : ℕ) → k < a → d < N → enters I rows to X (at queue' k) d ≡ true → marked mark' d ≡ true
  pub listed : (p : ℕ → Bool) → InQueue p (enters I rows to X) N mark queue from n → InQueue p (enters I rows to X) N mark' queue' from' n'

module _ (I N : ℕ) (rows to X mark queue from : List ℕ) (n : ℕ) where
  pub exhausting_start : Queued N mark queue from n → Exhausting I N rows to X mark queue from n mark queue from n 0
  exhausting_start Q = record {
    grown = grown_none N mark queue from n Q;
    upto = omega arith;
    on = λ k d b. absurd (omega arith);
    listed = λ p L. L;
  }

  module _ (mark' queue' from' : List ℕ) (n' a : ℕ) (E : Exhausting I N rows to X mark queue from n mark' queue' from' n' a) where
    pub exhausting_short : n' ≤ N
    exhausting_short = omega (arith, E.grown.queued.few, count_le N (marked mark'))

    pub exhausting_fits : a < n' → FinderFits N (a + 1) mark' queue' from' n'
    exhausting_fits b = record { queued = E.grown.queued; finder = omega (arith, b) }

    pub exhausting_next : a < n' → (c : ℕ) → c ≡ at queue' a → (mark'' queue'' from'' : List ℕ) (n'' : ℕ)
        → Spread I N rows to X (a + 1) c mark' queue' from' n' mark'' queue'' from'' n''
        → Exhausting I N rows to X mark queue from n mark'' queue'' from'' n'' (a + 1)
    exhausting_next b c e mark'' queue'' from'' n'' S = record {
      grown = grown_join E.grown S.grown;
      upto = omega (arith, b, S.grown.more);
      on = λ k d l m h. elim (below_suc k a (omega (arith, l))) [
        | inl z ↦ S.there d m (ap (λ (y : ℕ). enters I rows to X y d) (e ∙ sym (S.grown.front a b) ∙ ap (at queue'') (sym z)) ∙ h)
        | inr i ↦ S.grown.marks d
            (E.on k d i m (ap (λ (y : ℕ). enters I rows to X y d) (sym (S.grown.front k (omega (arith, i, b)))) ∙ h))
      ];
      listed = λ p L. S.listed p (λ d z. absurd (omega (arith, z)))
          (λ m z. let y : m ≡ a = omega (arith, z) in ap (at queue') y ∙ sym e) (E.listed p L);
    }

    pub exhausting_end : n' ≤ a → Exhausted I N rows to X mark queue from n mark' queue' from' n'
    exhausting_end l = record { grown = E.grown; on = λ k d b. E.on k d (omega (arith, b, l)); listed = E.listed }

pub reach_fits : (N : ℕ) (old mark queue from : List ℕ) → N ≤ 4096 → Sized old queue from → Unmarked mark → FinderFits N 0 mark queue from 0
reach_fits N old mark queue from b S U = record {
  queued = record {
    sized = record { marks = U.long; places = S.places; finders = S.finders };
    places = b;
    few = omega arith;
    below = λ k l. absurd (omega (arith, l));
  };
  finder = omega arith;
}

pub reach_end : (I N : ℕ) (rows to X : List ℕ) (u : ℕ) (a b c a' b' c' a'' b'' c'' : List ℕ) (n' n'' : ℕ) → Unmarked a
    → Spread I N rows to X 0 u a b c 0 a' b' c' n' → Exhausted I N rows to X a' b' c' n' a'' b'' c'' n'' → Reach I N rows to X u a'' b'' c'' n''
reach_end I N rows to X u a b c a' b' c' a'' b'' c'' n' n'' U S E = record {
  sized = E.grown.queued.sized;
  listed = all;
  enter = λ d l h. E.grown.marks d (S.there d l h);
  on = λ x d m l h. let v = all.found x m in E.on v.0 d v.1 l (ap (λ (y : ℕ). enters I rows to X y d) v.2 ∙ h);
}
  where
    all : InQueue (enters I rows to X u) (enters I rows to X) N a'' b'' c'' n''
    all =
        E.listed (enters I rows to X u)
        (S.listed (enters I rows to X u) (λ d z h. h) (λ m z. absurd (omega (arith, z)))
        (listed_none (λ x. enters I rows to X u x ≡ true) (λ x y. enters I rows to X x y ≡ true) N (at b) (at c) (marked a) U.none))
