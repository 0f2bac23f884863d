-- Entries written one after the other.
--
--   into_none, into_next, into_join, into_done    : none, one more, one writing after the other, all of them
--   into_front                                    : the first ones
--   CountSays E n I U to T first                  == E has the rows of one output and counter, as the controller's say them
--   Rounds d M o to T done l m                    == the rows of output o and the first `done` counters were written
--   moded-*, counted-*, rounds-*                  : the turns and the ends of the loops
--   mode_fits, block_small                        : what the rows of one old mode ask
use Prim.Native.Nat.{ℕ, ◌+◌, ◌*◌, ◌≤◌, ◌<◌}
use native.Mathlib.Nat.{add-zero, add_assoc, mul-le-mul, mul-le-mul_right}
use mathlib.Core.Path.{◌≡◌, refl, sym, ◌∙◌, ap, subst}
use mathlib.Core.List.{List, ◌++◌}
use mathlib.Core.Logic.{◌≢◌}
use native.Mathlib.Omega.{arith}
use native.Mathlib.Decide.{dec_lt}
use lib.ListN.{length, get_or, drop, set, length-set}
use Rattle.table_filling.specs.Grows.{Right}
use Rattle.table_filling.proofs.Grows.{grows_none, grows_more, grows_set, right_set, grows_done}
use Rattle.compact_rows.specs.Copying.{PutAt}
use Rattle.compact_rows.proofs.Copying.{next_row}
use Rattle.kit_drives.specs.declared.Drive.{Drive}
use Rattle.kit_drives.specs.Drive.{next_in}
use Rattle.kit_rows.specs.Writing.{command_row, Said, told, Into, ModeFits, ModeAgrees, Moded, CountFits, CountAgrees, Counted}
use Rattle.kit_rows.proofs.Search.{told_said}

module _ (E : List ℕ) where
  pub into_none : (l : List ℕ) (a : ℕ) → a ≤ length E → Into E l l a a
  into_none l a b = record { grows = grows_none E l; below = b; right = λ k x y. absurd (omega arith) }

  pub into_join : {l m n : List ℕ} {a b c : ℕ} → Into E l m a b → Into E m n b c → Into E l n a c
  into_join {l} {m} {n} {a} {b} {c} p q = record {
    grows = grows_more E p.grows q.grows;
    below = q.below;
    right = λ k x y. go k x y (dec_lt k b);
  }
    where
      go : (k : ℕ) → a ≤ k → k < c → Dec (k < b) → Right E n k
      go k x y (yes z) = q.grows.kept k (omega (arith, p.below)) (p.right k x z)
      go k x y (no z) = q.right k (omega arith) y

  into_one : (m : List ℕ) (b c v : ℕ) → c ≡ b + 1 → b < length E → b < length m → v ≡ get_or E b 0 → Into E m (set m b v) b c
  into_one m b c v d s t e = record {
    grows = grows_set E m b v s t e;
    below = omega arith;
    right = λ k x y. rw (the_one k x y) (right_set E m b v t e);
  }
    where
      the_one : (k : ℕ) → b ≤ k → k < c → k ≡ b
      the_one k x y = omega arith

  into_next : {l m : List ℕ} {a b : ℕ} (c v : ℕ) → c ≡ b + 1 → b < length E → b < length m → v ≡ get_or E b 0 → Into E l m a b → Into E l (set m b v) a c
  into_next {l} {m} {a} {b} c v d s t e p = into_join p (into_one m b c v d s t e)

  -- the entries at the front
  pub into_front : {l m : List ℕ} {b : ℕ} → b ≤ length E → PutAt E l m (λ i. i) b → Into E l m 0 b
  into_front b p = record { grows = p.grows; below = b; right = λ k x y. p.right k y }

  pub into_done : (l m : List ℕ) → length E ≤ length l → Into E l m 0 (length E) → m ≡ E ++ drop (length E) l
  into_done l m b p = grows_done E l m b p.grows (λ k c. p.right k (omega arith) c)

-- the rows of one old mode

module _ (n : List ℕ) (U : ℕ) (S : List ℕ) (i at : ℕ) where
  pub moded_none : (l : List ℕ) → Moded n U S i at 0 l l
  moded_none l = record { long = refl; fills = λ E A. rw add-zero (into_none E l at (omega (arith, A.below))) }

  pub moded_next : (u : ℕ) {l m : List ℕ} {v : ℕ} → u < U → at + u < length m → v ≡ told n S i u → Moded n U S i at u l m
      → Moded n U S i at (u + 1) l (set m (at + u) v)
  moded_next u {l} {m} {v} b c e D = record {
    long = length-set m (at + u) v ∙ D.long;
    fills = λ E A. into_next E (at + (u + 1)) v (omega arith) (omega (arith, A.below)) c (e ∙ A.entry u b) (D.fills E A);
  }

  pub moded_end : (u : ℕ) {l m : List ℕ} → u ≤ U → U ≤ u → Moded n U S i at u l m → Moded n U S i at U l m
  moded_end u {l} {m} a b D = subst (λ (k : ℕ). Moded n U S i at k l m) (omega arith) D

-- the rows of one output and counter: block after block

block_next : (I U first i : ℕ) → I + (first + i) * U + U ≡ I + (first + (i + 1)) * U
block_next I U first i =
    add_assoc I ((first + i) * U) U
    ∙ ap (◌+◌ I) (next_row (first + i) U ∙ ap (λ (x : ℕ). x * U) (add_assoc first i 1))

-- block i of those below I ends where all do, or before
block_last : (I U first i n : ℕ) → i < I → I + (first + I) * U ≤ n → I + (first + i) * U + U ≤ n
block_last I U first i n b h =
    omega (arith, block_next I U first i, mul-le-mul_right {m = first + (i + 1)} {n = first + I} U (omega arith))

pub block_small : (U x : ℕ) → x ≤ 524288 → U ≤ 16 → x * U ≤ 8388608
block_small U x a b = mul-le-mul {n₂ = 524288} {m₂ = 16} a b

module _ (n : List ℕ) (I U first : ℕ) where
  pub mode_fits : (S : List ℕ) (r i m : ℕ) → CountFits n I U S first r → i < I → m ≡ r → ModeFits n U S i (I + (first + i) * U) m
  mode_fits S r i m F b e = record {
    mode = omega (arith, F.modes);
    few = F.few;
    reads = λ u l. F.reads i u b l;
    room = rw e (block_last I U first i r b F.room);
  }

  module _ (S : List ℕ) where
    pub counted_none : (l : List ℕ) → Counted n I U S first 0 l l
    counted_none l = record { long = refl; fills = λ E A. rw add-zero (into_none E l (I + first * U) (below E A.below)) }
      where
        below : (E : List ℕ) → I + (first + I) * U ≤ length E → I + first * U ≤ length E
        below E b = omega (arith, mul-le-mul_right {m = first} {n = first + I} U (omega arith))

    mode_agrees : (E : List ℕ) (i : ℕ) → i < I → CountAgrees E n I U S first → ModeAgrees E n U S i (I + (first + i) * U)
    mode_agrees E i b A = record {
      below = block_last I U first i (length E) b A.below;
      entry = λ u l. A.entry i u b l ∙ ap (λ (k : ℕ). get_or E k 0) (sym (add_assoc I ((first + i) * U) u));
    }

    pub counted_next : (i : ℕ) {l m k r : List ℕ} → i < I → Counted n I U S first i l m → Moded n U S i (I + (first + i) * U) U m k → r ≡ k
        → Counted n I U S first (i + 1) l r
    counted_next i {l} {m} {k} {r} b D M e = record {
      long = ap length e ∙ M.long ∙ D.long;
      fills = λ E A.
          rw e (subst (Into E l k (I + first * U)) (block_next I U first i) (into_join E (D.fills E A) (M.fills E (mode_agrees E i b A))));
    }

    pub counted_end : (i : ℕ) {l m : List ℕ} → i ≤ I → I ≤ i → Counted n I U S first i l m → Counted n I U S first I l m
    counted_end i {l} {m} a b D = subst (λ (k : ℕ). Counted n I U S first k l m) (omega arith) D

-- the rows of one output: counter after counter

-- E has the rows of one output and counter, from block number first on
pub record CountSays (E n : List ℕ) (I U : ℕ) (to T : List ℕ) (first : ℕ) : Type 0 where
  pub below : I + (first + I) * U ≤ length E
  pub entry : (i u : ℕ) → i < I → u < U → command_row n to T (I + first) i u ≡ get_or E (I + ((first + i) * U + u)) 0

-- every command that is not barred leads to one of I modes
Named : List ℕ → ℕ → ℕ → Type 0
Named n I U = (i u : ℕ) → i < I → u < U → next_in n i u ≢ 255 → next_in n i u < I

count_agrees : (E n : List ℕ) (I U : ℕ) (to T : List ℕ) (first : ℕ) {l S : List ℕ} → Named n I U → Said to T (I + first) I l S → CountSays E n I U to T first
    → CountAgrees E n I U S first
unfolding Named
count_agrees E n I U to T first N D A = record {
  below = A.below;
  entry = λ i u li lu. told_said n to T (I + first) i u D (N i u li lu) ∙ A.entry i u li lu;
}

pub record Rounds (d : Drive) (M o : ℕ) (to T : List ℕ) (done : ℕ) (l m : List ℕ) : Type 0 where
  pub long : length m ≡ length l
  pub fills : (E : List ℕ) → d.modes + o * M * d.modes * d.commands ≤ length E
      → ((c : ℕ) → c < M → CountSays E d.next d.modes d.commands to T ((o * M + c) * d.modes))
      → Into E l m (d.modes + o * M * d.modes * d.commands) (d.modes + (o * M + done) * d.modes * d.commands)

module _ (d : Drive) (M o : ℕ) (to T : List ℕ) where
  pub rounds_none : (l : List ℕ) → Rounds d M o to T 0 l l
  rounds_none l = record { long = refl; fills = λ E b f. rw add-zero (into_none E l (d.modes + o * M * d.modes * d.commands) b) }

  pub rounds_next : (c : ℕ) {l m k r s S : List ℕ} → ((i u : ℕ) → i < d.modes → u < d.commands → next_in d.next i u ≢ 255 → next_in d.next i u < d.modes)
      → c < M → Rounds d M o to T c l m → Said to T (d.modes + (o * M + c) * d.modes) d.modes s S
      → Counted d.next d.modes d.commands S ((o * M + c) * d.modes) d.modes m k → r ≡ k → Rounds d M o to T (c + 1) l r
  unfolding Named
  rounds_next c {l} {m} {k} {r} {s} {S} N b D W C e = record {
    long = ap length e ∙ C.long ∙ D.long;
    fills = λ E w f.
        rw e
        (subst (λ (x : ℕ). Into E l k (d.modes + o * M * d.modes * d.commands) (d.modes + x * d.commands))
        (next_row (o * M + c) d.modes ∙ ap (λ (y : ℕ). y * d.modes) (add_assoc (o * M) c 1))
        (into_join E (D.fills E w f) (C.fills E (count_agrees E d.next d.modes d.commands to T ((o * M + c) * d.modes) N W (f c b)))));
  }

  pub rounds_end : (c : ℕ) {l m : List ℕ} → c ≤ M → M ≤ c → Rounds d M o to T c l m → Rounds d M o to T M l m
  rounds_end c {l} {m} a b D = subst (λ (x : ℕ). Rounds d M o to T x l m) (omega arith) D
