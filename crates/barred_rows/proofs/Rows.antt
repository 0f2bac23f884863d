-- Whole sets of positions, row by row.
--
--   apart_set                  : what changes one set alone
--   apart_more, apart_last     : the same of one row more, which is written or left
--   beside_kept                : a row beside those that change
--   here, there                : the row that is written, and another one
--   copied_none, copied_next   : rows are copied
--   emptied_none, emptied_next : rows are emptied
use Prim.Native.Nat.{ℕ, ◌+◌, ◌≤◌, ◌<◌}
use mathlib.Core.Path.{◌≡◌, ◌∙◌}
use mathlib.Core.List.{List}
use mathlib.Core.Logic.{inl, inr, ◌≢◌}
use native.Mathlib.Omega.{arith}
use native.Mathlib.Decide.{ℕ_discrete}
use lib.ListN.{length, get_or, set}
use lib.Seq.{get_or-set_other, get_or-set_same}
use Rattle.finite.specs.But.{ButFor}
use Rattle.finite.proofs.But.{but_self, but_set, but_then, but_wider}
use Rattle.barred_rows.specs.Areas.{Beside, Copied, Emptied}

pub apart_set : (l : List ℕ) (k v : ℕ) → ButFor k (k + 1) l (set l k v)
apart_set l k v = but_set k (k + 1) l k v (omega arith) (omega arith)

-- one row more
pub apart_more : (b i : ℕ) (l m : List ℕ) (v : ℕ) → ButFor b (b + i) l m → ButFor b (b + (i + 1)) l (set m (b + i) v)
apart_more b i l m v K =
    but_then (but_wider b (b + (i + 1)) (omega arith) (omega arith) K) (but_wider b (b + (i + 1)) (omega arith) (omega arith) (apart_set m (b + i) v))

pub apart_last : (b i : ℕ) (l m : List ℕ) → ButFor b (b + i) l m → ButFor b (b + (i + 1)) l m
apart_last b i l m K = but_wider b (b + (i + 1)) (omega arith) (omega arith) K

pub beside_kept : (a b n i k : ℕ) (l m : List ℕ) → Beside a b n → i ≤ n → ButFor b (b + i) l m → k < n → get_or m (a + k) 0 ≡ get_or l (a + k) 0
beside_kept a b n i k l m (inl h) e K q = K.low (a + k) (omega arith)
beside_kept a b n i k l m (inr h) e K q = K.high (a + k) (omega arith)

-- row i, and another one, after row i has been written
module _ (b i : ℕ) (m : List ℕ) (v : ℕ) where
  pub here : b + i < length m → get_or (set m (b + i) v) (b + i) 0 ≡ v
  here h = get_or-set_same m (b + i) v 0 h

  pub there : (k : ℕ) → k ≢ i → get_or (set m (b + i) v) (b + k) 0 ≡ get_or m (b + k) 0
  there k e = get_or-set_other m (b + i) (b + k) v 0 (λ q. e (omega (arith, q)))

-- ---- copied

module _ (n a b : ℕ) (l : List ℕ) where
  pub copied_none : Copied 0 a b l l
  copied_none = record { apart = but_self b (b + 0) l; row = λ i h. absurd (omega arith) }

  pub copied_next : (i : ℕ) (m : List ℕ) (v : ℕ) → Beside a b n → i < n → Copied i a b l m → b + i < length m → v ≡ get_or m (a + i) 0
      → Copied (i + 1) a b l (set m (b + i) v)
  copied_next i m v B h C long e = record { apart = apart_more b i l m v C.apart; row = λ k q. row k q (ℕ_discrete k i) }
    where
      row : (k : ℕ) → k < i + 1 → Dec (k ≡ i) → get_or (set m (b + i) v) (b + k) 0 ≡ get_or l (a + k) 0
      row k q (no d) = there b i m v k d ∙ C.row k (omega arith)
      row k q (yes d) = rw d (here b i m v long ∙ e ∙ beside_kept a b n i i l m B (omega arith) C.apart h)

-- ---- emptied

module _ (b : ℕ) (l : List ℕ) where
  pub emptied_none : Emptied 0 b l l
  emptied_none = record { apart = but_self b (b + 0) l; row = λ i h. absurd (omega arith) }

  pub emptied_next : (i : ℕ) (m : List ℕ) (v : ℕ) → Emptied i b l m → b + i < length m → v ≡ 0 → Emptied (i + 1) b l (set m (b + i) v)
  emptied_next i m v C long e = record { apart = apart_more b i l m v C.apart; row = λ k q. row k q (ℕ_discrete k i) }
    where
      row : (k : ℕ) → k < i + 1 → Dec (k ≡ i) → get_or (set m (b + i) v) (b + k) 0 ≡ 0
      row k q (no d) = there b i m v k d ∙ C.row k (omega arith)
      row k q (yes d) = rw d (here b i m v long ∙ e)
