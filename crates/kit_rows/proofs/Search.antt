-- The lowest commands, and the rows that are told from them.
--
--   lowest_start, lowest_past, lowest_here, lowest_none : the search stops at the first command that leads there, or at the end
--   lowest_small                : there are at most as many commands
--   translated-*, told-*        : an entry by cases
--   said-*                      : the entries of one output and counter, one more at a time
--   lent-*                      : scratch, of which the front is used
use Prim.Native.Nat.{ℕ, ◌+◌, ◌*◌, ◌≤◌, ◌<◌}
use mathlib.Core.Path.{◌≡◌, refl, sym, ◌∙◌, ap, ap₂, subst}
use mathlib.Core.Bool.{true, false}
use mathlib.Core.List.{List}
use mathlib.Core.Logic.{◌⊎◌, inl, inr, ◌≢◌}
use native.Mathlib.Omega.{arith}
use native.Mathlib.Decide.{dec_lt, ℕ_discrete}
use native.Mathlib.Nat.{mod-lt}
use lib.Dec.{eqb}
use lib.ListN.{length, get_or, set, length-set}
use lib.Seq.{get_or-set_same, get_or-set_other, drop-set-lt}
use borrow.Author.Tests.{eq-eqb, ne_eqb}
use Rattle.finite.specs.Bounded.{least}
use Rattle.finite.proofs.Bounded.{least_le, least_unique, least_any, any_false}
use Rattle.finite.proofs.Loops.{any_start, any_turn, any_end}
use Rattle.finite.proofs.Truth.{clash, decide}
use Rattle.finite.proofs.Tabulate.{get_d_tabulate}
use Rattle.sets.specs.Words.{capacity}
use Rattle.theory.specs.Entries.{none_entry, entry_state, entry_counter}
use Rattle.kit_drives.specs.Drive.{next_in, made_by}
use Rattle.kit_rows.specs.Writing.{lowest_in, commands_of, translated, command_row, Said, told, Lent}

module _ (n : List ℕ) (o t : ℕ) where
  pub lowest_start : made_by n 0 o t ≡ false
  unfolding made_by
  lowest_start = any_start (λ v. eqb (next_in n o v) t)

  pub lowest_past : (u : ℕ) {r : ℕ} → made_by n u o t ≡ false → r ≡ next_in n o u → r ≢ t → made_by n (u + 1) o t ≡ false
  unfolding made_by
  lowest_past u f e d = any_turn u (λ v. eqb (next_in n o v) t) f (ne_eqb (next_in n o u) t (λ h. d (e ∙ h)))

module _ (n : List ℕ) (c o t : ℕ) where
  pub lowest_small : {r : ℕ} → r ≡ lowest_in n c o t → r ≤ c
  unfolding lowest_in
  lowest_small e = rw e (least_le c (λ u. eqb (next_in n o u) t))

  pub lowest_here : (u : ℕ) {r : ℕ} → u < c → made_by n u o t ≡ false → r ≡ next_in n o u → r ≡ t → u ≡ lowest_in n c o t
  unfolding lowest_in made_by
  lowest_here u b f e d =
      sym (least_unique c (λ v. eqb (next_in n o v) t) u b (eq-eqb (next_in n o u) t (sym e ∙ d)) (λ j l. any_false u (λ v. eqb (next_in n o v) t) f j l))

  pub lowest_none : (u : ℕ) → u ≤ c → c ≤ u → made_by n u o t ≡ false → c ≡ lowest_in n c o t
  unfolding lowest_in made_by
  lowest_none u a b f = go (dec_lt (least c (λ v. eqb (next_in n o v) t)) c)
    where
      go : Dec (least c (λ v. eqb (next_in n o v) t) < c) → c ≡ least c (λ v. eqb (next_in n o v) t)
      go (yes l) = clash (least_any c (λ v. eqb (next_in n o v) t) l) (any_end c u (λ v. eqb (next_in n o v) t) a b f)
      go (no l) = omega (arith, least_le c (λ v. eqb (next_in n o v) t))

pub translated_none : (to : List ℕ) (e : ℕ) → e ≡ none_entry → none_entry ≡ translated to e
unfolding translated
translated_none to e q = rw (eq-eqb e none_entry q, translated) refl

pub translated_some : (n : List ℕ) (c o e : ℕ) {t k v : ℕ} → e ≢ none_entry → t ≡ entry_state e → v ≡ lowest_in n c o t → k ≡ entry_counter e
    → v + 16 * k ≡ translated (commands_of n c o) e
unfolding translated commands_of
translated_some n c o e q p d r =
    rw (ne_eqb e none_entry q, translated)
    (ap₂ (λ (x y : ℕ). x + 16 * y) (d ∙ ap (lowest_in n c o) p ∙ sym (get_d_tabulate (lowest_in n c o) capacity (entry_state e) 0 (mod-lt e (omega arith)))) r)

-- the entries of one output and counter, one more at a time

module _ (to T : List ℕ) (base : ℕ) where
  pub said_none : (l : List ℕ) → Said to T base 0 l l
  said_none l = record { long = refl; entry = λ j h. absurd (omega arith); small = λ j h. absurd (omega arith); rest = λ n h. refl }

  pub said_next : (j : ℕ) {l m : List ℕ} {v : ℕ} → j < length m → v ≡ translated to (get_or T (base + j) 0) → v < 65536 → Said to T base j l m
      → Said to T base (j + 1) l (set m j v)
  said_next j {l} {m} {v} b e s D = record {
    long = length-set m j v ∙ D.long;
    entry = λ i h. go i h (ℕ_discrete i j);
    small = λ i h. few i h (ℕ_discrete i j);
    rest = λ n h. drop-set-lt n m j v (omega arith) ∙ D.rest n (omega arith);
  }
    where
      go : (i : ℕ) → i < j + 1 → Dec (i ≡ j) → get_or (set m j v) i 0 ≡ translated to (get_or T (base + i) 0)
      go i h (yes q) = rw q (get_or-set_same m j v 0 b ∙ e)
      go i h (no q) = get_or-set_other m j i v 0 q ∙ D.entry i (omega arith)

      few : (i : ℕ) → i < j + 1 → Dec (i ≡ j) → get_or (set m j v) i 0 < 65536
      few i h (yes q) = rw q (omega (arith, get_or-set_same m j v 0 b))
      few i h (no q) = omega (arith, get_or-set_other m j i v 0 q, D.small i (omega arith))

  pub said_end : (j n : ℕ) {l m : List ℕ} → j ≤ n → n ≤ j → Said to T base j l m → Said to T base n l m
  said_end j n {l} {m} a b D = subst (λ (k : ℕ). Said to T base k l m) (omega arith) D

module _ (n S : List ℕ) (i u : ℕ) where
  pub told_barred : {j : ℕ} → j ≡ next_in n i u → j ≡ 255 → none_entry ≡ told n S i u
  unfolding told
  told_barred e q = rw (eq-eqb (next_in n i u) 255 (sym e ∙ q), told) refl

  pub told_taken : {j r : ℕ} → j ≡ next_in n i u → j ≢ 255 → r ≡ get_or S j 0 → r ≡ told n S i u
  unfolding told
  told_taken e q d = rw (ne_eqb (next_in n i u) 255 (λ h. q (e ∙ h)), told) (d ∙ ap (λ (x : ℕ). get_or S x 0) e)

  pub told_small : {j : ℕ} → j ≡ next_in n i u → get_or S (next_in n i u) 0 < 65536 → get_or S j 0 < 65536
  told_small e h = rw e h

-- it is the row that the controller's says
pub told_said : (n to T : List ℕ) (base i u : ℕ) {k : ℕ} {l S : List ℕ} → Said to T base k l S → (next_in n i u ≢ 255 → next_in n i u < k)
    → told n S i u ≡ command_row n to T base i u
unfolding told command_row
told_said n to T base i u {k} {l} {S} D b = go (decide (eqb (next_in n i u) 255))
  where
    go : (eqb (next_in n i u) 255 ≡ true) ⊎ (eqb (next_in n i u) 255 ≡ false) → told n S i u ≡ command_row n to T base i u
    go (inl q) = rw (q, told, command_row) refl
    go (inr q) = rw (q, told, command_row) (D.entry (next_in n i u) (b (λ h. clash (eq-eqb (next_in n i u) 255 h) q)))

-- scratch, of which the front is used
pub lent_none : (n : ℕ) (l : List ℕ) → Lent n l l
lent_none n l = record { long = refl; rest = refl }

pub lent_said : {n : ℕ} {l m r to T : List ℕ} {base : ℕ} → Lent n l m → Said to T base n m r → Lent n l r
lent_said {n} L W = record { long = W.long ∙ L.long; rest = W.rest n (omega arith) ∙ L.rest }

pub lent_more : {n : ℕ} {l m r : List ℕ} → Lent n l m → Lent n m r → Lent n l r
lent_more L K = record { long = K.long ∙ L.long; rest = K.rest ∙ L.rest }
