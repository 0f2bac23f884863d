-- The names of a list as it is kept are the list's names, each cut to 256 bytes; where the buffer does not hold them, there are over 1,000.
use Prim.Native.Nat.{ℕ, zero, suc, ◌+◌, ◌*◌, ◌-◌, ◌≤◌, ◌<◌}
use native.Mathlib.Omega.{arith}
use native.Mathlib.Decide.{dec_le}
use mathlib.Core.Bool.{true, false}
use mathlib.Core.List.{List, [], ◌∷◌, map}
use mathlib.Core.Logic.{◌⊎◌, inl, inr}
use mathlib.Core.Path.{◌≡◌, refl, sym, ◌∙◌, ap, subst}
use lib.Dec.{eqb}
use lib.ListN.{length, take, length-map}
use lib.Seq.{take_all, take-nil, length-take-le}
use Rattle.finite.proofs.Truth.{decide}
use Rattle.catalogue_names.specs.Names.{push_byte, names, fit_name}
use Rattle.catalogue_names.specs.Keeping.{cut}
use Rattle.catalogue_names.proofs.Splitting.{unfit_long, names_stop, names_on}
use Rattle.catalogue_names.proofs.Keeping.{cut_line, cut_on, cut_past}

-- the names, each cut to its first 256 bytes
abbrev pub short : List (List ℕ) → List (List ℕ)
short = map (take 256)

-- names behind a byte of a name of which r bytes are kept, that byte with them
behind : ℕ → ℕ → List (List ℕ) → List (List ℕ)
behind r b [] = (b ∷ []) ∷ []
behind r b (n ∷ ns) = (b ∷ take (256 - r) n) ∷ short ns

-- a byte that is kept
behind_on : (r b c : ℕ) (ns : List (List ℕ)) → r < 256 → push_byte b (behind (suc r) c ns) ≡ behind r b (push_byte c ns)
unfolding push_byte behind
behind_on r b c [] h = rw one (ap (λ (z : List ℕ). (b ∷ c ∷ z) ∷ []) (sym (take-nil (255 - r))))
  where
    one : 256 - r ≡ suc (255 - r)
    one = omega arith
behind_on r b c (n ∷ ns) h = rw one refl
  where
    one : 256 - r ≡ suc (256 - suc r)
    one = omega arith

-- a byte that is not
behind_past : (r b c : ℕ) (ns : List (List ℕ)) → 256 ≤ r → behind r b ns ≡ behind r b (push_byte c ns)
unfolding push_byte behind
behind_past r b c [] h = rw none refl
  where
    none : 256 - r ≡ 0
    none = omega arith
behind_past r b c (n ∷ ns) h = rw none refl
  where
    none : 256 - r ≡ 0
    none = omega arith

first_on : (b : ℕ) (ns : List (List ℕ)) → behind 1 b ns ≡ short (push_byte b ns)
unfolding push_byte behind
first_on b [] = refl
first_on b (n ∷ ns) = refl

module _ (c : ℕ) (l : List ℕ) (whole : names (cut 0 l) ≡ short (names l)) (part : (r b : ℕ) → push_byte b (names (cut r l)) ≡ behind r b (names l)) where
  whole_line : eqb c 10 ≡ true → names (cut 0 (c ∷ l)) ≡ short (names (c ∷ l))
  whole_line e =
      ap names (cut_line 0 c l e) ∙ names_stop 10 (cut 0 l) refl ∙ ap (λ (ns : List (List ℕ)). [] ∷ ns) whole ∙ sym (ap short (names_stop c l e))

  whole_on : eqb c 10 ≡ false → names (cut 0 (c ∷ l)) ≡ short (names (c ∷ l))
  whole_on e =
      ap names (cut_on 0 c l e (omega arith)) ∙ names_on c (cut 1 l) e ∙ part 1 c ∙ first_on c (names l) ∙ sym (ap short (names_on c l e))

  part_line : eqb c 10 ≡ true → (r b : ℕ) → push_byte b (names (cut r (c ∷ l))) ≡ behind r b (names (c ∷ l))
  unfolding push_byte behind
  part_line e r b =
      ap (push_byte b) (ap names (cut_line r c l e) ∙ names_stop 10 (cut 0 l) refl) ∙ ap (λ (ns : List (List ℕ)). (b ∷ []) ∷ ns) whole
      ∙ ap (λ (z : List ℕ). (b ∷ z) ∷ short (names l)) (sym (take-nil (256 - r))) ∙ sym (ap (behind r b) (names_stop c l e))

  part_on : eqb c 10 ≡ false → (r b : ℕ) → push_byte b (names (cut r (c ∷ l))) ≡ behind r b (names (c ∷ l))
  part_on e r b =
      elim (dec_le 256 r) [
        | yes h ↦ (
            ap (λ (x : List ℕ). push_byte b (names x)) (cut_past r c l e h) ∙ part r b ∙ behind_past r b c (names l) h
            ∙ sym (ap (behind r b) (names_on c l e))
            )
        | no h ↦ (
            ap (push_byte b) (ap names (cut_on r c l e (omega arith)) ∙ names_on c (cut (suc r) l) e ∙ part (suc r) c)
            ∙ behind_on r b c (names l) (omega arith) ∙ sym (ap (behind r b) (names_on c l e))
            )
      ]

both : (l : List ℕ) → (names (cut 0 l) ≡ short (names l)) × ((r b : ℕ) → push_byte b (names (cut r l)) ≡ behind r b (names l))
unfolding names push_byte behind cut
both [] = (refl, λ r b. refl)
both (c ∷ l) =
    let rest = both l in
    elim (decide (eqb c 10)) [
      | inl e ↦ (whole_line c l rest.0 rest.1 e, part_line c l rest.0 rest.1 e)
      | inr e ↦ (whole_on c l rest.0 rest.1 e, part_on c l rest.0 rest.1 e)
    ]

-- a byte more is at most a name more
push_some : (b : ℕ) (ns : List (List ℕ)) → (length ns ≤ length (push_byte b ns)) × (1 ≤ length (push_byte b ns))
unfolding push_byte
push_some b [] = (omega arith, omega arith)
push_some b (n ∷ ns) = (omega arith, omega arith)

push_more : (b : ℕ) (ns ms : List (List ℕ)) → length ns ≤ length ms → length (push_byte b ns) ≤ length (push_byte b ms)
unfolding push_byte
push_more b [] [] h = omega arith
push_more b [] (m ∷ ms) h = omega arith
push_more b (n ∷ ns) [] h = absurd (omega arith)
push_more b (n ∷ ns) (m ∷ ms) h = omega arith

names_front : (m : ℕ) (l : List ℕ) → length (names (take m l)) ≤ length (names l)
unfolding names
names_front zero l = omega arith
names_front (suc m) [] = omega arith
names_front (suc m) (b ∷ l) =
    let rest = names_front m l in
    elim (decide (eqb b 10)) [
      | inl e ↦ omega (arith, ap length (names_stop b (take m l) e), ap length (names_stop b l e))
      | inr e ↦ omega (arith, ap length (names_on b (take m l) e), ap length (names_on b l e), push_more b (names (take m l)) (names l) rest)
    ]

-- a front of what is kept has a name for each 257 bytes
Crowded : ℕ → List ℕ → Type 0
Crowded r x = 0 < length x → length x + r ≤ 257 * length (names x)

crowded_line : (r : ℕ) (x : List ℕ) → r ≤ 256 → Crowded 0 x → Crowded r (10 ∷ x)
unfolding Crowded
crowded_line r x h C g =
    elim (dec_le 1 (length x)) [
      | yes p ↦ omega (arith, C p, ap length (names_stop 10 x refl))
      | no p ↦ omega (arith, ap length (names_stop 10 x refl))
    ]

crowded_on : (r b : ℕ) (x : List ℕ) → r < 256 → eqb b 10 ≡ false → Crowded (suc r) x → Crowded r (b ∷ x)
unfolding Crowded
crowded_on r b x h e C g =
    let p = push_some b (names x) in
    elim (dec_le 1 (length x)) [ yes q ↦ omega (arith, C q, ap length (names_on b x e)) | no q ↦ omega (arith, ap length (names_on b x e)) ]

crowded : (s : List ℕ) (m r : ℕ) → r ≤ 256 → Crowded r (take m (cut r s))
unfolding Crowded cut
crowded [] m r h = λ g. absurd (omega (arith, ap length (take-nil {A = ℕ} m)))
crowded (b ∷ s) zero r h = λ g. absurd (omega arith)
crowded (b ∷ s) (suc m) r h =
    elim (decide (eqb b 10)) [
      | inl e ↦ subst (λ (x : List ℕ). Crowded r (take (suc m) x)) (sym (cut_line r b s e)) (crowded_line r (take m (cut 0 s)) h (crowded s m 0 (omega arith)))
      | inr e ↦ elim (dec_le 256 r) [
        | yes p ↦ subst (λ (x : List ℕ). Crowded r (take (suc m) x)) (sym (cut_past r b s e p)) (crowded s (suc m) r h)
        | no p ↦ (
            let q : r < 256 = omega arith in
            subst (λ (x : List ℕ). Crowded r (take (suc m) x)) (sym (cut_on r b s e q)) (crowded_on r b (take m (cut (suc r) s)) q e (crowded s m (suc r) q))
            )
      ]
    ]

-- what a buffer of over 257,000 bytes holds of a list
pub kept_names : (s : List ℕ) (d : ℕ) → 257000 < d
    → (names (take d (cut 0 s)) ≡ short (names s)) ⊎ ((1000 < length (names (take d (cut 0 s)))) × (1000 < length (names s)))
unfolding Crowded
kept_names s d h =
    elim (dec_le (length (cut 0 s)) d) [
      | yes b ↦ inl (ap names (take_all d (cut 0 s) b) ∙ (both s).0)
      | no b ↦ (
          let l : length (take d (cut 0 s)) ≡ d = length-take-le d (cut 0 s) (omega arith) in
          let many : 1000 < length (names (take d (cut 0 s))) = omega (arith, crowded s d 0 (omega arith) (omega arith)) in
          inr (many, omega (arith, names_front d (cut 0 s), ap length (both s).0, length-map (names s) (take 256)))
          )
    ]

-- a name that is cut is as unfit as it was
pub fit_cut : (n : List ℕ) → fit_name (take 256 n) ≡ fit_name n
unfolding fit_name
fit_cut n =
    elim (dec_le (length n) 256) [
      | yes h ↦ ap fit_name (take_all 256 n h)
      | no h ↦ sym (unfit_long (take 256 n) (omega (arith, length-take-le 256 n (omega arith)))) ∙ unfit_long n (omega arith)
    ]
