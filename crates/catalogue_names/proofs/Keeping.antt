-- A list kept part by part is what is kept of the whole list.
use Prim.Native.Nat.{ℕ, zero, suc, ◌+◌, ◌≤◌, ◌<◌}
use native.Mathlib.Omega.{arith}
use native.Mathlib.Numerals.{add-one}
use mathlib.Core.Bool.{Bool, true, false}
use mathlib.Core.List.{List, [], ◌∷◌, ◌++◌, append-nil}
use mathlib.Core.Logic.{◌≢◌}
use mathlib.Core.Path.{◌≡◌, refl, sym, ◌∙◌, ap, subst}
use native.Mathlib.Decide.{dec_le}
use lib.Dec.{eqb, leb}
use lib.ListN.{length, get_or, take, set, length-append, length-set, length-take}
use lib.Seq.{sets, take_all, take-nil, take-append-le, take-suc, take-suc-set, append_snoc}
use borrow.Author.Tests.{eq-eqb, ne_eqb, le-leb, lt-leb}
use Rattle.text_put.specs.Put.{reached, Puts}
use Rattle.text_put.proofs.Buffer.{reached_inside, reached_full, reached_none, reached_join, sets_out, puts_nothing, puts_then, puts_as, puts_length}
use Rattle.catalogue_names.specs.declared.Kept.{Kept}
use Rattle.catalogue_names.specs.Keeping.{cut, under, Keeps, Held, nothing}

-- a byte that ends a line, one that is kept, and one that is not
module _ (r b : ℕ) (l : List ℕ) where
  pub cut_line : eqb b 10 ≡ true → cut r (b ∷ l) ≡ 10 ∷ cut 0 l
  unfolding cut
  cut_line e = rw (e, cut) refl

  pub cut_on : eqb b 10 ≡ false → r < 256 → cut r (b ∷ l) ≡ b ∷ cut (suc r) l
  unfolding cut
  cut_on e h = rw (e, cut) (rw (lt-leb 256 r h) refl)

  pub cut_past : eqb b 10 ≡ false → 256 ≤ r → cut r (b ∷ l) ≡ cut r l
  unfolding cut
  cut_past e h = rw (e, cut) (rw (le-leb 256 r h) refl)

module _ (r b : ℕ) where
  under_line : eqb b 10 ≡ true → under r (b ∷ []) ≡ 0
  unfolding under
  under_line e = rw (e, under) refl

  under_on : eqb b 10 ≡ false → r < 256 → under r (b ∷ []) ≡ r + 1
  unfolding under
  under_on e h = rw (e, under) (rw (lt-leb 256 r h) (sym (add-one r)))

  under_past : eqb b 10 ≡ false → 256 ≤ r → under r (b ∷ []) ≡ r
  unfolding under
  under_past e h = rw (e, under) (rw (le-leb 256 r h) refl)

-- parts
cut_append : (r : ℕ) (s t : List ℕ) → cut r (s ++ t) ≡ cut r s ++ cut (under r s) t
unfolding cut under
cut_append r [] t = refl
cut_append r (b ∷ s) t = go (eqb b 10) (leb 256 r) (cut_append 0 s t) (cut_append r s t) (cut_append (suc r) s t)
  where
    go : (x y : Bool) → cut 0 (s ++ t) ≡ cut 0 s ++ cut (under 0 s) t → cut r (s ++ t) ≡ cut r s ++ cut (under r s) t
        → cut (suc r) (s ++ t) ≡ cut (suc r) s ++ cut (under (suc r) s) t
        → elim x as (λ z. List ℕ) [ true ↦ 10 ∷ cut 0 (s ++ t) | false ↦ elim y as (λ z. List ℕ) [ true ↦ cut r (s ++ t) | false ↦ b ∷ cut (suc r) (s ++ t) ] ]
        ≡ elim x as (λ z. List ℕ) [ true ↦ 10 ∷ cut 0 s | false ↦ elim y as (λ z. List ℕ) [ true ↦ cut r s | false ↦ b ∷ cut (suc r) s ] ]
        ++ cut (elim x as (λ z. ℕ) [ true ↦ under 0 s | false ↦ elim y as (λ z. ℕ) [ true ↦ under r s | false ↦ under (suc r) s ] ]) t
    go true y p q w = ap (λ (z : List ℕ). 10 ∷ z) p
    go false true p q w = q
    go false false p q w = ap (λ (z : List ℕ). b ∷ z) w

under_append : (r : ℕ) (s t : List ℕ) → under r (s ++ t) ≡ under (under r s) t
unfolding under
under_append r [] t = refl
under_append r (b ∷ s) t = go (eqb b 10) (leb 256 r) (under_append 0 s t) (under_append r s t) (under_append (suc r) s t)
  where
    go : (x y : Bool) → under 0 (s ++ t) ≡ under (under 0 s) t → under r (s ++ t) ≡ under (under r s) t
        → under (suc r) (s ++ t) ≡ under (under (suc r) s) t
        → elim x as (λ z. ℕ) [ true ↦ under 0 (s ++ t) | false ↦ elim y as (λ z. ℕ) [ true ↦ under r (s ++ t) | false ↦ under (suc r) (s ++ t) ] ]
        ≡ under (elim x as (λ z. ℕ) [ true ↦ under 0 s | false ↦ elim y as (λ z. ℕ) [ true ↦ under r s | false ↦ under (suc r) s ] ]) t
    go true y p q w = p
    go false true p q w = q
    go false false p q w = w

-- what a run of stores leaves at the front
sets_front : (x d : List ℕ) (n : ℕ) → n ≤ length d → take (reached (length d) n (length x)) (sets d n x) ≡ take (length d) (take n d ++ x)
sets_front [] d n h =
    ap (λ (k : ℕ). take k d) (reached_none (length d) n)
    ∙ sym (ap (take (length d)) (append-nil (take n d)) ∙ take_all (length d) (take n d) (omega (arith, length-take n d)))
sets_front (a ∷ x) d n h =
    elim (dec_le (length d) n) [
      | yes b ↦ (
          ap (take (reached (length d) n (suc (length x)))) (sets_out (a ∷ x) d n b)
          ∙ take_all (reached (length d) n (suc (length x))) d (omega (arith, reached_full (length d) n (suc (length x)) (omega arith)))
          ∙ sym
          (ap (λ (z : List ℕ). take (length d) (z ++ a ∷ x)) (take_all n d b) ∙ take-append-le (length d) d (a ∷ x) (omega arith)
          ∙ take_all (length d) d (omega arith))
          )
      | no b ↦ (
          let e : length (set d n a) ≡ length d = length-set d n a in
          let q : reached (length d) n (suc (length x)) ≡ reached (length (set d n a)) (suc n) (length x) =
          ap (λ (k : ℕ). reached (length d) n k) (omega arith) ∙ sym (reached_join (length d) n 1 (length x))
          ∙ ap (λ (k : ℕ). reached (length d) k (length x)) (reached_inside (length d) n 1 (omega arith) ∙ add-one n)
          ∙ ap (λ (k : ℕ). reached k (suc n) (length x)) (sym e) in
          ap (λ (k : ℕ). take k (sets (set d n a) (suc n) x)) q ∙ sets_front x (set d n a) (suc n) (omega arith)
          ∙ ap (λ (k : ℕ). take k (take (suc n) (set d n a) ++ x)) e
          ∙ ap (λ (z : List ℕ). take (length d) (z ++ x)) (take-suc-set d n a (omega arith))
          ∙ ap (take (length d)) (append_snoc (take n d) a x)
          )
    ]

take_front_append : (n : ℕ) (x y : List ℕ) → take n (take n x ++ y) ≡ take n (x ++ y)
take_front_append zero x y = refl
take_front_append (suc n) [] y = refl
take_front_append (suc n) (a ∷ x) y = ap (λ (z : List ℕ). a ∷ z) (take_front_append n x y)

-- a part, then another
keeps_join : {d : List ℕ} {k : Kept} {l : List ℕ} {r : Kept} {e m : List ℕ} {s : Kept} {f : List ℕ} → Keeps d k l r e → Keeps e r m s f → Keeps d k (l ++ m) s f
keeps_join {d} {k} {l} {r} {e} {m} K M =
    record {
      puts = puts_as (sym (cut_append k.run l m ∙ ap (λ (n : ℕ). cut k.run l ++ cut n m) (sym K.run))) (puts_then K.puts M.puts);
      run = M.run ∙ ap (λ (n : ℕ). under n m) K.run ∙ sym (under_append k.run l m);
    }

pub keeps_none : {d : List ℕ} {k : Kept} → Keeps d k [] k d
unfolding cut under
keeps_none {d} {k} = record { puts = puts_nothing d k.len; run = refl }

-- from the first part on
pub held_nothing : (d : List ℕ) → Held [] d nothing
unfolding cut under
held_nothing d = record { front = sym (take-nil (length d)); len = sym (reached_none (length d) 0); run = refl }

pub held_within : {s d : List ℕ} {k : Kept} → Held s d k → k.len ≤ length d
unfolding reached
held_within H = omega (arith, H.len)

pub held_more : {s d : List ℕ} {k : Kept} {l : List ℕ} {r : Kept} {e : List ℕ} → Held s d k → Keeps d k l r e → Held (s ++ l) e r
held_more {s} {d} {k} {l} {r} {e} H K =
    let room = puts_length K.puts in
    let whole : cut 0 s ++ cut k.run l ≡ cut 0 (s ++ l) =
    ap (λ (n : ℕ). cut 0 s ++ cut n l) H.run ∙ sym (cut_append 0 s l) in
    record {
      front =
          (λ i. take (K.puts.next i) (K.puts.buffer i))
          ∙ sets_front (cut k.run l) d k.len (held_within H)
          ∙ ap (λ (z : List ℕ). take (length d) (z ++ cut k.run l)) H.front
          ∙ take_front_append (length d) (cut 0 s) (cut k.run l) ∙ ap (take (length d)) whole
          ∙ ap (λ (n : ℕ). take n (cut 0 (s ++ l))) (sym room);
      len =
          K.puts.next ∙ ap (λ (n : ℕ). reached (length d) n (length (cut k.run l))) H.len
          ∙ reached_join (length d) 0 (length (cut 0 s)) (length (cut k.run l))
          ∙ ap (reached (length d) 0) (sym (length-append (cut 0 s) (cut k.run l)) ∙ ap length whole)
          ∙ ap (λ (n : ℕ). reached n 0 (length (cut 0 (s ++ l)))) (sym room);
      run = K.run ∙ ap (λ (n : ℕ). under n l) H.run ∙ sym (under_append 0 s l);
    }

-- the three ways of a byte
module _ {d : List ℕ} {k : Kept} {b : ℕ} where
  pub keeps_line : {n : ℕ} {e : List ℕ} → b ≡ 10 → Puts d k.len (b ∷ []) n e → Keeps d k (b ∷ []) (record { len = n; run = 0 }) e
  unfolding cut
  keeps_line h S =
      let t = eq-eqb b 10 h in
      let one : b ∷ [] ≡ cut k.run (b ∷ []) = ap (λ (x : ℕ). x ∷ []) h ∙ sym (cut_line k.run b [] t) in
      record { puts = puts_as one S; run = sym (under_line k.run b t) }

  pub keeps_on : {n : ℕ} {e : List ℕ} → b ≢ 10 → k.run < 256 → Puts d k.len (b ∷ []) n e → Keeps d k (b ∷ []) (record { len = n; run = k.run + 1 }) e
  unfolding cut
  keeps_on h g S =
      let t = ne_eqb b 10 h in
      let one : b ∷ [] ≡ cut k.run (b ∷ []) = sym (cut_on k.run b [] t g) in
      record { puts = puts_as one S; run = sym (under_on k.run b t g) }

  pub keeps_past : b ≢ 10 → 256 ≤ k.run → Keeps d k (b ∷ []) k d
  unfolding cut
  keeps_past h g =
      let t = ne_eqb b 10 h in
      let none : cut k.run (b ∷ []) ≡ [] = cut_past k.run b [] t g in
      record { puts = puts_as (sym none) (puts_nothing d k.len); run = sym (under_past k.run b t g) }

-- a byte more, and the end
module _ {d : List ℕ} {k : Kept} (l : List ℕ) (i : ℕ) {r : Kept} {e : List ℕ} (K : Keeps d k (take i l) r e) where
  pub keeps_next : {s : Kept} {f : List ℕ} → i < length l → Keeps e r (get_or l i 0 ∷ []) s f → Keeps d k (take (i + 1) l) s f
  keeps_next {s} {f} h M =
      subst (λ (z : List ℕ). Keeps d k z s f) (sym (ap (λ (n : ℕ). take n l) (add-one i) ∙ take-suc l i 0 h)) (keeps_join K M)

  pub keeps_whole : length l ≤ i → Keeps d k l r e
  keeps_whole h = subst (λ (z : List ℕ). Keeps d k z r e) (take_all i l h) K

pub keeps_room : {d : List ℕ} {k : Kept} {l : List ℕ} {r : Kept} {e : List ℕ} → Keeps d k l r e → length e ≡ length d
keeps_room K = puts_length K.puts
