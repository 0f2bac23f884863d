-- The laws of formats: following a format along an input finds its text, or the longest front that begins one.
use Prim.Native.Nat.{ℕ, suc, ◌+◌, ◌≤◌, ◌<◌}
use native.Mathlib.Omega.{arith}
use native.Mathlib.Nat.{add-zero}
use mathlib.Core.Bool.{Bool, true, false, ◌||◌}
use mathlib.Core.List.{List, [], ◌∷◌, ◌++◌}
use mathlib.Core.Logic.{◌⊎◌, inl, inr}
use mathlib.Core.Path.{◌≡◌, refl, sym, ◌∙◌, ap}
use lib.Dec.{eqb}
use lib.ListN.{length}
use borrow.Author.Tests.{eq-eqb, ne_eqb, eqb-true}
use Rattle.finite.proofs.Truth.{clash}
use Rattle.text_grammar.specs.Format.{Format, Run, TextOf, Stands, run, Live, bind, lit, alt, may_begin, child, chars, follow, IsNode, Bytes}
use Rattle.text_grammar.specs.Format.Format.{done, node}
use Rattle.text_grammar.specs.Format.Run.{got, fault}

-- a test, and what is known in each case
pub by_cases : {A : Type 0} (b : Bool) → (b ≡ true → A) → (b ≡ false → A) → A
by_cases true f g = f refl
by_cases false f g = g refl

module _ {R : Type 0} where
  pub not_fault : {A : Type 0} {r : R} {i j : ℕ} → fault i ≡ got r j → A
  not_fault h = let z : ◌≡◌ {A = ℕ} 0 1 = cc in absurd (omega arith)

  pub same_fault : {i j : ℕ} → ◌≡◌ {A = Run R} (fault i) (fault j) → i ≡ j
  same_fault h = cc

module _ {R : Type 0} (ok : ℕ → Bool) (next : ℕ → Format R) (w : ℕ → ℕ) (i : ℕ) where
  pub run_step : ok (w i) ≡ true → run (node ok next) w i ≡ run (next (w i)) w (suc i)
  unfolding run
  run_step h = rw (h, run)

  pub run_stop : ok (w i) ≡ false → run (node ok next) w i ≡ fault i
  unfolding run
  run_stop h = rw (h, run)

-- a fault lies at the start or past it
run_past : {R : Type 0} (f : Format R) (w : ℕ → ℕ) (i : ℕ) {p : ℕ} → run f w i ≡ fault p → i ≤ p
unfolding run
run_past (done x) w i h = not_fault (sym h)
run_past (node ok next) w i {p} h =
    by_cases (ok (w i))
    (λ e. let l : suc i ≤ p = run_past (next (w i)) w (suc i) (sym (run_step ok next w i e) ∙ h) in omega arith)
    (λ e. let same : i ≡ p = same_fault (sym (run_stop ok next w i e) ∙ h) in omega arith)

-- a text that stands in the input is read, with its value
pub run_text : {R : Type 0} (f : Format R) (w : ℕ → ℕ) (i : ℕ) (t : List ℕ) {r : R} → TextOf f t r → Stands w i t → run f w i ≡ got r (i + length t)
unfolding TextOf Stands run
run_text (done x) w i [] p s = cc (add-zero i)
run_text (done x) w i (b ∷ t) p s = absurd p
run_text (node ok next) w i [] p s = absurd p
run_text {R} (node ok next) w i (b ∷ t) {r} p s =
    run_step ok next w i (ap ok s.0 ∙ p.0)
    ∙ ap (λ (c : ℕ). run (next c) w (suc i)) s.0
    ∙ run_text (next b) w (suc i) t p.1 s.1
    ∙ ap (got r) (omega arith)

-- what is read stands in the input, and is a text
pub record Found {R : Type 0} (f : Format R) (w : ℕ → ℕ) (i : ℕ) (r : R) (j : ℕ) : Type 0 where
  pub text : List ℕ
  pub is_text : TextOf f text r
  pub stands : Stands w i text
  pub behind : j ≡ i + length text

module _ {R : Type 0} where
  found_byte : {ok : ℕ → Bool} {next : ℕ → Format R} {w : ℕ → ℕ} {i : ℕ} {r : R} {j : ℕ}
      → ok (w i) ≡ true → Found (next (w i)) w (suc i) r j → Found (node ok next) w i r j
  unfolding TextOf Stands
  found_byte {w = w} {i = i} h F = record { text = w i ∷ F.text; is_text = (h, F.is_text); stands = (refl, F.stands); behind = omega arith }

pub run_got : {R : Type 0} (f : Format R) (w : ℕ → ℕ) (i : ℕ) {r : R} {j : ℕ} → run f w i ≡ got r j → Found f w i r j
unfolding TextOf Stands run
run_got (done x) w i {r} {j} h = record { text = []; is_text = (cc); stands = tt; behind = let e : i ≡ j = cc in omega arith }
run_got (node ok next) w i {r} {j} h =
    by_cases (ok (w i))
    (λ e. found_byte e (run_got (next (w i)) w (suc i) (sym (run_step ok next w i e) ∙ h)))
    (λ e. not_fault (sym (run_stop ok next w i e) ∙ h))

-- a format whose ways can be finished has a text
pub record Some {R : Type 0} (f : Format R) : Type 0 where
  pub text : List ℕ
  pub value : R
  pub is_text : TextOf f text value

live_text : {R : Type 0} (f : Format R) → Live f → Some f
unfolding TextOf Live
live_text (done x) l = record { text = []; value = x; is_text = refl }
live_text (node ok next) l =
    let b = l.0.0 in
    let rest = live_text (next b) (l.1 b l.0.1) in
    record { text = b ∷ rest.text; value = rest.value; is_text = (l.0.1, rest.is_text) }

-- the input from place i up to place p begins a text of f: `front` is that part, `front ++ back` the text
pub record Begun {R : Type 0} (f : Format R) (w : ℕ → ℕ) (i p : ℕ) : Type 0 where
  pub front : List ℕ
  pub back : List ℕ
  pub value : R
  pub is_text : TextOf f (front ++ back) value
  pub stands : Stands w i front
  pub place : p ≡ i + length front

module _ {R : Type 0} where
  begun_byte : {ok : ℕ → Bool} {next : ℕ → Format R} {w : ℕ → ℕ} {i p : ℕ}
      → ok (w i) ≡ true → Begun (next (w i)) w (suc i) p → Begun (node ok next) w i p
  unfolding TextOf Stands
  begun_byte {w = w} {i = i} h B =
      record { front = w i ∷ B.front; back = B.back; value = B.value; is_text = (h, B.is_text); stands = (refl, B.stands); place = omega arith }

  begun_none : {f : Format R} {w : ℕ → ℕ} {i p : ℕ} → Some f → i ≡ p → Begun f w i p
  unfolding Stands
  begun_none {i = i} S e = record { front = []; back = S.text; value = S.value; is_text = S.is_text; stands = tt; place = omega arith }

-- up to the fault, the input begins a text
pub run_begun : {R : Type 0} (f : Format R) (w : ℕ → ℕ) (i : ℕ) {p : ℕ} → Live f → run f w i ≡ fault p → Begun f w i p
unfolding Live run
run_begun (done x) w i l h = not_fault (sym h)
run_begun (node ok next) w i {p} l h =
    by_cases (ok (w i))
    (λ e. begun_byte e (run_begun (next (w i)) w (suc i) (l.1 (w i) e) (sym (run_step ok next w i e) ∙ h)))
    (λ e. let same : i ≡ p = same_fault (sym (run_stop ok next w i e) ∙ h) in begun_none (live_text (node ok next) l) same)

-- no text goes along with the input past the fault
pub run_longest : {R : Type 0} (f : Format R) (w : ℕ → ℕ) (i : ℕ) {p : ℕ} (t u : List ℕ) (r : R)
    → run f w i ≡ fault p → TextOf f (t ++ u) r → Stands w i t → i + length t ≤ p
unfolding TextOf Stands run
run_longest (done x) w i t u r h p s = not_fault (sym h)
run_longest (node ok next) w i {p} [] u r h q s =
    by_cases (ok (w i))
    (λ e. let l : suc i ≤ p = run_past (next (w i)) w (suc i) (sym (run_step ok next w i e) ∙ h) in omega arith)
    (λ e. let same : i ≡ p = same_fault (sym (run_stop ok next w i e) ∙ h) in omega arith)
run_longest (node ok next) w i {p} (b ∷ t) u r h q s =
    let e : ok (w i) ≡ true = ap ok s.0 ∙ q.0 in
    let l : suc i + length t ≤ p =
    run_longest (next b) w (suc i) t u r
    (ap (λ (c : ℕ). run (next c) w (suc i)) (sym s.0) ∙ sym (run_step ok next w i e) ∙ h) q.1 s.1 in
    omega arith

-- one format after another
pub run_bind : {A B : Type 0} (f : Format A) (k : A → Format B) (w : ℕ → ℕ) (i : ℕ)
    → run (bind f k) w i ≡ follow (run f w i) (λ a j. run (k a) w j)
unfolding bind run follow
run_bind (done a) k w i = refl
run_bind (node ok next) k w i =
    by_cases (ok (w i))
    (λ e. rw e (run_bind (next (w i)) k w (suc i)))
    (λ e. rw e)

pub bind_text : {A B : Type 0} (f : Format A) (k : A → Format B) (s t : List ℕ) (a : A) (r : B)
    → TextOf f s a → TextOf (k a) t r → TextOf (bind f k) (s ++ t) r
unfolding bind TextOf
bind_text (done x) k [] t a r p q = rw p q
bind_text (done x) k (b ∷ s) t a r p q = absurd p
bind_text (node ok next) k [] t a r p q = absurd p
bind_text (node ok next) k (b ∷ s) t a r p q = (p.0, bind_text (next b) k s t a r p.1 q)

pub record Parts {A B : Type 0} (f : Format A) (k : A → Format B) (t : List ℕ) (r : B) : Type 0 where
  pub front : List ℕ
  pub back : List ℕ
  pub value : A
  pub whole : t ≡ front ++ back
  pub is_front : TextOf f front value
  pub is_back : TextOf (k value) back r

pub bind_parts : {A B : Type 0} (f : Format A) (k : A → Format B) (t : List ℕ) (r : B) → TextOf (bind f k) t r → Parts f k t r
unfolding bind TextOf
bind_parts (done x) k t r p = record { front = []; back = t; value = x; whole = refl; is_front = refl; is_back = p }
bind_parts (node ok next) k [] r p = absurd p
bind_parts (node ok next) k (b ∷ t) r p =
    let q = bind_parts (next b) k t r p.1 in
    record {
      front =
          b ∷ q.front;
      back = q.back;
      value = q.value;
      whole = ap (λ (l : List ℕ). b ∷ l) q.whole;
      is_front = (p.0, q.is_front);
      is_back = q.is_back;
    }

pub bind_live : {A B : Type 0} (f : Format A) (k : A → Format B) → Live f → ((t : List ℕ) (a : A) → TextOf f t a → Live (k a)) → Live (bind f k)
unfolding bind Live TextOf
bind_live (done x) k l m = m [] x refl
bind_live (node ok next) k l m = (l.0, λ b e. bind_live (next b) k (l.1 b e) (λ t a p. m (b ∷ t) a (e, p)), l.2)

pub bind_node : {A B : Type 0} (f : Format A) (k : A → Format B) → IsNode f → IsNode (bind f k)
unfolding bind IsNode
bind_node (done x) k n = absurd n
bind_node (node ok next) k n = tt

-- a byte
pub lit_text : {R : Type 0} (b : ℕ) (f : Format R) (t : List ℕ) (r : R) → TextOf f t r → TextOf (lit b f) (b ∷ t) r
unfolding lit TextOf
lit_text b f t r p = (eq-eqb b b refl, p)

pub lit_parts : {R : Type 0} (b : ℕ) (f : Format R) (t : List ℕ) (r : R) → TextOf (lit b f) t r → (u : List ℕ) × (t ≡ b ∷ u) × TextOf f u r
unfolding lit TextOf
lit_parts b f [] r p = absurd p
lit_parts b f (c ∷ t) r p = (t, ap (λ (x : ℕ). x ∷ t) (eqb-true c b p.0), p.1)

pub lit_live : {R : Type 0} (b : ℕ) (f : Format R) → b < 256 → Live f → Live (lit b f)
unfolding lit Live
lit_live b f h l = ((b, eq-eqb b b refl), λ c e. l, ne_eqb 256 b (λ e. omega arith))

pub lit_node : {R : Type 0} (b : ℕ) (f : Format R) → IsNode (lit b f)
unfolding lit IsNode
lit_node b f = tt

pub run_lit : {R : Type 0} (b : ℕ) (f : Format R) (w : ℕ → ℕ) (i : ℕ) → w i ≡ b → run (lit b f) w i ≡ run f w (suc i)
unfolding lit run
run_lit b f w i h = rw (eq-eqb (w i) b h, run)

pub run_lit_fault : {R : Type 0} (b : ℕ) (f : Format R) (w : ℕ → ℕ) (i : ℕ) → (w i ≡ b → ⊥) → run (lit b f) w i ≡ fault i
unfolding lit run
run_lit_fault b f w i h = rw (ne_eqb (w i) b h, run)

-- a byte or another format
pub alt_left : {R : Type 0} (b : ℕ) (f g : Format R) (t : List ℕ) (r : R) → TextOf f t r → TextOf (alt b f g) (b ∷ t) r
unfolding alt TextOf
alt_left b f g t r p = rw (eq-eqb b b refl) (refl, p)

pub alt_right : {R : Type 0} (b : ℕ) (f g : Format R) (t : List ℕ) (r : R) → (may_begin g b ≡ false) → TextOf g t r → IsNode g → TextOf (alt b f g) t r
unfolding alt TextOf may_begin child IsNode
alt_right b f (done x) t r o p n = absurd n
alt_right b f (node ok next) [] r o p n = absurd p
alt_right b f (node ok next) (c ∷ t) r o p n =
    by_cases (eqb c b)
    (λ e. clash (ap ok (sym (eqb-true c b e)) ∙ p.0) o)
    (λ e. rw e p)

pub alt_parts : {R : Type 0} (b : ℕ) (f g : Format R) (t : List ℕ) (r : R) → TextOf (alt b f g) t r
    → ((u : List ℕ) × (t ≡ b ∷ u) × TextOf f u r) ⊎ TextOf g t r
unfolding alt TextOf may_begin child
alt_parts b f g [] r p = absurd p
alt_parts b f (done x) (c ∷ t) r p =
    by_cases (eqb c b)
    (λ e. inl (t, ap (λ (x : ℕ). x ∷ t) (eqb-true c b e), (rw e at p).1))
    (λ e. clash (rw e at p).0 refl)
alt_parts b f (node ok next) (c ∷ t) r p =
    by_cases (eqb c b)
    (λ e. inl (t, ap (λ (x : ℕ). x ∷ t) (eqb-true c b e), (rw e at p).1))
    (λ e. inr (rw e at p))

pub alt_live : {R : Type 0} (b : ℕ) (f g : Format R) → b < 256 → Live f → Live g → IsNode g → Live (alt b f g)
unfolding alt Live may_begin child IsNode
alt_live b f (done x) s l m n = absurd n
alt_live b f (node ok next) s l m n = (
  (b, rw (eq-eqb b b refl)),
  λ c e. by_cases (eqb c b) (λ h. rw h l) (λ h. rw h (m.1 c (rw h at e))),
  rw (ne_eqb 256 b (λ (e : 256 ≡ b). omega arith)) m.2,
)

pub alt_node : {R : Type 0} (b : ℕ) (f g : Format R) → IsNode (alt b f g)
unfolding alt IsNode
alt_node b f g = tt

pub run_alt_left : {R : Type 0} (b : ℕ) (f g : Format R) (w : ℕ → ℕ) (i : ℕ) → w i ≡ b → run (alt b f g) w i ≡ run f w (suc i)
unfolding alt run
run_alt_left b f g w i h = let e = eq-eqb (w i) b h in rw (e, run) (rw e)

pub run_alt_right : {R : Type 0} (b : ℕ) (f g : Format R) (w : ℕ → ℕ) (i : ℕ) → (w i ≡ b → ⊥) → IsNode g → run (alt b f g) w i ≡ run g w i
unfolding alt run may_begin child IsNode
run_alt_right b f (done x) w i h n = absurd n
run_alt_right {R} b f (node ok next) w i h n =
    let e = ne_eqb (w i) b h in
    let ok' : ℕ → Bool = λ c. eqb c b || ok c in
    let next' : ℕ → Format R = λ c. elim (eqb c b) [ true ↦ f | false ↦ next c ] in
    let same : next' (w i) ≡ next (w i) = rw e in
    by_cases (ok (w i))
    (λ t. run_step ok' next' w i (rw e t) ∙ ap (λ (g : Format R). run g w (suc i)) same ∙ sym (run_step ok next w i t))
    (λ t. run_stop ok' next' w i (rw e t) ∙ sym (run_stop ok next w i t))

-- fixed bytes
pub chars_text : (t : List ℕ) → TextOf (chars t) t tt
unfolding chars TextOf
chars_text [] = refl
chars_text (b ∷ t) = lit_text b (chars t) t tt (chars_text t)

pub chars_only : (t u : List ℕ) → TextOf (chars t) u tt → u ≡ t
unfolding chars TextOf
chars_only [] [] p = refl
chars_only [] (c ∷ u) p = absurd p
chars_only (b ∷ t) u p =
    let q = lit_parts b (chars t) u tt p in
    q.1 ∙ ap (λ (l : List ℕ). b ∷ l) (chars_only t q.0 q.2)

pub chars_live : (t : List ℕ) → Bytes t → Live (chars t)
unfolding chars Live Bytes
chars_live [] h = tt
chars_live (b ∷ t) h = lit_live b (chars t) h.0 (chars_live t h.1)

pub follow_got : {A B : Type 0} {x : Run A} (k : A → ℕ → Run B) (a : A) (j : ℕ) → x ≡ got a j → follow x k ≡ k a j
unfolding follow
follow_got k a j e = ap (λ (y : Run _). follow y k) e

pub follow_fault : {A B : Type 0} {x : Run A} (k : A → ℕ → Run B) (p : ℕ) → x ≡ fault p → follow x k ≡ fault p
unfolding follow
follow_fault k p e = ap (λ (y : Run _). follow y k) e

-- the end of a text
pub done_text : {R : Type 0} (r : R) → TextOf (done r) [] r
unfolding TextOf
done_text r = refl

pub done_parts : {R : Type 0} (x : R) (t : List ℕ) (r : R) → TextOf (done x) t r → (t ≡ []) × (r ≡ x)
unfolding TextOf
done_parts x [] r p = (refl, sym p)
done_parts x (b ∷ t) r p = absurd p

pub done_live : {R : Type 0} (r : R) → Live (done r)
unfolding Live
done_live r = tt

pub run_done : {R : Type 0} (r : R) (w : ℕ → ℕ) (i : ℕ) → run (done r) w i ≡ got r i
unfolding run
run_done r w i = refl

-- the first byte
pub opens_lit : {R : Type 0} (b : ℕ) (f : Format R) (c : ℕ) → may_begin (lit b f) c ≡ eqb c b
unfolding may_begin lit
opens_lit b f c = refl

pub opens_bind : {A B : Type 0} (f : Format A) (k : A → Format B) (c : ℕ) → IsNode f → may_begin (bind f k) c ≡ may_begin f c
unfolding may_begin bind IsNode
opens_bind (done x) k c n = absurd n
opens_bind (node ok next) k c n = refl
