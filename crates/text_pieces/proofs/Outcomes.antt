-- The reader's answers and what following the format finds: one says what the other does.
use Prim.Native.Nat.{ℕ}
use native.Mathlib.Omega.{arith}
use mathlib.Core.Path.{◌≡◌, sym, ◌∙◌, ap}
use Rattle.std.specs.Prelude.{Result, Ok, Err, IsErrAnd}
use Rattle.std.proofs.lemmas.Result.{err_from_is_err_and}
use Rattle.sets.specs.declared.Set.{Set}
use Rattle.sets.specs.Words.{bits_of, set_of}
use Rattle.sets.proofs.Rows.{bits_of_lem}
use Rattle.text_grammar.specs.Format.{Run}
use Rattle.text_grammar.specs.Format.Run.{got, fault}
use Rattle.text_pieces.specs.declared.Fault.{Fault}
use Rattle.text_pieces.specs.declared.Found.{Found}
use Rattle.text_pieces.specs.Pieces.{found_as, step_of, set_scan_of}

-- an answer is no fault
pub ok_not_err : {T A : Type 0} {n : T} {e : Fault} → ◌≡◌ {A = Result T Fault} (Ok n) (Err e) → A
ok_not_err h = let z : ◌≡◌ {A = ℕ} 0 1 = cc in absurd (omega arith)

-- a fault that is handed on
pub handed_on : {T : Type 0} {r y : Result T Fault} {e : Fault} → IsErrAnd r (λ q. q ≡ e) → Err e ≡ y → r ≡ y
handed_on {r = r} h g = let p = err_from_is_err_and r h in p.1 ∙ ap Err p.2 ∙ g

-- fixed bytes
pub step_at : {x : Run (Unit {0})} {j : ℕ} → x ≡ got tt j → Ok j ≡ step_of x
unfolding step_of
step_at e = sym (ap step_of e)

pub step_fault : {x : Run (Unit {0})} {p : ℕ} → x ≡ fault p → Err (record { at = p }) ≡ step_of x
unfolding step_of
step_fault e = sym (ap step_of e)

pub at_step : (x : Run (Unit {0})) {j : ℕ} → Ok j ≡ step_of x → x ≡ got tt j
unfolding step_of
at_step (got u i) {j} e = let same : i ≡ j = cc in ap (got tt) same
at_step (fault p) e = let z : ◌≡◌ {A = ℕ} 0 1 = cc in absurd (omega arith)

pub fault_step : (x : Run (Unit {0})) {e : Fault} → Err e ≡ step_of x → x ≡ fault e.at
unfolding step_of
fault_step (got u i) h = let z : ◌≡◌ {A = ℕ} 0 1 = cc in absurd (omega arith)
fault_step (fault q) {e} h = let same : record { at = q } ≡ e = cc in ap (λ (y : Fault). fault y.at) same

-- any piece
pub found_got : {A B : Type 0} (f : A → B) {x : Run A} {a : A} {j : ℕ} → x ≡ got a j → Ok (record { value = f a; end = j }) ≡ found_as f x
unfolding found_as
found_got f e = sym (ap (found_as f) e)

pub found_fault : {A B : Type 0} (f : A → B) {x : Run A} {p : ℕ} → x ≡ fault p → Err (record { at = p }) ≡ found_as f x
unfolding found_as
found_fault f e = sym (ap (found_as f) e)

pub got_found : {A B : Type 0} (f : A → B) (x : Run A) {n : Found B} → Ok n ≡ found_as f x → (a : A) × (x ≡ got a n.end) × (f a ≡ n.value)
unfolding found_as
got_found {B = B} f (got a i) {n} h =
    let same : record { value = f a; end = i } ≡ n = cc in
    (a, ap (λ (y : Found B). got a y.end) same, ap (λ (y : Found B). y.value) same)
got_found f (fault p) h = let z : ◌≡◌ {A = ℕ} 0 1 = cc in absurd (omega arith)

pub fault_found : {A B : Type 0} (f : A → B) (x : Run A) {e : Fault} → Err e ≡ found_as f x → x ≡ fault e.at
unfolding found_as
fault_found f (got a i) h = let z : ◌≡◌ {A = ℕ} 0 1 = cc in absurd (omega arith)
fault_found f (fault q) {e} h = let same : record { at = q } ≡ e = cc in ap (λ (y : Fault). fault y.at) same

-- a piece whose value is what is found
pub found_value : {A : Type 0} (x : Run A) {n : Found A} → Ok n ≡ found_as (λ v. v) x → x ≡ got n.value n.end
found_value {A = A} x {n} h = let r = got_found (λ v. v) x h in r.1 ∙ ap (λ (y : A). got y n.end) r.2

-- a set that is made of its own number
pub whole_members : {x : Run ℕ} {v : Set} {j : ℕ} → set_of (bits_of v) ≡ v → x ≡ got (bits_of v) j → Ok (record { value = v; end = j }) ≡ set_scan_of x
whole_members {j = j} h e = ap (λ (y : Set). Ok (record { value = y; end = j })) (sym h) ∙ found_got set_of e

-- what is read: the set, and that it is made of its own number
pub members_set : (x : Run ℕ) {n : Found Set} → Ok n ≡ set_scan_of x → (x ≡ got (bits_of n.value) n.end) × (set_of (bits_of n.value) ≡ n.value)
members_set x {n} h =
    let r = got_found set_of x h in
    let bits : r.0 ≡ bits_of n.value = sym (bits_of_lem r.0) ∙ ap bits_of r.2 in
    (r.1 ∙ ap (λ (y : ℕ). got y n.end) bits, ap set_of (sym bits) ∙ r.2)
