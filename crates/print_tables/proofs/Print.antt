-- The lines in order are the print: what has been written, and the next line, is what has been written one line on.
use Prim.Native.Nat.{ℕ, zero, suc, ◌+◌, ◌≤◌, ◌<◌}
use native.Mathlib.Omega.{arith}
use mathlib.Core.List.{List, ◌++◌, append_assoc, append-nil}
use mathlib.Core.Path.{◌≡◌, sym, ◌∙◌, ap}
use lib.ListN.{get_or, length}
use Rattle.finite.proofs.Lists.{any_default}
use Rattle.theory.specs.Entries.{none_entry}
use Rattle.text_put.specs.Put.{Puts}
use Rattle.text_put.proofs.Buffer.{puts_nothing, puts_then, puts_as}
use Rattle.print_lines.specs.Line.{start_line, step_line}
use Rattle.print_tables.specs.Print.{start_lines, step_lines}

starts_next : (n i : ℕ) (es : List ℕ) → start_lines n i es ++ start_line (i + n) (get_or es (i + n) none_entry) ≡ start_lines (suc n) i es
unfolding start_lines
starts_next zero i es =
    let here : i + 0 ≡ i = omega arith in
    ap (λ (j : ℕ). start_line j (get_or es j none_entry)) here ∙ sym (append-nil (start_line i (get_or es i none_entry)))
starts_next (suc n) i es =
    let there : i + suc n ≡ suc i + n = omega arith in
    append_assoc (start_line i (get_or es i none_entry)) (start_lines n (suc i) es) _
    ∙ ap (λ (j : ℕ). start_line i (get_or es i none_entry) ++ (start_lines n (suc i) es ++ start_line j (get_or es j none_entry))) there
    ∙ ap (λ (t : List ℕ). start_line i (get_or es i none_entry) ++ t) (starts_next n (suc i) es)

steps_next : (k r c n at : ℕ) (es : List ℕ) → step_lines k r c n at es ++ step_line c n (r + k) (get_or es (at + (r + k)) none_entry) ≡ step_lines (suc k) r c n at es
unfolding step_lines
steps_next zero r c n at es =
    let here : r + 0 ≡ r = omega arith in
    ap (λ (j : ℕ). step_line c n j (get_or es (at + j) none_entry)) here ∙ sym (append-nil (step_line c n r (get_or es (at + r) none_entry)))
steps_next (suc k) r c n at es =
    let there : r + suc k ≡ suc r + k = omega arith in
    append_assoc (step_line c n r (get_or es (at + r) none_entry)) (step_lines k (suc r) c n at es) _
    ∙ ap (λ (j : ℕ). step_line c n r (get_or es (at + r) none_entry) ++ (step_lines k (suc r) c n at es ++ step_line c n j (get_or es (at + j) none_entry))) there
    ∙ ap (λ (t : List ℕ). step_line c n r (get_or es (at + r) none_entry) ++ t) (steps_next k (suc r) c n at es)

-- a loop's beginning and end
pub starts_none : (d : List ℕ) (at : ℕ) (es : List ℕ) → Puts d at (start_lines 0 0 es) at d
unfolding start_lines
starts_none d at es = puts_nothing d at

pub starts_end : {d : List ℕ} {at : ℕ} (es : List ℕ) {r : ℕ} {e : List ℕ} (i n : ℕ) → Puts d at (start_lines i 0 es) r e → i ≤ n → n ≤ i
    → Puts d at (start_lines n 0 es) r e
starts_end es i n P h l = let all : i ≡ n = omega arith in puts_as (ap (λ (k : ℕ). start_lines k 0 es) all) P

pub steps_none : (d : List ℕ) (at c n first : ℕ) (es : List ℕ) → Puts d at (step_lines 0 0 c n first es) at d
unfolding step_lines
steps_none d at c n first es = puts_nothing d at

pub steps_end : {d : List ℕ} {at : ℕ} (c n first : ℕ) (es : List ℕ) {r : ℕ} {e : List ℕ} (k m : ℕ) → Puts d at (step_lines k 0 c n first es) r e → k ≤ m → m ≤ k
    → Puts d at (step_lines m 0 c n first es) r e
steps_end c n first es k m P h l = let all : k ≡ m = omega arith in puts_as (ap (λ (j : ℕ). step_lines j 0 c n first es) all) P

-- one line on, in a buffer: the entry that was read is the table's
pub starts_on : {d : List ℕ} {at : ℕ} {m : ℕ} {f : List ℕ} {r : ℕ} {e : List ℕ} (i : ℕ) (es : List ℕ) → i < length es
    → Puts d at (start_lines i 0 es) m f → Puts f m (start_line i (get_or es i 0)) r e → Puts d at (start_lines (i + 1) 0 es) r e
starts_on i es h P Q =
    let next : i + 1 ≡ suc i = omega arith in
    let here : 0 + i ≡ i = omega arith in
    let read : start_line i (get_or es i 0) ≡ start_line (0 + i) (get_or es (0 + i) none_entry) =
    ap (start_line i) (any_default es i 0 none_entry h) ∙ ap (λ (j : ℕ). start_line j (get_or es j none_entry)) (sym here) in
    puts_as (starts_next i 0 es ∙ ap (λ (n : ℕ). start_lines n 0 es) (sym next)) (puts_then P (puts_as read Q))

pub steps_on : {d : List ℕ} {at : ℕ} {m : ℕ} {f : List ℕ} {r : ℕ} {e : List ℕ} (k c n first : ℕ) (es : List ℕ) → first + k < length es
    → Puts d at (step_lines k 0 c n first es) m f → Puts f m (step_line c n k (get_or es (first + k) 0)) r e → Puts d at (step_lines (k + 1) 0 c n first es) r e
steps_on k c n first es h P Q =
    let next : k + 1 ≡ suc k = omega arith in
    let here : 0 + k ≡ k = omega arith in
    let read : step_line c n k (get_or es (first + k) 0) ≡ step_line c n (0 + k) (get_or es (first + (0 + k)) none_entry) =
    ap (step_line c n k) (any_default es (first + k) 0 none_entry h) ∙ ap (λ (j : ℕ). step_line c n j (get_or es (first + j) none_entry)) (sym here) in
    puts_as (steps_next k 0 c n first es ∙ ap (λ (j : ℕ). step_lines j 0 c n first es) (sym next)) (puts_then P (puts_as read Q))
