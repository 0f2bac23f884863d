-- Findings, told of places.
--
--   starting_input                         : the input of a start's place
--   stepped_walked                         : a walk of places is a walk of configurations
--   found_start, found_row, found_round    : the three findings
--   breaks_found                           : a round outside an output set that visits each input set breaks the requirement
use Prim.Native.Nat.{ℕ, suc, ◌+◌, ◌-◌, ◌*◌, ◌/◌, ◌%◌, ◌≤◌, ◌<◌}
use native.Mathlib.Nat.{div-add-mod'}
use mathlib.Core.Path.{◌≡◌, sym, ◌∙◌, ap}
use mathlib.Core.Bool.{Bool, true, false}
use mathlib.Core.List.{Memᴰ}
use mathlib.Core.Logic.{inl, inr}
use native.Mathlib.Omega.{arith}
use Rattle.finite.specs.Tabulate.{tabulate_from}
use Rattle.finite.proofs.Truth.{clash, false_of}
use Rattle.arena.specs.Arena.{Requirement, Arena}
use Rattle.arena.specs.Table.{ControllerTable}
use Rattle.arena.specs.Play.{Configuration, visits_output, breaks}
use Rattle.arena.specs.Bounds.{Bounded}
use Rattle.arena.proofs.Meets.{visits_input_intro, visits_output_elim}
use Rattle.theory.proofs.Sets.{breaks_when}
use Rattle.checker_places.specs.Place.{place_count, place, placed, starting, leads}
use Rattle.checker_places.specs.Finding.{Walked, BadStart, BadRow, BadRound}
use Rattle.checker_places.specs.Marked.{Stepped}
use Rattle.checker_places.proofs.Place.{place_input, placed_inside, place_placed, lead_cases, named_inside, lead_bad, leads_at, place_first}
use Rattle.checker_places.proofs.WalkPart.{entry_in, entry_of}
use Rattle.checker_places.proofs.OnPlaces.{turn_placed}

-- the entries number b to b + m - 1 of a walk
breaks_found : (at : ℕ → Configuration) (b m : ℕ) (q : Requirement) (Q : ℕ → Bool) → Memᴰ Q q.guarantees
    → ((k : ℕ) → b ≤ k → k < b + m → Q (at k).output ≡ false)
    → ((s : ℕ → Bool) → Memᴰ s q.assumptions → (k : ℕ) × (b ≤ k) × (k < b + m) × (s (at k).input ≡ true))
    → breaks q (tabulate_from b m at) ≡ true
breaks_found at b m q Q i outside visited =
    breaks_when q (tabulate_from b m at) (λ s n. let v = visited s n in visits_input_intro s (entry_in at b m v.0 v.1 v.2) v.3) Q i
    (false_of (visits_output Q (tabulate_from b m at)) missed)
  where
    missed : visits_output Q (tabulate_from b m at) ≡ true → ⊥
    missed h =
        let v = visits_output_elim Q (tabulate_from b m at) h in
        let e = entry_of at b m v.0 v.1 in
        clash (ap (λ (c : Configuration). Q c.output) (sym e.3) ∙ v.2) (outside e.0 e.1 e.2)

module _ (A : Arena) (T : ControllerTable) (B : Bounded A) (few : place_count A T.memories ≤ 65535) where
  abbrev I : ℕ
  I = A.inputs

  abbrev M : ℕ
  M = T.memories

  pub starting_input : (i : ℕ) → i < A.inputs → starting A T i < 65535 → starting A T i % A.inputs ≡ i
  unfolding starting
  starting_input i b l =
      elim (lead_cases A M (A.opening i) i (T.start i)) [
        | inl x ↦ ap (λ (y : ℕ). y % I) x.1
            ∙ place_input A M (record { input = i; output = x.0.state; memory = x.0.memory })
            (named_inside A M (A.opening i) i (B.opening i) few b x.0.names)
        | inr e ↦ absurd (omega (arith, l, e))
      ]

  pub found_start : (i : ℕ) → A.in_initial i ≡ true → starting A T i ≡ 65535 → BadStart A T i
  unfolding starting
  found_start i h e = record { initial = h; bad = lead_bad A M (A.opening i) i (B.opening i) few (B.initial i h) (T.start i) e }

  module _ (w : ℕ → ℕ) (n : ℕ) (W : Stepped A T w n) where
    stepped_walked : Walked A T (λ k. placed A.inputs T.memories (w k)) n
    unfolding placed
    stepped_walked = record {
      some = W.some;
      first = place_first A T B few (placed I M (w 0)) (placed_inside A M (w 0) (W.below 0 W.some)) W.initial
          (W.start ∙ sym (place_placed A M (w 0) (W.below 0 W.some)));
      turn = λ k l. turn_placed A T B few (w k) (w (suc k)) (W.below k (omega (arith, l))) (W.below (suc k) l) (W.turn k l);
    }

    last_below : w (n - 1) < place_count A T.memories
    last_below = let s = W.some in W.below (n - 1) (omega (arith, s))

    -- x is the row after the walk: its output and counter are those of the last place, its input is the next one
    pub found_row : (x : ℕ) → x / A.inputs ≡ w (n - 1) / A.inputs → A.in_move (w (n - 1) % A.inputs) (x % A.inputs) ≡ true → leads A T x ≡ 65535
        → BadRow A T (λ k. placed A.inputs T.memories (w k)) n (x % A.inputs)
    unfolding placed
    found_row x e m h =
        let u : ℕ = w (n - 1) in
        let j : ℕ = x % I in
        let b : j < I = B.move (u % I) j m in
        let c : Configuration = placed I M u in
        let back : place I M c / I ≡ x / I = ap (λ (y : ℕ). y / I) (place_placed A M u last_below) ∙ sym e in
        let same : place I M c / I * I + j ≡ x = ap (λ (y : ℕ). y * I + j) back ∙ div-add-mod' x I in
        record {
          walked = stepped_walked;
          move = m;
          bad = lead_bad A M (A.reply j c.output) j (B.reply j c.output) few b (T.step c.memory c.output j)
              (sym (leads_at A T B c j (placed_inside A M u last_below) b) ∙ ap (leads A T) same ∙ h);
        }

    -- the places from number b on are outside Q and visit every input set
    pub found_round : (b : ℕ) (q : Requirement) (Q : ℕ → Bool) → suc b < n → w (n - 1) ≡ w b → Memᴰ q A.requirements → Memᴰ Q q.guarantees
        → ((k : ℕ) → b ≤ k → k < n → Q (w k / A.inputs / T.memories) ≡ false)
        → ((s : ℕ → Bool) → Memᴰ s q.assumptions → (k : ℕ) × (b ≤ k) × (k < n) × (s (w k % A.inputs) ≡ true))
        → BadRound A T (λ k. placed A.inputs T.memories (w k)) n b q
    unfolding placed
    found_round b q Q l e i m outside visited = record {
      walked = stepped_walked;
      before = l;
      closes = ap (placed I M) e;
      required = i;
      broken = breaks_found (λ k. placed I M (w k)) b (n - b) q Q m (λ k f g. outside k f (omega (arith, f, g, l)))
          (λ s j. let v = visited s j in (v.0, v.1, omega (arith, v.1, v.2, l), v.3));
    }
