-- A tally under way: the outcomes of the names before a place are counted.
use Prim.Native.Nat.{ℕ, ◌+◌, ◌-◌, ◌≤◌, ◌<◌}
use native.Mathlib.Omega.{arith}
use native.Mathlib.Decide.{dec_le}
use mathlib.Core.Bool.{Bool, true, false}
use mathlib.Core.List.{List, [], ◌∷◌, ◌++◌, append_assoc, append-nil}
use mathlib.Core.Logic.{inl, inr}
use mathlib.Core.Path.{◌≡◌, refl, sym, ◌∙◌, ap, subst}
use lib.IntN.{ℤ, pos}
use Rattle.files.specs.declared.Front.{Front}
use Rattle.files.specs.Front.{front_of}
use lib.ListN.{length, take, drop, length-append, length-drop, length-map}
use lib.Seq.{take_at}
use borrow.Author.Tests.{le-leb, lt-leb}
use Rattle.text_shape.proofs.WordTable.{opening_short}
use Rattle.text_grammar.specs.Number.{decimal}
use Rattle.text_shape.specs.Shape.{opening}
use Rattle.text_put.specs.Put.{Puts, PutsWithin}
use Rattle.text_put.proofs.Buffer.{puts_fills}
use Rattle.print_lines.specs.Line.{refused_line}
use Rattle.print_lines.proofs.Lines.{number_short, refused_pieces}
use Rattle.catalogue_names.specs.Names.{names, front, fit_name, NextName}
use Rattle.catalogue_names.proofs.Splitting.{past, take_front, front_short}
use Rattle.catalogue_names.specs.declared.Kept.{Kept}
use Rattle.catalogue_names.specs.Keeping.{cut, Held}
use Rattle.catalogue_names.specs.Keeping.{nothing as nothing-kept}
use Rattle.catalogue_names.proofs.Keeping.{held_nothing, held_more, held_within}
use Rattle.catalogue_names.proofs.Cut.{short, kept_names, fit_cut}
use Rattle.catalogue_tally.specs.Outcome.{Outcome}
use Rattle.catalogue_tally.specs.declared.Tally.{Tally}
use Rattle.catalogue_tally.specs.Figures.{Tallied, Within, Roomy, Modest, added, empty_tally, won_of, positions_of}
use Rattle.catalogue_tally.proofs.Counting.{tallied_add, tallied_roomy, tallied_nothing, within_add, within_nothing}
use Rattle.catalogue_verdict.specs.Judged.{Judged}
use Rattle.catalogue_lines.specs.Figures.{figures_print, figures_bytes}
use Rattle.catalogue.specs.Catalogue.{FromFront, FromOpen, FromFile, ForName, Each, Catalogued, PrintOf, Printed, MoreKept, InputKept, KeptPrinted, Goes}
use Rattle.std.specs.declared.result.Result.TheVariants.{Err}
use Rattle.game.specs.declared.Refusal.TheVariants.{Unread}

-- the refusal 26

modest_26 : Modest (Err Unread)
unfolding won_of positions_of
modest_26 = record { won = omega arith; positions = omega arith }

no_file : FromFile (Err Unread) × Modest (Err Unread)
unfolding FromFile
no_file = (inl refl, modest_26)

-- the file that was read
module _ (f : Front) where
  pub not_whole : {b : Bool} → b ≡ f.whole → b ≡ false → FromFront f (Err Unread) × Modest (Err Unread)
  unfolding FromFront
  not_whole e h = (rw (sym e ∙ h, FromFront) refl, modest_26)

  pub from_front : {b : Bool} {s : List ℕ} {o : Outcome} → b ≡ f.whole → b ≡ true → s ≡ front_of f → Judged s o × Modest o → FromFront f o × Modest o
  unfolding FromFront
  from_front {o = o} e h q J = (rw (sym e ∙ h, FromFront) (subst (λ (x : List ℕ). Judged x o) q J.0), J.1)

  pub from_open : {o : Outcome} → FromFront f o × Modest o → FromOpen o × Modest o
  unfolding FromOpen
  from_open F = ((f, F.0), F.1)

module _ (n : List ℕ) where
  pub unfit_name : {b : Bool} → b ≡ fit_name n → b ≡ false → ForName n (Err Unread) × Modest (Err Unread)
  unfolding ForName
  unfit_name e h = (rw (sym e ∙ h, ForName) refl, modest_26)

  fit_file : {b : Bool} {o : Outcome} → b ≡ fit_name n → b ≡ true → FromFile o × Modest o → ForName n o × Modest o
  unfolding ForName
  fit_file e h F = (rw (sym e ∙ h, ForName) F.0, F.1)

  pub fit_none : {b : Bool} → b ≡ fit_name n → b ≡ true → ForName n (Err Unread) × Modest (Err Unread)
  fit_none e h = fit_file e h no_file

  pub fit_open : {b : Bool} {o : Outcome} → b ≡ fit_name n → b ≡ true → FromOpen o × Modest o → ForName n o × Modest o
  unfolding FromFile
  fit_open e h F = fit_file e h (inr F.0, F.1)

pub name_within : (l : List ℕ) (at : ℕ) {e : ℕ} → at ≤ length l → e ≡ at + length (front (drop at l)) → (at ≤ e) × (e ≤ length l)
name_within l at h q = (omega arith, omega (arith, front_short (drop at l), length-drop at l))

pub record Under (l : List ℕ) (at : ℕ) (t : Tally) : Type 0 where
  pub outcomes : List Outcome
  pub each : (rest : List Outcome) → Each (names (drop at l)) rest → Each (names l) (outcomes ++ rest)
  pub tallied : Tallied outcomes t
  pub within : Within outcomes t
  pub few : length outcomes + length (names (drop at l)) ≡ length (names l)

pub under_start : (l : List ℕ) {t : Tally} → t ≡ empty_tally → Under l 0 t
under_start l e =
    record {
      outcomes = [];
      each = λ rest E. E;
      tallied = subst (Tallied []) (sym e) tallied_nothing;
      within = subst (Within []) (sym e) within_nothing;
      few = omega arith;
    }

module _ {l : List ℕ} {at : ℕ} {t : Tally} (U : Under l at t) where
  pub under_roomy : length (names l) ≤ 1000 → Roomy t
  under_roomy h = tallied_roomy U.tallied (omega (arith, U.few)) U.within

  -- the name at the place
  pub under_step : {e r : ℕ} {o : Outcome} {u : Tally} → e ≡ at + length (front (drop at l)) → NextName l at r
      → ForName (take (e - at) (drop at l)) o × Modest o → u ≡ added t o → Under l r u
  unfolding Each
  under_step {e} {r} {o} q N F a =
      let cut : e - at ≡ length (front (drop at l)) = omega arith in
      let name : take (e - at) (drop at l) ≡ front (drop at l) = ap (λ (k : ℕ). take k (drop at l)) cut ∙ take_front (drop at l) in
      let here = subst (λ (n : List ℕ). ForName n o) name F.0 in
      record {
        outcomes = U.outcomes ++ o ∷ [];
        each = λ rest E.
            subst (Each (names l)) (sym (append_assoc U.outcomes (o ∷ []) rest))
            (U.each (o ∷ rest) (subst (λ (ns : List (List ℕ)). Each ns (o ∷ rest)) (sym N.name) (here, E)));
        tallied = subst (Tallied (U.outcomes ++ o ∷ [])) (sym a) (tallied_add U.tallied o);
        within = subst (Within (U.outcomes ++ o ∷ [])) (sym a) (within_add o U.within F.1);
        few = omega (arith, U.few, ap length N.name, length-append U.outcomes (o ∷ []));
      }

  pub under_end : length l ≤ at → Catalogued l t
  unfolding Each names
  under_end h =
      record {
        outcomes = U.outcomes;
        each =
            subst (Each (names l)) (append-nil U.outcomes)
            (U.each [] (subst (λ (x : List ℕ). Each (names x) []) (sym (past l at h)) tt));
        tallied = U.tallied;
      }

-- the print
module _ {l d : List ℕ} {n : ℕ} {e : List ℕ} (room : figures_bytes ≤ length d) where
  pub prints_many : {k : ℕ} → k ≡ length (names l) → 1000 < k → Puts d 0 (refused_line 27) n e → Printed l d n e
  unfolding PrintOf
  prints_many q h P =
      record {
        text = refused_line 27;
        print = rw (lt-leb (length (names l)) 1000 (omega arith), PrintOf) refl;
        fills = puts_fills P (omega (arith, room, refused_short));
      }
    where
      refused_short : length (refused_line 27) ≤ 60
      refused_short =
          omega (
            arith,
            ap length (refused_pieces 27),
            length-append (opening 7) ((decimal 27 ++ 41 ∷ []) ++ 10 ∷ []),
            length-append (decimal 27 ++ 41 ∷ []) (10 ∷ []),
            opening_short 7,
            number_short 27 41 (omega arith),
          )

  pub prints_figures : {k : ℕ} {t : Tally} → k ≡ length (names l) → k ≤ 1000 → Catalogued l t → PutsWithin figures_bytes d (figures_print t) n e → Printed l d n e
  unfolding PrintOf
  prints_figures {k} {t} q h C M =
      record {
        text = figures_print t;
        print = rw (le-leb (length (names l)) 1000 (omega arith), PrintOf) (t, C, refl);
        fills = puts_fills M.puts (omega (arith, room, M.fits));
      }

-- the list as it is kept
for_short : (n : List ℕ) (o : Outcome) → ForName (take 256 n) o → ForName n o
unfolding ForName
for_short n o F = rw (fit_cut n, ForName) at F

each_short : (ns : List (List ℕ)) (os : List Outcome) → Each (short ns) os → Each ns os
unfolding Each
each_short [] [] E = E
each_short [] (o ∷ os) E = E
each_short (n ∷ ns) [] E = E
each_short (n ∷ ns) (o ∷ os) E = (for_short n o E.0, each_short ns os E.1)

module _ (s l t : List ℕ) where
  print_many : 1000 < length (names l) → 1000 < length (names s) → PrintOf l t → PrintOf s t
  unfolding PrintOf
  print_many h g P =
      let p = rw (lt-leb (length (names l)) 1000 h, PrintOf) at P in
      rw (lt-leb (length (names s)) 1000 g, PrintOf) p

  print_few : names l ≡ short (names s) → length (names l) ≤ 1000 → PrintOf l t → PrintOf s t
  unfolding PrintOf
  print_few q h P =
      let p = rw (le-leb (length (names l)) 1000 h, PrintOf) at P in
      let g : length (names s) ≤ 1000 = omega (arith, ap length q, length-map (names s) (take 256)) in
      let C = p.1 in
      let each = each_short (names s) C.outcomes (subst (λ (ns : List (List ℕ)). Each ns C.outcomes) q C.each) in
      let now : Catalogued s p.0 = record { outcomes = C.outcomes; each = each; tallied = C.tallied } in
      rw (le-leb (length (names s)) 1000 g, PrintOf) (p.0, now, p.2)

  print_short : names l ≡ short (names s) → PrintOf l t → PrintOf s t
  print_short q P =
      elim (dec_le (length (names l)) 1000) [
        | yes h ↦ print_few q h P
        | no h ↦ print_many (omega arith) (omega (arith, ap length q, length-map (names s) (take 256))) P
      ]

-- the print for what is kept of a list is the print for the list
kept_print_of : (s : List ℕ) (m : ℕ) (t : List ℕ) → 257000 < m → PrintOf (take m (cut 0 s)) t → PrintOf s t
kept_print_of s m t h P = elim (kept_names s m h) [ inl q ↦ print_short s (take m (cut 0 s)) t q P | inr q ↦ print_many s (take m (cut 0 s)) t q.0 q.1 P ]

-- standard input, part by part
pub input_nothing : (d : List ℕ) {k : Kept} → k ≡ nothing-kept → InputKept d k
input_nothing d e = record { input = []; held = subst (Held [] d) (sym e) (held_nothing d) }

pub input_more : {d e : List ℕ} {k r : Kept} → InputKept d k → MoreKept d k r e → InputKept e r
input_more I M = record { input = I.input ++ M.part; held = held_more I.held M.keeps }

pub input_within : {d : List ℕ} {k : Kept} → InputKept d k → k.len ≤ length d
input_within I = held_within I.held

module _ {l : List ℕ} {k : Kept} {d : List ℕ} {n : ℕ} {e : List ℕ} where
  pub kept_print : 257000 < length l → Printed (take k.len l) d n e → KeptPrinted l k d n e
  kept_print h P =
      record {
        text = P.text;
        print = λ s H. kept_print_of s (length l) P.text h (subst (λ (x : List ℕ). PrintOf x P.text) H.front P.print);
        fills = P.fills;
      }

  -- the front that was written is the print
  pub kept_within : KeptPrinted l k d n e → n ≤ length e
  kept_within P = omega (arith, P.fills.bytes, ap length P.fills.buffer, length-append P.text (drop n d))

  pub kept_front : {fd : ℤ} → fd ≡ pos 1 → KeptPrinted l k d n e → Goes fd l k (take n e)
  kept_front q P = record { output = q; print = λ s H. subst (PrintOf s) (sym front) (P.print s H) }
    where
      front : take n e ≡ P.text
      front = ap (take n) P.fills.buffer ∙ take_at P.text (drop n d) n (sym P.fills.bytes)
