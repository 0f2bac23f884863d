-- Writing a game, and what it promises.
use Prim.Native.Nat.{ℕ, ◌≤◌, ◌<◌}
use native.Mathlib.Omega.{arith}
use mathlib.Core.Bool.{Bool, true, false, not}
use mathlib.Core.List.{List, [], ◌∷◌}
use mathlib.Core.Path.{◌≡◌, refl, sym, ◌∙◌, ap, subst}
use lib.Dec.{ltb}
use lib.ListN.{length, take, drop}
use lib.Seq.{sets, take_at}
use borrow.Author.Tests.{lt-ltb, le-ltb}
use Rattle.game.specs.Acceptance.{accepted, acceptance}
use Rattle.game.specs.declared.Game.{Game}
use Rattle.game.specs.Acceptance.{Acceptance}
use Rattle.game.proofs.Laws.{accepted_fits}
use Rattle.game.specs.Numbers.{first_of}
use Rattle.game.proofs.Numbers.{after, game_after}
use Rattle.text_shape.specs.Text.{game_text}
use Rattle.text_put.specs.Put.{Writable}
use Rattle.text_put.proofs.Buffer.{sets_front}
use Rattle.text.specs.Write.{answer_by, buffer_by, write_answer, write_buffer, write_tests, written_number, ReadsBack, Writes}
use Rattle.text.proofs.Arrays.{Arrays}
use Rattle.text.proofs.OneText.{accepted_shaped, read_written}
use Rattle.text.specs.WriteAnswer.{WriteAnswer}
use Rattle.std.specs.declared.result.Result.TheVariants.{Ok, Err}
use Rattle.game.specs.declared.Refusal.{Refusal}
use Rattle.game.specs.declared.Refusal.TheVariants.{ShortText}

-- an accepted game can be written

pub accepted_writable : (g : Game) → acceptance g ≡ accepted → Writable g
accepted_writable g h =
    let F = accepted_fits g h in
    let k = F.few in
    record {
      inputs = F.input.most;
      outputs = F.output.most;
      k = F.few;
      sets = λ r l. let q = F.requirement r (omega arith) in record { assumed = q.few_assumed; guaranteed = q.few_guaranteed };
    }

-- the number
write_number : (g : Game) (d : List ℕ) → written_number (write_answer g d) ≡ first_of (write_tests g d)
unfolding write_answer write_tests answer_by first_of
write_number g d = go (acceptance g) ∙ sym (game_after g (room ∷ []))
  where
    room : ℕ × Bool
    room = (13, not (ltb (length d) (length (game_text g))))

    short : (b : Bool)
        → written_number (elim b as (λ x. WriteAnswer) [ true ↦ Err ShortText | false ↦ Ok (length (game_text g)) ]) ≡ first_of ((13, not b) ∷ [])
    short true = refl
    short false = refl

    go : (a : Acceptance) → written_number (answer_by a (game_text g) d) ≡ after a (first_of (room ∷ []))
    go (Ok u) = short (ltb (length d) (length (game_text g)))
    go (Err n) = refl

writes_as : (g : Game) (d : List ℕ) {r : WriteAnswer} {e : List ℕ} → r ≡ write_answer g d → e ≡ write_buffer g d
    → ((n : ℕ) → r ≡ Ok n → ReadsBack g (take n e)) → Writes g d r e
writes_as g d h q b = record { answer = h; number = ap written_number h ∙ write_number g d; buffer = q; reads_back = b }

-- a refusal has written nothing
none_written : (g : Game) (e : List ℕ) (r : Refusal) (n : ℕ) → ◌≡◌ {A = WriteAnswer} (Err r) (Ok n) → ReadsBack g (take n e)
none_written g e r n h = let z : ◌≡◌ {A = ℕ} 0 1 = cc in absurd (omega arith)

-- the text of an accepted game whose lists are arrays
text_back : (g : Game) → acceptance g ≡ accepted → Arrays g → ReadsBack g (game_text g)
text_back g h A = record { game = λ l q R. read_written g q h (accepted_shaped g h A) l R; long = λ l q R. R.long l }

pub writes_refused : (g : Game) (d : List ℕ) (r : Refusal) → acceptance g ≡ Err r → Writes g d (Err r) d
unfolding write_answer write_buffer answer_by buffer_by
writes_refused g d r h =
    writes_as g d (sym (ap (λ (a : Acceptance). answer_by a (game_text g) d) h))
    (sym (ap (λ (a : Acceptance). buffer_by a (game_text g) d) h)) (none_written g d r)

module _ (g : Game) (d : List ℕ) (h : acceptance g ≡ accepted) where
  pub writes_short : length d < length (game_text g) → Writes g d (Err ShortText) d
  unfolding write_answer write_buffer answer_by buffer_by
  writes_short l =
      let b = lt-ltb (length d) (length (game_text g)) l in
      writes_as g d (sym (ap (λ (a : Acceptance). answer_by a (game_text g) d) h ∙ rw (b, answer_by)))
      (sym (ap (λ (a : Acceptance). buffer_by a (game_text g) d) h ∙ rw (b, buffer_by))) (none_written g d ShortText)

  pub writes_text : (n : ℕ) (e : List ℕ) → Arrays g → n ≡ length (game_text g) → length (game_text g) ≤ length d
      → e ≡ sets d 0 (game_text g) → Writes g d (Ok n) e
  unfolding write_answer write_buffer answer_by buffer_by
  writes_text n e A p l q =
      let front = q ∙ sets_front d (game_text g) l in
      let text : (m : ℕ) → ◌≡◌ {A = WriteAnswer} (Ok n) (Ok m) → take m e ≡ game_text g = λ m v.
      let same : n ≡ m = cc in
      ap (take m) front ∙ take_at (game_text g) (drop (length (game_text g)) d) m (sym p ∙ same) in
      let b = le-ltb (length d) (length (game_text g)) l in
      writes_as g d (ap Ok p ∙ sym (ap (λ (a : Acceptance). answer_by a (game_text g) d) h ∙ rw (b, answer_by)))
      (front ∙ sym (ap (λ (a : Acceptance). buffer_by a (game_text g) d) h ∙ rw (b, buffer_by)))
      (λ m v. subst (ReadsBack g) (sym (text m v)) (text_back g h A))
