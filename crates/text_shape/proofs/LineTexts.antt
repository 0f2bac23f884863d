-- The lines of a game's text.
use Prim.Native.Nat.{ℕ, ◌+◌, ◌≤◌, ◌<◌}
use native.Mathlib.Omega.{arith}
use mathlib.Core.Bool.{true, false}
use mathlib.Core.List.{List, [], ◌∷◌, ◌++◌, append_assoc, append-nil}
use mathlib.Core.Path.{◌≡◌, refl, sym, ◌∙◌, ap, subst}
use Rattle.bits.specs.Member.{within}
use Rattle.sets.specs.Words.{capacity}
use Rattle.sets.proofs.Rows.{bits_of_lem}
use Rattle.text_grammar.specs.Format.{Format, TextOf, Live, lit, bind, chars, Bytes}
use Rattle.text_grammar.specs.Format.Format.{done}
use Rattle.text_grammar.specs.Number.{decimal, digit}
use Rattle.text_grammar.proofs.Format.{
  lit_text,
  lit_parts,
  lit_live,
  lit_node,
  bind_text,
  bind_parts,
  bind_live,
  chars_text,
  chars_only,
  chars_live,
  done_text,
  done_parts,
  done_live,
}
use Rattle.text_grammar.proofs.Number.{num_text, num_parts, num_live, ends_lit}
use Rattle.game.specs.declared.Requirement.{Requirement}
use Rattle.text_shape.specs.Text.{
  words,
  word,
  items,
  gap_text,
  bracket,
  line,
  set_text,
  sets_text,
  header_line,
  state_line,
  in_words,
  out_words,
  in_sets,
  out_sets,
  requirement_line,
  ShapedSets,
  ShapedRequirement,
}
use Rattle.text_shape.specs.Shape.{
  set_format,
  Sets,
  sets_format,
  opening,
  num_then,
  Header,
  outputs_format,
  header_format,
  StateRow,
  row_format,
  state_format,
  requirement,
  guarantees_format,
  requirement_format,
}
use Rattle.text_shape.proofs.Members.{set_sound, set_complete, set_live}
use Rattle.text_shape.proofs.SetLists.{list_sound, list_complete, sets_live}

-- fixed bytes, and then a format
chars_then : {R : Type 0} (t : List ℕ) (f : Format R) (u : List ℕ) (r : R) → TextOf f u r → TextOf (bind (chars t) (λ _. f)) (t ++ u) r
chars_then t f u r p = bind_text (chars t) (λ _. f) t u tt r (chars_text t) p

chars_parts : {R : Type 0} (t : List ℕ) (f : Format R) (s : List ℕ) (r : R) → TextOf (bind (chars t) (λ _. f)) s r → (u : List ℕ) × (s ≡ t ++ u) × TextOf f u r
chars_parts t f s r p =
    let P = bind_parts (chars t) (λ _. f) s r p in
    (P.back, P.whole ∙ ap (λ (l : List ℕ). l ++ P.back) (chars_only t P.front P.is_front), P.is_back)

-- a number and a byte
module _ (lo hi b : ℕ) (small : hi < 1000) (plain : digit b ≡ false) where
  number_text : (v : ℕ) → lo ≤ v → v ≤ hi → TextOf (num_then lo hi b) (decimal v ++ b ∷ []) v
  unfolding num_then
  number_text v p q =
      num_text lo hi (λ u. lit b (done u)) v (b ∷ []) v small p q (ends_lit b (done v) plain) (lit_text b (done v) [] v (done_text v))

  number_live : lo ≤ hi → b < 256 → Live (num_then lo hi b)
  unfolding num_then
  number_live p q = num_live lo hi (λ u. lit b (done u)) p small (λ u l h. (lit_live b (done u) q (done_live u), lit_node b (done u)))

number_parts : (lo hi b : ℕ) (t : List ℕ) (v : ℕ) → TextOf (num_then lo hi b) t v → (lo ≤ v) × (v ≤ hi) × (t ≡ decimal v ++ b ∷ [])
unfolding num_then
number_parts lo hi b t v p =
    let N = num_parts lo hi (λ u. lit b (done u)) t v p in
    let L = lit_parts b (done N.value) N.back v N.is_back in
    let D = done_parts N.value L.0 v L.2 in
    let e : N.value ≡ v = sym D.1 in (
      subst (λ (u : ℕ). lo ≤ u) e N.low,
      subst (λ (u : ℕ). u ≤ hi) e N.high,
      N.whole ∙ ap (λ (u : ℕ). decimal u ++ N.back) e ∙ ap (λ (l : List ℕ). decimal v ++ l) (L.1 ∙ ap (λ (l : List ℕ). b ∷ l) D.0),
    )

-- (game I O K)
pub header_pieces : (i o k : ℕ) → opening 0 ++ ((decimal i ++ 32 ∷ []) ++ ((decimal o ++ 32 ∷ []) ++ ((decimal k ++ 41 ∷ []) ++ 10 ∷ []))) ≡ header_line i o k
unfolding header_line line bracket items gap_text opening
header_pieces i o k = simp (append_assoc, append-nil)

pub record HeaderParts (t : List ℕ) (h : Header) : Type 0 where
  pub some_inputs : 1 ≤ h.inputs
  pub most_inputs : h.inputs ≤ capacity
  pub some_outputs : 1 ≤ h.outputs
  pub most_outputs : h.outputs ≤ capacity
  pub most_k : h.k ≤ 8
  pub text : t ≡ header_line h.inputs h.outputs h.k

counts : ℕ → ℕ → ℕ → Header
counts i o k = record { inputs = i; outputs = o; k = k }

header_end : ℕ → ℕ → ℕ → Format Header
header_end i o k = lit 10 (done (counts i o k))

header_k : ℕ → ℕ → Format Header
header_k i o = bind (num_then 0 8 41) (λ k. header_end i o k)

header_o : ℕ → Format Header
header_o i = bind (num_then 1 capacity 32) (λ o. header_k i o)

header_i : Format Header
header_i = bind (num_then 1 capacity 32) (λ i. header_o i)

header_is : header_format ≡ bind (chars (opening 0)) (λ _. header_i)
unfolding header_format outputs_format header_i header_o header_k header_end counts
header_is = refl

pub header_sound : (t : List ℕ) (h : Header) → TextOf header_format t h → HeaderParts t h
unfolding header_i header_o header_k header_end counts
header_sound t h p =
    let C = chars_parts (opening 0) header_i t h (rw header_is at p) in
    let I = bind_parts (num_then 1 capacity 32) (λ i. header_o i) C.0 h C.2 in
    let i = number_parts 1 capacity 32 I.front I.value I.is_front in
    let O = bind_parts (num_then 1 capacity 32) (λ o. header_k I.value o) I.back h I.is_back in
    let o = number_parts 1 capacity 32 O.front O.value O.is_front in
    let K = bind_parts (num_then 0 8 41) (λ k. header_end I.value O.value k) O.back h O.is_back in
    let k = number_parts 0 8 41 K.front K.value K.is_front in
    let L = lit_parts 10 (done (counts I.value O.value K.value)) K.back h K.is_back in
    let D = done_parts (counts I.value O.value K.value) L.0 h L.2 in
    let whole : t ≡ header_line I.value O.value K.value =
    C.1 ∙ ap (λ (l : List ℕ). opening 0 ++ l)
    (I.whole ∙ ap (λ (l : List ℕ). l ++ I.back) i.2 ∙ ap (λ (l : List ℕ). (decimal I.value ++ 32 ∷ []) ++ l)
    (O.whole ∙ ap (λ (l : List ℕ). l ++ O.back) o.2 ∙ ap (λ (l : List ℕ). (decimal O.value ++ 32 ∷ []) ++ l)
    (K.whole ∙ ap (λ (l : List ℕ). l ++ K.back) k.2 ∙ ap (λ (l : List ℕ). (decimal K.value ++ 41 ∷ []) ++ l)
    (L.1 ∙ ap (λ (l : List ℕ). 10 ∷ l) D.0))))
    ∙ header_pieces I.value O.value K.value in
    subst (λ (g : Header). HeaderParts t g) (sym D.1)
    (record { some_inputs = i.0; most_inputs = i.1; some_outputs = o.0; most_outputs = o.1; most_k = k.1; text = whole })

pub header_complete : (h : Header) → 1 ≤ h.inputs → h.inputs ≤ capacity → 1 ≤ h.outputs → h.outputs ≤ capacity → h.k ≤ 8
    → TextOf header_format (header_line h.inputs h.outputs h.k) h
unfolding header_i header_o header_k header_end counts digit
header_complete h a b c d e =
    let i = h.inputs in
    let o = h.outputs in
    let k = h.k in
    let end = lit_text 10 (done h) [] h (done_text h) in
    let K = bind_text (num_then 0 8 41) (λ u. header_end i o u) (decimal k ++ 41 ∷ []) (10 ∷ []) k h
    (number_text 0 8 41 (omega arith) refl k (omega arith) e) end in
    let O = bind_text (num_then 1 capacity 32) (λ u. header_k i u) (decimal o ++ 32 ∷ []) _ o h (number_text 1 capacity 32 (omega arith) refl o c d) K in
    let I = bind_text (num_then 1 capacity 32) (λ u. header_o u) (decimal i ++ 32 ∷ []) _ i h (number_text 1 capacity 32 (omega arith) refl i a b) O in
    rw header_is (rw (← header_pieces i o k) (chars_then (opening 0) header_i _ h I))

pub header_live : Live header_format
unfolding header_i header_o header_k header_end digit opening word words Bytes
header_live =
    rw header_is
    (bind_live (chars (opening 0)) (λ _. header_i)
    (chars_live (opening 0) (omega arith, (omega arith, (omega arith, (omega arith, (omega arith, (omega arith, tt)))))))
    (λ t u p. bind_live (num_then 1 capacity 32) (λ i. header_o i) (number_live 1 capacity 32 (omega arith) refl (omega arith) (omega arith))
    (λ t i p. bind_live (num_then 1 capacity 32) (λ o. header_k i o) (number_live 1 capacity 32 (omega arith) refl (omega arith) (omega arith))
    (λ t o p. bind_live (num_then 0 8 41) (λ k. header_end i o k) (number_live 0 8 41 (omega arith) refl (omega arith) (omega arith))
    (λ t k p. lit_live 10 (done (counts i o k)) (omega arith) (done_live (counts i o k)))))))

-- (in S F (moves)), (out S F (moves))
state_words : (w s f x : ℕ) → opening w ++ ((decimal s ++ 32 ∷ []) ++ ((decimal f ++ 32 ∷ []) ++ (set_text x ++ (41 ∷ 10 ∷ [] ++ [])))) ≡ state_line w s f x
unfolding state_line line bracket items gap_text opening
state_words w s f x = simp (append_assoc, append-nil)

row : ℕ → ℕ → StateRow
row f x = record { initial = f; moves = x }

state_end : ℕ → ℕ → Format StateRow
state_end f x = bind (chars (41 ∷ 10 ∷ [])) (λ _. done (row f x))

state_moves : ℕ → Format StateRow
state_moves f = bind set_format (λ x. state_end f x)

state_initial : Format StateRow
state_initial = bind (num_then 0 1 32) (λ f. state_moves f)

state_number : ℕ → Format StateRow
state_number s = bind (num_then s s 32) (λ _. state_initial)

state_is : (w s : ℕ) → state_format w s ≡ bind (chars (opening w)) (λ _. state_number s)
unfolding state_format row_format state_number state_initial state_moves state_end row
state_is w s = refl

pub record StateParts (w s : ℕ) (t : List ℕ) (q : StateRow) : Type 0 where
  pub flag : q.initial ≤ 1
  pub moves : within q.moves capacity ≡ true
  pub text : t ≡ state_line w s q.initial q.moves

pub state_sound : (w s : ℕ) (t : List ℕ) (q : StateRow) → TextOf (state_format w s) t q → StateParts w s t q
unfolding state_number state_initial state_moves state_end row
state_sound w s t q p =
    let C = chars_parts (opening w) (state_number s) t q (rw state_is at p) in
    let S = bind_parts (num_then s s 32) (λ _. state_initial) C.0 q C.2 in
    let n = number_parts s s 32 S.front S.value S.is_front in
    let low = n.0 in
    let high = n.1 in
    let same : S.value ≡ s = omega arith in
    let F = bind_parts (num_then 0 1 32) (λ f. state_moves f) S.back q S.is_back in
    let f = number_parts 0 1 32 F.front F.value F.is_front in
    let X = bind_parts set_format (λ x. state_end F.value x) F.back q F.is_back in
    let x = set_sound X.front X.value X.is_front in
    let E = chars_parts (41 ∷ 10 ∷ []) (done (row F.value X.value)) X.back q X.is_back in
    let D = done_parts (row F.value X.value) E.0 q E.2 in
    let whole : t ≡ state_line w s F.value X.value =
    C.1 ∙ ap (λ (l : List ℕ). opening w ++ l)
    (S.whole ∙ ap (λ (l : List ℕ). l ++ S.back) (n.2 ∙ ap (λ (v : ℕ). decimal v ++ 32 ∷ []) same) ∙ ap (λ (l : List ℕ). (decimal s ++ 32 ∷ []) ++ l)
    (F.whole ∙ ap (λ (l : List ℕ). l ++ F.back) f.2 ∙ ap (λ (l : List ℕ). (decimal F.value ++ 32 ∷ []) ++ l)
    (X.whole ∙ ap (λ (l : List ℕ). l ++ X.back) x.1 ∙ ap (λ (l : List ℕ). set_text X.value ++ l)
    (E.1 ∙ ap (λ (l : List ℕ). 41 ∷ 10 ∷ [] ++ l) D.0))))
    ∙ state_words w s F.value X.value in
    subst (λ (r : StateRow). StateParts w s t r) (sym D.1) (record { flag = f.1; moves = x.0; text = whole })

pub state_complete : (w s : ℕ) (q : StateRow) → s < 1000 → q.initial ≤ 1 → within q.moves capacity ≡ true
    → TextOf (state_format w s) (state_line w s q.initial q.moves) q
unfolding state_number state_initial state_moves state_end row digit
state_complete w s q l f m =
    let i = q.initial in
    let x = q.moves in
    let E = chars_then (41 ∷ 10 ∷ []) (done q) [] q (done_text q) in
    let X = bind_text set_format (λ y. state_end i y) (set_text x) _ x q (set_complete x m) E in
    let F = bind_text (num_then 0 1 32) (λ y. state_moves y) (decimal i ++ 32 ∷ []) _ i q (number_text 0 1 32 (omega arith) refl i (omega arith) f) X in
    let S = bind_text (num_then s s 32) (λ _. state_initial) (decimal s ++ 32 ∷ []) _ s q (number_text s s 32 l refl s (omega arith) (omega arith)) F in
    rw state_is (rw (← state_words w s i x) (chars_then (opening w) (state_number s) _ q S))

pub state_live : (w s : ℕ) → s < 1000 → Bytes (opening w) → Live (state_format w s)
unfolding state_number state_initial state_moves state_end digit Bytes
state_live w s l b =
    rw state_is
    (bind_live (chars (opening w)) (λ _. state_number s) (chars_live (opening w) b)
    (λ t u p. bind_live (num_then s s 32) (λ _. state_initial) (number_live s s 32 l refl (omega arith) (omega arith))
    (λ t v p. bind_live (num_then 0 1 32) (λ f. state_moves f) (number_live 0 1 32 (omega arith) refl (omega arith) (omega arith))
    (λ t f p. bind_live set_format (λ x. state_end f x) set_live
    (λ t x p. bind_live (chars (41 ∷ 10 ∷ [])) (λ _. done (row f x)) (chars_live (41 ∷ 10 ∷ []) (omega arith, (omega arith, tt)))
    (λ t u p. done_live (row f x)))))))

pub in_bytes : Bytes (opening 1)
unfolding opening word words Bytes
in_bytes = (omega arith, (omega arith, (omega arith, (omega arith, tt))))

pub out_bytes : Bytes (opening 2)
unfolding opening word words Bytes
out_bytes = (omega arith, (omega arith, (omega arith, (omega arith, (omega arith, tt)))))

-- (if (sets) (sets))
if_words : (n m : ℕ) (xs ys : List ℕ)
    → opening 3 ++ (sets_text n xs ++ (32 ∷ [] ++ (sets_text m ys ++ (41 ∷ 10 ∷ [] ++ [])))) ≡ line (word 3 ∷ sets_text n xs ∷ sets_text m ys ∷ [])
unfolding line bracket items gap_text opening
if_words n m xs ys = simp (append_assoc, append-nil)

in_out : (ws : List ℕ) → in_words (in_sets ws) ≡ ws
in_out [] = refl
in_out (x ∷ ws) = λ i. bits_of_lem x i ∷ in_out ws i

out_out : (ws : List ℕ) → out_words (out_sets ws) ≡ ws
out_out [] = refl
out_out (x ∷ ws) = λ i. bits_of_lem x i ∷ out_out ws i

if_end : Sets → Sets → Format Requirement
if_end a b = bind (chars (41 ∷ 10 ∷ [])) (λ _. done (requirement a b))

if_guarantees : Sets → Format Requirement
if_guarantees a = bind sets_format (λ b. if_end a b)

if_blank : Sets → Format Requirement
if_blank a = bind (chars (32 ∷ [])) (λ _. if_guarantees a)

if_assumptions : Format Requirement
if_assumptions = bind sets_format (λ a. if_blank a)

if_is : requirement_format ≡ bind (chars (opening 3)) (λ _. if_assumptions)
unfolding requirement_format guarantees_format if_assumptions if_blank if_guarantees if_end
if_is = refl

requirement_line_lem : (a b : Sets) → requirement_line (requirement a b) ≡ line (word 3 ∷ sets_text a.count a.words ∷ sets_text b.count b.words ∷ [])
unfolding requirement_line requirement
requirement_line_lem a b = rw (in_out a.words, out_out b.words)

requirement_shaped : (a b : Sets) → ShapedSets a.count a.words → ShapedSets b.count b.words → ShapedRequirement (requirement a b)
unfolding requirement
requirement_shaped a b p q =
    record {
      assumptions = rw (in_out a.words) p;
      guarantees = rw (out_out b.words) q;
      in_words_lem = ap in_sets (in_out a.words);
      out_words_lem = ap out_sets (out_out b.words);
    }

pub requirement_sound : (t : List ℕ) (q : Requirement) → TextOf requirement_format t q → ShapedRequirement q × (t ≡ requirement_line q)
unfolding if_assumptions if_blank if_guarantees if_end
requirement_sound t q p =
    let C = chars_parts (opening 3) if_assumptions t q (rw if_is at p) in
    let A = bind_parts sets_format (λ a. if_blank a) C.0 q C.2 in
    let a = list_sound A.front A.value A.is_front in
    let M = chars_parts (32 ∷ []) (if_guarantees A.value) A.back q A.is_back in
    let B = bind_parts sets_format (λ b. if_end A.value b) M.0 q M.2 in
    let b = list_sound B.front B.value B.is_front in
    let E = chars_parts (41 ∷ 10 ∷ []) (done (requirement A.value B.value)) B.back q B.is_back in
    let D = done_parts (requirement A.value B.value) E.0 q E.2 in
    let x = A.value in
    let y = B.value in
    let whole : t ≡ line (word 3 ∷ sets_text x.count x.words ∷ sets_text y.count y.words ∷ []) =
    C.1 ∙ ap (λ (l : List ℕ). opening 3 ++ l)
    (A.whole ∙ ap (λ (l : List ℕ). l ++ A.back) a.1 ∙ ap (λ (l : List ℕ). sets_text x.count x.words ++ l)
    (M.1 ∙ ap (λ (l : List ℕ). 32 ∷ [] ++ l)
    (B.whole ∙ ap (λ (l : List ℕ). l ++ B.back) b.1 ∙ ap (λ (l : List ℕ). sets_text y.count y.words ++ l)
    (E.1 ∙ ap (λ (l : List ℕ). 41 ∷ 10 ∷ [] ++ l) D.0))))
    ∙ if_words x.count y.count x.words y.words in
    subst (λ (r : Requirement). ShapedRequirement r × (t ≡ requirement_line r)) (sym D.1)
    (requirement_shaped x y a.0 b.0, whole ∙ sym (requirement_line_lem x y))

assumption_sets : Requirement → Sets
assumption_sets q = record { words = in_words q.assumptions; count = q.assumed }

guarantee_sets : Requirement → Sets
guarantee_sets q = record { words = out_words q.guarantees; count = q.guaranteed }

requirement_again : (q : Requirement) → ShapedRequirement q → requirement (assumption_sets q) (guarantee_sets q) ≡ q
unfolding requirement assumption_sets guarantee_sets
requirement_again q S =
    λ i. record { assumptions = S.in_words_lem i; assumed = q.assumed; guarantees = S.out_words_lem i; guaranteed = q.guaranteed }

requirement_text : (a b : Sets) → ShapedSets a.count a.words → ShapedSets b.count b.words
    → TextOf requirement_format (requirement_line (requirement a b)) (requirement a b)
unfolding if_assumptions if_blank if_guarantees if_end
requirement_text a b p q =
    let r = requirement a b in
    let E = chars_then (41 ∷ 10 ∷ []) (done r) [] r (done_text r) in
    let B = bind_text sets_format (λ y. if_end a y) (sets_text b.count b.words) _ b r (list_complete b q) E in
    let M = chars_then (32 ∷ []) (if_guarantees a) _ r B in
    let A = bind_text sets_format (λ y. if_blank y) (sets_text a.count a.words) _ a r (list_complete a p) M in
    rw (if_is, requirement_line_lem a b, ← if_words a.count b.count a.words b.words) (chars_then (opening 3) if_assumptions _ r A)

pub requirement_complete : (q : Requirement) → ShapedRequirement q → TextOf requirement_format (requirement_line q) q
unfolding assumption_sets guarantee_sets
requirement_complete q S =
    subst (λ (r : Requirement). TextOf requirement_format (requirement_line r) r) (requirement_again q S)
    (requirement_text (assumption_sets q) (guarantee_sets q) S.assumptions S.guarantees)

pub requirement_live : Live requirement_format
unfolding if_assumptions if_blank if_guarantees if_end opening word words Bytes
requirement_live =
    rw if_is
    (bind_live (chars (opening 3)) (λ _. if_assumptions) (chars_live (opening 3) (omega arith, (omega arith, (omega arith, (omega arith, tt)))))
    (λ t u p. bind_live sets_format (λ a. if_blank a) sets_live
    (λ t a p. bind_live (chars (32 ∷ [])) (λ _. if_guarantees a) (chars_live (32 ∷ []) (omega arith, tt))
    (λ t u p. bind_live sets_format (λ b. if_end a b) sets_live
    (λ t b p. bind_live (chars (41 ∷ 10 ∷ [])) (λ _. done (requirement a b)) (chars_live (41 ∷ 10 ∷ []) (omega arith, (omega arith, tt)))
    (λ t u p. done_live (requirement a b)))))))
