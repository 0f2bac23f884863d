-- How long the text of a game is at most. A file may be shorter than that: the text of a large game is written, and not read back.
use Prim.Native.Nat.{ℕ, zero, suc, ◌+◌, ◌*◌, ◌-◌, ◌≤◌, ◌<◌}
use native.Mathlib.Omega.{arith}
use mathlib.Core.Bool.{Bool, true, false}
use mathlib.Core.List.{List, [], ◌∷◌, ◌++◌, map}
use mathlib.Core.Path.{◌≡◌, ap}
use lib.ListN.{length, get_or, length-append}
use Rattle.finite.specs.Bounded.{one}
use Rattle.bits.specs.Member.{has}
use Rattle.sets.specs.Words.{capacity}
use Rattle.text_grammar.specs.Number.{decimal}
use Rattle.text_grammar.proofs.Format.{by_cases}
use Rattle.text_grammar.proofs.Number.{three_digits}
use Rattle.game.specs.Access.{no_requirement}
use Rattle.game.specs.declared.Requirement.{Requirement}
use Rattle.game.specs.declared.Game.{Game}
use Rattle.text_shape.specs.Text.{
  PlainGraph,
  plain,
  gap_text,
  items,
  members,
  set_text,
  cells,
  sets_text,
  state_line,
  state_lines,
  in_words,
  out_words,
  requirement_line,
  requirement_lines,
  game_text,
  empty_requirement,
}
use Rattle.text_shape.proofs.Members.{members_take, members_skip}
use Rattle.text_shape.proofs.WordTable.{opening_short}
use Rattle.text_put.specs.Put.{Few, Writable}
use Rattle.text_put.proofs.Pieces.{set_open, set_rest, sets_open, sets_rest}
use Rattle.text_put.proofs.Pieces.{header_length, state_length, requirement_length, game_length, requirement_past}

gap_short : (gap : Bool) → length (gap_text gap) ≤ 1
unfolding gap_text
gap_short true = omega arith
gap_short false = omega arith

item_short : (gap : Bool) (w : List ℕ) (ws : List (List ℕ)) → length (items gap (w ∷ ws)) ≤ 1 + length w + length (items true ws)
unfolding items
item_short gap w ws = omega (arith, length-append (gap_text gap) (w ++ items true ws), length-append w (items true ws), gap_short gap)

members_short : (n lo x : ℕ) (gap : Bool) → lo + n ≤ 1000 → length (items gap (map decimal (members n lo x))) ≤ 4 * n
unfolding members items
members_short zero lo x gap h = omega arith
members_short (suc n) lo x gap h =
    by_cases (has x lo)
    (λ b. rw (members_take n lo x b)
    (omega (
      arith,
      item_short gap (decimal lo) (map decimal (members n (suc lo) x)),
      three_digits lo (omega arith),
      members_short n (suc lo) x true
          (omega arith),
    )))
    (λ b. rw (members_skip n lo x b) (omega (arith, members_short n (suc lo) x gap (omega arith))))

pub set_short : (x : ℕ) → length (set_text x) ≤ 514
unfolding set_rest
set_short x =
    omega (
      arith,
      ap length (set_open x),
      length-append (items false (map decimal (members capacity 0 x))) (41 ∷ []),
      members_short capacity 0 x false (omega arith),
    )

pub set_few : {r : ℕ} (x : ℕ) → r ≡ length (set_text x) → r ≤ 514
set_few x e = omega (arith, set_short x)

cells_short : (n j : ℕ) (ws : List ℕ) (gap : Bool) → length (items gap (map set_text (cells n j ws))) ≤ 515 * n
unfolding cells items
cells_short zero j ws gap = omega arith
cells_short (suc n) j ws gap =
    omega (arith, item_short gap (set_text (get_or ws j 0)) (map set_text (cells n (suc j) ws)), set_short (get_or ws j 0), cells_short n (suc j) ws true)

sets_short : (n : ℕ) (ws : List ℕ) → n ≤ 4 → length (sets_text n ws) ≤ 2062
unfolding sets_rest
sets_short n ws h =
    let all : n - 0 ≡ n = omega arith in
    omega (arith, ap length (sets_open n ws), length-append (items false (map set_text (cells (n - 0) 0 ws))) (41 ∷ []), cells_short (n - 0) 0 ws false)

number_short : (v b : ℕ) → v < 1000 → length (decimal v ++ b ∷ []) ≤ 4
number_short v b h = omega (arith, length-append (decimal v) (b ∷ []), three_digits v h)

one_short : (b : Bool) → one b < 1000
unfolding one
one_short true = omega arith
one_short false = omega arith

state_short : (w s f x : ℕ) → s < 1000 → f < 1000 → length (state_line w s f x) ≤ 537
state_short w s f x a b = omega (arith, state_length w s f x, opening_short w, number_short s 32 a, number_short f 32 b, set_short x)

pub state_few : {r : ℕ} (w s x : ℕ) → ((f : ℕ) → f < 10 → r ≡ length (state_line w s f x)) → s < 1000 → r ≤ 537
state_few w s x e a = omega (arith, e 0 (omega arith), state_short w s 0 x a (omega arith))

states_short : (w n s : ℕ) (h : PlainGraph) → s + n ≤ capacity → length (state_lines w n s h) ≤ 537 * n
unfolding state_lines
states_short w zero s h l = omega arith
states_short w (suc n) s h l =
    let f = one (has h.initial s) in
    let x = get_or h.moves s 0 in
    omega (
      arith,
      length-append (state_line w s f x) (state_lines w n (suc s) h),
      state_short w s f x (omega arith) (one_short (has h.initial s)),
      states_short w n (suc s) h (omega arith),
    )

pub requirement_short : (q : Requirement) → Few q → length (requirement_line q) ≤ 4140
requirement_short q F =
    omega (
      arith,
      requirement_length q,
      opening_short 3,
      sets_short q.assumed (in_words q.assumptions) F.assumed,
      sets_short q.guaranteed (out_words q.guarantees) F.guaranteed,
    )

pub requirement_few : {r : ℕ} (q : Requirement) → r ≡ length (requirement_line q) → Few q → r ≤ 4140
requirement_few q e F = omega (arith, requirement_short q F)

requirements_short : (n r : ℕ) (qs : List Requirement) → ((i : ℕ) → r ≤ i → i < r + n → Few (get_or qs i no_requirement))
    → length (requirement_lines n r qs) ≤ 4140 * n
unfolding requirement_lines
requirements_short zero r qs F = omega arith
requirements_short (suc n) r qs F =
    omega (
      arith,
      length-append (requirement_line (get_or qs r empty_requirement)) (requirement_lines n (suc r) qs),
      ap length (requirement_past qs r),
      requirement_short (get_or qs r no_requirement) (F r (omega arith) (omega arith)),
      requirements_short n (suc r) qs (λ i p q. F i (omega arith) (omega arith)),
    )

pub game_short : (g : Game) → Writable g → length (game_text g) ≤ 170618
game_short g W =
    let i : g.input.states ≤ capacity = W.inputs in
    let o : g.output.states ≤ capacity = W.outputs in
    let k : g.k ≤ 8 = W.k in
    omega (
      arith,
      game_length g,
      header_length g.input.states g.output.states g.k,
      opening_short 0,
      number_short g.input.states 32 (omega arith),
      number_short g.output.states 32 (omega arith),
      number_short g.k 41 (omega arith),
      states_short 1 g.input.states 0 (plain g.input) (omega arith),
      states_short 2 g.output.states 0 (plain g.output) (omega arith),
      requirements_short g.k 0 g.requirements (λ r p q. W.sets r (omega arith)),
    )
