-- `map_accepted`.
use native.Mathlib.Omega.{arith}
use Rattle.sets.proofs.Rows.{words_held}
use Rattle.game.proofs.Laws.{accepted_fits}
use Rattle.joined.proofs.Made.{small_counts, joined_many_inputs, joined_many_outputs, joined_scratch_short, joined_map_short, joined_done}
use Rattle.joined.proofs.map_accepted.Goals as goal

pub returns-then-g-gt32 : goal.returns-then-g-gt32
returns-then-g-gt32 c = joined_many_inputs _ _ _ c.requires c.if-g-gt32.true

pub returns-then-g-gt32-2 : goal.returns-then-g-gt32-2
returns-then-g-gt32-2 c =
    joined_many_outputs _ _ _ c.requires c.if-g-gt32-2.true

pub returns-then-scratch-lt-WORDS : goal.returns-then-scratch-lt-WORDS
returns-then-scratch-lt-WORDS c =
    joined_scratch_short _ _ _ c.requires (small_counts _ (omega arith) (omega arith)) c.if-scratch-lt-WORDS.true

pub returns-then-map-words : goal.returns-then-map-words
returns-then-map-words c =
    joined_map_short _ _ _ c.requires (small_counts _ (omega arith) (omega arith)) (omega (arith, c.words.ensures, c.if-map-words.true))

pub make_map-requires : goal.make_map-requires
make_map-requires c = (
  record { fits = accepted_fits _ c.requires; inputs = omega arith; outputs = omega arith },
  omega arith,
  words_held c.args.map.now c.args.g.input.states (omega (arith, c.words.ensures, c.if-map-words.false)),
)

pub returns : goal.returns
returns c =
    joined_done _ _ _ c.requires (small_counts _ (omega arith) (omega arith)) _ _ (omega arith) (omega (arith, c.words.ensures, c.if-map-words.false))
    c.make_map.ensures.0 c.make_map.ensures.1
