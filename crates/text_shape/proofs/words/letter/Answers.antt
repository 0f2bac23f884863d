-- `letter` meets its contract.
use mathlib.Core.List.{map}
use native.Mathlib.Omega.{arith}
use Rattle.text_shape.specs.Text.{word, words}
use Rattle.text_shape.proofs.WordTable.{entry, agree, same_letter, short, words_short}
use Rattle.text_shape.proofs.words.letter.Goals as goal

pub bounds-bytes-i : goal.bounds-bytes-i
unfolding word
bounds-bytes-i c = omega (arith, short words words_short c.args.w, c.requires.1)

pub returns : goal.returns
unfolding word words
returns c = same_letter (map entry words) words (agree words) c.args.w c.args.i c.requires.1
