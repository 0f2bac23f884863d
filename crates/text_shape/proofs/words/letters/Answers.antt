-- `letters` meets its contract.
use mathlib.Core.List.{map}
use Rattle.text_shape.specs.Text.{word, words}
use Rattle.text_shape.proofs.WordTable.{entry, agree, same_length}
use Rattle.text_shape.proofs.words.letters.Goals as goal

pub returns : goal.returns
unfolding word words
returns c = same_length (map entry words) words (agree words) c.args.w
