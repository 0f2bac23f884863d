-- `answer_kept` meets its contract.
use mathlib.Core.Path.{sym}
use lib.Seq.{length-take-le}
use Rattle.catalogue.proofs.Names.{input_within, kept_print}
use Rattle.catalogue.proofs.answer_kept.Goals as goal

pub slice_bounds-answer-end : goal.slice_bounds-answer-end
slice_bounds-answer-end c = sym (length-take-le _ _ (input_within c.requires.1))

pub returns : goal.returns
returns c =
    kept_print c.requires.0 c.answer.ensures
