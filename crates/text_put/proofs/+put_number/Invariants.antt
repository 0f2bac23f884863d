-- The measure of `put_number`: the number, which each call divides by ten.
use Rattle.text_put.proofs.+put_number.Given as goal

abbrev pub decreases-put_number : goal.decreases-put_number
decreases-put_number l = l.v
