-- `keep_byte` meets its contract.
use Rattle.catalogue_names.proofs.Keeping.{keeps_line, keeps_on, keeps_past}
use Rattle.catalogue_names.proofs.keep_byte.Goals as goal

pub returns-then-b-eq10 : goal.returns-then-b-eq10
returns-then-b-eq10 c =
    keeps_line c.if-b-eq10.true c.put_byte-len.ensures

pub returns-then-k-ge256 : goal.returns-then-k-ge256
returns-then-k-ge256 c = keeps_past c.if-b-eq10.false c.if-k-ge256.true

pub returns : goal.returns
returns c =
    keeps_on c.if-b-eq10.false c.if-k-ge256.false c.put_byte-len-2.ensures
