use Rattle.desk.specs.Header.{numbers_of, number_at}
use Rattle.desk.proofs.cases.numbers_of.Goals as goal

pub returns : goal.returns
unfolding numbers_of number_at
returns c = rw (c.number_of.ensures, c.number_of-2.ensures, c.number_of-3.ensures, c.number_of-4.ensures, c.number_of-5.ensures)
