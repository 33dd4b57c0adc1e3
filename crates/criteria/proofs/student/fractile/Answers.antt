use Rattle.criteria.proofs.Falls.{students_fall}
use Rattle.criteria.proofs.student.fractile.Goals as goal

pub returns-then-contains-clause-falling : goal.returns-then-contains-clause-falling
returns-then-contains-clause-falling c = students_fall
