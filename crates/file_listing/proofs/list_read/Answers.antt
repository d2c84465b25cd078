-- `file_listing::list_read` meets its contract. Assumes nothing.
use native.Mathlib.Omega.{arith}
use Rattle.lines.proofs.Lengths.{refused-few}
use Rattle.file_listing.proofs.list_read.Goals as goal

pub returns-in-Err-clause-few : goal.returns-in-Err-clause-few
returns-in-Err-clause-few c = omega (arith, c.refused_line.ensures.answer, refused-few _ c.number.type_inv)
