-- `cell_words::count_part` meets its contract. Assumes nothing.
use native.Mathlib.Omega.{arith}
use Rattle.cell_words.proofs.Words.{part-ones, part_none, part-few}
use borrow.Author.Rules.{rules}
use Rattle.cell_words.proofs.count_part.Goals as goal

pub returns-then-x-eq0 : goal.returns-then-x-eq0
returns-then-x-eq0 c = let a = c.args in (search rules, λ t p e. part_none t p a.s a.k a.x (search rules) c.if-x-eq0.true e)

pub overflow_cast-result : goal.overflow_cast-result
overflow_cast-result c = let a = c.args in omega (arith, part-few a.s a.k a.x (search rules))

pub returns : goal.returns
returns c = let a = c.args in (part-few a.s a.k a.x (search rules), λ t p e. part-ones t p a.s a.k a.x (search rules) e)
