-- `cell_patterns::count_round` meets its contract. Assumes nothing.
use Prim.Native.Nat.{◌+◌, ◌/◌}
use Rattle.cell_patterns.proofs.Rounds.{count-over, count_past}
use borrow.Author.Rules.{rules}
use Rattle.cell_patterns.proofs.count_round.Goals as goal

pub returns-then-end-n : goal.returns-then-end-n
returns-then-end-n c = (search rules, λ t round short held far. c.count_in.ensures.1 t (c.args.n / 64 + 1) held (search rules) (search rules))

pub returns-then-from-n : goal.returns-then-from-n
returns-then-from-n c = (
  search rules,
  λ t round short held far.
      let a = c.args in
      count-over t a.n round a.from a.end _ _ (search rules) (search rules)
      (c.count_in-then-from-n.ensures.1 t (a.n / 64 + 1) held (search rules) (search rules))
      (c.count_in-then-from-n-2.ensures.1 t (a.n / 64 + 1) held (search rules) (search rules)),
)

pub returns : goal.returns
returns c = (
  search rules,
  λ t round short held far.
      let a = c.args in
      count_past t a.n round a.from a.end _ (search rules) (search rules)
      (c.count_in-2.ensures.1 t (a.n / 64 + 1) held (search rules) (search rules)),
)
