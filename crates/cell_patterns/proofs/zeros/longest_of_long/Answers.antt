-- `cell_patterns::zeros::longest_of_long` meets its contract: the longest of the runs before p. Assumes nothing.
use Prim.Native.Nat.{ℕ, ◌+◌, ◌-◌, ◌/◌}
use mathlib.Core.Path.{◌≡◌, sym, ap, ◌∙◌}
use mathlib.Core.Bool.{Bool, true, false}
use native.Mathlib.Omega.{arith}
use borrow.Author.Tests.{lt-ltb, le-ltb}
use Rattle.basis.specs.Search.{least}
use Rattle.cell_words.specs.Tests.{one_at}
use Rattle.cell_patterns.proofs.LongRuns.{long_at, longest-first, longest-next, longest-last}
use borrow.Author.Rules.{rules}
use Rattle.cell_patterns.proofs.zeros.longest_of_long.Goals as goal
use Rattle.cell_patterns.proofs.zeros.longest_of_long.Goals.{then-longest-zeros, else-longest-zeros}

pub loop-p-init : goal.loop-p-init
loop-p-init c f round h held known =
    let a = c.args in
    let t = long_at f a.n in
    let e : a.n - 0 ≡ a.n = omega arith in
    longest-first f a.n _ h (c.least_in-p.ensures.1 t (a.n / 64 + 1) known (search rules) (search rules) ∙ ap (λ (k : ℕ). least t k 0) e)

pub loop-p-preserved : goal.loop-p-preserved
loop-p-preserved c f round h held known =
    let a = c.args in
    let l = c.loop-p in
    let e : a.n - 0 ≡ a.n = omega arith in
    let first = c.least_in-first.ensures.1 (one_at f) (a.n / 64 + 1) held (search rules) (search rules) ∙ ap (λ (k : ℕ). least (one_at f) k 0) e in
    let next = λ (longer : Bool).
    longest-next f a.n l.p _ _ l.longest l.start longer c.loop-p-test.true
    (c.zeros_from-zeros.ensures.1 f round held first)
    (c.least_in-p-in-loop-p.ensures.1 (long_at f a.n) (a.n / 64 + 1) known (search rules) (search rules)) in
    let before = l.invariant f round h held known in
    elim c.if-longest-zeros.branch [
      | then-longest-zeros w ↦ rw (w.longest-is, w.start-is) (next true (sym (lt-ltb _ _ w.if-longest-zeros.true)) before)
      | else-longest-zeros w ↦ rw (w.longest-is, w.start-is) (next false (sym (le-ltb _ _ w.if-longest-zeros.false)) before)
    ]

pub returns : goal.returns
returns c f round h held known =
    longest-last f c.args.n _ _ _ c.loop-p-test.false (c.loop-p.invariant f round h held known)
