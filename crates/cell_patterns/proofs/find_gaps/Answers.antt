-- `cell_patterns::find_gaps` meets its contract. Assumes nothing.
use Prim.Native.Nat.{ℕ, ◌+◌, ◌-◌, ◌/◌}
use mathlib.Core.Path.{◌≡◌, ap, ◌∙◌}
use native.Mathlib.Omega.{arith}
use lib.ListN.{length-replicate}
use Rattle.basis.specs.Search.{least, count}
use Rattle.cell_words.specs.Tests.{one_at}
use Rattle.cell_words.proofs.Words.{holds-less}
use Rattle.layouts.specs.Layouts.{layout_of}
use Rattle.cell_patterns.specs.Cells.{violation, gaps_of}
use borrow.Author.Rules.{rules}
use Rattle.cell_patterns.proofs.find_gaps.Goals as goal

pub returns : goal.returns
unfolding gaps_of
returns c f round h short held =
    let a = c.args in
    let t = violation (layout_of a.density) f a.n in
    let o = holds-less (one_at f) _ (a.n / 64 + 68) (a.n / 64 + 1 + 1) held (omega arith) in
    let v = c.violation_map.ensures f a.n (omega arith) o (search rules) (length-replicate {A = ℕ} 2116 0) in
    let e : a.n - 0 ≡ a.n = omega arith in
    record {
      first = c.least_in-first.ensures.1 t (a.n / 64 + 1) v.1 (search rules) (search rules) ∙ ap (λ (k : ℕ). least t k 0) e;
      violations = c.count_in-violations.ensures.1 t (a.n / 64 + 1) v.1 (search rules) (search rules) ∙ ap (λ (k : ℕ). count t k 0) e;
      run = c.longest_run-run.ensures f round h short held v.0;
    }
