-- `finding_list::free_after` meets its contract. Assumes nothing.
use Prim.Native.Nat.{ℕ}
use mathlib.Core.Path.{◌≡◌}
use mathlib.Core.Bool.{Bool, true, false}
use native.Mathlib.Omega.{arith}
use borrow.Author.Tests.{eq-eqb}
use Rattle.sector_records.specs.Sectors.{has_data}
use Rattle.sector_records.specs.declared.Sector.{Sector}
use Rattle.finding_list.proofs.free_after.Goals as goal

no-data : (s : Sector) → s.data_mark ≡ 0 → has_data s ≡ true → ⊥
no-data s e d = let z : ◌≡◌ {A = Bool} false true = rw (eq-eqb s.data_mark 0 e) at d in let y : ◌≡◌ {A = ℕ} 0 1 = cc in omega arith

pub returns-then-s-eq0 : goal.returns-then-s-eq0
returns-then-s-eq0 c h = record { before = omega arith; behind = λ d. absurd (no-data c.args.s c.if-s-eq0.true d) }

pub returns : goal.returns
returns c h = record { before = omega (arith, c.if-s-2.false); behind = λ d. (omega (arith, c.if-s.false), omega arith) }
