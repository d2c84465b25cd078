-- `cell_patterns::syncs_between` meets its contract. Assumes nothing.
use Prim.Native.Nat.{◌+◌, ◌/◌}
use native.Mathlib.Omega.{arith}
use Rattle.cell_words.proofs.Words.{holds-less}
use Rattle.sector_records.specs.Marks.{word_mark_at}
use Rattle.cell_patterns.proofs.Rounds.{mark-round}
use Rattle.cell_patterns.proofs.Syncs.{syncs-short, syncs-of}
use borrow.Author.Rules.{rules}
use Rattle.cell_patterns.proofs.syncs_between.Goals as goal

pub returns-then-to-lt-BYTE_LENGTH : goal.returns-then-to-lt-BYTE_LENGTH
returns-then-to-lt-BYTE_LENGTH c = (search rules, λ f sync round short held far. syncs-short _ _ _ _ c.if-to-lt-BYTE_LENGTH.true)

pub returns : goal.returns
returns c = (
  c.count_round.ensures.0,
  λ f sync round short held far.
      let a = c.args in
      let t = word_mark_at f sync in
      syncs-of sync f a.from a.to _
      (c.count_round.ensures.1 t (mark-round f a.n round sync) short (holds-less t _ (a.n / 64 + 64) (a.n / 64 + 1) held (omega arith)) (omega arith)),
)
