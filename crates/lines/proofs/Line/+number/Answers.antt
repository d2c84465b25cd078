-- `lines::Line::number` meets its contract: the digits before the last, and the last. Assumes nothing.
use Rattle.std.proofs.Common.{arith, sym, ap, ◌∙◌, ◌∷◌, [], ◌++◌, ◌/◌}
use Rattle.lines.specs.Lines.{decimal_of}
use Rattle.lines.proofs.Digits.{before_last, decimal-short, decimal-small, decimal-more}
use Rattle.lines.proofs.Steps.{◌and◌, at_most}
use Rattle.lines.proofs.Line.+number.Goals.{then-n-ge10, else-n-ge10}
use Rattle.lines.proofs.Line.+number.Goals as goal

pub byte-requires : goal.byte-requires
byte-requires t c =
    elim c.if-n-ge10.branch [
      | then-n-ge10 w ↦ omega (arith, ap (λ s. s.at) w.self-is, w.number.ensures.wrote.place, before_last c.args.n c.ranges.n.fits, c.requires)
      | else-n-ge10 w ↦ omega (arith, ap (λ s. s.at) w.self-is, c.requires)
    ]

pub returns : goal.returns
returns t c =
    let fits = c.ranges.n.fits in
    let last = c.last_digit.ensures in
    elim c.if-n-ge10.branch [
      | then-n-ge10 w ↦
          at_most 10 (decimal-short c.args.n fits)
          (ap (λ d. decimal_of (c.args.n / 10) ++ (d ∷ [])) last ∙ sym (decimal-more c.args.n w.if-n-ge10.true))
          ((rw (sym w.self-is) at w.number.ensures) and c.byte.ensures)
      | else-n-ge10 w ↦
          at_most 10 (decimal-short c.args.n fits)
          (ap (λ d. d ∷ []) last ∙ sym (decimal-small c.args.n w.if-n-ge10.false))
          (rw w.self-is at c.byte.ensures)
    ]
