-- `st_track::write_refusal` meets its contract. Assumes nothing.
use native.Mathlib.Omega.{arith}
use Rattle.lines.proofs.Lengths.{refused-few}
use Rattle.st_track.proofs.Imaged.{other-line}
use Rattle.st_track.proofs.write_refusal.Goals as goal

pub returns-in_default : goal.returns-in_default
returns-in_default c =
    let line = c.refused_line.ensures in
    rw (other-line _ c.in_default.not-NoPlainImage, ← c.number.ensures)
    (record { answer = line.answer; few = omega (arith, line.answer, refused-few _ c.number.type_inv); out = line.out })
