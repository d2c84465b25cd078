-- `write_track::write_refusal` meets its contract. Assumes nothing.
use Rattle.write_track.proofs.Outputs.{refusal-made}
use Rattle.write_track.proofs.write_refusal.Goals as goal

pub returns : goal.returns
returns c =
    let line = c.refused_line in
    rw (← c.number.ensures) (refusal-made c.number.result c.number.type_inv c.args.out.now c.told-out line.auto.out (line.ensures.answer, line.ensures.out))
