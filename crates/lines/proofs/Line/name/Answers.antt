-- A kind's name is its row of the table. Assumes nothing.
use Rattle.lines.specs.Lines.{bytes_of, names}
use Rattle.lines.proofs.Names.{no_name, no_name_below, row_is, name-few}
use Rattle.lines.proofs.Steps.{nothing_on, at_most}
use Rattle.lines.proofs.Line.name.Goals as goal
use Rattle.lines.proofs.Line.name.Goals.{then-kind-lt1-via-then-kind-lt1, then-kind-lt1-via-else-kind-lt1+then-kind-gt22}

pub returns-then-kind-lt1 : goal.returns-then-kind-lt1
returns-then-kind-lt1 c =
    elim c.then-kind-lt1.branch [
      | then-kind-lt1-via-then-kind-lt1 w ↦ rw (no_name_below c.args.kind w.if-kind-lt1.true) (nothing_on c.args.self.now 3)
      | then-kind-lt1-via-else-kind-lt1+then-kind-gt22 w ↦ rw (no_name c.args.kind w.if-kind-gt22.true) (nothing_on c.args.self.now 3)
    ]

pub returns : goal.returns
unfolding bytes_of names
returns c = at_most 3 (name-few c.args.kind) (row_is c.args.kind c.if-kind-lt1.false) c.word.ensures
