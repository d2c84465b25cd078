-- `revolution_portions::RevolutionReader::new` meets its contract. Assumes nothing.
use mathlib.Core.Path.{refl}
use Rattle.revolution_portions.proofs.RevolutionReader.new.Goals as goal

pub returns : goal.returns
returns c = refl
