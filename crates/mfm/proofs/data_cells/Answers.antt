-- `mfm::data_cells` meets its contract. Assumes nothing.
use mathlib.Core.Path.{refl}
use Rattle.mfm.proofs.Gathering.{gathered}
use Rattle.mfm.proofs.data_cells.Goals as goal

pub returns : goal.returns
returns c f p bit e = gathered f bit p _ _ _ _ _ _ e refl refl refl refl refl
