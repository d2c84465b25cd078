-- The few facts that laws need of a layout hold of both. Assumes nothing.
use lib.Dec.{lit≤}
use Rattle.layouts.specs.Layouts.{double_density, single_density, layout_of}
use Rattle.layouts.specs.PrivateContracts.{Sound}
use Rattle.layouts.specs.declared.Density.{Density}
use Rattle.layouts.specs.declared.Density.TheVariants.{Single, Double}

pub sound : (density : Density) → Sound (layout_of density)
unfolding single_density double_density
sound Single = record { mark = lit≤ tt; byte = lit≤ tt; id = lit≤ tt; near = lit≤ tt; order = lit≤ tt; cells = lit≤ tt }
sound Double = record { mark = lit≤ tt; byte = lit≤ tt; id = lit≤ tt; near = lit≤ tt; order = lit≤ tt; cells = lit≤ tt }
