-- `finding_list::facts::Surveyed::is_overwritten` meets its contract. Assumes nothing.
use mathlib.Core.Path.{◌∙◌}
use Rattle.finding_list.proofs.Others.{some_is_any}
use Rattle.finding_list.proofs.facts.Surveyed.is_overwritten.Goals as goal

pub returns-then-not-self : goal.returns-then-not-self
returns-then-not-self c = c.starts_in_some.ensures ∙ some_is_any _ _
