-- Searches over sectors. Assumes nothing.
use mathlib.Core.Path.{◌≡◌, refl, ap}
use mathlib.Core.Bool.{Bool, ◌||◌}
use mathlib.Core.List.{List, [], ◌∷◌}
use Rattle.std.specs.List.{list_any}
use Rattle.finding_rules.specs.Rules.{some_sector}
use Rattle.sector_records.specs.declared.Sector.{Sector}

-- std's search is that of the rules
pub some_is_any : (test : Sector → Bool) (ss : List Sector) → list_any test ss ≡ some_sector test ss
unfolding some_sector
some_is_any test [] = refl
some_is_any test (s ∷ ss) = ap (λ (x : Bool). test s || x) (some_is_any test ss)
