-- What the contracts of private functions need: what they ask of the sectors that they are handed. Assumes nothing.
use Rattle.std.specs.Prelude.{ℕ, ◌+◌, ◌<◌, ◌≡◌, true, List, Option, Some, None, length, get_or}
use Rattle.sector_image.specs.Image.{is_plain, index_of}
use Rattle.sector_records.specs.Sectors.{no_sector}
use Rattle.sector_records.specs.declared.Sector.{Sector}

-- a plain sector among these has 512 bytes, as each sector of a track does
pub record OfTrack (sectors : List Sector) : Type 0 where
  pub plain : (i : ℕ) → i < length sectors → is_plain (get_or sectors i no_sector) ≡ true → (get_or sectors i no_sector).data_length ≡ 512

-- each of the numbers 1 to 9 is there, with 512 bytes
pub record AllThere (sectors : List Sector) : Type 0 where
  pub there : (i : ℕ) → i < 9 → index_of sectors (i + 1) < length sectors
  pub long : (i : ℕ) → i < 9 → (get_or sectors (index_of sectors (i + 1)) no_sector).data_length ≡ 512

-- the first number that stands in the way, as the rules have it: 10 where none does
abbrev pub unfit_or_ten : Option ℕ → ℕ
unfit_or_ten (Some number) = number
unfit_or_ten None = 10
