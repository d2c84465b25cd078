-- Sections 6 and 7 of the specification: what tracks of double density (MFM) and of single density (FM) differ in. The definitions on sectors
-- and findings take one of these layouts first, and are else the same for both. Lengths and places are cells.
--
--                     ID mark at p     mark byte   ID bytes   end of the ID   data mark
--   double density    three syncs      p+48        p+64       p+160           p+160 to p+784
--   single density    the word F57E    p           p+16       p+112           p+112 to p+576
--
-- Assumes nothing.
use Rattle.std.specs.Prelude.{[], ◌∷◌}
use Rattle.crc.specs.CheckWord.{check_word}
use Rattle.layouts.specs.declared.Density.{Density}
use Rattle.layouts.specs.declared.Density.TheVariants.{Single, Double}
use Rattle.layouts.specs.declared.Layout.{Layout}

-- 1.18, 6.2, 6.6, 6.7, 6.8, 6.9, 6.20: MFM. The byte of a mark follows three syncs, and the check covers the bytes A1 of these too.
-- 7.1, 7.2, 7.3, 7.10, 7.39: usual are 97,000 to 103,000 cells and 9 or 10 sectors of size code 2 or 3, with ones 2 to 4 cells apart
unfoldable pub double_density : Layout
double_density =
    record {
      density = 2;
      mark_length = 64;
      byte_place = 48;
      id_length = 160;
      reach = 784;
      check_start = check_word (0xA1 ∷ 0xA1 ∷ 0xA1 ∷ []);
      sync = 0x4489;
      fewest_cells = 97000;
      most_cells = 103000;
      fewest_sectors = 9;
      most_sectors = 10;
      size_code = 2;
      other_size_code = 3;
      nearest = 2;
      farthest = 4;
    }

-- 6.21, 6.22, 6.23, 6.24, 6.25: FM. A mark is one word, which is also the byte of the mark, and the check begins with that byte. 7.44, 7.45,
-- 7.46: usual are 48,500 to 51,500 cells and 18 sectors of size code 0, with ones 1 or 2 cells apart. The word of an ID mark takes the place
-- of the sync
unfoldable pub single_density : Layout
single_density =
    record {
      density = 1;
      mark_length = 16;
      byte_place = 0;
      id_length = 112;
      reach = 576;
      check_start = check_word [];
      sync = 0xF57E;
      fewest_cells = 48500;
      most_cells = 51500;
      fewest_sectors = 18;
      most_sectors = 18;
      size_code = 0;
      other_size_code = 0;
      nearest = 1;
      farthest = 2;
    }

-- 6.21: the layout of a density
abbrev pub layout_of : Density → Layout
layout_of Single = single_density
layout_of Double = double_density
