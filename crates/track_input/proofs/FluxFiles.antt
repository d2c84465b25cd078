-- An old flux file that is read: where `start` was called before, the reader and the cells are those of the portions, from the buffer on, as flux_file has
-- them. Assumes nothing.
use Prim.Native.Nat.{ℕ}
use mathlib.Core.Path.{◌≡◌, refl, ◌∙◌, ap, subst}
use mathlib.Core.List.{List, [], ◌∷◌}
use lib.ListN.{length}
use Rattle.track_file.specs.Portions.{start_cells}
use Rattle.flux_file.specs.Portions.{start_of, reader_after, cells_after, reader_after_all, cells_after_all, reader_through, cells_through}
use Rattle.flux_reader.specs.declared.FluxReader.{FluxReader}
use Rattle.track_input.specs.declared.Input.{Input}
use Rattle.track_input.specs.declared.Input.TheVariants.{Ended}
use Rattle.track_input.specs.Formats.{flux_file_steps}
use Rattle.track_input.specs.Reading.{portions_of, AllReads, ReadThrough}
use Rattle.track_input.specs.Reading.{cells_after_all as cells_of_all}
use Rattle.track_input.proofs.Reading.{led}
use Rattle.track_input.proofs.Reading.{reader_after_all as reader_of_all}

pub reader-same : (reader : FluxReader) (portions : List (List ℕ)) → reader_of_all flux_file_steps reader portions ≡ reader_after_all reader portions
unfolding reader_of_all reader_after_all
reader-same reader [] = refl
reader-same reader (portion ∷ portions) = reader-same (reader_after reader portion) portions

pub cells-same : (reader : FluxReader) (portions : List (List ℕ)) (buffer : List ℕ) → cells_of_all flux_file_steps reader portions buffer ≡ cells_after_all reader portions buffer
unfolding cells_of_all cells_after_all
cells-same reader [] buffer = refl
cells-same reader (portion ∷ portions) buffer = cells-same (reader_after reader portion) portions (cells_after reader portion buffer)

module _ (buffer : List ℕ) {first : FluxReader} {cleared : List ℕ} (started : (first ≡ start_of (length buffer)) × (cleared ≡ start_cells buffer))
    {input : Input FluxReader} {cells : List ℕ} (through : ReadThrough flux_file_steps first cleared input cells) where
  pub all-from-start : AllReads flux_file_steps (start_of (length buffer)) through.reads input
  all-from-start = subst (λ (x : FluxReader). AllReads flux_file_steps x through.reads input) started.0 through.all

  pub reader-from-start : {reader : FluxReader} → input ≡ Ended reader → reader ≡ reader_through buffer (portions_of through.reads)
  reader-from-start e =
      led flux_file_steps (rw e at all-from-start.leads) (start_of (length buffer)) refl ∙ reader-same (start_of (length buffer)) (portions_of through.reads)

  pub cells-from-start : cells ≡ cells_through buffer (portions_of through.reads)
  cells-from-start =
      let portions = portions_of through.reads in
      through.cells_are ∙ cells-same first portions cleared ∙ ap (λ (x : FluxReader). cells_after_all x portions cleared) started.0
      ∙ ap (cells_after_all (start_of (length buffer)) portions) started.1
