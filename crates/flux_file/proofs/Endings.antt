-- A reader that is stopped. Assumes nothing.
use Prim.Native.Nat.{ℕ}
use mathlib.Core.Path.{◌≡◌, refl}
use mathlib.Core.List.{List, [], ◌∷◌}
use Rattle.refusals.specs.declared.Refusal.{Refusal}
use Rattle.flux_reader.specs.Bytes.{reader_after_byte}
use Rattle.flux_reader.specs.declared.FluxReader.TheVariants.{Stopped}
use Rattle.flux_file.specs.Portions.{reader_after}

-- no byte changes a reader that is stopped
pub reader-stays : (refusal : Refusal) (bytes : List ℕ) → reader_after (Stopped refusal) bytes ≡ Stopped refusal
unfolding reader_after reader_after_byte
reader-stays refusal [] = refl
reader-stays refusal (byte ∷ bytes) = reader-stays refusal bytes
