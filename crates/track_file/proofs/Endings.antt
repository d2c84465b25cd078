-- The beginning and the end of a file: each branch of the code. Assumes nothing.
use Prim.Native.Nat.{ℕ, ◌≤◌}
use mathlib.Core.Path.{◌≡◌, refl}
use mathlib.Core.List.{List, [], ◌∷◌, append-nil}
use native.Mathlib.Nat.{min-eq_left}
use native.Mathlib.Omega.{arith}
use lib.ListN.{length, replicate, length-replicate, drop_of_length-le}
use Rattle.cells.specs.CellsAndBytes.{cleared}
use Rattle.refusals.specs.declared.Refusal.{Refusal}
use Rattle.file_reader.specs.Bytes.{reader_after_byte}
use Rattle.track_file.specs.Portions.{reader_after}
use Rattle.file_reader.specs.declared.Reader.TheVariants.{Stopped}

-- a buffer cleared whole
pub cleared_whole : (buffer : List ℕ) → cleared (length buffer) buffer ≡ replicate (length buffer) 0
unfolding cleared
cleared_whole buffer =
    let k : length buffer ≤ length buffer = omega arith in
    rw (min-eq_left k, length-replicate, drop_of_length-le buffer k) (append-nil (replicate (length buffer) 0))

-- no byte changes a reader that is stopped
pub reader-stays : (refusal : Refusal) (bytes : List ℕ) → reader_after (Stopped refusal) bytes ≡ Stopped refusal
unfolding reader_after reader_after_byte
reader-stays refusal [] = refl
reader-stays refusal (byte ∷ bytes) = reader-stays refusal bytes
