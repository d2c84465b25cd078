-- What a track file that is written reads: its place, its number of cells, its packed cells, and no timings. Assumes nothing.
use Prim.Native.Nat.{ℕ, ◌+◌, ◌/◌, ◌%◌, ◌*◌, ◌<◌}
use mathlib.Core.Path.{◌≡◌, refl, ◌∙◌, ap}
use mathlib.Core.List.{List, ◌++◌, append_assoc}
use native.Mathlib.Nat.{div-div-eq-div-mul, div-add-mod', mod-eq_of_lt}
use native.Mathlib.Omega.{arith}
use lib.ListN.{length, take, drop, length-append}
use lib.Seq.{take_at, drop_at}
use Rattle.basis.specs.Bytes.{four_bytes, number}
use Rattle.cells.specs.CellsAndBytes.{bytes_for}
use Rattle.track_file.specs.TrackFile.{place_count, track_of, side_of, cell_count, packed_bytes, flux_section, flux_count, in_four_bytes, front_of, file_with}
use Rattle.flux_conversion.specs.Conversion.{new_length}

-- a number in four bytes
four-parts : (n a b d r s t : ℕ) → a * 256 + r ≡ n → b * 256 + s ≡ a → d * 256 + t ≡ b → four_bytes r s t d ≡ n
four-parts n a b d r s t e f g = omega arith

pub four-bytes-of : (n : ℕ) → n < 0x1_0000_0000 → four_bytes (n % 256) (n / 256 % 256) (n / 65536 % 256) (n / 16777216 % 256) ≡ n
four-bytes-of n h =
    let b : n / 256 / 256 ≡ n / 65536 = div-div-eq-div-mul n 256 256 in
    let d : n / 65536 / 256 ≡ n / 16777216 = div-div-eq-div-mul n 65536 256 in
    let high : n / 16777216 % 256 ≡ n / 16777216 = mod-eq_of_lt (omega arith) in
    rw high
    (four-parts n (n / 256) (n / 65536) (n / 16777216) (n % 256) (n / 256 % 256) (n / 65536 % 256) (div-add-mod' n 256)
    (rw b at (div-add-mod' (n / 256) 256)) (rw d at (div-add-mod' (n / 65536) 256)))

pub long-file : (T H n : ℕ) (packed : List ℕ) → length packed ≡ bytes_for n → length (file_with T H n packed) ≡ new_length n
unfolding file_with front_of
long-file T H n packed l = omega (arith, length-append packed (in_four_bytes 0))

-- such a file, with any bytes after it
module _ (T H n : ℕ) (packed rest : List ℕ) where
  abbrev whole : List ℕ
  whole = file_with T H n packed ++ rest

  pub place_read : place_count whole ≡ 2
  unfolding file_with front_of
  place_read = refl

  pub track-read : track_of whole ≡ T
  unfolding file_with front_of
  track-read = refl

  pub side-read : side_of whole ≡ H
  unfolding file_with front_of
  side-read = refl

  module _ (few : n < 0x1_0000_0000) where
    pub count-read : cell_count whole ≡ n
    unfolding file_with front_of
    count-read = four-bytes-of n few

    module _ (long : length packed ≡ bytes_for n) where
      behind : drop 4 (drop 6 whole) ≡ packed ++ (in_four_bytes 0 ++ rest)
      unfolding file_with front_of
      behind = append_assoc packed (in_four_bytes 0) rest

      pub cells-read : packed_bytes whole ≡ packed
      cells-read =
          ap (λ (k : ℕ). take (bytes_for k) (drop 4 (drop 6 whole))) count-read ∙ ap (take (bytes_for n)) behind
          ∙ take_at packed (in_four_bytes 0 ++ rest) (bytes_for n) long

      pub flux-read : flux_section whole ≡ in_four_bytes 0 ++ rest
      flux-read =
          ap (λ (k : ℕ). drop (bytes_for k) (drop 4 (drop 6 whole))) count-read ∙ ap (drop (bytes_for n)) behind
          ∙ drop_at packed (in_four_bytes 0 ++ rest) (bytes_for n) long

      pub no-timings-read : flux_count whole ≡ 0
      no-timings-read = ap number flux-read
