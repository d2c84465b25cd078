-- The examples of rules 1.17, 2.4, 3.13 and 3.18 of the specification in one table: six rows of the separator, three codings, three check
-- words, five numbers of border pulses.
-- The main property, `AllHold table`, says that every one of them holds; `table-holds`, in proofs/Table, proves it. Assumes nothing.
use Rattle.std.specs.Prelude.{ℕ, List, [], ◌∷◌, map, ◌≡◌, ℤ, pos, negsuc}
use Rattle.crc.specs.CheckWord.{check_word}
use Rattle.separator.specs.Rule.{halved}
use Rattle.separation.specs.Separation.{Window, windows_of, border_pulses_of}
use Rattle.mfm.specs.Coding.{encoded}

-- an example: timings, with n, e and the r after each of them; a byte coded after a bit; bytes and their check word; timings and how many
-- border pulses they have
pub data Example : Type 0 where
  separates : List ℕ → List ℕ → List ℤ → List ℤ → Example
  codes : ℕ → ℕ → List ℕ → Example
  checks : List ℕ → ℕ → Example
  borders : List ℕ → ℕ → Example

-- what an example says: n, e and r of each window that the rule gives; the cells; the check word; the number of border pulses
abbrev pub Holds : Example → Type 0
Holds (separates timings n e r) =
    (map (λ (w : Window). w.cells) (windows_of timings) ≡ n) × (map (λ (w : Window). w.offset) (windows_of timings) ≡ e) × (map (λ (w : Window). halved w.offset) (windows_of timings) ≡ r)
Holds (codes before byte cells) = encoded before (byte ∷ []) ≡ cells
Holds (checks bytes word) = check_word bytes ≡ word
Holds (borders timings pulses) = border_pulses_of timings ≡ pulses

abbrev pub AllHold : List Example → Type 0
AllHold [] = Unit
AllHold (example ∷ examples) = Holds example × AllHold examples

-- 1.17, 2.4, 3.13, 3.18: the examples, in the order of the specification within each kind; negsuc k is -(k + 1)
abbrev pub table : List Example
table =
    separates (4900 ∷ 4000 ∷ []) (2 ∷ 2 ∷ []) (pos 900 ∷ pos 450 ∷ []) (pos 450 ∷ pos 225 ∷ [])
    ∷ separates (4999 ∷ []) (2 ∷ []) (pos 999 ∷ []) (pos 499 ∷ [])
    ∷ separates (5000 ∷ 5000 ∷ []) (3 ∷ 2 ∷ []) (negsuc 999 ∷ pos 500 ∷ []) (negsuc 499 ∷ pos 250 ∷ [])
    ∷ separates (5001 ∷ []) (3 ∷ []) (negsuc 998 ∷ []) (negsuc 498 ∷ [])
    ∷ separates (500 ∷ 3500 ∷ []) (0 ∷ 2 ∷ []) (pos 500 ∷ negsuc 249 ∷ []) (pos 250 ∷ negsuc 124 ∷ [])
    ∷ separates (10000000 ∷ []) (5000 ∷ []) (pos 0 ∷ []) (pos 0 ∷ [])
    ∷ codes 0 0x4E (0x92 ∷ 0x54 ∷ [])
    ∷ codes 0 0x00 (0xAA ∷ 0xAA ∷ [])
    ∷ codes 1 0x00 (0x2A ∷ 0xAA ∷ [])
    ∷ checks (0xA1 ∷ 0xA1 ∷ 0xA1 ∷ []) 0xCDB4
    ∷ checks (0xA1 ∷ 0xA1 ∷ 0xA1 ∷ 0xFE ∷ []) 0xB230
    ∷ checks (0xA1 ∷ 0xA1 ∷ 0xA1 ∷ 0xFB ∷ []) 0xE295
    ∷ borders (4901 ∷ []) 0
    ∷ borders (4902 ∷ []) 1
    ∷ borders (5098 ∷ []) 1
    ∷ borders (5099 ∷ []) 0
    ∷ borders (4902 ∷ 4451 ∷ []) 2
    ∷ []
