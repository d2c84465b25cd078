-- Section 11 of the specification, rules 11.2 to 11.6 and 11.9: lines of text, as bytes, made of numbers alone.
--
--   T05 H0 cells 100000 sectors 0 findings 2          the header
--   3 NOS level 3 place 0 detail 0                    a finding
--   refused 15                                        a refusal
--
-- The main property: what is written is the line stated here, or as much of its front as there is room for. Assumes nothing.
use Prim.Native.Char.{code}
use Rattle.std.specs.Prelude.{ℕ, zero, suc, ◌+◌, ◌/◌, ◌%◌, cond, List, [], ◌∷◌, ◌++◌, ltb, length, get_or, take}
use Prim.Native.String.{String}
use Prim.Native.String.{[] as []ᵗ, ◌∷◌ as ◌∷ᵗ◌}
use Rattle.basis.specs.Lists.{written_over}

-- the bytes of a text: the codes of its characters, none of which is above 7F here
unfoldable pub bytes_of : String → List ℕ
bytes_of []ᵗ = []
bytes_of (character ∷ᵗ rest) = code character ∷ bytes_of rest

-- 11.5: the last decimal digit of a number, as a character
unfoldable pub digit : ℕ → ℕ
digit n = code "0" + n % 10

-- 11.5: a number in decimal: no zeros in front, and at least one digit. It has at most `most` digits; n + 1 are always enough for n
unfoldable pub digits_within : ℕ → ℕ → List ℕ
digits_within zero n = []
digits_within (suc most) n = cond (ltb n 10) (digit n ∷ []) (digits_within most (n / 10) ++ (digit n ∷ []))

unfoldable pub decimal_of : ℕ → List ℕ
decimal_of n = digits_within (suc n) n

-- 11.5: T always has two digits, as in `T05`. Of a number above 99 they are the last two
unfoldable pub two_digits : ℕ → List ℕ
two_digits T = digit (T / 10) ∷ digit T ∷ []

-- 11.6: the names of the kinds, from kind 1 to kind 22
unfoldable pub names : List String
names =
    "LGT"
    ∷ "SHT"
    ∷ "NOS"
    ∷ "TNF"
    ∷ "EXT"
    ∷ "DSN"
    ∷ "ISN"
    ∷ "ITN"
    ∷ "IIF"
    ∷ "SSZ"
    ∷ "NSI"
    ∷ "NSD"
    ∷ "SBI"
    ∷ "SND"
    ∷ "SBD"
    ∷ "DOI"
    ∷ "DBI"
    ∷ "SWS"
    ∷ "SID"
    ∷ "MTV"
    ∷ "NFA"
    ∷ "FZD"
    ∷ []

-- 11.6: the name of a kind; a number that is no kind has none
unfoldable pub name_of : ℕ → List ℕ
name_of kind = bytes_of (get_or ("" ∷ names) kind "")

-- 11.2: the header: T, H, N, the number of sectors and the number of findings, as in `T05 H0 cells 100000 sectors 0 findings 2`
unfoldable pub header_of : (T H N sectors findings : ℕ) → List ℕ
header_of T H N sectors findings =
    bytes_of "T"
    ++ two_digits T
    ++ (bytes_of " H" ++ decimal_of H)
    ++ (bytes_of " cells " ++ decimal_of N)
    ++ (bytes_of " sectors " ++ decimal_of sectors)
    ++ (bytes_of " findings " ++ decimal_of findings)
    ++ bytes_of "\n"

-- 11.3: the line of a finding: its kind, the name of the kind, its level, its place and its detail, as in `3 NOS level 3 place 0 detail 0`
unfoldable pub finding_line : (kind level place detail : ℕ) → List ℕ
finding_line kind level place detail =
    decimal_of kind
    ++ bytes_of " "
    ++ name_of kind
    ++ (bytes_of " level " ++ decimal_of level)
    ++ (bytes_of " place " ++ decimal_of place)
    ++ (bytes_of " detail " ++ decimal_of detail)
    ++ bytes_of "\n"

-- 11.4: the line of a refusal, by its number alone, as in `refused 15`
unfoldable pub refused_line : ℕ → List ℕ
refused_line number = bytes_of "refused " ++ decimal_of number ++ bytes_of "\n"

-- 11.9: the lent buffer afterwards: a line or a listing at its front, as much of it as there is room for; the bytes after it are left as
-- they are
abbrev pub out_after : List ℕ → List ℕ → List ℕ
out_after made out = written_over (take (length out) made) out
