-- Section 17 of the specification, rule 17.10: the list of bytes by which Write Track makes the standard track of rule 6.19.
--
--   60 of 4E, then nine times this, then 664 of 4E:
--   12 of 00    F5 F5 F5 FE    T H number 2    F7    22 of 4E    12 of 00    F5 F5 F5 FB    512 data bytes    F7    40 of 4E
--
-- A sector is named by its index, from 0. Assumes nothing.
use Rattle.std.specs.Prelude.{ℕ, ◌+◌, ◌<◌, ◌≡◌, cond, List, [], ◌∷◌, ◌++◌, ◌⊎◌, eqb, length, get_or, replicate}
use Rattle.basis.specs.Lists.{joined}

-- 17.10: the bytes of one sector. `end` stands after its data bytes
unfoldable pub sector_list : (T H number : ℕ) → (bytes end : List ℕ) → List ℕ
sector_list T H number bytes end =
    replicate 12 0
    ++ ((0xF5 ∷ 0xF5 ∷ 0xF5 ∷ 0xFE ∷ T ∷ H ∷ number ∷ 2 ∷ 0xF7 ∷ [])
    ++ (replicate 22 0x4E
    ++ (replicate 12 0
    ++ ((0xF5 ∷ 0xF5 ∷ 0xF5 ∷ 0xFB ∷ [])
    ++ (bytes
    ++ (end
    ++ replicate 40 0x4E))))))

-- 17.10: sector i has the number i + 1; `bytes` and `ends` have the data bytes of each sector and what stands after them
unfoldable pub sector_list_at : (T H : ℕ) → (bytes ends : ℕ → List ℕ) → ℕ → List ℕ
sector_list_at T H bytes ends i = sector_list T H (i + 1) (bytes i) (ends i)

-- 17.10: the whole list
unfoldable pub track_list : (T H : ℕ) → (bytes ends : ℕ → List ℕ) → List ℕ
track_list T H bytes ends = replicate 60 0x4E ++ (joined (sector_list_at T H bytes ends) 9 ++ replicate 664 0x4E)

-- 17.10: F7 stands after the data of every sector
unfoldable pub checked : ℕ → List ℕ
checked i = 0xF7 ∷ []

-- 17.10: every data byte is E5
unfoldable pub all_e5 : ℕ → List ℕ
all_e5 i = replicate 512 0xE5

-- 17.10: the list of the standard track
abbrev pub standard_list : (T H : ℕ) → List ℕ
standard_list T H = track_list T H all_e5 checked

-- 17.13: after the data of sector k stand the bytes a and b, and F7 after that of the others
unfoldable pub replaced : (k a b : ℕ) → ℕ → List ℕ
replaced k a b i = cond (eqb i k) (a ∷ b ∷ []) (0xF7 ∷ [])

-- 17.12, 17.13: a byte that Write Track codes: none of F5 to F7
abbrev pub Plain : ℕ → Type 0
Plain byte = (byte < 256) × ((byte < 0xF5) ⊎ (0xF7 < byte))

-- 17.12: 512 such bytes for each of the nine sectors. Past the end of a list there are zeros, which are plain
pub record PlainData (bytes : ℕ → List ℕ) : Type 0 where
  pub long : (i : ℕ) → i < 9 → length (bytes i) ≡ 512
  pub plain : (i : ℕ) → i < 9 → (k : ℕ) → Plain (get_or (bytes i) k 0)
