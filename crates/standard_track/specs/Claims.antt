-- Section 17 of the specification, rules 17.11 to 17.14: what is claimed of the standard track that Write Track makes. Each claim is about what the
-- call leaves in a lent buffer, whatever that held before, and is read by the definitions of the calls that list findings and read out sectors. The
-- proofs are in proofs/Theorems (`no-findings`, `only-ext`, `any-data`, `chosen-check`, `sbd-exactly`, `reads-back`). Assumes nothing.
use Rattle.std.specs.Prelude.{ℕ, ◌+◌, ◌*◌, ◌≤◌, ◌<◌, ◌≡◌, cond, true, ◌↔◌, eqb, leb, length}
use mathlib.Core.List.{List, [], ◌∷◌, ◌++◌, Memᴰ}
use Rattle.basis.specs.Lists.{written_over}
use Rattle.crc.specs.CheckWord.{check_word}
use Rattle.finding_list.specs.Findings.{findings_of}
use Rattle.finding_list.specs.declared.Finding.{Finding}
use Rattle.findings.specs.Calls.{findings_answer, list_after}
use Rattle.layouts.specs.Layouts.{double_density}
use Rattle.refusals.specs.RefusedCalls.Answer.{gives}
use Rattle.sectors.specs.Calls.{data_answer, data_after}
use Rattle.track_writer.specs.Calls.{write_answer, written_after}
use Rattle.standard_track.specs.StandardTrack.{track_list, checked, standard_list, replaced, Plain, PlainData}

-- 17.10: a buffer with room for the cells
abbrev pub HasRoom : List ℕ → Type 0
HasRoom buffer = 12500 ≤ length buffer

-- 17.11, 17.12, 17.13: in this buffer the list makes a track of 100,000 cells. At T and H the track has these findings and no others, and the call
-- that lists them gives their number and puts them at the front of a list with room for them
pub record Finds (T H : ℕ) (list buffer : List ℕ) (findings : List Finding) : Type 0 where
  pub cells : write_answer list buffer ≡ gives 100000
  pub all : findings_of double_density (written_after list buffer) 100000 T ≡ findings
  pub answer : (room : ℕ) → length findings ≤ room → findings_answer double_density (written_after list buffer) 100000 T H room ≡ gives (length findings)
  pub listed : (lent : List Finding) → length findings ≤ length lent
      → list_after double_density (written_after list buffer) 100000 T H lent ≡ written_over findings lent

-- 17.11: the EXT of nine sectors, kind 5: at 0, with 9
abbrev pub ext_finding : Finding
ext_finding = record { kind = 5; level = 2; place = 0; detail = 9 }

-- 17.11: up to T 79 the standard track has no findings
abbrev pub NoFindings : Type 0
NoFindings = (T H : ℕ) → T ≤ 79 → H ≤ 1 → (buffer : List ℕ) → HasRoom buffer → Finds T H (standard_list T H) buffer []

-- 17.11: from T 80 to T 83 it has EXT and no other
abbrev pub OnlyExt : Type 0
OnlyExt = (T H : ℕ) → 80 ≤ T → T ≤ 83 → H ≤ 1 → (buffer : List ℕ) → HasRoom buffer → Finds T H (standard_list T H) buffer (ext_finding ∷ [])

-- 17.12, 17.13: EXT from T 80 on
abbrev pub ext_findings : ℕ → List Finding
ext_findings T = cond (leb 80 T) (ext_finding ∷ []) []

-- 17.12: other data bytes change nothing of this
abbrev pub AnyData : Type 0
AnyData =
    (T H : ℕ) → T ≤ 83 → H ≤ 1 → (bytes : ℕ → List ℕ) → PlainData bytes → (buffer : List ℕ) → HasRoom buffer
    → Finds T H (track_list T H bytes checked) buffer (ext_findings T)

-- 17.13: the check word of a sector's data (rule 6.15)
abbrev pub check_of : List ℕ → ℕ
check_of bytes = check_word (0xA1 ∷ 0xA1 ∷ 0xA1 ∷ 0xFB ∷ bytes)

-- 17.13: the SBD of sector k, kind 15: at its ID mark (rule 6.19), with its number
abbrev pub sbd_finding : ℕ → Finding
sbd_finding k = record { kind = 15; level = 1; place = 1152 + 9824 * k; detail = k + 1 }

-- 17.13: two bytes a and b in the place of the F7 after the data of sector k. Where they are the check word of its data nothing changes; else the
-- findings have its SBD besides, and only it
abbrev pub ChosenCheck : Type 0
ChosenCheck =
    (T H : ℕ) → T ≤ 83 → H ≤ 1 → (bytes : ℕ → List ℕ) → PlainData bytes → (k a b : ℕ) → k < 9 → Plain a → Plain b → (buffer : List ℕ) → HasRoom buffer
    → Finds T H (track_list T H bytes (replaced k a b)) buffer (ext_findings T ++ cond (eqb (check_of (bytes k)) (a * 256 + b)) [] (sbd_finding k ∷ []))

-- 17.13: so that SBD is among the findings exactly where the two bytes are not the check word
abbrev pub SbdExactly : Type 0
SbdExactly =
    (T H : ℕ) → T ≤ 83 → H ≤ 1 → (bytes : ℕ → List ℕ) → PlainData bytes → (k a b : ℕ) → k < 9 → Plain a → Plain b → (buffer : List ℕ) → HasRoom buffer
    → Memᴰ (sbd_finding k) (findings_of double_density (written_after (track_list T H bytes (replaced k a b)) buffer) 100000 T)
    ↔ (check_of (bytes k) ≡ a * 256 + b → ⊥)

-- 17.14: reading out sector i gives its 512 bytes, with a good check, and puts them at the front of a buffer with room for them
abbrev pub ReadsBack : Type 0
ReadsBack =
    (T H : ℕ) → T ≤ 83 → H ≤ 1 → (bytes : ℕ → List ℕ) → PlainData bytes → (buffer : List ℕ) → HasRoom buffer
    → (i : ℕ) → i < 9 → (out : List ℕ) → 512 ≤ length out
    → (data_answer double_density (written_after (track_list T H bytes checked) buffer) 100000 T H i (length out)
    ≡ gives (record { size = 512; good = true }))
    × (data_after double_density (written_after (track_list T H bytes checked) buffer) 100000 T H i out ≡ written_over (bytes i) out)
