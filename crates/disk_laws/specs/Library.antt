-- Section 16 of the specification, rule 16.20: findings of the library are accepted. The main property is `NeverAmiss`, proved in
-- proofs/Library for every list of tracks. Assumes nothing.
use Rattle.std.specs.Prelude.{ℕ, ◌≡◌, List, [], ◌∷◌, ◌++◌, length}
use Rattle.layouts.specs.declared.Layout.{Layout}
use Rattle.finding_list.specs.Calls.{numbers_of}
use Rattle.finding_list.specs.Findings.{findings_of}
use Rattle.refusals.specs.RefusedCalls.Answer.{refused}
use Rattle.disk_tracks.specs.Judgement.{judged}

-- 16.20: a track that was read: its cells, packed in bytes, its layout, and the drive's track and side
pub record Read : Type 0 where
  pub layout : Layout
  pub bytes : List ℕ
  pub cells : ℕ
  pub track : ℕ
  pub side : ℕ

-- 16.20: the tracks as they are handed over, each with the number of findings that the library gave
unfoldable pub tracks_of : List Read → List ℕ
tracks_of [] = []
tracks_of (r ∷ rs) = r.track ∷ r.side ∷ length (findings_of r.layout r.bytes r.cells r.track) ∷ tracks_of rs

-- 16.20: the numbers of these findings, in the order of the tracks
unfoldable pub findings_given : List Read → List ℕ
findings_given [] = []
findings_given (r ∷ rs) = numbers_of (findings_of r.layout r.bytes r.cells r.track) ++ findings_given rs

-- 16.20: they are never refused with 25
abbrev pub NeverAmiss : List Read → Type 0
NeverAmiss rs = (value : ℕ) → judged (tracks_of rs) (findings_given rs) ≡ refused 25 value → ⊥
