-- From the sectors of a track to the answer of the call and what stands in its array. Assumes nothing.
use Prim.Native.Nat.{ℕ, ◌≤◌}
use mathlib.Core.Path.{◌≡◌, refl, sym}
use mathlib.Core.List.{List}
use native.Mathlib.Omega.{arith}
use lib.ListN.{length, replicate, take}
use Rattle.basis.specs.Lists.{joined}
use Rattle.cells.specs.CellsAndBytes.{cell}
use Rattle.finding_list.specs.Calls.{survey_answer, sectors_given, array_after}
use Rattle.finding_list.specs.Findings.{kinds, of_kind, findings_of}
use Rattle.finding_list.specs.PrivateContracts.{Added, BoundedTrack}
use Rattle.finding_list.proofs.Bounds.{sectors-kept, sectors-on}
use Rattle.finding_list.proofs.MostFindings.{few_findings}
use Rattle.finding_list.proofs.Numbers.{array-is}
use Rattle.refusals.specs.RefusedCalls.Answer.{gives, refused}
use Rattle.sectors.specs.Calls.{sectors_answer, sectors_beside}
use Rattle.layouts.specs.Layouts.{layout_of}
use Rattle.layouts.specs.declared.Density.{Density}
use Rattle.layouts.specs.declared.Layout.{Layout}
use Rattle.layouts.proofs.Soundness.{sound}
use Rattle.sectors.specs.declared.Track.{Track}
use Rattle.layouts.specs.PrivateContracts.{Sound}
use Rattle.sector_records.specs.Sectors.{sectors_of}
use Rattle.sector_records.specs.declared.Sectors.{Sectors}
use Rattle.sectors.proofs.Calls.{judged-accepted, list-accepted, enough-cells, Follows, follows-given, follows-track, follows-count}

pub findings-few : (layout : Layout) → Sound layout → (bytes : List ℕ) (N T : ℕ) → length (sectors_of layout bytes N) ≤ 64 → length (findings_of layout bytes N T) ≤ 901
unfolding findings_of
findings-few layout sound bytes N T few = few_findings layout sound (cell bytes N) N T (sectors_of layout bytes N) few

module _ (layout : Layout) (sound : Sound layout) (bytes : List ℕ) (N T H : ℕ) where
  -- the findings are listed after the sectors
  pub survey-follows : Follows (sectors_answer layout bytes N T H) (survey_answer layout bytes N T H) (gives (length (findings_of layout bytes N T)))
  unfolding sectors_answer survey_answer
  survey-follows = follows-track _ _ _ (follows-count _ _ _ (follows-given (length (sectors_of layout bytes N)) _) (length (sectors_of layout bytes N))) bytes N T H

  -- an accepted call gives the number of findings, at most 901
  pub survey-accepted : (m : ℕ) → survey_answer layout bytes N T H ≡ gives m → (m ≡ length (findings_of layout bytes N T)) × (m ≤ 901)
  unfolding survey_answer
  survey-accepted m e =
      let j = judged-accepted bytes N T H (length (sectors_of layout bytes N)) m (gives (length (findings_of layout bytes N T))) e in
      let g = j.0 in
      let s : m ≡ length (findings_of layout bytes N T) = cc in
      (s, rw s (findings-few layout sound bytes N T j.1))

  -- what the call promises beside a refusal
  pub survey-refused : (number value : ℕ) → refused number value ≡ sectors_answer layout bytes N T H → (array : List ℕ)
      → (refused number value ≡ survey_answer layout bytes N T H)
      × ((0 ≡ sectors_given (survey_answer layout bytes N T H) (length (sectors_of layout bytes N))) × (array ≡ array_after (survey_answer layout bytes N T H) (findings_of layout bytes N T) array))
  survey-refused number value e array = let g = survey-follows.refusals number value (sym e) in rw g (refl, (refl, refl))

-- and where it is accepted: the sectors that it gives are those of the track
module _ (density : Density) (t : Track) (ss : Sectors) (e : gives ss.count ≡ sectors_answer (layout_of density) t.cells.bytes.now t.cells.count t.track t.side)
    (are : ss ≡ sectors_beside (sectors_answer (layout_of density) t.cells.bytes.now t.cells.count t.track t.side) (sectors_of (layout_of density) t.cells.bytes.now t.cells.count)) where
  abbrev layout : Layout
  layout = layout_of density

  abbrev bytes : List ℕ
  bytes = t.cells.bytes.now

  abbrev N : ℕ
  N = t.cells.count

  accepted : (ss.count ≡ length (sectors_of layout bytes N)) × (ss.count ≤ 64) × (N ≤ 131072)
  accepted = list-accepted layout bytes N t.track t.side ss.count (sym e)

  pub count-few : ss.count ≤ 64
  count-few = accepted.1

  few : length (sectors_of layout bytes N) ≤ 64
  few = omega (arith, accepted.0, accepted.1)

  sectors-are : take ss.count ss.all ≡ sectors_of layout bytes N
  unfolding sectors_beside
  sectors-are = sectors-kept layout bytes N ss (rw (← e) at are) few

  pub sectors-bounded : BoundedTrack N (take ss.count ss.all)
  sectors-bounded = rw sectors-are (sectors-on layout (sound density) bytes N few (enough-cells layout bytes N t.track t.side ss.count (sym e)) accepted.2)

  pub survey-given : (array after : List ℕ) (count : ℕ)
      → Added (replicate 3604 0) 0 (joined (of_kind layout (cell bytes N) N t.track (take ss.count ss.all)) kinds) after count
      → (gives count ≡ survey_answer layout bytes N t.track t.side)
      × ((ss.count ≡ sectors_given (survey_answer layout bytes N t.track t.side) (length (sectors_of layout bytes N)))
      × (after ≡ array_after (survey_answer layout bytes N t.track t.side) (findings_of layout bytes N t.track) array))
  unfolding findings_of
  survey-given array after count added =
      let is = array-is (findings_of layout bytes N t.track) (replicate 3604 0) after count (rw sectors-are at added) in
      rw ((survey-follows layout (sound density) bytes N t.track t.side).accepted ss.count (sym e), is.0) (refl, (accepted.0, is.1))
