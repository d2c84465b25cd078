-- What the call answers and leaves, refused and accepted. Assumes nothing.
use Prim.Native.Nat.{ℕ}
use mathlib.Core.Path.{◌≡◌, ap}
use mathlib.Core.List.{List}
use Rattle.disk_tracks.specs.Judgement.{judged}
use Rattle.disk_tracks.proofs.Branches.{accepted}
use Rattle.lines.specs.Writing.{Wrote}
use Rattle.lines.proofs.Writing.{answer_is, out_is}
use Rattle.refusals.specs.RefusedCalls.{buffer_after}
use Rattle.refusals.specs.RefusedCalls.Answer.{gives}
use Rattle.disk_page.specs.PrivateContracts.{Whole, far}
use Rattle.disk_page.specs.Page.{page_of, page_answer, page_after}
use Rattle.disk_page.specs.Parts.{part_of, part_answer, part_after}

module _ (tracks findings : List ℕ) where
  pub whole : {n : ℕ} → judged tracks findings ≡ gives n → Whole tracks findings
  whole e = let a = accepted tracks findings e in record { few = a.few; sum = a.adds.sum }

  pub accepted-told : {n r : ℕ} {after : List ℕ} (out : List ℕ) → judged tracks findings ≡ gives n → Wrote out 0 (page_of tracks findings) far after r
      → (gives r ≡ page_answer tracks findings) × (after ≡ page_after tracks findings out)
  unfolding page_answer page_after buffer_after
  accepted-told out e w = rw e (ap gives (answer_is w), out_is w)

  -- the same of a part
  pub part-accepted : {n r : ℕ} {after : List ℕ} (part : ℕ) (out : List ℕ) → judged tracks findings ≡ gives n
      → Wrote out 0 (part_of tracks findings part) far after r
      → (gives r ≡ part_answer tracks findings part) × (after ≡ part_after tracks findings part out)
  unfolding part_answer part_after buffer_after
  part-accepted part out e w = rw e (ap gives (answer_is w), out_is w)
