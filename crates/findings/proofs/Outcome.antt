-- From the survey of a track to the answer of the call and what goes to the list. Assumes nothing.
use Prim.Native.Nat.{ℕ, ◌*◌, ◌/◌, ◌<◌, ◌≤◌}
use mathlib.Core.Path.{◌≡◌, refl, sym, ◌∙◌}
use mathlib.Core.Bool.{Bool, true, false, cond}
use mathlib.Core.List.{List}
use native.Mathlib.Omega.{arith}
use borrow.Author.Tests.{lt-ltb, le-ltb}
use lib.Dec.{ltb}
use lib.ListN.{length, take}
use lib.Seq.{take_all, take_at}
use Rattle.basis.specs.Lists.{written_over}
use Rattle.finding_list.specs.Calls.{survey_answer, sectors_given, numbers_of, array_after}
use Rattle.finding_list.specs.Findings.{findings_of}
use Rattle.finding_list.specs.declared.Finding.{Finding}
use Rattle.finding_list.proofs.Numbers.{length-numbers}
use Rattle.finding_list.proofs.Outcome.{findings-few, survey-accepted}
use Rattle.findings.specs.Calls.{findings_answer}
use Rattle.findings.specs.PrivateContracts.{Numbered}
use Rattle.refusals.specs.RefusedCalls.{Answer, buffer_after}
use Rattle.refusals.specs.RefusedCalls.Answer.{gives, refused}
use Rattle.layouts.specs.declared.Layout.{Layout}
use Rattle.layouts.specs.PrivateContracts.{Sound}
use Rattle.sector_records.specs.Sectors.{sectors_of}
use Rattle.sectors.proofs.Calls.{judged-accepted, Follows, follows-given, follows-track, follows-count}

-- what the call answers where the survey is accepted
abbrev pub judged_room : (room findings : ℕ) → Answer ℕ
judged_room room findings = cond (ltb room findings) (refused 5 findings) (gives findings)

module _ (layout : Layout) (sound : Sound layout) (bytes : List ℕ) (N T H room : ℕ) where
  abbrev fs : List Finding
  fs = findings_of layout bytes N T

  -- what `in_room` promises of its answer, the number of sectors and the numbers
  abbrev pub Promised : (answer : Answer ℕ) (sectors : ℕ) (numbers : List ℕ) → Type 0
  Promised answer sectors numbers =
      (answer ≡ findings_answer layout bytes N T H room)
      × ((sectors ≡ sectors_given (findings_answer layout bytes N T H room) (length (sectors_of layout bytes N)))
      × ((count : ℕ) → findings_answer layout bytes N T H room ≡ gives count → Numbered numbers count room (findings_of layout bytes N T)))

  -- the room is judged after the survey
  findings-follow : Follows (survey_answer layout bytes N T H) (findings_answer layout bytes N T H room) (judged_room room (length fs))
  unfolding survey_answer findings_answer
  findings-follow =
      follows-track _ _ _ (follows-count _ _ _ (follows-given (length fs) _) (length (sectors_of layout bytes N))) bytes N T H

  -- beside a refusal no number of findings is given
  promised-refused : (number value : ℕ) → refused number value ≡ findings_answer layout bytes N T H room → (numbers : List ℕ) → Promised (refused number value) 0 numbers
  promised-refused number value e numbers = (e, (rw (← e) refl, λ count g. (let z : ◌≡◌ {A = Answer ℕ} (refused number value) (gives count) = e ∙ g in let y : ◌≡◌ {A = ℕ} 0 1 = cc in absurd (omega arith))))

  pub refused-before : (number value : ℕ) → refused number value ≡ survey_answer layout bytes N T H → (numbers : List ℕ) → Promised (refused number value) 0 numbers
  refused-before number value e numbers = promised-refused number value (sym (findings-follow.refusals number value (sym e))) numbers

  -- else all findings, or refusal 5
  module _ (m : ℕ) (e : gives m ≡ survey_answer layout bytes N T H) where
    all_there : (m ≡ length fs) × (m ≤ 901)
    all_there = survey-accepted layout sound bytes N T H m (sym e)

    pub too-short : room < m → (numbers : List ℕ) → Promised (refused 5 m) 0 numbers
    too-short h numbers = promised-refused 5 m (rw (findings-follow.accepted m (sym e), ← all_there.0, lt-ltb room m h)) numbers

    pub fits : m ≤ room → (sectors : ℕ) → sectors ≡ sectors_given (survey_answer layout bytes N T H) (length (sectors_of layout bytes N))
        → (array numbers : List ℕ) → numbers ≡ array_after (survey_answer layout bytes N T H) (findings_of layout bytes N T) array → Promised (gives m) sectors numbers
    fits h sectors s array numbers n =
        let g : gives m ≡ findings_answer layout bytes N T H room = rw (findings-follow.accepted m (sym e), ← all_there.0, le-ltb room m h) in
        let long : length (numbers_of fs) ≡ 4 * m = length-numbers fs ∙ rw (← all_there.0) in
        let front : take (4 * m) numbers ≡ numbers_of fs = rw (n, ← e) (take_at (numbers_of fs) _ (4 * m) long) in (
          g,
          (
            s ∙ rw (← e, ← g),
            λ count k.
                let same : count ≡ m = (let z : ◌≡◌ {A = Answer ℕ} (gives m) (gives count) = g ∙ k in cc) in
                rw same record { all = all_there.0; front = front; few = all_there.1; fits = h },
          ),
        )

-- an accepted call gives the number of findings, at most 901, of a track of at most 131,072 cells with at most 64 sectors
pub findings-accepted : (layout : Layout) → Sound layout → (bytes : List ℕ) (N T H room m : ℕ) → findings_answer layout bytes N T H room ≡ gives m
    → (m ≡ length (findings_of layout bytes N T)) × (m ≤ 901) × (length (sectors_of layout bytes N) ≤ 64) × (N ≤ 131072)
unfolding findings_answer
findings-accepted layout sound bytes N T H room m e =
    let k = length (findings_of layout bytes N T) in
    let j = judged-accepted bytes N T H (length (sectors_of layout bytes N)) m (judged_room room k) e in
    let s = given (ltb room k) j.0 in
    (s, rw s (findings-few layout sound bytes N T j.1), j.1, j.2)
  where
    given : (b : Bool) → cond b (refused 5 (length (findings_of layout bytes N T))) (gives (length (findings_of layout bytes N T))) ≡ gives m → m ≡ length (findings_of layout bytes N T)
    given true g = let z : ◌≡◌ {A = ℕ} 0 1 = cc in absurd (omega arith)
    given false g = cc

-- the list of numbers with all findings at its front
pub numbers-written : (fs : List Finding) (numbers list : List ℕ) (count : ℕ) → Numbered numbers count (length list / 4) fs
    → written_over (take (length list) (take (4 * count) numbers)) list ≡ written_over (numbers_of fs) list
numbers-written fs numbers list count n =
    let long : length (numbers_of fs) ≤ length list = omega (arith, length-numbers fs, n.all, n.fits) in
    rw (n.front, take_all (length list) (numbers_of fs) long)

-- beside a refusal the list is kept, and else it is written
pub kept-refused : {A : Type 0} (answer : Answer ℕ) (number value : ℕ) → refused number value ≡ answer → (made list : List A) → list ≡ buffer_after answer made list
unfolding buffer_after
kept-refused answer number value e made list = rw (← e) refl

pub written-given : {A : Type 0} (answer : Answer ℕ) (count : ℕ) → gives count ≡ answer → (made list : List A) → written_over made list ≡ buffer_after answer made list
unfolding buffer_after
written-given answer count e made list = rw (← e) refl
