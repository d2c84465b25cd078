-- What a track and a file add to the lists, from what the calls promise. Assumes nothing.
use Prim.Native.Nat.{ℕ, ◌*◌, ◌≤◌}
use mathlib.Core.Path.{◌≡◌, refl, sym, ap, ◌∙◌}
use mathlib.Core.List.{List, [], ◌∷◌}
use native.Mathlib.Omega.{arith}
use lib.ListN.{length, take, drop}
use lib.Seq.{sets, take_at}
use Rattle.basis.specs.Lists.{written_over}
use Rattle.file_reader.specs.declared.Reader.{Reader}
use Rattle.findings.specs.Calls.{findings_answer, numbers_after}
use Rattle.findings.proofs.Outcome.{findings-accepted}
use Rattle.finding_list.specs.Calls.{numbers_of}
use Rattle.finding_list.specs.Findings.{findings_of}
use Rattle.finding_list.proofs.Numbers.{length-numbers}
use Rattle.layouts.specs.Layouts.{double_density}
use Rattle.layouts.proofs.Soundness.{sound}
use Rattle.layouts.specs.declared.Density.TheVariants.{Double}
use Rattle.finding_list.specs.declared.Found.{Found}
use Rattle.refusals.specs.RefusedCalls.{Answer, answer_by, buffer_after}
use Rattle.refusals.specs.RefusedCalls.Answer.{gives, refused}
use Rattle.refusals.specs.declared.Refusal.{Refusal}
use Rattle.track_file.specs.Portions.{read_answer, finish_answer, reader_through, cells_through, whole_of}
use Rattle.track_file.specs.TrackFile.{Content, file_answer_in, file_buffer}
use Rattle.std.specs.Prelude.{Result, Ok}
use Rattle.track_file.specs.declared.FileCells.{FileCells}
use Rattle.track_file.proofs.Whole.{whole_of_answer}
use Rattle.disk_files.specs.TrackOfFile.{FoundTrack, found, track_found, file_track, track_of_file, finding_count, track_numbers, finding_numbers}

-- what a call answers and leaves of the two lists, of a track or a refusal
abbrev pub Adds : Answer FoundTrack → Answer ℕ → (tracks after : List ℕ) (at : ℕ) (findings later : List ℕ) (from : ℕ) → Type 0
Adds brought answer tracks after at findings later from =
    (answer ≡ finding_count brought) × ((after ≡ sets tracks at (track_numbers brought)) × (later ≡ sets findings from (finding_numbers brought)))

-- how many findings an accepted track has
module _ (cells : List ℕ) (N T H : ℕ) {count : ℕ} (e : findings_answer double_density cells N T H 901 ≡ gives count) where
  count_is : count ≡ length (findings_of double_density cells N T)
  count_is = (findings-accepted double_density (sound Double) cells N T H 901 count e).0

  pub count-few : count ≤ 901
  count-few = (findings-accepted double_density (sound Double) cells N T H 901 count e).1

-- the same of what a call told
module _ (cells : List ℕ) (N T H : ℕ) {told : Result Found Refusal} (e : answer_by (λ (found : Found). found.findings) told ≡ findings_answer double_density cells N T H 901) where
  pub accepted : {found : Found} → told ≡ Ok found → findings_answer double_density cells N T H 901 ≡ gives found.findings
  accepted is = sym e ∙ ap (answer_by (λ (found : Found). found.findings)) is

  pub few : {found : Found} → told ≡ Ok found → found.findings ≤ 901
  few is = count-few cells N T H (accepted is)

module _ (tracks after : List ℕ) (at : ℕ) (findings later : List ℕ) (from : ℕ) (cells : List ℕ) where
  module _ (N T H : ℕ) where
    -- an accepted one
    pub adds-track : {count : ℕ} → findings_answer double_density cells N T H 901 ≡ gives count → (array numbers : List ℕ) → length array ≡ 3604
        → numbers ≡ numbers_after double_density cells N T H array → after ≡ sets tracks at (T ∷ H ∷ count ∷ [])
        → later ≡ sets findings from (take (4 * count) numbers) → Adds (track_found cells N T H) (gives count) tracks after at findings later from
    unfolding track_found found finding_count track_numbers finding_numbers buffer_after
    adds-track {count} e array numbers long n a l =
        let fs = findings_of double_density cells N T in
        let k = count_is cells N T H e in
        let all : numbers ≡ written_over (numbers_of fs) array = n ∙ rw (long, e) in
        let front : take (4 * count) numbers ≡ numbers_of fs =
        rw (all, k) (take_at (numbers_of fs) (drop (length (numbers_of fs)) array) (4 * length fs) (length-numbers fs)) in
        rw e (ap gives k, (a ∙ ap (λ (n : ℕ). sets tracks at (T ∷ H ∷ n ∷ [])) k, l ∙ ap (sets findings from) front))

  -- the track of an accepted file
  pub accepted-file : {read : Result FileCells Refusal} {finish : Answer Content} {T H : ℕ} (answer : Answer ℕ) (file : FileCells) → read_answer read ≡ finish → read ≡ Ok file
      → T ≡ file.track → H ≡ file.side → Adds (track_found cells file.count T H) answer tracks after at findings later from
      → Adds (file_track finish cells) answer tracks after at findings later from
  unfolding file_track
  accepted-file answer file given e t h w = rw (← given, e) (rw (t, h) at w)

-- 10.15: for every file and every way to cut it into portions, what is found is that of the whole file
same-track : (given : Answer Content) (cells other : List ℕ) → ((content : Content) → given ≡ gives content → cells ≡ other) → file_track given cells ≡ file_track given other
unfolding file_track
same-track (gives content) cells other same = rw (same content refl)
same-track (refused number value) cells other same = refl

pub whole-track : (reader : Reader) (cells buffer : List ℕ) (portions : List (List ℕ)) → reader ≡ reader_through buffer portions → cells ≡ cells_through buffer portions
    → file_track (finish_answer reader) cells ≡ track_of_file (length buffer) (whole_of portions)
unfolding track_of_file
whole-track reader cells buffer portions same-reader same-cells =
    let whole = (whole_of_answer reader refl).whole buffer portions same-reader in
    same-track (finish_answer reader) cells (file_buffer (length buffer) (whole_of portions)) (λ content accepted. same-cells ∙ whole.1 content accepted)
    ∙ ap (λ (x : Answer Content). file_track x (file_buffer (length buffer) (whole_of portions))) whole.0

refusal-none : (number value : ℕ) → length (finding_numbers (refused number value)) ≤ 3604
unfolding finding_numbers
refusal-none number value = omega arith

-- a file brings at most 901 findings
few-found : (cells : List ℕ) (N T H : ℕ) → length (finding_numbers (track_found cells N T H)) ≤ 3604
unfolding track_found found finding_numbers
few-found cells N T H = go (findings_answer double_density cells N T H 901) refl
  where
    go : (x : Answer ℕ) → findings_answer double_density cells N T H 901 ≡ x
        → length (finding_numbers (found x (record { track = T; side = H; findings = findings_of double_density cells N T }))) ≤ 3604
    go (gives count) e =
        let a = findings-accepted double_density (sound Double) cells N T H 901 count e in
        omega (arith, length-numbers (findings_of double_density cells N T), a.0, a.1)
    go (refused number value) e = omega arith

pub few-numbers : (room : ℕ) (file : List ℕ) → length (finding_numbers (track_of_file room file)) ≤ 3604
unfolding track_of_file file_track
few-numbers room file = go (file_answer_in room file)
  where
    go : (x : Answer Content) → length (finding_numbers (file_track x (file_buffer room file))) ≤ 3604
    go (gives content) = few-found (file_buffer room file) content.cells content.track content.side
    go (refused number value) = refusal-none number value
