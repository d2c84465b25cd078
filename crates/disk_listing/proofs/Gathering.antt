-- What a file adds to the tracks that are gathered, from the reads of it. Assumes nothing.
use Prim.Native.Nat.{ℕ, ◌+◌, ◌*◌, ◌≤◌, ◌<◌}
use mathlib.Core.Path.{◌≡◌, refl, sym, ap, subst, ◌∙◌}
use mathlib.Core.List.{List, [], ◌∷◌, ◌++◌}
use mathlib.Core.Logic.{◌⊎◌, inl, inr}
use native.Mathlib.Omega.{arith}
use lib.ListN.{length, take, drop, length-append}
use lib.Seq.{sets, sets-eq, take_at, length-take-le}
use Rattle.disk_files.specs.TrackOfFile.{FoundTrack, file_track, track_of_file, finding_count, track_numbers, finding_numbers}
use Rattle.disk_files.proofs.Added.{Adds, whole-track, few-numbers}
use Rattle.finding_list.specs.Calls.{numbers_of}
use Rattle.finding_list.proofs.Numbers.{length-numbers}
use Rattle.file_reader.specs.declared.Reader.{Reader}
use Rattle.refusals.specs.RefusedCalls.{Answer, answer_of, number_of, value_of}
use Rattle.refusals.specs.RefusedCalls.Answer.{gives, refused}
use Rattle.std.specs.Prelude.{Result, Ok, Err}
use Rattle.refusals.specs.declared.Refusal.{Refusal}
use Rattle.track_file.specs.Portions.{start_of, start_cells, finish_answer, whole_of}
use Rattle.track_input.specs.declared.Input.{Input}
use Rattle.track_input.specs.declared.Input.TheVariants.{Open, Ended, Failed}
use Rattle.track_input.specs.Formats.{track_file_steps}
use Rattle.track_input.specs.Reading.{portions_of, ReadThrough}
use Rattle.track_input.proofs.TrackFiles.{all-from-start, reader-from-start, cells-from-start}
use Rattle.disk_listing.specs.declared.Disk.{Disk}
use Rattle.disk_listing.specs.DiskOfFiles.File.{Track, Unreadable}
use Rattle.disk_listing.specs.DiskOfFiles.File.{Refused as Refuses}
use Rattle.disk_listing.specs.DiskOfFiles.{File, Outcome, outcome_of, OneFile, told, tracks_of, findings_of, TakenFile, left_out, not_read, Files, AllFiles}
use Rattle.disk_listing.specs.DiskOfFiles.Outcome.{brings, unreadable}
use Rattle.disk_listing.specs.DiskOfFiles.OneFile.{not_opened, opened}
use Rattle.disk_listing.specs.DiskOfFiles.Files.{none, one_more}
use Rattle.disk_listing.specs.PrivateContracts.{with_file, Small, Gathered}

-- a file that cannot be opened
pub no-file : (tracks findings : List ℕ) (at from : ℕ) → TakenFile Unreadable tracks tracks at findings findings from
unfolding told tracks_of findings_of
no-file tracks findings at from =
    record { outcome = unreadable; one_file = not_opened; file_is = refl; tracks_are = refl; findings_are = refl; few = omega arith }

module _ (buffer : List ℕ) (long : length buffer ≡ 16384) {first : Reader} {cleared : List ℕ}
    (started : (first ≡ start_of (length buffer)) × (cleared ≡ start_cells buffer)) {input : Input Reader} {cells : List ℕ}
    (through : ReadThrough track_file_steps first cleared input cells) where
  one_file : OneFile (outcome_of input through.reads)
  one_file = opened through.reads input (rw long at (all-from-start buffer started through))

  abbrev file : List ℕ
  file = whole_of (portions_of through.reads)

  -- one that cannot be read to its end
  not-read : (tracks findings : List ℕ) (at from : ℕ) → outcome_of input through.reads ≡ unreadable → TakenFile Unreadable tracks tracks at findings findings from
  unfolding told tracks_of findings_of
  not-read tracks findings at from e =
      record {
        outcome = unreadable;
        one_file = subst OneFile e one_file;
        file_is = refl;
        tracks_are = refl;
        findings_are = refl;
        few = omega arith;
      }

  module _ (tracks findings : List ℕ) (at from : ℕ) where
    pub not_ended : ((reader : Reader) × (input ≡ Open reader)) ⊎ (input ≡ Failed) → TakenFile Unreadable tracks tracks at findings findings from
    unfolding outcome_of
    not_ended (inl (reader, e)) = not-read tracks findings at from (rw e)
    not_ended (inr e) = not-read tracks findings at from (rw e)

  -- one that is read: its track, or its refusal
  module _ {reader : Reader} (ended : input ≡ Ended reader) (answer : Result ℕ Refusal) (tracks after : List ℕ) (at : ℕ) (findings later : List ℕ) (from : ℕ)
      (adds : Adds (file_track (finish_answer reader) cells) (answer_of answer) tracks after at findings later from) where
    same : file_track (finish_answer reader) cells ≡ track_of_file 16384 file
    same =
        subst (λ (n : ℕ). file_track (finish_answer reader) cells ≡ track_of_file n file) long
        (whole-track reader cells buffer (portions_of through.reads) (reader-from-start buffer started through ended) (cells-from-start buffer started through))

    adds-file : Adds (track_of_file 16384 file) (answer_of answer) tracks after at findings later from
    adds-file = subst (λ (x : Answer FoundTrack). Adds x (answer_of answer) tracks after at findings later from) same adds

    taken : (r : File) → r ≡ told (brings (track_of_file 16384 file)) → TakenFile r tracks after at findings later from
    unfolding outcome_of tracks_of findings_of
    taken r e =
        let is : outcome_of input through.reads ≡ brings (track_of_file 16384 file) = rw ended in
        record {
          outcome = brings (track_of_file 16384 file);
          one_file = subst OneFile is one_file;
          file_is = e;
          tracks_are = adds-file.1.0;
          findings_are = adds-file.1.1;
          few = few-numbers 16384 file;
        }

    pub track-taken : {count : ℕ} → answer ≡ Ok count → TakenFile (Track count) tracks after at findings later from
    unfolding told finding_count
    track-taken {count} e = taken (Track count) (go (track_of_file 16384 file) (rw e at adds-file.0))
      where
        go : (x : Answer FoundTrack) → gives count ≡ finding_count x → Track count ≡ told (brings x)
        go (gives found) g = ap Track cc
        go (refused number value) g = let z : ◌≡◌ {A = ℕ} 0 1 = cc in absurd (omega arith)

    pub refusal-taken : {refusal : Refusal} → answer ≡ Err refusal → TakenFile (Refuses (number_of refusal)) tracks after at findings later from
    unfolding told finding_count
    refusal-taken {refusal} e = taken (Refuses (number_of refusal)) (go (track_of_file 16384 file) (rw e at adds-file.0))
      where
        go : (x : Answer FoundTrack) → refused (number_of refusal) (value_of refusal) ≡ finding_count x → Refuses (number_of refusal) ≡ told (brings x)
        go (gives found) g = let z : ◌≡◌ {A = ℕ} 0 1 = cc in absurd (omega arith)
        go (refused m v) g = ap Refuses cc

-- numbers stored behind the front of a list are added to it
added : (list vs : List ℕ) (at : ℕ) {after : List ℕ} → after ≡ sets list at vs → at + length vs ≤ length list → take (at + length vs) after ≡ take at list ++ vs
added list vs at {after} e h =
    let front : length (take at list ++ vs) ≡ at + length vs = length-append (take at list) vs ∙ ap (λ (n : ℕ). n + length vs) (length-take-le at list (omega arith)) in
    rw (e, sets-eq vs list at h) (take_at (take at list ++ vs) (drop (at + length vs) list) (at + length vs) front)

-- one file more
module _ {disk : Disk} {tracks findings : List ℕ} {next : ℕ} (before : Gathered disk tracks findings next) {file : File} {after later : List ℕ}
    (taken : TakenFile file tracks after disk.tracks findings later disk.findings) (few : disk.tracks ≤ 504) where
  three : (o : Outcome) → length (tracks_of o) ≤ 3
  unfolding tracks_of track_numbers
  three (brings (gives found)) = omega arith
  three (brings (refused number value)) = omega arith
  three unreadable = omega arith

  -- what with_file asks
  small : (o : Outcome) → length (findings_of o) ≤ 3604 → next < 0xFFFF_FFFF_FFFF_FFFF → Small disk (told o)
  unfolding Small told findings_of finding_numbers
  small (brings (gives found)) h m = (few, omega (arith, h, length-numbers found.findings, before.few_findings, few))
  small (brings (refused number value)) h m = omega (arith, before.few_left)
  small unreadable h m = (omega (arith, before.few_left), omega (arith, before.few_unread))

  pub small-after : next < 0xFFFF_FFFF_FFFF_FFFF → Small disk file
  small-after m = subst (Small disk) (sym taken.file_is) (small taken.outcome taken.few m)

  -- the counts, by what the file brings
  record Counts (o : Outcome) (later-disk : Disk) : Type 0 where
    pub tracks_is : later-disk.tracks ≡ disk.tracks + length (tracks_of o)
    pub findings_is : later-disk.findings ≡ disk.findings + length (findings_of o)
    pub left_is : later-disk.left ≡ disk.left + left_out o
    pub unread_is : later-disk.unreadable ≡ disk.unreadable + not_read o
    pub rises : 3 * length (findings_of o) ≤ 3604 * length (tracks_of o)
    pub at_most : (left_out o ≤ 1) × (not_read o ≤ 1)

  counts : (o : Outcome) → length (findings_of o) ≤ 3604 → Counts o (with_file disk (told o))
  unfolding with_file told tracks_of findings_of track_numbers finding_numbers left_out not_read
  counts (brings (gives found)) h =
      let n = length-numbers found.findings in
      record { tracks_is = refl; findings_is = omega (arith, n); left_is = omega arith; unread_is = omega arith; rises = omega (arith, h); at_most = (omega arith, omega arith) }
  counts (brings (refused number value)) h =
      record { tracks_is = omega arith; findings_is = omega arith; left_is = refl; unread_is = omega arith; rises = omega arith; at_most = (omega arith, omega arith) }
  counts unreadable h =
      record { tracks_is = omega arith; findings_is = omega arith; left_is = refl; unread_is = refl; rises = omega arith; at_most = (omega arith, omega arith) }

  pub one-file-more : {then : Disk} → length tracks ≡ 507 → length findings ≡ 609076 → then ≡ with_file disk file → Gathered then after later (next + 1)
  one-file-more {then} long-tracks long-findings e =
      let o = taken.outcome in
      let is : then ≡ with_file disk (told o) = e ∙ ap (with_file disk) taken.file_is in
      let c : Counts o then = subst (Counts o) (sym is) (counts o taken.few) in
      let t = three o in
      let a : take then.tracks after ≡ take disk.tracks tracks ++ tracks_of o =
      rw c.tracks_is (added tracks (tracks_of o) disk.tracks taken.tracks_are (omega (arith, long-tracks, few))) in
      let b : take then.findings later ≡ take disk.findings findings ++ findings_of o =
      rw c.findings_is (added findings (findings_of o) disk.findings taken.findings_are (omega (arith, long-findings, few, before.few_findings, taken.few))) in
      record {
        files = rw (a, b, c.left_is, c.unread_is) (one_more before.files taken.one_file);
        few_tracks = omega (arith, c.tracks_is, few, t);
        few_findings = omega (arith, c.tracks_is, c.findings_is, c.rises, before.few_findings);
        few_left = omega (arith, c.left_is, c.at_most.0, before.few_left);
        few_unread = omega (arith, c.unread_is, c.at_most.1, before.few_unread);
      }

-- no file yet
pub no-files : (tracks findings : List ℕ) → Gathered (record { tracks = 0; findings = 0; left = 0; unreadable = 0 }) tracks findings 1
no-files tracks findings =
    record { files = none; few_tracks = omega arith; few_findings = omega arith; few_left = omega arith; few_unread = omega arith }

-- the end: no argument is left, or there are too many tracks
pub gathered : (words : ℕ) {disk : Disk} {tracks findings : List ℕ} {next : ℕ} → Gathered disk tracks findings next → length tracks ≡ 507
    → (disk.tracks ≤ 504 → words ≤ next)
    → record {
      few : (disk.tracks ≤ 507) × (disk.findings ≤ 609076);
      files : AllFiles words (take disk.tracks tracks) (take disk.findings findings) disk.left disk.unreadable;
    }
gathered words {disk} {tracks} {next = next} g long all =
    record {
      few = (g.few_tracks, omega (arith, g.few_tracks, g.few_findings));
      files =
          record {
            next = next;
            files = g.files;
            all = λ h. all (omega (arith, h, length-take-le disk.tracks tracks (omega (arith, g.few_tracks, long))));
          };
    }
