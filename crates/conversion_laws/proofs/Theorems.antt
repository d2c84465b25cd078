-- The theorems of the conversion: `converts`, for every file without cells, and `as_before`, for every file that is not refused with 23. Assumes
-- nothing.
use Prim.Native.Nat.{ℕ, ◌+◌, ◌*◌, ◌≤◌, ◌<◌}
use mathlib.Core.Path.{◌≡◌, refl, sym, ◌∙◌, ap, subst}
use mathlib.Core.Bool.{Bool, true, false, cond, not, ◌&&◌, ◌||◌}
use mathlib.Core.List.{List, ◌++◌}
use native.Mathlib.Decide.{dec_le, ℕ_discrete}
use native.Mathlib.Nat.{lt_of_not-le}
use native.Mathlib.Omega.{arith}
use borrow.Author.Tests.{le-ltb, ltb-false, lt-leb, le-leb, eq-eqb, ne_eqb, eqb-true, eqb-false}
use lib.Dec.{eqb, leb, ltb}
use lib.ListN.{length, drop, replicate, length-append, length-drop}
use Rattle.basis.specs.Bytes.{number}
use Rattle.basis.specs.Lists.{written_over}
use Rattle.basis.proofs.Bools.{and-false, never_both}
use Rattle.cells.specs.CellsAndBytes.{bytes_for, packed}
use Rattle.cells.proofs.Packing.{length-packed}
use Rattle.file_listing.specs.ListingOfFile.{printed_file, file_listing}
use Rattle.finding_list.specs.Findings.{findings_of}
use Rattle.finding_list.proofs.Outcome.{findings-few}
use Rattle.findings.specs.Calls.{findings_answer}
use Rattle.flux_timings.specs.Timings.{first_out, timings_judged}
use Rattle.layouts.specs.Layouts.{double_density}
use Rattle.layouts.specs.declared.Density.TheVariants.{Double}
use Rattle.layouts.proofs.Soundness.{sound}
use Rattle.lines.specs.Lines.{header_of, refused_line}
use Rattle.listing.specs.Listing.{lines_of, printed, listing_of}
use Rattle.refusals.specs.RefusedCalls.{Answer}
use Rattle.refusals.specs.RefusedCalls.Answer.{gives, refused}
use Rattle.sector_records.specs.Sectors.{sectors_of}
use Rattle.sectors.specs.Calls.{track_judged, count_judged}
use Rattle.separation.specs.Separation.{cells_of, border_pulses_of, cells_judged, separation}
use Rattle.taken_timings.proofs.TimingCells.{never}
use Rattle.track_file.specs.TrackFile.{Content, track_of, side_of, cell_section, cell_count, packed_bytes, has_count, place_count_refused, cell_count_refused, file_answer, file_answer_in, file_buffer}
use Rattle.track_file.specs.TrackFile as track-file
use Rattle.flux_file.specs.FluxFile.{numbers, flux_section, flux_count, timings, cells_refused, placed, flux_answer, flux_cells}
use Rattle.flux_conversion.specs.Conversion.{new_file}
use Rattle.flux_conversion.proofs.Accepted.{Accepts, accepts}
use Rattle.conversion_laws.specs.OldListing.{old_timings, old_flux_count_refused, old_not_a_track_file, old_answer, old_cells, old_buffer, border_pulses_line, flux_listing_of, old_printed, old_listing}
use Rattle.conversion_laws.specs.Claims.{without_no_cells, outside, old_number, OfTrack, Alike, Converts, AsBefore}
use Rattle.conversion_laws.specs.Claims.OfTrack.{one, two, four}
use Rattle.conversion_laws.specs.Claims.Alike.{listed, refused_both}
use Rattle.conversion_laws.proofs.SameAnswer.{none-counted, same-flux, same_answer}
use Rattle.conversion_laws.proofs.NewAnswer.{reads, is-accepted}

-- a track with all its bytes is refused with 1, 2 or 4 alone
of-track : (bytes : List ℕ) (N T H : ℕ) → bytes_for N ≤ length bytes → (number value : ℕ) → findings_answer double_density bytes N T H 901 ≡ refused number value
    → OfTrack number
unfolding findings_answer track_judged count_judged
of-track bytes N T H room number value =
    let sectors = length (sectors_of double_density bytes N) in
    let findings = length (findings_of double_density bytes N T) in
    go sectors findings (outside T H) (ltb N 20000 || ltb 131072 N) (ltb (length bytes) (bytes_for N)) (ltb 64 sectors) (ltb 901 findings)
    (le-ltb (length bytes) (bytes_for N) room)
    (λ few. le-ltb 901 findings (findings-few double_density (sound Double) bytes N T (ltb-false 64 sectors few)))
  where
    same : {a x y z : ℕ} → OfTrack a → ◌≡◌ {A = Answer ℕ} (refused a x) (refused y z) → OfTrack y
    same {a} {x} {y} is e = let n : a ≡ y = cc in subst OfTrack n is

    go : (sectors findings : ℕ) (a b c d e : Bool) → c ≡ false → (d ≡ false → e ≡ false)
        → cond a (refused 1 0)
        (cond b (refused 2 N) (cond c (refused 3 (bytes_for N)) (cond d (refused 4 sectors) (cond e (refused 5 findings) (gives findings)))))
        ≡ refused number value → OfTrack number
    go sectors findings true b c d e whole few is = same one is
    go sectors findings false true c d e whole few is = same two is
    go sectors findings false false true d e whole few is = absurd (never_both true refl whole)
    go sectors findings false false false true e whole few is = same four is
    go sectors findings false false false false true whole few is = absurd (never_both true refl (few refl))
    go sectors findings false false false false false whole few is = never (sym is)

-- the listing of a track with the line of its border pulses, and without it
alike : (bytes : List ℕ) (N T H pulses : ℕ) → bytes_for N ≤ length bytes → Alike pulses (flux_listing_of bytes N T H pulses) (listing_of bytes N T H)
unfolding flux_listing_of listing_of printed
alike bytes N T H pulses room =
    go (findings_answer double_density bytes N T H 901) (header_of T H N _ _ ++ lines_of (findings_of double_density bytes N T)) (of-track bytes N T H room)
  where
    go : (answer : Answer ℕ) (listing : List ℕ) → ((number value : ℕ) → answer ≡ refused number value → OfTrack number)
        → Alike pulses (printed answer (printed answer listing ++ border_pulses_line pulses)) (printed answer listing)
    go (gives count) listing judged = listed
    go (refused number value) listing judged = refused_both (judged number value refl)

-- a file that is accepted
old-given : (answer : Answer Content) (content : Content) → without_no_cells answer ≡ gives content → answer ≡ gives content
unfolding without_no_cells
old-given (gives given) content e = go (eqb given.cells 0) e
  where
    go : (x : Bool) → cond x (refused 2 0) (gives given) ≡ gives content → gives given ≡ gives content
    go true e = never e
    go false e = e
old-given (refused number value) content e = never e

module _ (file : List ℕ) (none : cells_refused file ≡ false) (content : Content) (given : flux_answer file ≡ gives content) where
  ok : Accepts file content
  ok = accepts file content given

  old : old_answer file ≡ gives content
  old = old-given (old_answer file) content (sym (same_answer file none) ∙ given)

  -- the count of cells is there, so that it is 0
  no_cells : cell_count file ≡ 0
  no_cells =
      let whole = ok.flux.whole in
      let l = length-drop 6 file in
      none-counted file none (omega arith)

  same-section : track-file.flux_section file ≡ flux_section file
  same-section = same-flux file no_cells

  same_count : track-file.flux_count file ≡ flux_count file
  same_count = ap number same-section

  same-timings : old_timings file ≡ timings file
  same-timings = ap (λ (fs : List ℕ). numbers (number fs) (drop 4 fs)) same-section

  some-timings : track-file.flux_count file ≡ 0 → ⊥
  some-timings e = ok.flux.some (ok.flux.counted ∙ sym same_count ∙ e)

  old-cells : old_cells file ≡ flux_cells file
  unfolding old_cells
  old-cells = rw (ne_eqb (track-file.flux_count file) 0 some-timings) (ap (λ (ts : List ℕ). packed (cells_of ts)) same-timings)

  abbrev n : ℕ
  n = length (cells_of (timings file))

  new-cells : packed_bytes (new_file file) ≡ flux_cells file
  unfolding new_file
  new-cells = (reads (track_of file) (side_of file) n (flux_cells file) ok.few (length-packed (cells_of (timings file)))).cells

  new-answer : file_answer (new_file file) ≡ gives content
  unfolding new_file
  new-answer =
      is-accepted (track_of file) (side_of file) n (flux_cells file) ok.few (length-packed (cells_of (timings file))) ok.some
      ∙ ap gives (sym ok.is)

  pub accepted-read : (file_answer (new_file file) ≡ old_answer file) × (packed_bytes (new_file file) ≡ old_cells file)
  accepted-read = (new-answer ∙ sym old, new-cells ∙ sym old-cells)

  abbrev buffer : List ℕ
  buffer = written_over (flux_cells file) (replicate 16384 0)

  new-listing : file_listing 16384 (new_file file) ≡ listing_of buffer content.cells content.track content.side
  unfolding file_listing file_answer_in file_buffer printed_file
  new-listing =
      ap (λ (a : Answer Content). printed_file a (file_buffer 16384 (new_file file))) new-answer
      ∙ ap (λ (cells : List ℕ). listing_of (written_over cells (replicate 16384 0)) content.cells content.track content.side) new-cells

  old-listing : old_listing file ≡ flux_listing_of buffer content.cells content.track content.side (border_pulses_of (timings file))
  unfolding old_printed
  old-listing =
      ap (λ (a : Answer Content). old_printed a file) old
      ∙ rw (ne_eqb (track-file.flux_count file) 0 some-timings)
      (ap
      (λ (cells : List ℕ). flux_listing_of (written_over cells (replicate 16384 0)) content.cells content.track content.side (border_pulses_of (old_timings file)))
      old-cells
      ∙ ap (λ (ts : List ℕ). flux_listing_of buffer content.cells content.track content.side (border_pulses_of ts)) same-timings)

  pub accepted-listed : Alike (border_pulses_of (timings file)) (old_listing file) (file_listing 16384 (new_file file))
  accepted-listed =
      let cells : content.cells ≡ n = ap (λ (c : Content). c.cells) ok.is in
      let rest : List ℕ = drop (length (flux_cells file)) (replicate 16384 0) in
      let room : bytes_for content.cells ≤ length buffer =
      subst (λ (k : ℕ). bytes_for k ≤ length buffer) (sym cells)
      (omega (arith, length-append (flux_cells file) rest, length-packed (cells_of (timings file)))) in
      rw (old-listing, new-listing) (alike buffer content.cells content.track content.side (border_pulses_of (timings file)) room)

-- the refusals of the old reader, where the file has no cells: none of them is 2
not-two : {A : Type 0} → Answer A → Type 0
not-two (gives given) = Unit
not-two (refused number value) = number ≡ 2 → ⊥

timed-not-two : (ts : List ℕ) → not-two (separation ts 16384)
unfolding not-two timings_judged cells_judged
timed-not-two ts =
    go (eqb (length ts) 0) (ltb 65536 (length ts)) (ltb (first_out ts) (length ts)) (ltb 131072 (length (cells_of ts))) (ltb 16384 (bytes_for (length (cells_of ts))))
  where
    go : (a b c d e : Bool)
        → not-two
        (cond a (refused 6 0)
        (cond b (refused 7 (length ts))
        (cond c (refused 8 (first_out ts))
        (cond d (refused 9 (length (cells_of ts))) (cond e (refused 10 (bytes_for (length (cells_of ts)))) (gives (length (cells_of ts))))))))
    go true b c d e = λ z. omega arith
    go false true c d e = λ z. omega arith
    go false false true d e = λ z. omega arith
    go false false false true e = λ z. omega arith
    go false false false false true = λ z. omega arith
    go false false false false false = tt

-- what the old reader gave: a refusal that is not 2, or the place of the file and a number of cells
data Gave (file : List ℕ) : Answer Content → Type 0 where
  a_refusal : {number value : ℕ} → (number ≡ 2 → ⊥) → Gave file (refused number value)
  a_number : {n : ℕ} → Gave file (gives (record { track = track_of file; side = side_of file; cells = n }))

gave : (file : List ℕ) → cell_count_refused file ≡ false → Gave file (old_answer file)
unfolding old_answer not-two placed
gave file few = rw few (go (place_count_refused file) (old_flux_count_refused file) (old_not_a_track_file file) (eqb (track-file.flux_count file) 0))
  where
    timed : (answer : Answer ℕ) → not-two answer → Gave file (placed (track_of file) (side_of file) answer)
    timed (gives n) f = a_number
    timed (refused number value) f = a_refusal f

    go : (a b c d : Bool)
        → Gave file
        (cond a (refused 15 0)
        (cond b (refused 7 (track-file.flux_count file))
        (cond c (refused 15 0)
        (placed (track_of file) (side_of file) (cond d (gives (cell_count file)) (separation (old_timings file) 16384))))))
    go true b c d = a_refusal {number = 15} (λ z. omega arith)
    go false true c d = a_refusal {number = 7} (λ z. omega arith)
    go false false true d = a_refusal {number = 15} (λ z. omega arith)
    go false false false true = a_number
    go false false false false = timed (separation (old_timings file) 16384) (timed-not-two (old_timings file))

-- a count that is 0 or not there is not above 131,072
few_cells : (file : List ℕ) → cells_refused file ≡ false → cell_count_refused file ≡ false
few_cells file none = go (has_count (cell_section file)) (eqb (cell_count file) 0) refl none
  where
    small : (n : ℕ) → n ≡ 0 → ltb 131072 n ≡ false
    small n e = rw e

    go : (x y : Bool) → eqb (cell_count file) 0 ≡ y → (x && not y) ≡ false → (x && ltb 131072 (cell_count file)) ≡ false
    go true true e f = small (cell_count file) (eqb-true (cell_count file) 0 e)
    go true false e f = cc
    go false y e f = refl

-- what the old program printed of a track without cells
no-cells-judged : (bytes : List ℕ) (T H : ℕ) (next : Answer ℕ) → track_judged bytes 0 T H next ≡ refused (old_number T H 2) 0
unfolding track_judged old_number
no-cells-judged bytes T H next = go (outside T H)
  where
    go : (x : Bool) → cond {A = Answer ℕ} x (refused 1 0) (refused 2 0) ≡ refused (cond x 1 2) 0
    go true = refl
    go false = refl

nothing-listed : (bytes : List ℕ) (T H : ℕ) → findings_answer double_density bytes 0 T H 901 ≡ refused (old_number T H 2) 0
unfolding findings_answer
nothing-listed bytes T H = no-cells-judged bytes T H _

printed-refused : {answer : Answer ℕ} {number value : ℕ} (listing : List ℕ) → answer ≡ refused number value → printed answer listing ≡ refused_line number
unfolding printed
printed-refused listing e = rw e

no-cells-printed : (file : List ℕ) {n : ℕ} → n ≡ 0
    → old_printed (gives (record { track = track_of file; side = side_of file; cells = n })) file ≡ refused_line (old_number (track_of file) (side_of file) 2)
unfolding old_printed flux_listing_of listing_of
no-cells-printed file e = rw e (go _ _ (eqb (track-file.flux_count file) 0))
  where
    go : (x y : List ℕ) (z : Bool)
        → cond z (printed (findings_answer double_density (old_buffer file) 0 (track_of file) (side_of file) 901) x) (printed (findings_answer double_density (old_buffer file) 0 (track_of file) (side_of file) 901) y)
        ≡ refused_line (old_number (track_of file) (side_of file) 2)
    go x y true = printed-refused x (nothing-listed (old_buffer file) (track_of file) (side_of file))
    go x y false = printed-refused y (nothing-listed (old_buffer file) (track_of file) (side_of file))

-- a file that is refused
refused-printed : (file : List ℕ) {answer : Answer Content} → Gave file answer → (number value : ℕ) → without_no_cells answer ≡ refused number value
    → old_printed answer file ≡ refused_line (old_number (track_of file) (side_of file) number)
unfolding without_no_cells old_printed old_number
refused-printed file (a_refusal {number = other} other-than-2) number value e =
    let same : other ≡ number = cc in
    rw (← same, ne_eqb other 2 other-than-2)
refused-printed file (a_number {n}) number value e = go (eqb n 0) refl e
  where
    go : (x : Bool) → eqb n 0 ≡ x → cond {A = Answer Content} x (refused 2 0) (gives (record { track = track_of file; side = side_of file; cells = n })) ≡ refused number value
        → old_printed (gives (record { track = track_of file; side = side_of file; cells = n })) file ≡ refused_line (old_number (track_of file) (side_of file) number)
    go true z e =
        let same : 2 ≡ number = cc in
        no-cells-printed file (eqb-true n 0 z) ∙ ap (λ (k : ℕ). refused_line (old_number (track_of file) (side_of file) k)) same
    go false z e = never (sym e)

-- 18.16: the theorem of the conversion
pub converts : (file : List ℕ) → cells_refused file ≡ false → Converts file
converts file none =
    record {
      answer = same_answer file none;
      read = λ content given. accepted-read file none content given;
      listings = λ content given. accepted-listed file none content given;
      refusals = λ number value given.
          refused-printed file (gave file (few_cells file none)) number value (sym (same_answer file none) ∙ given);
    }

-- a file without timings: the answers and the listings, section by section
module _ (file : List ℕ) where
  abbrev fs : List ℕ
  fs = track-file.flux_section file

  abbrev k : ℕ
  k = track-file.flux_count file

  abbrev content : Content
  content = record { track = track_of file; side = side_of file; cells = cell_count file }

  abbrev judged_from : Answer Content → Answer Content
  judged_from next = cond (place_count_refused file) (refused 15 0) (cond (cell_count_refused file) (refused 2 (cell_count file)) next)

  -- what is judged last is listed alike, so all is
  same_line : (next : Answer Content) → file_answer file ≡ judged_from next → old_answer file ≡ judged_from next → printed_file next (file_buffer 16384 file) ≡ old_printed next file
      → AsBefore file
  unfolding file_listing file_answer_in printed_file old_printed
  same_line next new before same =
      record {
        answer = new ∙ sym before;
        listing =
            ap (λ (a : Answer Content). printed_file a (file_buffer 16384 file)) new ∙ go (place_count_refused file) (cell_count_refused file)
            ∙ ap (λ (a : Answer Content). old_printed a file) (sym before);
      }
    where
      go : (a b : Bool) → printed_file (cond a (refused 15 0) (cond b (refused 2 (cell_count file)) next)) (file_buffer 16384 file)
          ≡ old_printed (cond a (refused 15 0) (cond b (refused 2 (cell_count file)) next)) file
      go true b = refl
      go false true = refl
      go false false = same

  or-true : (x : Bool) → (x || true) ≡ true
  or-true true = refl
  or-true false = refl

  -- without a count of timings the file is short
  no-count : length fs < 4 → AsBefore file
  unfolding file_answer track-file.given_at_once track-file.not_a_track_file old_answer old_not_a_track_file printed_file old_printed
  no-count h =
      let b = bytes_for (cell_count file) in
      let l = length-drop 6 file in
      let m = length-drop 4 (cell_section file) in
      let o = length-drop b (drop 4 (cell_section file)) in
      same_line (refused 15 0)
      (rw (lt-leb 4 (length fs) h, ne_eqb (length file) (14 + b) (λ e. omega arith), or-true (eqb (cell_count file) 0)))
      (rw (
        lt-leb 4 (length fs) h,
        ne_eqb (length file) (14 + b + 4 * k) (λ e. omega arith),
        or-true (cond (eqb (cell_count file) 0) (eqb k 0) (not (eqb k 0))),
      ))
      refl

  same_test : (x : Bool) → cond x true false ≡ x
  same_test true = refl
  same_test false = refl

  count-0 : k ≡ 0 → AsBefore file
  unfolding file_answer track-file.given_at_once track-file.not_a_track_file old_answer old_not_a_track_file placed printed_file old_printed old_cells file_buffer
  count-0 e =
      let b = bytes_for (cell_count file) in
      let none = eq-eqb k 0 e in
      let total : 14 + b + 4 * k ≡ 14 + b = omega (arith, e) in
      let wrong = eqb (cell_count file) 0 || not (eqb (length file) (14 + b)) in
      same_line (cond wrong (refused 15 0) (gives content)) (rw (none, and-false (has_count fs)))
      (rw (none, le-ltb 65536 k (omega (arith, e)), and-false (has_count fs), total, same_test (eqb (cell_count file) 0)))
      (go wrong none)
    where
      go : (x : Bool) → eqb k 0 ≡ true → printed_file (cond x (refused 15 0) (gives content)) (file_buffer 16384 file) ≡ old_printed (cond x (refused 15 0) (gives content)) file
      go true none = refl
      go false none = rw none

  other-count : 4 ≤ length fs → (k ≡ 0 → ⊥) → (file_answer file ≡ refused 23 0 → ⊥) → AsBefore file
  unfolding file_answer track-file.given_at_once old_answer printed_file old_printed
  other-count h some not-23 =
      let new : file_answer file ≡ judged_from (refused 23 0) = rw (le-leb 4 (length fs) h, ne_eqb k 0 some) in
      same_line (refused 23 0) new (go (place_count_refused file) (cell_count_refused file) (λ e. not-23 (new ∙ e)) _) refl
    where
      go : (a b : Bool) → (cond {A = Answer Content} a (refused 15 0) (cond b (refused 2 (cell_count file)) (refused 23 0)) ≡ refused 23 0 → ⊥) → (next : Answer Content)
          → cond a (refused 15 0) (cond b (refused 2 (cell_count file)) next) ≡ cond a (refused 15 0) (cond b (refused 2 (cell_count file)) (refused 23 0))
      go true b f next = refl
      go false true f next = refl
      go false false f next = absurd (f refl)

  -- 18.17: the theorem of the files without timings
  pub as_before : (file_answer file ≡ refused 23 0 → ⊥) → AsBefore file
  as_before not-23 = go (dec_le 4 (length fs)) (ℕ_discrete k 0)
    where
      go : Dec (4 ≤ length fs) → Dec (k ≡ 0) → AsBefore file
      go (no h) z = no-count (lt_of_not-le h)
      go (yes h) (yes z) = count-0 z
      go (yes h) (no z) = other-count h z not-23
