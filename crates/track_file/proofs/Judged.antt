-- The file's answer, in the order of rules 10.4 to 10.7, is what the sections give one after another. Assumes nothing.
use Prim.Native.Nat.{ℕ, suc, ◌+◌, ◌-◌, ◌≤◌, ◌<◌}
use mathlib.Core.Path.{◌≡◌, refl, ◌∙◌, ap}
use mathlib.Core.Bool.{Bool, true, false, cond, not, ◌&&◌, ◌||◌}
use mathlib.Core.List.{List, [], ◌∷◌}
use native.Mathlib.Decide.{dec_le, ℕ_discrete}
use native.Mathlib.Nat.{lt_of_not-le}
use native.Mathlib.Omega.{arith}
use borrow.Author.Tests.{lt-ltb, le-ltb, lt-leb, le-leb, eq-eqb, ne_eqb}
use lib.Dec.{eqb, leb, ltb}
use lib.ListN.{length, drop, length-drop}
use Rattle.cells.specs.CellsAndBytes.{bytes_for}
use Rattle.refusals.specs.RefusedCalls.{Answer}
use Rattle.refusals.specs.RefusedCalls.Answer.{gives, refused}
use Rattle.refusals.specs.declared.Refusal.TheVariants.{NotATrackFile as NoTrackFile}
use Rattle.basis.specs.Bytes.{four_bytes, number}
use Rattle.track_file.specs.TrackFile.{Content, track_of, side_of, place_count, cell_section, cell_count, flux_section, flux_count, given_at_once, not_a_track_file, file_answer}
use Rattle.file_reader.specs.Bytes.{number_after, after_place_count, in_place_count, reader_after_byte}
use Rattle.track_file.specs.Portions.{reader_after, finish_answer}
use Rattle.file_reader.specs.declared.Number.TheVariants.{Empty}
use Rattle.file_reader.specs.declared.Reader.TheVariants.{PlaceCount, Track, Stopped}
use Rattle.track_file.proofs.Staged.{ends, short, ends-stopped, flux_stage, cell_stage, cell-end}

or-true : (x : Bool) → (x || true) ≡ true
or-true true = refl
or-true false = refl

not_first : {A : Type 0} (x : Bool) (a b : A) → cond x a b ≡ cond (not x) b a
not_first true a b = refl
not_first false a b = refl

-- a file of `len` bytes, c of them after the place and f of them after the cells, with a place count of p, n cells and a flux count of v.
-- `accepted` is what it gives where no refusal goes before
module _ (len c f p n v : ℕ) (accepted : Answer Content) (is_c : c ≡ len - 6) (is_f : f ≡ (c - 4) - bytes_for n) where
  abbrev total : ℕ
  total = 14 + bytes_for n

  abbrev ordered-15 : Answer Content
  ordered-15 = cond (eqb n 0 || not (eqb len total)) short accepted

  abbrev ordered-23 : Answer Content
  ordered-23 = cond (leb 4 f && not (eqb v 0)) (refused 23 0) ordered-15

  abbrev ordered-2 : Answer Content
  ordered-2 = cond (leb 4 c && ltb 131072 n) (refused 2 n) ordered-23

  abbrev ordered : Answer Content
  ordered = cond (leb 4 len && not (eqb p 2)) short ordered-2

  abbrev staged-15 : Answer Content
  staged-15 = cond (eqb n 0) short (cond (eqb f 4) accepted short)

  abbrev staged-23 : Answer Content
  staged-23 = cond (ltb f 4) short (cond (eqb v 0) staged-15 (refused 23 0))

  abbrev staged-2 : Answer Content
  staged-2 = cond (ltb c 4) short (cond (ltb 131072 n) (refused 2 n) staged-23)

  abbrev staged : Answer Content
  staged = cond (ltb len 4) short (cond (eqb p 2) staged-2 short)

  -- without a flux count the file is short
  no-flux-count : f < 4 → short ≡ ordered-23
  no-flux-count h = rw (lt-leb 4 f h, ne_eqb len total (λ e. omega arith), or-true (eqb n 0))

  same_length : 4 ≤ f → eqb f 4 ≡ eqb len total
  same_length h = go (ℕ_discrete f 4)
    where
      go : Dec (f ≡ 4) → eqb f 4 ≡ eqb len total
      go (yes q) = rw (eq-eqb f 4 q, eq-eqb len total (omega arith))
      go (no q) = rw (ne_eqb f 4 q, ne_eqb len total (λ w. q (omega arith)))

  judged-15 : 4 ≤ f → staged-15 ≡ ordered-15
  judged-15 h = go (eqb n 0)
    where
      go : (x : Bool) → cond x short (cond (eqb f 4) accepted short) ≡ cond (x || not (eqb len total)) short accepted
      go true = refl
      go false = rw (same_length h) (not_first (eqb len total) accepted short)

  judged-23 : staged-23 ≡ ordered-23
  judged-23 = go (dec_le 4 f)
    where
      by-flux : (x : Bool) → staged-15 ≡ ordered-15 → cond x staged-15 (refused 23 0) ≡ cond (not x) (refused 23 0) ordered-15
      by-flux true e = e
      by-flux false e = refl

      go : Dec (4 ≤ f) → staged-23 ≡ ordered-23
      go (no h) = let k = lt_of_not-le h in rw (lt-ltb f 4 k) (no-flux-count k)
      go (yes h) = rw (le-ltb f 4 h, le-leb 4 f h) (by-flux (eqb v 0) (judged-15 h))

  judged-2 : staged-2 ≡ ordered-2
  judged-2 = go (dec_le 4 c)
    where
      go : Dec (4 ≤ c) → staged-2 ≡ ordered-2
      go (no h) = let k = lt_of_not-le h in rw (lt-ltb c 4 k, lt-leb 4 c k) (no-flux-count (omega arith))
      go (yes h) = rw (le-ltb c 4 h, le-leb 4 c h) (ap (cond (ltb 131072 n) (refused 2 n)) judged-23)

  pub judged : staged ≡ ordered
  judged = go (dec_le 4 len)
    where
      by_place : (x : Bool) → cond x staged-2 short ≡ cond (not x) short ordered-2
      by_place true = judged-2
      by_place false = refl

      go : Dec (4 ≤ len) → staged ≡ ordered
      go (no h) =
          let k = lt_of_not-le h in
          rw (lt-ltb len 4 k, lt-leb 4 len k, lt-leb 4 c (omega arith)) (no-flux-count (omega arith))
      go (yes h) = rw (le-ltb len 4 h, le-leb 4 len h) (by_place (eqb p 2))

-- the place section and what follows
abbrev file_stage : List ℕ → Answer Content
file_stage file =
    cond (ltb (length file) 4) short (cond (eqb (number file) 2) (cell_stage (record { track = track_of file; side = side_of file }) (drop 6 file)) short)

file-end : (file : List ℕ) → ends (PlaceCount Empty) file ≡ file_stage file
unfolding reader_after reader_after_byte number_after in_place_count after_place_count finish_answer cell_stage
file-end [] = refl
file-end (a ∷ []) = refl
file-end (a ∷ b ∷ []) = refl
file-end (a ∷ b ∷ c ∷ []) = refl
file-end (a ∷ b ∷ c ∷ d ∷ []) = go (eqb (four_bytes a b c d) 2)
  where
    go : (x : Bool) → finish_answer (cond x Track (Stopped NoTrackFile)) ≡ cond x (cell_stage (record { track = 0; side = 0 }) []) short
    go true = refl
    go false = refl
file-end (a ∷ b ∷ c ∷ d ∷ t ∷ []) = go (eqb (four_bytes a b c d) 2)
  where
    go : (x : Bool) → finish_answer (reader_after_byte (cond x Track (Stopped NoTrackFile)) t) ≡ cond x (cell_stage (record { track = t; side = 0 }) []) short
    go true = refl
    go false = refl
file-end (a ∷ b ∷ c ∷ d ∷ t ∷ h ∷ cs) =
    rw (le-ltb (suc (suc (suc (suc (suc (suc (length cs))))))) 4 (omega arith)) (go (eqb (four_bytes a b c d) 2))
  where
    go : (x : Bool) → ends (cond x Track (Stopped NoTrackFile)) (t ∷ h ∷ cs) ≡ cond x (cell_stage (record { track = t; side = h }) cs) short
    go true = cell-end (record { track = t; side = h }) cs
    go false = ends-stopped NoTrackFile cs

-- the bytes of a file, one by one, give what is said of the whole
pub file-answer : (file : List ℕ) → ends (PlaceCount Empty) file ≡ file_answer file
unfolding cell_stage flux_stage file_answer given_at_once not_a_track_file
file-answer file =
    let n = cell_count file in
    file-end file
    ∙ judged (length file) (length (cell_section file)) (length (flux_section file)) (place_count file) n (flux_count file)
    (gives (record { track = track_of file; side = side_of file; cells = n })) (length-drop 6 file)
    (length-drop (bytes_for n) (drop 4 (cell_section file)) ∙ ap (λ (x : ℕ). x - bytes_for n) (length-drop 4 (cell_section file)))
