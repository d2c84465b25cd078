-- The tracks as the code reads them, three numbers at a time. Assumes nothing.
use Rattle.std.proofs.Common.{ℕ, zero, suc, ◌+◌, ◌*◌, ◌/◌, ◌<◌, ◌≤◌, ◌≡◌, List, [], take, drop, length, get_or, get_or-take, get_or-drop, arith, ◌∙◌, ap}
use Rattle.std.proofs.lemmas.List.{length-take-le}
use Rattle.std.specs.Simd.{first_chunks}
use Rattle.disk_tracks.specs.Given.{tracks_in, track_at, side_at, own_at}

chunk_at : (k : ℕ) (numbers : List ℕ) (i j : ℕ) → i < k → j < 3 → get_or (get_or (first_chunks 3 k numbers) i []) j 0 ≡ get_or numbers (3 * i + j) 0
chunk_at zero numbers i j h g = absurd (omega arith)
chunk_at (suc k) numbers zero j h g =
    let e : j ≡ 3 * 0 + j = omega arith in
    get_or-take 3 numbers j 0 g ∙ ap (λ n. get_or numbers n 0) e
chunk_at (suc k) numbers (suc i) j h g =
    let e : 3 + (3 * i + j) ≡ 3 * suc i + j = omega arith in
    chunk_at k (drop 3 numbers) i j (omega arith) g ∙ get_or-drop 3 numbers (3 * i + j) 0 ∙ ap (λ n. get_or numbers n 0) e

-- the three numbers are those of the track given at index i
pub record IsTrack (tracks row : List ℕ) (i : ℕ) : Type 0 where
  pub track : get_or row 0 0 ≡ track_at tracks i
  pub side : get_or row 1 0 ≡ side_at tracks i
  pub own : get_or row 2 0 ≡ own_at tracks i

pub is_track : {rows : List (List ℕ)} (tracks : List ℕ) (i : ℕ) → rows ≡ first_chunks 3 (tracks_in tracks) tracks → i < tracks_in tracks → IsTrack tracks (get_or rows i []) i
is_track tracks i e h =
    let z : 3 * i + 0 ≡ 3 * i = omega arith in
    rw e
    record {
      track = chunk_at (tracks_in tracks) tracks i 0 h (omega arith) ∙ ap (λ n. get_or tracks n 0) z;
      side = chunk_at (tracks_in tracks) tracks i 1 h (omega arith);
      own = chunk_at (tracks_in tracks) tracks i 2 h (omega arith);
    }

-- and those among the first ones
pub is_track_before : {rows : List (List ℕ)} (tracks : List ℕ) (end i : ℕ) → rows ≡ first_chunks 3 (length (take (3 * end) tracks) / 3) (take (3 * end) tracks)
    → 3 * end ≤ length tracks → i < end → IsTrack tracks (get_or rows i []) i
is_track_before tracks end i e w h =
    let front = take (3 * end) tracks in
    let l : length front ≡ 3 * end = length-take-le (3 * end) tracks w in
    let t = is_track front i e (omega (arith, l)) in
    record {
      track = t.track ∙ get_or-take (3 * end) tracks (3 * i) 0 (omega arith);
      side = t.side ∙ get_or-take (3 * end) tracks (3 * i + 1) 0 (omega arith);
      own = t.own ∙ get_or-take (3 * end) tracks (3 * i + 2) 0 (omega arith);
    }
