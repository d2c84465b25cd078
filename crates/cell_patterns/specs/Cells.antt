-- Section 7 of the specification, rules 7.38 to 7.42, 7.45 and 7.46: what the kinds SID, MTV and NFA look at. f are the cells of a track of n cells, which
-- go on round it. The main property: `gaps_of` is what MTV and NFA tell of a track, `syncs_inside` what SID tells of a sector. Assumes
-- nothing.
use Rattle.std.specs.Prelude.{ℕ, ◌+◌, ◌-◌, ◌<◌, ◌≤◌, ◌≡◌, Bool, cond, ◌&&◌, ◌||◌, eqb, ltb}
use Rattle.basis.specs.Search.{least, count, most}
use Rattle.layouts.specs.declared.Layout.{Layout}
use Rattle.sector_records.specs.Marks.{word_mark_at}
use Rattle.sector_records.specs.Sectors.{has_data}
use Rattle.sector_records.specs.declared.Sector.{Sector}
use Rattle.cell_patterns.specs.declared.Gaps.{Gaps}

-- a one stands at p
unfoldable pub is_one : (ℕ → ℕ) → ℕ → Bool
is_one f p = eqb (f p) 1

-- 7.39, 7.40: the next one after p, over the index, counted on past n. Where p has the only one, that is itself, n cells on
unfoldable pub next_one : (ℕ → ℕ) → ℕ → ℕ → ℕ
next_one f n p = least (is_one f) n (p + 1)

-- 7.39, 7.40, 7.46: a one stands at p, and its next one is too near or too far: nearer than 2 cells or farther than 4 in double density, farther
-- than 2 in single density. Without ones there is none
unfoldable pub violation : Layout → (ℕ → ℕ) → ℕ → ℕ → Bool
violation layout f n p = is_one f p && (ltb (next_one f n p - p) layout.nearest || ltb layout.farthest (next_one f n p - p))

-- 7.41, 7.42: how many zeros follow each other from p on, over the index; n where the track has no ones
unfoldable pub zeros_from : (ℕ → ℕ) → ℕ → ℕ → ℕ
zeros_from f n p = least (is_one f) n p - p

-- 7.41: how long the longest run of zeros is
unfoldable pub longest_run : (ℕ → ℕ) → ℕ → ℕ
longest_run f n = most (zeros_from f n) n 0

-- the zeros from p on are l in number
unfoldable pub run_from : (ℕ → ℕ) → ℕ → ℕ → ℕ → Bool
run_from f n l p = eqb (zeros_from f n p) l

-- 7.41, 7.42: where the longest run starts. Where several are as long, it is the least start, and 0 on a track without ones
unfoldable pub longest_start : (ℕ → ℕ) → ℕ → ℕ
longest_start f n = least (run_from f n (longest_run f n)) n 0

-- 7.20, 7.21: what MTV and NFA tell: the least place of a violation, n where there is none, and how many there are; where the longest run
-- starts, and its length
unfoldable pub gaps_of : Layout → (ℕ → ℕ) → ℕ → Gaps
gaps_of layout f n =
    record {
      first = least (violation layout f n) n 0;
      violations = count (violation layout f n) n 0;
      start = longest_start f n;
      longest = longest_run f n;
    }

-- 7.21, 7.41, 7.42: the longest run, as NFA asks for it: its start and its length where it has 1,000 zeros or more, and else only that it has fewer. Both numbers
-- are at most n
pub record LongRun (f : ℕ → ℕ) (n start longest : ℕ) : Type 0 where
  pub long : 1000 ≤ longest_run f n → (start ≡ longest_start f n) × (longest ≡ longest_run f n)
  pub short : longest_run f n < 1000 → longest < 1000
  pub start_few : start ≤ n
  pub longest_few : longest ≤ n

-- 7.20, 7.21: `gaps_of`, with the longest run as NFA asks for it
pub record GapsFound (layout : Layout) (f : ℕ → ℕ) (n : ℕ) (gaps : Gaps) : Type 0 where
  pub first : gaps.first ≡ (gaps_of layout f n).first
  pub violations : gaps.violations ≡ (gaps_of layout f n).violations
  pub run : LongRun f n gaps.start gaps.longest

-- 7.38, 7.45: how often a word has all its 16 cells from a up to b: it begins at a or after it, and at b - 16 or before it. Those that
-- overlap all count
unfoldable pub syncs_between : (sync : ℕ) → (ℕ → ℕ) → ℕ → ℕ → ℕ
syncs_between sync f a b = count (word_mark_at f sync) (b - 15 - a) a

-- 7.19, 7.38, 7.45: how many syncs stand in a sector's ID, after its mark, and, where it has data, in its data, up to the data end. In single
-- density the word of an ID mark takes the place of the sync
unfoldable pub syncs_inside : Layout → (ℕ → ℕ) → Sector → ℕ
syncs_inside layout f s =
    syncs_between layout.sync f (s.place + layout.mark_length) (s.place + layout.id_length)
    + cond (has_data s) (syncs_between layout.sync f (s.data_place + layout.mark_length) s.data_end) 0
