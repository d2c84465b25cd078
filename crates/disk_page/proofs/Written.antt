-- What is written of a page and of its parts. Assumes nothing.
use Rattle.std.proofs.Common.{ℕ, ◌+◌, ◌/◌, ◌%◌, ◌<◌, ◌≤◌, ◌≡◌, cond, List, [], arith}
use borrow.Author.Tests.{lt-ltb, le-ltb, ne_eqb}
use Rattle.lines.specs.Lines.{bytes_of}
use Rattle.disk_page.specs.declared.Page.{Page}
use Rattle.disk_page.specs.PrivateContracts.{WroteOn, far}
use Rattle.disk_page.specs.Ranges.{is_single_sided}
use Rattle.disk_page.specs.Page.{track_entries, side_entries, page_entries, entry_lines, page_of}
use Rattle.disk_page.specs.Parts.{part_of}
use Rattle.disk_page.proofs.Lines.{lines-append}
use Rattle.disk_page.proofs.Steps.{◌and◌, few_on, nothing_on}

module _ (tracks findings : List ℕ) where
  -- the two sides and the last line
  pub page_whole : {a b c d : Page} {m n : ℕ} → WroteOn a b (entry_lines (side_entries tracks findings 0)) m → WroteOn b c (entry_lines (side_entries tracks findings 1)) n
      → WroteOn c d (cond (is_single_sided tracks findings) (bytes_of "single-sided\n") []) 13 → m + n + 13 ≤ far → WroteOn a d (page_of tracks findings) far
  unfolding page_of page_entries
  page_whole first second third h = few_on h (rw (lines-append (side_entries tracks findings 0) (side_entries tracks findings 1)) (first and second and third))

  -- a law for each branch
  pub track_part : {a b : Page} {part most : ℕ} → part < 168 → WroteOn a b (entry_lines (track_entries tracks findings (part / 84) (part % 84))) most → most ≤ far
      → WroteOn a b (part_of tracks findings part) far
  unfolding part_of
  track_part {a} {b} {part} h w m = rw (lt-ltb part 168 h) (few_on m w)

  pub last_part : {a b : Page} {part : ℕ} → part ≡ 168 → WroteOn a b (cond (is_single_sided tracks findings) (bytes_of "single-sided\n") []) 13
      → WroteOn a b (part_of tracks findings part) far
  unfolding part_of
  last_part e w = rw e (few_on (omega arith) w)

  pub no_part : {part : ℕ} → 168 ≤ part → (part ≡ 168 → ⊥) → (a : Page) → WroteOn a a (part_of tracks findings part) far
  unfolding part_of
  no_part {part} h g a = rw (le-ltb part 168 h, ne_eqb part 168 g) (nothing_on a far)
