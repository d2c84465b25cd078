-- Section 16 of the specification, rule 16.21: the entries of a page are strictly ordered by side, first track, kind and place. The main
-- property is `InOrder`, proved in proofs/Order for all tracks and findings that are accepted. Assumes nothing.
use Rattle.std.specs.Prelude.{ℕ, ◌<◌, ◌≡◌, List, ◌⊎◌, length, get_or}
use Rattle.disk_page.specs.Page.{Entry, page_entries}

-- 16.21: an entry stands before another
abbrev pub Earlier : Entry → Entry → Type 0
Earlier a b =
    (a.side < b.side)
    ⊎ ((a.side ≡ b.side)
    × ((a.first < b.first) ⊎ ((a.first ≡ b.first) × ((a.kind < b.kind) ⊎ ((a.kind ≡ b.kind) × (a.place < b.place))))))

-- 16.21: of two entries of the page, the one that stands before is the earlier one. `d` is what stands at an index beyond the list
abbrev pub InOrder : (tracks findings : List ℕ) → Type 0
InOrder tracks findings =
    (d : Entry) (i j : ℕ) → i < j → j < length (page_entries tracks findings)
    → Earlier (get_or (page_entries tracks findings) i d) (get_or (page_entries tracks findings) j d)
