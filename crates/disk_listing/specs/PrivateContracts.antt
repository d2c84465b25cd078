-- What the contracts of the functions need that gather the tracks. Assumes nothing.
use Rattle.std.specs.Prelude.{ℕ, ◌+◌, ◌*◌, ◌≤◌, List, take}
use Rattle.disk_listing.specs.declared.Disk.{Disk}
use Rattle.disk_listing.specs.DiskOfFiles.{File, Files}
use Rattle.disk_listing.specs.DiskOfFiles.File.{Track, Refused, Unreadable}

-- the counts after a file
unfoldable pub with_file : Disk → File → Disk
with_file disk (Track count) =
    record { tracks = disk.tracks + 3; findings = disk.findings + 4 * count; left = disk.left; unreadable = disk.unreadable }
with_file disk (Refused number) =
    record { tracks = disk.tracks; findings = disk.findings; left = disk.left + 1; unreadable = disk.unreadable }
with_file disk Unreadable =
    record { tracks = disk.tracks; findings = disk.findings; left = disk.left + 1; unreadable = disk.unreadable + 1 }

-- what with_file asks: no sum overflows
unfoldable pub Small : Disk → File → Type 0
Small disk (Track count) = (disk.tracks ≤ 504) × (disk.findings + 4 * count ≤ 609076)
Small disk (Refused number) = disk.left ≤ 0xFFFF_FFFF_FFFF_FFFE
Small disk Unreadable = (disk.left ≤ 0xFFFF_FFFF_FFFF_FFFE) × (disk.unreadable ≤ 0xFFFF_FFFF_FFFF_FFFE)

-- of the files before argument `next` the tracks and findings stand at the front of the two lists
pub record Gathered (disk : Disk) (tracks findings : List ℕ) (next : ℕ) : Type 0 where
  pub files : Files (take disk.tracks tracks) (take disk.findings findings) disk.left disk.unreadable next
  pub few_tracks : disk.tracks ≤ 507
  pub few_findings : 3 * disk.findings ≤ 3604 * disk.tracks
  pub few_left : disk.left ≤ next
  pub few_unread : disk.unreadable ≤ next
