-- The judgements of the calls, where they refuse and where they do not. Assumes nothing.
use Prim.Native.Nat.{ℕ, ◌<◌, ◌≤◌}
use mathlib.Core.Path.{◌≡◌, refl, sym, ap, ◌∙◌}
use mathlib.Core.Bool.{Bool, true, false, cond, ◌||◌}
use mathlib.Core.List.{List, []}
use native.Mathlib.Omega.{arith}
use borrow.Author.Tests.{lt-ltb, le-ltb, le-leb, lt-leb, eq-eqb, ne_eqb, ltb-false}
use lib.Dec.{ltb, leb}
use lib.ListN.{length}
use Rattle.basis.proofs.Bools.{or_left, or_right}
use Rattle.cells.specs.CellsAndBytes.{cell, bytes_for}
use Rattle.refusals.specs.RefusedCalls.{Answer, buffer_after}
use Rattle.refusals.specs.RefusedCalls.Answer.{gives, refused}
use Rattle.sector_records.specs.Sectors.{sectors_of, kept, data_bytes}
use Rattle.sector_records.proofs.Kept.{kept-count}
use Rattle.sectors.specs.Calls.{track_judged, count_judged, index_judged, sectors_answer, sectors_beside, index_answer, record_beside, sector_of, DataRead, data_judged, data_answer, data_after}
use Rattle.layouts.specs.declared.Layout.{Layout}
use Rattle.sector_records.specs.declared.Sector.{Sector}
use Rattle.sector_records.specs.declared.Sectors.{Sectors}

pub most-cells : (n : ℕ) → (ltb n 20000 || ltb 131072 n) ≡ false → n ≤ 131072
most-cells n e = ltb-false 131072 n (or_right (ltb n 20000) (ltb 131072 n) e)

-- each judgement, where it refuses and where it goes on
module _ {A : Type 0} (bytes : List ℕ) (N T H : ℕ) (next : Answer A) where
  pub refuses-1 : (ltb 83 T || ltb 1 H) ≡ true → refused 1 0 ≡ track_judged bytes N T H next
  unfolding track_judged
  refuses-1 e = rw e

  pub refuses-2 : (ltb 83 T || ltb 1 H) ≡ false → (ltb N 20000 || ltb 131072 N) ≡ true → refused 2 N ≡ track_judged bytes N T H next
  unfolding track_judged
  refuses-2 e g = rw (e, g)

  pub refuses-3 : (ltb 83 T || ltb 1 H) ≡ false → (ltb N 20000 || ltb 131072 N) ≡ false → length bytes < bytes_for N
      → refused 3 (bytes_for N) ≡ track_judged bytes N T H next
  unfolding track_judged
  refuses-3 e g l = rw (e, g, lt-ltb (length bytes) (bytes_for N) l)

  pub track-accepted : (ltb 83 T || ltb 1 H) ≡ false → (ltb N 20000 || ltb 131072 N) ≡ false → bytes_for N ≤ length bytes
      → next ≡ track_judged bytes N T H next
  unfolding track_judged
  track-accepted e g l = rw (e, g, le-ltb (length bytes) (bytes_for N) l)

module _ {A : Type 0} (count : ℕ) (next : Answer A) where
  pub refuses-4 : 64 < count → refused 4 count ≡ count_judged count next
  unfolding count_judged
  refuses-4 l = rw (lt-ltb 64 count l)

  pub count-accepted : count ≤ 64 → next ≡ count_judged count next
  unfolding count_judged
  count-accepted l = rw (le-ltb 64 count l)

  pub refuses-11 : (index : ℕ) → count ≤ index → refused 11 count ≡ index_judged count index next
  unfolding index_judged
  refuses-11 index l = rw (le-leb count index l)

  pub index-accepted : (index : ℕ) → index < count → next ≡ index_judged count index next
  unfolding index_judged
  index-accepted index l = rw (lt-leb count index l)

module _ (s : Sector) (room : ℕ) where
  pub refuses-12 : s.data_mark ≡ 0 → refused 12 0 ≡ data_judged s room
  unfolding data_judged
  refuses-12 e = rw (eq-eqb s.data_mark 0 e)

  pub refuses-13 : (s.data_mark ≡ 0 → ⊥) → room < s.data_length → refused 13 s.data_length ≡ data_judged s room
  unfolding data_judged
  refuses-13 e l = rw (ne_eqb s.data_mark 0 e, lt-ltb room s.data_length l)

pub data-accepted : (s : Sector) (room : ℕ) → (s.data_mark ≡ 0 → ⊥) → s.data_length ≤ room → gives (record { size = s.data_length; good = s.data_check_good }) ≡ data_judged s room
unfolding data_judged
data-accepted s room e l = rw (ne_eqb s.data_mark 0 e, le-ltb room s.data_length l)

-- the sectors of a track whose number of cells was accepted, and the answer that they make
module _ (layout : Layout) (bytes : List ℕ) (N T H : ℕ) (s : Sectors) (place : (ltb 83 T || ltb 1 H) ≡ false) (cells : (ltb N 20000 || ltb 131072 N) ≡ false) (enough : bytes_for N ≤ length bytes)
    (e : s ≡ kept (cond (ltb 131072 N) [] (sectors_of layout bytes N))) where
  abbrev all : List Sector
  all = sectors_of layout bytes N

  listed : s ≡ kept all
  listed = e ∙ ap (λ (b : Bool). kept (cond b [] all)) (or_right (ltb N 20000) (ltb 131072 N) cells)

  counted : s.count ≡ length all
  counted = ap (λ (x : Sectors). x.count) listed ∙ kept-count all

  pub many_sectors : 64 < s.count → refused 4 s.count ≡ sectors_answer layout bytes N T H
  unfolding sectors_answer count_judged
  many_sectors h =
      let l : 64 < length all = rw (← counted) h in
      rw counted (rw (lt-ltb 64 (length all) l) (track-accepted bytes N T H (refused 4 (length all)) place cells enough))

  pub none_beside : 64 < s.count → kept [] ≡ sectors_beside (sectors_answer layout bytes N T H) all
  unfolding sectors_beside
  none_beside h = ap (λ (x : Answer ℕ). sectors_beside x all) (many_sectors h)

  pub few_sectors : s.count ≤ 64 → gives s.count ≡ sectors_answer layout bytes N T H
  unfolding sectors_answer
  few_sectors h =
      let l : length all ≤ 64 = rw (← counted) h in
      rw counted (count-accepted (length all) (gives (length all)) l ∙ track-accepted bytes N T H (count_judged (length all) (gives (length all))) place cells enough)

  pub all_beside : s.count ≤ 64 → s ≡ sectors_beside (sectors_answer layout bytes N T H) all
  unfolding sectors_beside
  all_beside h = listed ∙ ap (λ (x : Answer ℕ). sectors_beside x all) (few_sectors h)

-- y refuses as x does, and where x is accepted it is `next`
pub record Follows {A B : Type 0} (x : Answer A) (y next : Answer B) : Type 0 where
  pub refusals : (number value : ℕ) → x ≡ refused number value → y ≡ refused number value
  pub accepted : (given : A) → x ≡ gives given → y ≡ next

pub follows-given : {A B : Type 0} (given : A) (next : Answer B) → Follows (gives given) next next
follows-given given next = record { refusals = λ number value e. (let z : ◌≡◌ {A = ℕ} 0 1 = cc in absurd (omega arith)); accepted = λ g e. refl }

follows-cond : {A B : Type 0} (x : Answer A) (y next : Answer B) (b : Bool) (number value : ℕ) → Follows x y next → Follows (cond b (refused number value) x) (cond b (refused number value) y) next
follows-cond x y next true number value f = record { refusals = λ k v e. cc; accepted = λ g e. (let z : ◌≡◌ {A = ℕ} 0 1 = cc in absurd (omega arith)) }
follows-cond x y next false number value f = f

pub follows-self : {A : Type 0} (x : Answer A) → Follows x x x
follows-self x = record { refusals = λ number value e. e; accepted = λ given e. refl }

module _ {A B : Type 0} (x : Answer A) (y next : Answer B) (f : Follows x y next) where
  pub follows-track : (bytes : List ℕ) (N T H : ℕ) → Follows (track_judged bytes N T H x) (track_judged bytes N T H y) next
  unfolding track_judged
  follows-track bytes N T H =
      follows-cond _ _ next (ltb 83 T || ltb 1 H) 1 0
      (follows-cond _ _ next (ltb N 20000 || ltb 131072 N) 2 N (follows-cond x y next (ltb (length bytes) (bytes_for N)) 3 (bytes_for N) f))

  pub follows-count : (count : ℕ) → Follows (count_judged count x) (count_judged count y) next
  unfolding count_judged
  follows-count count = follows-cond x y next (ltb 64 count) 4 count f

  follows-index : (count index : ℕ) → Follows (index_judged count index x) (index_judged count index y) next
  unfolding index_judged
  follows-index count index = follows-cond x y next (leb count index) 11 count f

few-accepted : (count m : ℕ) (next : Answer ℕ) → count_judged count next ≡ gives m → count ≤ 64
unfolding count_judged
few-accepted count m next e = go (ltb 64 count) refl e
  where
    go : (b : Bool) → ltb 64 count ≡ b → cond b (refused 4 count) next ≡ gives m → count ≤ 64
    go true t g = let z : ◌≡◌ {A = ℕ} 0 1 = cc in absurd (omega arith)
    go false t g = ltb-false 64 count t

cells-accepted : (bytes : List ℕ) (N T H m : ℕ) (next : Answer ℕ) → track_judged bytes N T H next ≡ gives m → (20000 ≤ N) × (N ≤ 131072)
unfolding track_judged
cells-accepted bytes N T H m next e = go _ (ltb 83 T || ltb 1 H) (ltb N 20000 || ltb 131072 N) refl e
  where
    go : (rest : Answer ℕ) (b c : Bool) → (ltb N 20000 || ltb 131072 N) ≡ c → cond b (refused 1 0) (cond c (refused 2 N) rest) ≡ gives m → (20000 ≤ N) × (N ≤ 131072)
    go rest true c f g = let z : ◌≡◌ {A = ℕ} 0 1 = cc in absurd (omega arith)
    go rest false true f g = let z : ◌≡◌ {A = ℕ} 0 1 = cc in absurd (omega arith)
    go rest false false f g = (ltb-false N 20000 (or_left (ltb N 20000) (ltb 131072 N) f), most-cells N f)

-- what is judged after 1 to 4 gives what was accepted, on a track of at most 131,072 cells with at most 64 sectors
pub judged-accepted : (bytes : List ℕ) (N T H sectors m : ℕ) (next : Answer ℕ) → track_judged bytes N T H (count_judged sectors next) ≡ gives m
    → (next ≡ gives m) × (sectors ≤ 64) × (N ≤ 131072)
judged-accepted bytes N T H sectors m next e =
    let j = sym ((follows-track _ _ _ (follows-self (count_judged sectors next)) bytes N T H).accepted m e) ∙ e in
    (sym ((follows-count _ _ _ (follows-self next) sectors).accepted m j) ∙ j, few-accepted sectors m next j, (cells-accepted bytes N T H m (count_judged sectors next) e).1)

module _ (layout : Layout) (bytes : List ℕ) (N T H : ℕ) where
  abbrev count : ℕ
  count = length (sectors_of layout bytes N)

  -- an accepted list has the track's sectors, and at most 64, on at most 131,072 cells
  pub list-accepted : (m : ℕ) → sectors_answer layout bytes N T H ≡ gives m → (m ≡ length (sectors_of layout bytes N)) × (m ≤ 64) × (N ≤ 131072)
  unfolding sectors_answer
  list-accepted m e =
      let j = judged-accepted bytes N T H count m (gives count) e in
      let g = j.0 in
      let s : m ≡ count = cc in
      (s, rw s j.1, j.2)

  pub enough-cells : (m : ℕ) → sectors_answer layout bytes N T H ≡ gives m → 20000 ≤ N
  unfolding sectors_answer
  enough-cells m e = (cells-accepted bytes N T H m (count_judged count (gives count)) e).0

  -- a sector by index is judged after the list, and reading out after the sector by index
  pub index-follows : (index : ℕ) → Follows (sectors_answer layout bytes N T H) (index_answer layout bytes N T H index) (index_judged (length (sectors_of layout bytes N)) index (gives (length (sectors_of layout bytes N))))
  unfolding sectors_answer index_answer
  index-follows index =
      follows-track _ _ _ (follows-count _ _ _ (follows-given count (index_judged count index (gives count))) count) bytes N T H

  pub read-follows : (index room : ℕ) → Follows (index_answer layout bytes N T H index) (data_answer layout bytes N T H index room) (data_judged (sector_of layout bytes N index) room)
  unfolding index_answer data_answer
  read-follows index room =
      follows-track _ _ _ (follows-count _ _ _ (follows-index _ _ _ (follows-given count (data_judged (sector_of layout bytes N index) room)) count index) count) bytes N T H

-- a sector by index, after a list that was accepted
module _ (layout : Layout) (bytes : List ℕ) (N T H m : ℕ) (g : gives m ≡ sectors_answer layout bytes N T H) where
  pub listed-sectors : (s : Sectors) → s ≡ sectors_beside (sectors_answer layout bytes N T H) (sectors_of layout bytes N) → s ≡ kept (sectors_of layout bytes N)
  unfolding sectors_beside
  listed-sectors s e = rw (← g) at e

  pub index-refused : (index : ℕ) → m ≤ index → refused 11 m ≡ index_answer layout bytes N T H index
  index-refused index h =
      let e = (list-accepted layout bytes N T H m (sym g)).0 in
      let l : length (sectors_of layout bytes N) ≤ index = omega arith in
      rw ((index-follows layout bytes N T H index).accepted m (sym g), e) (refuses-11 (length (sectors_of layout bytes N)) (gives (length (sectors_of layout bytes N))) index l)

  pub index-given : (index : ℕ) → index < m → gives m ≡ index_answer layout bytes N T H index
  index-given index h =
      let e = (list-accepted layout bytes N T H m (sym g)).0 in
      let l : index < length (sectors_of layout bytes N) = omega arith in
      rw ((index-follows layout bytes N T H index).accepted m (sym g), e) (index-accepted (length (sectors_of layout bytes N)) (gives (length (sectors_of layout bytes N))) index l)

-- reading out, after a sector by index that was accepted
pub read-given : (layout : Layout) (bytes : List ℕ) (N T H index m : ℕ) (buffer after : List ℕ) (s : Sector) (x : Answer DataRead) → gives m ≡ index_answer layout bytes N T H index
    → s ≡ record_beside (index_answer layout bytes N T H index) (sector_of layout bytes N index) → x ≡ data_judged s (length buffer)
    → after ≡ buffer_after (data_judged s (length buffer)) (data_bytes layout.mark_length (cell bytes N) s) buffer
    → (x ≡ data_answer layout bytes N T H index (length buffer)) × (after ≡ data_after layout bytes N T H index buffer)
unfolding record_beside
read-given layout bytes N T H index m buffer after s x g e j h =
    let t : s ≡ sector_of layout bytes N index = rw (← g) at e in
    let a = (read-follows layout bytes N T H index (length buffer)).accepted m (sym g) in
    rw (a, ← t) (j, h)
