-- From a block to cells: what the two calls give together. Assumes nothing.
use Prim.Native.Nat.{ℕ, ◌≤◌}
use mathlib.Core.Path.{◌≡◌, refl, sym, ◌∙◌, ap}
use mathlib.Core.Bool.{Bool, true, false, cond}
use mathlib.Core.List.{List}
use native.Mathlib.Omega.{arith}
use borrow.Author.Tests.{le-ltb, ltb-false}
use lib.Dec.{eqb, ltb}
use lib.ListN.{length, take, drop}
use lib.Seq.{take_at}
use Rattle.basis.specs.Lists.{written_over}
use Rattle.cells.specs.CellsAndBytes.{packed}
use Rattle.separation.specs.Separation.{cells_of, border_pulses_of, border_pulses_counted, cells_judged, separation, separated_cells, border_pulses_after}
use Rattle.flux_timings.specs.Timings.{first_out, timings_judged}
use Rattle.separation.proofs.Promise.{demand3}
use Rattle.refusals.specs.RefusedCalls.{Answer, buffer_after}
use Rattle.refusals.specs.RefusedCalls.Answer.{gives, refused}
use Rattle.supercard_pro.specs.TrackBlock.{revolution_timings, not_a_track_block, block_judged, block_answer, block_timings}
use Rattle.revolution_portions.specs.Portions.{room_judged}
use Rattle.block_cells.specs.BlockToCells.{block_separation, block_cells, block_border_pulses, timings_border_pulses, BlockDemand3}

-- the refusals 16, 17, 6, 7 and 8 in their order: `next` is given where none holds
abbrev chain : (bad has none many out : Bool) (timings index : ℕ) → Answer ℕ → Answer ℕ
chain bad has none many out timings index next =
    cond bad (refused 16 0) (cond has (cond none (refused 6 0) (cond many (refused 7 timings) (cond out (refused 8 index) next))) (refused 17 0))

pub record Passes (bad has many : Bool) (first : Answer ℕ) (count : ℕ) : Type 0 where
  pub good : bad ≡ false
  pub there : has ≡ true
  pub few : many ≡ false
  pub given : first ≡ gives count

chain-passes : (bad has none many out : Bool) (timings index : ℕ) (first : Answer ℕ) (count : ℕ) → chain bad has none many out timings index first ≡ gives count
    → Passes bad has many first count
chain-passes bad has none many out timings index first count = go bad has none many out
  where
    never : {number value : ℕ} → refused number value ≡ gives count → {A : Type 0} → A
    never e = let z : ◌≡◌ {A = ℕ} 0 1 = cc in absurd (omega arith)

    go : (bad has none many out : Bool) → chain bad has none many out timings index first ≡ gives count → Passes bad has many first count
    go true has none many out e = never e
    go false false none many out e = never e
    go false true true many out e = never e
    go false true false true out e = never e
    go false true false false true e = never e
    go false true false false false e = record { good = refl; there = refl; few = refl; given = e }

-- where it is given, no refusal of the timings holds
chain-judged : (bad has none many out : Bool) (timings index : ℕ) (first : Answer ℕ) (count : ℕ) → chain bad has none many out timings index first ≡ gives count
    → (next : Answer ℕ) → cond none (refused 6 0) (cond many (refused 7 timings) (cond out (refused 8 index) next)) ≡ next
chain-judged bad has none many out timings index first count e next = go bad has none many out e
  where
    never : {number value : ℕ} → refused number value ≡ gives count → {A : Type 0} → A
    never e = let z : ◌≡◌ {A = ℕ} 0 1 = cc in absurd (omega arith)

    go : (bad has none many out : Bool) → chain bad has none many out timings index first ≡ gives count
        → cond none (refused 6 0) (cond many (refused 7 timings) (cond out (refused 8 index) next)) ≡ next
    go true has none many out e = never e
    go false false none many out e = never e
    go false true true many out e = never e
    go false true false true out e = never e
    go false true false false true e = never e
    go false true false false false e = refl

chain-refuses : (bad has none many out : Bool) (timings index : ℕ) (first second : Answer ℕ) (count number value : ℕ) → (many ≡ false → first ≡ gives count)
    → chain bad has none many out timings index first ≡ refused number value → chain bad has none many out timings index second ≡ refused number value
chain-refuses true has none many out timings index first second count number value f e = e
chain-refuses false false none many out timings index first second count number value f e = e
chain-refuses false true true many out timings index first second count number value f e = e
chain-refuses false true false true out timings index first second count number value f e = e
chain-refuses false true false false true timings index first second count number value f e = e
chain-refuses false true false false false timings index first second count number value f e =
    let g = f refl in
    let z : ◌≡◌ {A = ℕ} 0 1 = cc in
    absurd (omega arith)

module _ (block : List ℕ) (revolutions k : ℕ) where
  abbrev ts : List ℕ
  ts = revolution_timings block k

  abbrev bad : Bool
  bad = not_a_track_block block revolutions

  -- all that the call promises, from what it gave and what it left; the number of border pulses goes from `pulses` to `pulses'`
  abbrev pub CellsPromised : List ℕ → Answer ℕ → List ℕ → (pulses pulses' : ℕ) → Type 0
  CellsPromised before gave after pulses pulses' =
      record {
        answer : gave ≡ block_separation block revolutions k (length before);
        buffer : after ≡ block_cells block revolutions k before;
        border_pulses : pulses' ≡ block_border_pulses block revolutions k (length before) pulses;
        demand3 : BlockDemand3 block revolutions k gave before after;
      }

  judged-on : {next : Answer ℕ} → bad ≡ false → ltb k revolutions ≡ true → block_judged block revolutions k next ≡ next
  unfolding block_judged
  judged-on b h = rw (b, h)

  cells-promised : (before : List ℕ) (pulses : ℕ) {answer : Answer ℕ} {after : List ℕ} {pulses' : ℕ} → answer ≡ block_separation block revolutions k (length before)
      → after ≡ buffer_after answer (packed (cells_of ts)) before → pulses' ≡ border_pulses_after answer (border_pulses_of ts) pulses
      → CellsPromised before answer after pulses pulses'
  cells-promised before pulses {answer} {after} e f g =
      record {
        answer = e;
        buffer = f ∙ ap (λ (a : Answer ℕ). buffer_after a (packed (cells_of ts)) before) e;
        border_pulses = g ∙ ap (λ (a : Answer ℕ). border_pulses_after a (border_pulses_of ts) pulses) e;
        demand3 =
            record {
              recovers = λ b h.
                  let is : answer ≡ separation ts (length before) = e ∙ judged-on b h in
                  demand3 ts before is (f ∙ ap (λ (a : Answer ℕ). buffer_after a (packed (cells_of ts)) before) is);
            };
      }

  -- the timings' call refuses, with room for all timings that are not refused: so does the call for cells
  pub block_refused : (room : ℕ) → 65536 ≤ room → {number value : ℕ} → refused number value ≡ block_answer block revolutions k room
      → (before : List ℕ) (pulses : ℕ) → CellsPromised before (refused number value) before pulses pulses
  unfolding block_judged timings_judged buffer_after border_pulses_after
  block_refused room big {number} {value} e before pulses =
      cells-promised before pulses
      (sym (chain-refuses bad (ltb k revolutions) (eqb (length ts) 0) (ltb 65536 (length ts)) (ltb (first_out ts) (length ts)) (length ts) (first_out ts)
      (room_judged (length ts) room) (cells_judged (length (cells_of ts)) (length before)) (length ts) number value enough (sym e)))
      refl refl
    where
      enough : ltb 65536 (length ts) ≡ false → room_judged (length ts) room ≡ gives (length ts)
      enough m = rw (le-ltb room (length ts) (omega (arith, ltb-false 65536 (length ts) m)))

  -- it gives timings: they are handed to the separator
  module _ (list : List ℕ) {count : ℕ} (e : gives count ≡ block_answer block revolutions k (length list)) {filled : List ℕ} (f : filled ≡ block_timings block revolutions k list) where
    passes : Passes bad (ltb k revolutions) (ltb 65536 (length ts)) (room_judged (length ts) (length list)) count
    unfolding block_judged timings_judged
    passes =
        chain-passes bad (ltb k revolutions) (eqb (length ts) 0) (ltb 65536 (length ts)) (ltb (first_out ts) (length ts)) (length ts) (first_out ts)
        (room_judged (length ts) (length list)) count (sym e)

    pub count_fits : (count ≡ length ts) × (count ≤ length list)
    count_fits = go (ltb (length list) (length ts)) refl passes.given
      where
        go : (x : Bool) → ltb (length list) (length ts) ≡ x → cond x (refused 10 (length ts)) (gives (length ts)) ≡ gives count → (count ≡ length ts) × (count ≤ length list)
        go true l g = let z : ◌≡◌ {A = ℕ} 0 1 = cc in absurd (omega arith)
        go false l g = let c : count ≡ length ts = cc in (c, omega (arith, ltb-false (length list) (length ts) l))

    pub front_is : take count filled ≡ ts
    unfolding buffer_after
    front_is =
        let w : filled ≡ written_over ts list = f ∙ ap (λ (a : Answer ℕ). buffer_after a ts list) (sym e) in
        ap (take count) w ∙ take_at ts (drop (length ts) list) count (sym count_fits.0)

    pub filled-long : length filled ≡ length list → count ≤ length filled
    filled-long l = omega (arith, count_fits.1)

    pub block-separated : (before : List ℕ) (pulses : ℕ) {answer : Answer ℕ} {after : List ℕ} {pulses' : ℕ} → answer ≡ separation (take count filled) (length before)
        → after ≡ separated_cells (take count filled) before
        → pulses' ≡ border_pulses_after (separation (take count filled) (length before)) (border_pulses_of (take count filled)) pulses
        → CellsPromised before answer after pulses pulses'
    block-separated before pulses {answer} {after} a g p =
        let s : separation (take count filled) (length before) ≡ separation ts (length before) = ap (λ (x : List ℕ). separation x (length before)) front_is in
        let is : answer ≡ separation ts (length before) = a ∙ s in
        cells-promised before pulses (is ∙ sym (judged-on passes.good passes.there))
        (g ∙ ap (λ (x : List ℕ). separated_cells x before) front_is ∙ ap (λ (x : Answer ℕ). buffer_after x (packed (cells_of ts)) before) (sym is))
        (p ∙ ap (λ (x : List ℕ). border_pulses_after (separation x (length before)) (border_pulses_of x) pulses) front_is
        ∙ ap (λ (x : Answer ℕ). border_pulses_after x (border_pulses_of ts) pulses) (sym is))

  -- what the call that gives the timings promises, with the number of border pulses
  abbrev TimingsPromised : List ℕ → Answer ℕ → List ℕ → (pulses pulses' : ℕ) → Type 0
  TimingsPromised before gave after pulses pulses' =
      record {
        answer : gave ≡ block_answer block revolutions k (length before);
        list : after ≡ block_timings block revolutions k before;
        border_pulses : pulses' ≡ timings_border_pulses block revolutions k (length before) pulses;
      }

  module _ (list : List ℕ) {filled : List ℕ} (f : filled ≡ block_timings block revolutions k list) where
    pub pulses-kept : {number value : ℕ} → refused number value ≡ block_answer block revolutions k (length list) → (pulses : ℕ)
        → TimingsPromised list (refused number value) filled pulses pulses
    unfolding border_pulses_after
    pulses-kept e pulses =
        record { answer = e; list = f; border_pulses = ap (λ (x : Answer ℕ). border_pulses_after x (border_pulses_of ts) pulses) e }

    -- the count of these timings is not refused
    count_is : {count : ℕ} → gives count ≡ block_answer block revolutions k (length list) → border_pulses_counted (take count filled) ≡ gives (border_pulses_of ts)
    unfolding block_judged timings_judged
    count_is {count} e =
        let judged = chain-judged bad (ltb k revolutions) (eqb (length ts) 0) (ltb 65536 (length ts)) (ltb (first_out ts) (length ts)) (length ts) (first_out ts)
        (room_judged (length ts) (length list)) count (sym e) (gives (border_pulses_of ts)) in
        ap border_pulses_counted (front_is list e f) ∙ judged

    pub never-refused : {count : ℕ} → gives count ≡ block_answer block revolutions k (length list) → {number value : ℕ}
        → refused number value ≡ border_pulses_counted (take count filled) → ⊥
    never-refused e r = let n = r ∙ count_is e in absurd cc

    pub pulses-counted : {count : ℕ} → gives count ≡ block_answer block revolutions k (length list) → (pulses : ℕ) {number : ℕ}
        → gives number ≡ border_pulses_counted (take count filled) → TimingsPromised list (gives count) filled pulses number
    unfolding border_pulses_after
    pulses-counted {count} e pulses {number} a =
        let n : gives number ≡ gives (border_pulses_of ts) = a ∙ count_is e in
        let same : number ≡ border_pulses_of ts = cc in
        record { answer = e; list = f; border_pulses = same ∙ ap (λ (x : Answer ℕ). border_pulses_after x (border_pulses_of ts) pulses) e }
