-- What follows from the definitions of the listing. `bytes` are the packed cells of a track of N cells, at the track T and side H.
--
--   never-five         5 is never given: the room for 901 findings is always enough
--   whole-in-room      in a buffer that is long enough a line or a listing is written whole
--   front-in-room      so the front of the buffer is that line or listing
--   some_listed        no listing is empty
--
-- That the listing of any track has at most 65,536 bytes is promised by `list_track` itself. Assumes nothing.
use Rattle.layouts.specs.Layouts.{double_density}
use Rattle.layouts.specs.declared.Density.TheVariants.{Double}
use Rattle.layouts.proofs.Soundness.{sound}
use Prim.Native.Nat.{ℕ, ◌<◌, ◌≤◌}
use mathlib.Core.Path.{◌≡◌, refl, ap, ◌∙◌}
use mathlib.Core.Bool.{Bool, true, false, cond, ◌||◌}
use mathlib.Core.List.{List, ◌++◌}
use native.Mathlib.Omega.{arith}
use borrow.Author.Tests.{le-ltb, ltb-false}
use lib.Dec.{ltb}
use lib.ListN.{length, take, drop, length-append}
use lib.Seq.{take_all, take_at}
use Rattle.basis.specs.Lists.{written_over}
use Rattle.cells.specs.CellsAndBytes.{bytes_for}
use Rattle.findings.specs.Calls.{findings_answer}
use Rattle.finding_list.specs.Findings.{findings_of}
use Rattle.finding_list.proofs.Outcome.{findings-few}
use Rattle.refusals.specs.RefusedCalls.{Answer}
use Rattle.refusals.specs.RefusedCalls.Answer.{gives, refused}
use Rattle.sectors.specs.Calls.{track_judged, count_judged}
use Rattle.sector_records.specs.Sectors.{sectors_of}
use Rattle.lines.specs.Lines.{header_of, out_after}
use Rattle.lines.proofs.Lengths.{some_header, some_refused}
use Rattle.listing.specs.Listing.{lines_of, printed, listing_of}

-- a buffer that is long enough
module _ (made out : List ℕ) (h : length made ≤ length out) where
  pub whole-in-room : out_after made out ≡ written_over made out
  whole-in-room = rw (take_all (length out) made h)

  pub front-in-room : take (length made) (out_after made out) ≡ made
  front-in-room = ap (take (length made)) whole-in-room ∙ take_at made (drop (length made) out) (length made) refl

-- an answer that is not this refusal, also behind another
abbrev pub Never : {A : Type 0} → ℕ → Answer A → Type 0
Never k answer = (value : ℕ) → answer ≡ refused k value → ⊥

pub never-behind : {A : Type 0} (k : ℕ) (b : Bool) (number v : ℕ) (next : Answer A) → (number ≡ k → ⊥) → (b ≡ false → Never k next)
    → Never k (cond b (refused number v) next)
never-behind k true number v next other after value e = other (cc)
never-behind k false number v next other after value e = after refl value e

pub never-given : {A : Type 0} (k : ℕ) (x : A) → Never k (gives x)
never-given k x value e =
    let z : ◌≡◌ {A = ℕ} 0 1 = cc in
    omega arith

pub never-five : (bytes : List ℕ) (N T H value : ℕ) → findings_answer double_density bytes N T H 901 ≡ refused 5 value → ⊥
unfolding findings_answer track_judged count_judged
never-five bytes N T H =
    never-behind 5 (ltb 83 T || ltb 1 H) 1 0 _ (λ e. omega arith)
    (λ _. never-behind 5 (ltb N 20000 || ltb 131072 N) 2 N _ (λ e. omega arith)
    (λ _. never-behind 5 (ltb (length bytes) (bytes_for N)) 3 (bytes_for N) _ (λ e. omega arith)
    (λ _. never-behind 5 (ltb 64 (length (sectors_of double_density bytes N))) 4 (length (sectors_of double_density bytes N)) _ (λ e. omega arith) enough)))
  where
    enough : ltb 64 (length (sectors_of double_density bytes N)) ≡ false
        → Never 5 (cond (ltb 901 (length (findings_of double_density bytes N T))) (refused 5 (length (findings_of double_density bytes N T))) (gives (length (findings_of double_density bytes N T))))
    enough e =
        let few = findings-few double_density (sound Double) bytes N T (ltb-false 64 (length (sectors_of double_density bytes N)) e) in
        rw (le-ltb 901 (length (findings_of double_density bytes N T)) few) (never-given 5 (length (findings_of double_density bytes N T)))

-- no listing is empty
pub some_listed : (bytes : List ℕ) (N T H : ℕ) → 0 < length (listing_of bytes N T H)
unfolding listing_of printed
some_listed bytes N T H = go (findings_answer double_density bytes N T H 901)
  where
    sectors : ℕ
    sectors = length (sectors_of double_density bytes N)

    findings : ℕ
    findings = length (findings_of double_density bytes N T)

    header : List ℕ
    header = header_of T H N sectors findings

    rest : List ℕ
    rest = lines_of (findings_of double_density bytes N T)

    go : (answer : Answer ℕ) → 0 < length (printed answer (header ++ rest))
    go (gives count) = omega (arith, some_header T H N sectors findings, length-append header rest)
    go (refused number value) = some_refused number
