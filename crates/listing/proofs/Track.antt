-- The listing of a track, from what its findings' call gives. Assumes nothing.
use Rattle.layouts.specs.Layouts.{double_density}
use Rattle.layouts.specs.declared.Density.TheVariants.{Double}
use Rattle.layouts.proofs.Soundness.{sound}
use Prim.Native.Nat.{ℕ, ◌*◌, ◌<◌, ◌≤◌}
use mathlib.Core.Path.{◌≡◌, refl, ap, ◌∙◌}
use mathlib.Core.Bool.{Bool, true, false, cond, ◌||◌}
use mathlib.Core.List.{List, ◌++◌}
use native.Mathlib.Omega.{arith}
use borrow.Author.Tests.{ltb-false}
use lib.Dec.{ltb}
use lib.ListN.{length, drop}
use Rattle.basis.proofs.Bools.{or_right}
use Rattle.basis.specs.Lists.{joined}
use Rattle.findings.specs.Calls.{findings_answer, numbers_after}
use Rattle.finding_list.specs.Calls.{sectors_given, numbers_of}
use Rattle.finding_list.specs.Findings.{findings_of}
use Rattle.refusals.specs.RefusedCalls.{Answer, buffer_after}
use Rattle.refusals.specs.RefusedCalls.Answer.{gives, refused}
use Rattle.sector_records.specs.Sectors.{sectors_of}
use Rattle.sectors.specs.Calls.{track_judged}
use Rattle.findings.proofs.Outcome.{findings-accepted}
use Rattle.lines.specs.Lines.{header_of, refused_line, out_after}
use Rattle.lines.specs.Writing.{Wrote}
use Rattle.lines.proofs.Lengths.{header-few, refused-few}
use Rattle.lines.proofs.Writing.{◌then◌, wrote-front, answer_is, answer-few, out_is}
use Rattle.listing.specs.Listing.{lines_of, printed, listing_of}
use Rattle.listing.specs.PrivateContracts.{line_at}
use Rattle.listing.proofs.Lines.{lines_are}

-- what the call promises of a listing: its length, that it is short enough, and the buffer
abbrev Told : (made before after : List ℕ) → ℕ → Type 0
Told made before after r = (r ≡ length made) × ((r ≤ 65536) × (after ≡ out_after made before))

told : {after : List ℕ} {r most : ℕ} (made before : List ℕ) → most ≤ 65536 → Wrote before 0 made most after r → Told made before after r
told made before few w = (answer_is w, (omega (arith, answer-few w), out_is w))

-- a side that is accepted
side-accepted : (bytes : List ℕ) (N T H count : ℕ) (next : Answer ℕ) → track_judged bytes N T H next ≡ gives count → H ≤ 1
unfolding track_judged
side-accepted bytes N T H count next e = go _ (ltb 83 T || ltb 1 H) refl e
  where
    go : (rest : Answer ℕ) (b : Bool) → (ltb 83 T || ltb 1 H) ≡ b → cond b (refused 1 0) rest ≡ gives count → H ≤ 1
    go rest true f g = let z : ◌≡◌ {A = ℕ} 0 1 = cc in absurd (omega arith)
    go rest false f g = ltb-false 1 H (or_right (ltb 83 T) (ltb 1 H) f)

module _ (bytes : List ℕ) (N T H : ℕ) where
  -- a track that is refused
  pub refusal-written : {after : List ℕ} {next k : ℕ} (out : List ℕ) (number value : ℕ) → findings_answer double_density bytes N T H 901 ≡ refused number value → k ≡ number
      → k < 0x1_0000_0000 → (next ≡ length (refused_line k)) × (after ≡ out_after (refused_line k) out) → Told (listing_of bytes N T H) out after next
  unfolding listing_of printed
  refusal-written {k = k} out number value e is fits line =
      rw (e, ← is) (told (refused_line k) out (omega arith) (wrote-front 19 (refused-few k fits) line.0 line.1))

  -- one that is accepted, with so many findings
  module _ (count : ℕ) (e : findings_answer double_density bytes N T H 901 ≡ gives count) where
    pub few_cells : N ≤ 131072
    few_cells = (findings-accepted double_density (sound Double) bytes N T H 901 count e).3

    few-sides : H ≤ 1
    unfolding findings_answer
    few-sides = side-accepted bytes N T H count _ e

    pub count_is : count ≡ length (findings_of double_density bytes N T)
    count_is = (findings-accepted double_density (sound Double) bytes N T H 901 count e).0

    pub few_findings : count ≤ 901
    few_findings = (findings-accepted double_density (sound Double) bytes N T H 901 count e).1

    module _ (sectors : ℕ) (given : sectors ≡ sectors_given (findings_answer double_density bytes N T H 901) (length (sectors_of double_density bytes N))) where
      pub sectors-are : sectors ≡ length (sectors_of double_density bytes N)
      sectors-are = given ∙ ap (λ (a : Answer ℕ). sectors_given a (length (sectors_of double_density bytes N))) e

      pub few-sectors : sectors ≤ 64
      few-sectors = omega (arith, sectors-are, (findings-accepted double_density (sound Double) bytes N T H 901 count e).2)

      pub few-header : length (header_of T H N sectors count) ≤ 72
      few-header = header-few T H N sectors count (omega (arith, few-sides)) (omega (arith, few_cells)) (omega (arith, few-sectors)) (omega (arith, few_findings))

      -- the header, and a line for each finding that stands in the numbers
      module _ {middle after : List ℕ} {at next : ℕ} (out list numbers : List ℕ) (long : length list ≡ 3604)
          (is : numbers ≡ numbers_after double_density bytes N T H list) (head : (at ≡ length (header_of T H N sectors count)) × (middle ≡ out_after (header_of T H N sectors count) out))
          (lines : Wrote middle at (joined (line_at numbers) count) (67 * count) after next) where
        pub listing-written : Told (listing_of bytes N T H) out after next
        unfolding listing_of printed buffer_after
        listing-written =
            let fs = findings_of double_density bytes N T in
            let whole : joined (line_at numbers) count ≡ lines_of fs = rw (is, long, e, count_is) (lines_are (drop (length (numbers_of fs)) list) fs) in
            let all = wrote-front 72 few-header head.0 head.1 then lines in
            rw (e, ← whole, ← count_is, ← sectors-are) (told (header_of T H N sectors count ++ joined (line_at numbers) count) out (omega (arith, few_findings)) all)
