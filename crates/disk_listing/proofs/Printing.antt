-- The page, printed part after part. Assumes nothing.
use Prim.Native.Nat.{ℕ, ◌+◌, ◌*◌, ◌≤◌}
use mathlib.Core.Path.{◌≡◌, refl, sym, ap, ◌∙◌}
use mathlib.Core.List.{List, []}
use native.Mathlib.Omega.{arith}
use lib.ListN.{length, length-append}
use Rattle.basis.specs.Lists.{joined}
use Rattle.basis.proofs.Joined.{joined-more}
use Rattle.disk_tracks.specs.Judgement.{judged}
use Rattle.disk_page.specs.Page.{giving, page_of, page_answer}
use Rattle.disk_page.specs.Parts.{part_of, part_answer}
use Rattle.disk_page.proofs.Parts.{parts-are-page}
use Rattle.refusals.specs.RefusedCalls.{Answer, answer_of, number_of, value_of}
use Rattle.refusals.specs.RefusedCalls.Answer.{gives, refused}
use Rattle.std.specs.Prelude.{Result, Ok, Err}
use Rattle.refusals.specs.declared.Refusal.{Refusal}
use Rattle.disk_listing.specs.DiskOfFiles.Printed.{Whole, PageRefused}
use Rattle.disk_listing.specs.DiskOfFiles.{PagePrinted}
use Rattle.disk_listing.specs.DiskOfFiles.PagePrinted.{whole, page_refused}

-- an answer that is given where another one is
pub record Accepted (answer : Answer ℕ) : Type 0 where
  pub given : (n : ℕ) → giving answer n ≡ gives n

accepted : (answer : Answer ℕ) {n m : ℕ} → giving answer n ≡ gives m → (n ≡ m) × Accepted answer
accepted (gives k) e = (cc, record { given = λ n. refl })
accepted (refused number value) e = let z : ◌≡◌ {A = ℕ} 0 1 = cc in absurd (omega arith)

still-refused : (answer : Answer ℕ) (n : ℕ) {number value : ℕ} → giving answer n ≡ refused number value → (m : ℕ) → giving answer m ≡ refused number value
still-refused (gives k) n e m = let z : ◌≡◌ {A = ℕ} 0 1 = cc in absurd (omega arith)
still-refused (refused a b) n e m = e

module _ (tracks findings : List ℕ) where
  -- the first parts are printed
  pub record PartsPrinted (total part : ℕ) : Type 0 where
    pub total_is : total ≡ length (joined (part_of tracks findings) part)
    pub few : total ≤ 72080 * part
    pub whole_too : (part ≡ 0 → ⊥) → Accepted (judged tracks findings)

  pub none-printed : PartsPrinted 0 0
  unfolding joined
  none-printed = record { total_is = refl; few = omega arith; whole_too = λ f. absurd (f refl) }

  module _ {answer : Result ℕ Refusal} (part : ℕ) (is : answer_of answer ≡ part_answer tracks findings part) where
    pub one-more-printed : {total count : ℕ} → PartsPrinted total part → answer ≡ Ok count → count ≤ 72080 → PartsPrinted (total + count) (part + 1)
    unfolding part_answer
    one-more-printed {total} {count} before e small =
        let a = accepted (judged tracks findings) (sym is ∙ ap answer_of e) in
        let more = joined-more (part_of tracks findings) part in
        record {
          total_is =
              rw more (omega (arith, before.total_is, a.0, length-append (joined (part_of tracks findings) part) (part_of tracks findings part)));
          few = omega (arith, before.few, small);
          whole_too = λ f. a.1;
        }

    pub refusal-told : {refusal : Refusal} → answer ≡ Err refusal → PagePrinted tracks findings (PageRefused (number_of refusal))
    unfolding part_answer page_answer
    refusal-told {refusal} e =
        page_refused {number = number_of refusal} {value = value_of refusal}
        (still-refused (judged tracks findings) (length (part_of tracks findings part)) (sym is ∙ ap answer_of e) (length (page_of tracks findings)))

  pub all-printed : {total part : ℕ} → PartsPrinted total part → 169 ≤ part → part ≤ 169 → PagePrinted tracks findings (Whole total)
  unfolding page_answer
  all-printed {total} {part} printed h g =
      let p : part ≡ 169 = omega arith in
      let t : total ≡ length (page_of tracks findings) = printed.total_is ∙ rw (p, parts-are-page tracks findings) in
      whole {total = total} (rw t ((printed.whole_too (λ z. absurd (omega (arith, z, h)))).given (length (page_of tracks findings))))
