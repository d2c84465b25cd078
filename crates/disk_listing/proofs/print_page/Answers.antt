-- `disk_listing::print_page` meets its contract. Assumes nothing but the contract of the system's `write`.
use Rattle.disk_listing.specs.DiskOfFiles.PagePrinted.{not_taken}
use Rattle.disk_listing.proofs.Printing.{none-printed, one-more-printed, refusal-told, all-printed}
use Rattle.disk_listing.proofs.print_page.Goals as goal

pub loop-part-init : goal.loop-part-init
loop-part-init g c = none-printed _ _

pub returns-in-Err : goal.returns-in-Err
returns-in-Err g c = refusal-told _ _ _ c.page_part.ensures.answer c.in-Err.is

pub returns-then-length-gt72080 : goal.returns-then-length-gt72080
returns-then-length-gt72080 g c = not_taken

pub loop-part-preserved : goal.loop-part-preserved
loop-part-preserved g c = one-more-printed _ _ _ c.page_part.ensures.answer c.loop-part.invariant c.in-Ok.is c.if-length-gt72080.false

pub returns : goal.returns
returns g c = all-printed _ _ c.loop-part.invariant c.loop-part-test.false c.loop-part.auto.part-end
