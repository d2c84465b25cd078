-- `disk_listing::print_page` meets its contract: the parts before `part` are printed. Assumes nothing but the contract of the system's `write`.
use Rattle.disk_listing.proofs.Printing.{PartsPrinted}
use Rattle.disk_listing.proofs.print_page.Given as goal

abbrev pub invariant-loop-part : goal.invariant-loop-part
invariant-loop-part g l = PartsPrinted l.tracks l.findings l.total l.part
