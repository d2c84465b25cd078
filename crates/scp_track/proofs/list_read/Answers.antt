-- A listing is never empty, so that an answer of no bytes is none. Assumes nothing.
use mathlib.Core.Path.{◌≡◌}
use native.Mathlib.Omega.{arith}
use Rattle.block_listing.proofs.Listed.{some_listed_block}
use Rattle.scp_track.proofs.list_read.Goals as goal

pub returns-clause-told : goal.returns-clause-told
returns-clause-told c e =
    let none : c.list_block.result ≡ 0 = cc in
    let some = some_listed_block _ _ _ _ _ c.list_block.ensures.answer in
    omega (arith, none, some)
