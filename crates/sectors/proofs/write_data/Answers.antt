-- `sectors::write_data` meets its contract: the bytes before i are decoded. Assumes nothing.
use mathlib.Core.Path.{◌≡◌, ap, ◌∙◌}
use native.Mathlib.Omega.{arith}
use Prim.Native.Nat.{ℕ, ◌+◌, ◌<◌}
use mathlib.Core.List.{List}
use native.Mathlib.Decide.{ℕ_discrete}
use lib.ListN.{length, get_or, set}
use lib.Seq.{get_or-set_same, get_or-set_other}
use Rattle.basis.specs.Lists.{listed}
use Rattle.basis.proofs.Lists.{is-listed}
use Rattle.cells.specs.CellsAndBytes.{cell}
use Rattle.sector_records.specs.Sectors.{byte_from, bytes_from}
use Rattle.sectors.proofs.write_data.Goals as goal

stored : (f : ℕ → ℕ) (buffer : List ℕ) (i v : ℕ) → ((k : ℕ) → k < i → get_or buffer k 0 ≡ f k) → i < length buffer → v ≡ f i → (k : ℕ) → k < i + 1 → get_or (set buffer i v) k 0 ≡ f k
stored f buffer i v before l e k h = go (ℕ_discrete k i)
  where
    go : Dec (k ≡ i) → get_or (set buffer i v) k 0 ≡ f k
    go (yes s) = rw s (get_or-set_same buffer i v 0 l ∙ e)
    go (no s) = get_or-set_other buffer i k v 0 s ∙ before k (omega arith)

pub loop-i-preserved : goal.loop-i-preserved
unfolding byte_from
loop-i-preserved c =
    stored (byte_from (cell c.args.cells.bytes.now c.args.cells.count) c.args.p) c.loop-i.buffer c.loop-i.i _ c.loop-i.invariant (omega arith) c.byte_on.ensures

pub returns : goal.returns
unfolding bytes_from
returns c =
    let f = byte_from (cell c.args.cells.bytes.now c.args.cells.count) c.args.p in
    let long : length c.loop-i.buffer ≡ length c.args.buffer.now = omega arith in
    is-listed f 0 c.loop-i.buffer (λ k l. c.loop-i.invariant k (omega arith)) ∙ ap (listed f) long
