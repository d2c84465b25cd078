-- `supercard_pro::revolution_timings` meets its contract. Assumes nothing.
use Rattle.std.proofs.Common.{◌≡◌, List, ℕ, ap, ◌∙◌, arith}
use Rattle.supercard_pro.specs.TrackBlock.{value_count, value_offset}
use Rattle.supercard_pro.proofs.Block.{sound, judged-block, judged-table, no-values-no-timings, as-portion}
use Rattle.supercard_pro.proofs.revolution_timings.Goals as goal

pub returns-then-count-eq0 : goal.returns-then-count-eq0
returns-then-count-eq0 c =
    let same : c.in_ok-table.table.block.now ≡ c.args.block.now = ap (λ s. s.now) (judged-table _ _ _ c.in_ok-table.ensures.block) in
    no-values-no-timings _ _ _ _ (judged-block _ _ _ c.in_ok-table.ensures.block) c.if-revolutions-revolution.false
    (c.value_count-count.ensures.is ∙ ap (λ (b : List ℕ). value_count b c.args.revolution) same) c.if-count-eq0.true

pub slice_bounds-take-end : goal.slice_bounds-take-end
slice_bounds-take-end c =
    let same : c.in_ok-table.table.block.now ≡ c.args.block.now = ap (λ s. s.now) (judged-table _ _ _ c.in_ok-table.ensures.block) in
    omega (
      arith,
      (sound _ _ _ (judged-block _ _ _ c.in_ok-table.ensures.block) c.if-revolutions-revolution.false).ends,
      c.value_count-count.ensures.is ∙ ap (λ (b : List ℕ). value_count b c.args.revolution) same,
      c.value_offset-from.ensures.is ∙ ap (λ (b : List ℕ). value_offset b c.args.revolution) same,
    )

pub returns : goal.returns
returns c =
    let same : c.in_ok-table.table.block.now ≡ c.args.block.now = ap (λ s. s.now) (judged-table _ _ _ c.in_ok-table.ensures.block) in
    as-portion _ _ _ c.args.timings.now (judged-block _ _ _ c.in_ok-table.ensures.block) c.if-revolutions-revolution.false
    (c.value_offset-from.ensures.is ∙ ap (λ (b : List ℕ). value_offset b c.args.revolution) same)
    (c.value_count-count.ensures.is ∙ ap (λ (b : List ℕ). value_count b c.args.revolution) same) c.if-count-eq0.false c.new-reader.ensures
    c.take.ensures.answer c.take.ensures.list
