-- The sum of bytes, one by one and portion by portion. Assumes nothing.
use Rattle.std.proofs.Common.{◌≡◌, ℕ, ◌+◌, ◌%◌, ◌<◌, ◌≤◌, List, [], ◌∷◌, ◌++◌, length, get_or, drop, sym, refl, ap, ◌∙◌, zero-add, add-one, arith, drop_of_length-le, drop-cons}
use Rattle.scp_image.specs.CheckSum.{total, sum_after}

-- the first i bytes are in the sum
pub record Summed (sum : ℕ) (portion : List ℕ) (all i : ℕ) : Type 0 where
  pub small : all < 4294967296
  pub left : sum_after all (drop i portion) ≡ sum_after sum portion

pub none-summed : {sum : ℕ} (portion : List ℕ) → sum < 4294967296 → Summed sum portion sum 0
none-summed portion h = record { small = h; left = refl }

module _ {sum : ℕ} {portion : List ℕ} {all i : ℕ} (so_far : Summed sum portion all i) where
  pub one-summed : {byte next : ℕ} → i < length portion → byte ≡ get_or portion i 0 → next ≡ (all + byte) % 4294967296 → Summed sum portion next (i + 1)
  unfolding total
  one-summed {byte} {next} h b e =
      let d : drop i portion ≡ byte ∷ drop (i + 1) portion = drop-cons portion i 0 h ∙ rw (← b, add-one i) in
      let s : sum_after next (drop (i + 1) portion) ≡ (all + (byte + total (drop (i + 1) portion))) % 4294967296 = omega (arith, e) in
      record { small = omega (arith, e); left = s ∙ ap (sum_after all) (sym d) ∙ so_far.left }

  pub all-summed : length portion ≤ i → all ≡ sum_after sum portion
  unfolding total
  all-summed h =
      let e : sum_after all [] ≡ sum_after sum portion = ap (sum_after all) (sym (drop_of_length-le portion h)) ∙ so_far.left in
      omega (arith, e, so_far.small)

pub total-append : (first second : List ℕ) → total (first ++ second) ≡ total first + total second
unfolding total
total-append [] second = sym (zero-add (total second))
total-append (byte ∷ first) second = let e = total-append first second in omega arith
