-- Eight cells carried along at once: those of a byte that lies whole on the track. Assumes nothing.
use Prim.Native.Nat.{ℕ, zero, suc, ◌+◌, ◌-◌, ◌*◌, ◌/◌, ◌%◌, ◌^◌, ◌<◌, ◌≤◌}
use mathlib.Core.Path.{◌≡◌, sym, ap, ◌∙◌}
use mathlib.Core.Bool.{Bool, false}
use mathlib.Core.List.{List}
use native.Mathlib.Nat.{mod-add-mod, add-zero, mul_assoc, add-mul, add_assoc}
use native.Mathlib.Omega.{arith}
use lib.ListN.{get_or}
use lib.Pow.{pow-add, low, split, field, mod-mod-pow}
use Rattle.basis.specs.Search.{least}
use Rattle.basis.proofs.Search.{least_step}
use Rattle.cells.specs.CellsAndBytes.{cell_at, cell, word, stands, least_place}
use Rattle.cells.specs.PrivateContracts.{Skipped}
use Rattle.cells.proofs.InBytes.{word-of-byte, word-middle}
use Rattle.cells.proofs.Places.{cell-lt, cell-is, after-low}
use Rattle.cells.proofs.Standing.{word-is, stands-not}
use Rattle.cells.proofs.Words.{word_lt, word_split, word_same, keeps}

-- d places without one that passes
least-steps : (test : ℕ → Bool) (d p q : ℕ) → p + d ≤ q → ((j : ℕ) → j < d → test (p + j) ≡ false) → least test (q - p) p ≡ least test (q - (p + d)) (p + d)
least-steps test zero p q h none = let e : p + 0 ≡ p = omega arith in rw e
least-steps test (suc d) p q h none =
    let e : p + 1 + d ≡ p + suc d = omega arith in
    least_step test p q (omega arith) (rw (add-zero p) at (none 0 (omega arith)))
    ∙ rw e at (least-steps test d (p + 1) q (omega arith) (λ j l. let g : p + 1 + j ≡ p + suc j = omega arith in rw g (none (suc j) (omega arith))))

-- eight cells that are a byte of the track
byte-is : (bytes : List ℕ) (n q : ℕ) → 0 < n → get_or bytes (q % n / 8) 0 < 256 → q % n % 8 ≡ 0 → q % n + 8 ≤ n → word (cell bytes n) 8 q ≡ get_or bytes (q % n / 8) 0
byte-is bytes n q some small aligned whole =
    let e : q % n ≡ 8 * (q % n / 8) = omega arith in
    word_same (cell bytes n) (cell_at bytes) 8 q (q % n) (λ i l. cell-is bytes n (q + i) some ∙ ap (cell_at bytes) (sym (after-low q i n (omega arith))))
    ∙ ap (word (cell_at bytes) 8) e ∙ word-of-byte bytes (q % n / 8) small

module _ (f : ℕ → ℕ) (bit : (i : ℕ) → f i < 2) (k p c b : ℕ) (h : k ≤ 56) (carried : c % 2 ^ k ≡ word f k p) (byte : b ≡ word f 8 (p + k)) where
  abbrev w : ℕ
  w = (c * 256 + b) % 2 ^ 64

  regroup : (q m x y : ℕ) → (q * m + x) * 256 + y ≡ q * (m * 256) + (x * 256 + y)
  regroup q m x y = rw (add-mul (q * m) x 256, mul_assoc q m 256) (add_assoc (q * (m * 256)) (x * 256) y)

  -- the cells from p up to the end of the byte
  with_byte : w % 2 ^ (k + 8) ≡ word f (k + 8) p
  with_byte =
      let e : c * 256 + b ≡ c / 2 ^ k * 2 ^ (k + 8) + word f (k + 8) p =
      ap (λ (x : ℕ). x * 256 + b) (sym (split c k)) ∙ regroup (c / 2 ^ k) (2 ^ k) (c % 2 ^ k) b ∙ rw (pow-add 2 k 8, word_split f bit k 8 p, carried, byte) in
      keeps (k + 8) (c * 256 + b) (omega arith) ∙ ap (λ (x : ℕ). x % 2 ^ (k + 8)) e ∙ low (c / 2 ^ k) (k + 8) (word_lt f bit (k + 8) p)

  -- the word at each of the eight places, and the one after them
  pub window : (j : ℕ) → j < 8 → w / 2 ^ (8 - j) % 2 ^ k ≡ word f k (p + j)
  window j l =
      let m = 8 - j in
      let s : j + k + (8 - j) ≡ k + 8 = omega arith in
      let t : j + (k + (8 - j)) ≡ k + 8 = omega arith in
      sym (mod-mod-pow (w / 2 ^ m) j k)
      ∙ ap (λ (x : ℕ). x % 2 ^ k) (sym (field w (j + k) m) ∙ ap (λ (x : ℕ). w % 2 ^ x / 2 ^ m) s ∙ ap (λ (x : ℕ). x / 2 ^ m) with_byte ∙ ap (λ (x : ℕ). word f x p / 2 ^ m) (sym t))
      ∙ word-middle f bit j k m p

  pub after-byte : w % 2 ^ k ≡ word f k (p + 8)
  after-byte =
      let t : 8 + k ≡ k + 8 = omega arith in
      sym (mod-mod-pow w 8 k) ∙ ap (λ (x : ℕ). w % 2 ^ x % 2 ^ k) t ∙ ap (λ (x : ℕ). x % 2 ^ k) (with_byte ∙ ap (λ (x : ℕ). word f x p) (sym t) ∙ word_split f bit 8 k p)
      ∙ low (word f 8 p) k (word_lt f bit k (p + 8))

module _ (bytes : List ℕ) (n x k p to cells at byte : ℕ) (some : 0 < n) (carried : cells % 2 ^ k ≡ word (cell bytes n) k p) (place : at ≡ (p + k) % n)
    (is : byte ≡ get_or bytes (at / 8) 0) (small : byte < 256) (skipped : Skipped bytes n at cells k x (to - p)) where
  byte-there : byte ≡ word (cell bytes n) 8 (p + k)
  byte-there =
      is ∙ rw place (sym (byte-is bytes n (p + k) some (rw (← place, ← is) small) (rw (← place) skipped.aligned) (rw (← place) skipped.whole)))

  pub eight-carried : (cells * 256 + byte) % 2 ^ 64 % 2 ^ k ≡ word (cell bytes n) k (p + 8)
  eight-carried = after-byte (cell bytes n) (cell-lt bytes n) k p cells byte skipped.short carried byte-there

  pub eight-place : (at + 8) % n ≡ (p + 8 + k) % n
  eight-place = let s : p + 8 + k ≡ p + k + 8 = omega arith in rw (place, mod-add-mod (p + k) n 8, s)

  pub eight-passed : least_place bytes n k x p to ≡ least_place bytes n k x (p + 8) to
  eight-passed = let e = skipped.enough in least-steps (stands bytes n k x) 8 p to (omega arith) none
    where
      none : (j : ℕ) → j < 8 → stands bytes n k x (p + j) ≡ false
      none j l =
          let s = skipped.short in
          stands-not bytes n k x (p + j)
          (λ q. skipped.none j l
          (ap (λ (b : ℕ). (cells * 256 + b) % 2 ^ 64 / 2 ^ (8 - j) % 2 ^ k) (sym is) ∙ window (cell bytes n) (cell-lt bytes n) k p cells byte s carried byte-there j l
          ∙ sym (word-is bytes n k x (p + j) (omega arith)) ∙ q))
