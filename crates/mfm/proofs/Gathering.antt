-- Every second cell of a word, moved together: numbers whose digits have room beside them. Assumes nothing.
use Prim.Native.Nat.{ℕ, zero, suc, ◌+◌, ◌-◌, ◌*◌, ◌/◌, ◌%◌, ◌^◌, ◌<◌, ◌≤◌}
use mathlib.Core.Path.{◌≡◌, refl, sym, ap, ◌∙◌}
use native.Mathlib.Nat.{mul_assoc, mul_comm, add-mul, mul-suc, zero-add, mod-lt, mul-le-mul_right}
use native.Mathlib.Omega.{arith}
use lib.Bits.{bit_and, bit_or, and_zero_r, and_mask, and_block, or_shr, or_mod, or_shifted_r}
use lib.Pow.{pow-add, pow_pos, high, low, split, shr-shr, mod-mod-pow, mod-pow-add, field, ones_lt}
use Rattle.cells.specs.CellsAndBytes.{word}
use Rattle.cells.proofs.Words.{word_lt, word_split}
use Rattle.mfm.specs.Coding.{data_cell}

-- the digits g 0, g 1, .. of m bits each
spread : ℕ → (ℕ → ℕ) → ℕ → ℕ
spread m g zero = 0
spread m g (suc k) = spread m g k * 2 ^ m + g k

spread_same : (m : ℕ) (g h : ℕ → ℕ) (k : ℕ) → ((i : ℕ) → i < k → g i ≡ h i) → spread m g k ≡ spread m h k
unfolding spread
spread_same m g h zero e = refl
spread_same m g h (suc k) e = rw (spread_same m g h k (λ i l. e i (omega arith)), e k (omega arith))

twice : (k : ℕ) → 2 * suc k ≡ suc (suc (2 * k))
twice k = omega arith

-- the second of each two cells
odds : (f : ℕ → ℕ) → ((i : ℕ) → f i < 2) → (p k : ℕ) → bit_and (word f (2 * k) p) (spread 2 (λ i. 1) k) ≡ spread 2 (data_cell f p) k
unfolding word spread
odds f bit p zero = refl
odds f bit p (suc k) =
    let c = f (p + 2 * k) in
    let d = f (p + suc (2 * k)) in
    let lc = bit (p + 2 * k) in
    let ld = bit (p + suc (2 * k)) in
    let w = word f (2 * k) p in
    let e : 2 * (2 * w + c) + d ≡ w * 2 ^ 2 + (2 * c + d) = omega arith in
    let low : bit_and (2 * c + d) 1 ≡ d = and_mask (2 * c + d) 1 ∙ omega arith in
    let q : p + suc (2 * k) ≡ p + (2 * k + 1) = omega arith in
    ap (λ (n : ℕ). bit_and (word f n p) (spread 2 (λ i. 1) k * 2 ^ 2 + 1)) (twice k)
    ∙ ap (λ (n : ℕ). bit_and n (spread 2 (λ i. 1) k * 2 ^ 2 + 1)) e
    ∙ and_block 2 w (spread 2 (λ i. 1) k) (2 * c + d) 1 (omega arith) (omega arith)
    ∙ ap (λ (n : ℕ). n * 2 ^ 2 + bit_and (2 * c + d) 1) (odds f bit p k)
    ∙ ap (λ (n : ℕ). spread 2 (data_cell f p) k * 2 ^ 2 + n) (low ∙ ap f q)

-- Two digits a and b of s bits, each with s bits of room before it, at the end of a number: what stands before them is y
module _ (s y a b : ℕ) (la : a < 2 ^ s) (lb : b < 2 ^ s) where
  abbrev all : ℕ
  all = (y * 2 ^ (s + s) + a) * 2 ^ (s + s) + b

  grows : 2 ^ s ≤ 2 ^ (s + s)
  grows = let e = pow-add 2 s s in let o = pow_pos s in rw e (wider (2 ^ s) o)
    where
      wider : (n : ℕ) → 0 < n → n ≤ n * n
      wider zero h = absurd (omega arith)
      wider (suc n) h = rw (mul-suc (suc n) n) (omega arith)

  b-low : b < 2 ^ (s + s)
  b-low = let g = grows in omega arith

  two : all ≡ y * 2 ^ (s + s + (s + s)) + (a * 2 ^ (s + s) + b)
  two = rw (pow-add 2 (s + s) (s + s), add-mul (y * 2 ^ (s + s)) a (2 ^ (s + s)), mul_assoc y (2 ^ (s + s)) (2 ^ (s + s))) (group (y * (2 ^ (s + s) * 2 ^ (s + s))) (a * 2 ^ (s + s)) b)
    where
      group : (u v w : ℕ) → u + v + w ≡ u + (v + w)
      group u v w = omega arith

  pair_lt : a * 2 ^ (s + s) + b < 2 ^ (s + s + (s + s))
  pair_lt = rw (pow-add 2 (s + s) (s + s)) (below (2 ^ (s + s)) a b (let g = grows in omega arith) b-low)
    where
      below : (n a b : ℕ) → a < n → b < n → a * n + b < n * n
      below n a b h l =
          let e : a * n + n ≤ n * n = rw (← succ a n) (times (suc a) n n h) in
          omega arith
        where
          succ : (a n : ℕ) → suc a * n ≡ a * n + n
          succ a n = rw (mul_comm (suc a) n, mul-suc n a, mul_comm n a)

          times : (x y n : ℕ) → x ≤ y → x * n ≤ y * n
          times x y n h = mul-le-mul_right n h

  -- above the pair
  above : all / 2 ^ (s + s + (s + s)) ≡ y
  above = ap (λ (n : ℕ). n / 2 ^ (s + s + (s + s))) two ∙ high y (s + s + (s + s)) pair_lt

  or_above : bit_or all (all / 2 ^ s) / 2 ^ (s + s + (s + s)) ≡ bit_or y (y / 2 ^ s)
  or_above =
      or_shr all (all / 2 ^ s) (s + s + (s + s))
      ∙ ap (λ (n : ℕ). bit_or n (all / 2 ^ s / 2 ^ (s + s + (s + s)))) above
      ∙ ap (bit_or y) (shr-shr all s (s + s + (s + s)) ∙ ap (λ (k : ℕ). all / 2 ^ k) (turn s) ∙ sym (shr-shr all (s + s + (s + s)) s) ∙ ap (λ (n : ℕ). n / 2 ^ s) above)
    where
      turn : (s : ℕ) → s + (s + s + (s + s)) ≡ s + s + (s + s) + s
      turn s = omega arith

  -- the pair itself
  shifted : all / 2 ^ s % 2 ^ (s + s) ≡ a * 2 ^ s
  shifted =
      sym (field all (s + s) s)
      ∙ ap (λ (k : ℕ). all % 2 ^ k / 2 ^ s) (turn s)
      ∙ ap (λ (n : ℕ). n / 2 ^ s) (mod-pow-add all s (s + s))
      ∙ ap (λ (n : ℕ). (n % 2 ^ s * 2 ^ (s + s) + all % 2 ^ (s + s)) / 2 ^ s) (high (y * 2 ^ (s + s) + a) (s + s) b-low)
      ∙ ap (λ (n : ℕ). ((y * 2 ^ (s + s) + a) % 2 ^ s * 2 ^ (s + s) + n) / 2 ^ s) (low (y * 2 ^ (s + s) + a) (s + s) b-low)
      ∙ ap (λ (n : ℕ). (n * 2 ^ (s + s) + b) / 2 ^ s) a-is
      ∙ ap (λ (n : ℕ). (n + b) / 2 ^ s) (up a)
      ∙ high (a * 2 ^ s) s lb
    where
      turn : (s : ℕ) → s + s + s ≡ s + (s + s)
      turn s = omega arith

      up : (x : ℕ) → x * 2 ^ (s + s) ≡ x * 2 ^ s * 2 ^ s
      up x = ap (λ (n : ℕ). x * n) (pow-add 2 s s) ∙ sym (mul_assoc x (2 ^ s) (2 ^ s))

      a-is : (y * 2 ^ (s + s) + a) % 2 ^ s ≡ a
      a-is = ap (λ (n : ℕ). (n + a) % 2 ^ s) (up y) ∙ low (y * 2 ^ s) s la

  or-low : bit_or all (all / 2 ^ s) % 2 ^ (s + s) ≡ a * 2 ^ s + b
  or-low =
      or_mod all (all / 2 ^ s) (s + s)
      ∙ ap (λ (n : ℕ). bit_or n (all / 2 ^ s % 2 ^ (s + s))) (low (y * 2 ^ (s + s) + a) (s + s) b-low)
      ∙ ap (bit_or b) shifted
      ∙ or_shifted_r a s b lb

  -- one pair more
  pair-more : (z : ℕ) → bit_and (bit_or all (all / 2 ^ s)) (z * 2 ^ (s + s + (s + s)) + (2 ^ (s + s) - 1)) ≡ bit_and (bit_or y (y / 2 ^ s)) z * 2 ^ (s + s + (s + s)) + (a * 2 ^ s + b)
  pair-more z =
      let o = bit_or all (all / 2 ^ s) in
      let r = o % 2 ^ (s + s + (s + s)) in
      let ones = ones_lt (s + s) in
      let wide = wider (s + s) in
      ap (λ (n : ℕ). bit_and n (z * 2 ^ (s + s + (s + s)) + (2 ^ (s + s) - 1))) (sym (split o (s + s + (s + s))))
      ∙ and_block (s + s + (s + s)) (o / 2 ^ (s + s + (s + s))) z r (2 ^ (s + s) - 1) (mod-lt o (pow_pos (s + s + (s + s)))) (omega arith)
      ∙ ap (λ (n : ℕ). bit_and n z * 2 ^ (s + s + (s + s)) + bit_and r (2 ^ (s + s) - 1)) or_above
      ∙ ap (λ (n : ℕ). bit_and (bit_or y (y / 2 ^ s)) z * 2 ^ (s + s + (s + s)) + n) (and_mask r (s + s) ∙ mod-mod-pow o (s + s) (s + s) ∙ or-low)
    where
      wider : (k : ℕ) → 2 ^ k ≤ 2 ^ (k + k)
      wider k = rw (pow-add 2 k k) (at_least (2 ^ k) (pow_pos k))
        where
          at_least : (n : ℕ) → 0 < n → n ≤ n * n
          at_least zero h = absurd (omega arith)
          at_least (suc n) h = rw (mul-suc (suc n) n) (omega arith)

-- all pairs: digits of w bits become digits of twice as many
module _ (d : ℕ → ℕ) (bit : (i : ℕ) → d i < 2) (w : ℕ) where
  digits : ℕ → ℕ → ℕ
  digits n j = word d n (n * j)

  joined-more : (k : ℕ)
      → bit_and (bit_or (spread (w + w) (digits w) (2 * k)) (spread (w + w) (digits w) (2 * k) / 2 ^ w)) (spread (w + w + (w + w)) (λ i. 2 ^ (w + w) - 1) k)
      ≡ spread (w + w + (w + w)) (digits (w + w)) k
  unfolding spread digits
  joined-more zero = and_zero_r (bit_or 0 (0 / 2 ^ w))
  joined-more (suc k) =
      let y = spread (w + w) (digits w) (2 * k) in
      let a = word d w (w * (2 * k)) in
      let b = word d w (w * suc (2 * k)) in
      let e : w * (2 * k) ≡ (w + w) * k = first w k in
      let g : w * suc (2 * k) ≡ (w + w) * k + w = mul-suc w (2 * k) ∙ ap (λ (n : ℕ). n + w) e in
      let pair : a * 2 ^ w + b ≡ word d (w + w) ((w + w) * k) =
      ap (λ (n : ℕ). word d w n * 2 ^ w + b) e ∙ ap (λ (n : ℕ). word d w ((w + w) * k) * 2 ^ w + word d w n) g ∙ sym (word_split d bit w w ((w + w) * k)) in
      ap (λ (n : ℕ). bit_and (bit_or (spread (w + w) (digits w) n) (spread (w + w) (digits w) n / 2 ^ w)) (spread (w + w + (w + w)) (λ i. 2 ^ (w + w) - 1) k * 2 ^ (w + w + (w + w)) + (2 ^ (w + w) - 1))) (twice k)
      ∙ pair-more w y a b (word_lt d bit w (w * (2 * k))) (word_lt d bit w (w * suc (2 * k))) (spread (w + w + (w + w)) (λ i. 2 ^ (w + w) - 1) k)
      ∙ ap (λ (n : ℕ). n * 2 ^ (w + w + (w + w)) + (a * 2 ^ w + b)) (joined-more k)
      ∙ ap (λ (n : ℕ). spread (w + w + (w + w)) (digits (w + w)) k * 2 ^ (w + w + (w + w)) + n) pair
    where
      first : (w k : ℕ) → w * (2 * k) ≡ (w + w) * k
      first w k = sym (mul_assoc w 2 k) ∙ ap (λ (n : ℕ). n * k) (doubled w)
        where
          doubled : (w : ℕ) → w * 2 ≡ w + w
          doubled w = omega arith

one : (d : ℕ → ℕ) (b : (i : ℕ) → d i < 2) (i : ℕ) → d i ≡ digits d b 1 1 i
unfolding digits word
one d b i = let e : 1 * i + 0 ≡ i = omega arith in sym (zero-add (d (1 * i + 0)) ∙ ap d e)

-- the five steps of the code
module _ (f : ℕ → ℕ) (bit : (i : ℕ) → f i < 2) (p : ℕ) where
  pub gathered : (cells ones twos fours eights sixteens : ℕ) → cells ≡ word f 64 p
      → ones ≡ bit_and cells 0x5555_5555_5555_5555
      → twos ≡ bit_and (bit_or ones (ones / 2 ^ 1)) 0x3333_3333_3333_3333
      → fours ≡ bit_and (bit_or twos (twos / 2 ^ 2)) 0x0F0F_0F0F_0F0F_0F0F
      → eights ≡ bit_and (bit_or fours (fours / 2 ^ 4)) 0x00FF_00FF_00FF_00FF
      → sixteens ≡ bit_and (bit_or eights (eights / 2 ^ 8)) 0x0000_FFFF_0000_FFFF
      → bit_and (bit_or sixteens (sixteens / 2 ^ 16)) 0xFFFF_FFFF ≡ word (data_cell f p) 32 0
  unfolding spread digits
  gathered cells ones twos fours eights sixteens e0 e1 e2 e3 e4 e5 =
      let d = data_cell f p in
      let b : (i : ℕ) → d i < 2 = λ i. bit (p + (2 * i + 1)) in
      let s1 : ones ≡ spread 2 (digits d b 1 1) 32 = e1 ∙ rw e0 (odds f bit p 32) ∙ spread_same 2 d (digits d b 1 1) 32 (λ i l. one d b i) in
      let s2 : twos ≡ spread 4 (digits d b 2 2) 16 = e2 ∙ rw s1 (joined-more d b 1 16) in
      let s3 : fours ≡ spread 8 (digits d b 4 4) 8 = e3 ∙ rw s2 (joined-more d b 2 8) in
      let s4 : eights ≡ spread 16 (digits d b 8 8) 4 = e4 ∙ rw s3 (joined-more d b 4 4) in
      let s5 : sixteens ≡ spread 32 (digits d b 16 16) 2 = e5 ∙ rw s4 (joined-more d b 8 2) in
      rw s5 (joined-more d b 16 1) ∙ zero-add (word d 32 0)
