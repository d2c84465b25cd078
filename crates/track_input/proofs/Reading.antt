-- One read and many: what the reads of a loop lead to, from what each leads to. Assumes nothing.
use Prim.Native.Nat.{ℕ, zero, suc, ◌+◌, min}
use mathlib.Core.Path.{◌≡◌, refl, sym, ◌∙◌, ap, subst}
use mathlib.Core.Bool.{Bool, true, false, cond}
use mathlib.Core.List.{List, [], ◌∷◌, ◌++◌}
use native.Mathlib.Nat.{zero-min, min-zero, suc-min-suc}
use native.Mathlib.Omega.{arith}
use borrow.Author.Tests.{ltb-true, ltb-false}
use lib.IntN.{ℤ, pos, negsuc}
use lib.ListN.{length, take, length-append}
use lib.Signed.{lt_z}
use Rattle.system_calls.specs.Counts.{count_in}
use Rattle.track_input.specs.declared.Input.{Input}
use Rattle.track_input.specs.declared.Input.TheVariants.{Open, Ended, Failed}
use Rattle.track_input.specs.Reading.{Steps, bytes_read, input_with, input_after, OneRead, Leads, portions_of, cells_after_all, ReadThrough}
use Rattle.track_input.specs.Reading.Leads.{none, one}
use Rattle.track_input.specs.PrivateContracts.{TakenRead}

-- the three answers of a read, by the tests on its number
module _ {A : Type 0} (steps : Steps A) (reader : A) where
  pub failed : (got : ℤ) → lt_z got (pos 0) ≡ true → Failed ≡ input_with steps got reader
  unfolding input_with
  failed (pos n) e =
      let z = ltb-true n 0 e in
      let z' : ⊥ = omega arith in absurd z'
  failed (negsuc k) e = refl

  pub brought : (got : ℤ) {stopped : Bool} → lt_z (pos 0) got ≡ true → stopped ≡ steps.is_stopped reader → cond stopped (Ended reader) (Open reader) ≡ input_with steps got reader
  unfolding input_with
  brought (pos zero) e s = cc
  brought (pos (suc n)) e s = ap (λ (x : Bool). cond x (Ended reader) (Open reader)) s
  brought (negsuc k) e s = cc

  pub at-end : (got : ℤ) → lt_z got (pos 0) ≡ false → lt_z (pos 0) got ≡ false → Ended reader ≡ input_with steps got reader
  unfolding input_with
  at-end (pos zero) e f = refl
  at-end (pos (suc n)) e f =
      let z = ltb-false 0 (suc n) f in
      let z' : ⊥ = omega arith in absurd z'
  at-end (negsuc k) e f = cc

-- the bytes of a read are those that its number counts
take_count : (n : ℕ) (xs : List ℕ) → take (min n (length xs)) xs ≡ take n xs
take_count zero xs = rw (zero-min (length xs))
take_count (suc n) [] = rw (min-zero (suc n))
take_count (suc n) (x ∷ xs) = rw (suc-min-suc n (length xs)) (ap (λ (l : List ℕ). x ∷ l) (take_count n xs))

counted : (got : ℤ) (portion : List ℕ) → take (count_in got (length portion)) portion ≡ bytes_read got portion
counted (pos n) portion = take_count n portion
counted (negsuc k) portion = refl

-- a read is taken. The code reads the number that it answered back from its bits: `seen`
module _ {A : Type 0} (steps : Steps A) (reader : A) (got : ℤ) (portion cells : List ℕ) where
  abbrev Taken : ℤ → Input A → List ℕ → Type 0
  Taken got input after = (input ≡ input_after steps reader got portion) × (after ≡ steps.cells_after reader (bytes_read got portion) cells)

  pub taken : {seen : ℤ} → seen ≡ got → {count : ℕ} {next : A} {after : List ℕ} {input : Input A} → count ≡ count_in seen (length portion)
      → (next ≡ steps.reader_after reader (take count portion)) × (after ≡ steps.cells_after reader (take count portion) cells) → input ≡ input_with steps seen next
      → Taken got input after
  unfolding input_after
  taken {seen} same {count} {next} {after} {input} is fed e =
      let bytes : take count portion ≡ bytes_read seen portion = ap (λ (n : ℕ). take n portion) is ∙ counted seen portion in
      subst (λ (z : ℤ). Taken z input after) same
      (e ∙ ap (input_with steps seen) (fed.0 ∙ ap (steps.reader_after reader) bytes), fed.1 ∙ ap (λ (x : List ℕ). steps.cells_after reader x cells) bytes)

-- an input whose reader, where it has one, is this
abbrev pub At : {A : Type 0} → A → Input A → Type 0
At reader (Open at) = at ≡ reader
At reader (Ended at) = at ≡ reader
At reader Failed = Unit

-- the reader after portions, one after another
unfoldable pub reader_after_all : {A : Type 0} → Steps A → A → List (List ℕ) → A
reader_after_all steps reader [] = reader
reader_after_all steps reader (portion ∷ portions) = reader_after_all steps (steps.reader_after reader portion) portions

module _ {A : Type 0} (steps : Steps A) where
  at_read : (reader : A) (got : ℤ) (portion : List ℕ) → At (steps.reader_after reader (bytes_read got portion)) (input_after steps reader got portion)
  unfolding input_after input_with
  at_read reader (pos zero) portion = refl
  at_read reader (pos (suc n)) portion =
      go (steps.reader_after reader (take (suc n) portion)) (steps.is_stopped (steps.reader_after reader (take (suc n) portion)))
    where
      go : (next : A) (x : Bool) → At next (cond x (Ended next) (Open next))
      go next true = refl
      go next false = refl
  at_read reader (negsuc k) portion = tt

  -- the reader that reads lead to is that of their portions
  pub led : {input last : Input A} {reads : List OneRead} → Leads steps input reads last → (reader : A) → At reader input
      → At (reader_after_all steps reader (portions_of reads)) last
  unfolding portions_of reader_after_all
  led none at e = e
  led (one {reader} {read} rest) at e =
      let bytes = bytes_read read.got read.portion in
      led rest (steps.reader_after at bytes)
      (subst (λ (x : A). At (steps.reader_after x bytes) (input_after steps reader read.got read.portion)) e (at_read reader read.got read.portion))

  -- one read more
  led_on : {input : Input A} {reads : List OneRead} {reader : A} → Leads steps input reads (Open reader) → (read : OneRead)
      → Leads steps input (reads ++ (read ∷ [])) (input_after steps reader read.got read.portion)
  led_on none read = one none
  led_on (one rest) read = one (led_on rest read)

  -- one portion more
  cells-then : (portion : List ℕ) (reader : A) (portions : List (List ℕ)) (buffer : List ℕ)
      → cells_after_all steps reader (portions ++ (portion ∷ [])) buffer
      ≡ steps.cells_after (reader_after_all steps reader portions) portion (cells_after_all steps reader portions buffer)
  unfolding reader_after_all cells_after_all
  cells-then portion reader [] buffer = refl
  cells-then portion reader (first ∷ portions) buffer = cells-then portion (steps.reader_after reader first) portions (steps.cells_after reader first buffer)

portions-then : (read : OneRead) (reads : List OneRead) → portions_of (reads ++ (read ∷ [])) ≡ portions_of reads ++ (bytes_read read.got read.portion ∷ [])
unfolding portions_of
portions-then read [] = refl
portions-then read (earlier ∷ reads) =
    ap (λ (xs : List (List ℕ)). bytes_read earlier.got earlier.portion ∷ xs) (portions-then read reads)

-- in the loop: the reads so far, one in each turn
pub record Reading {A : Type 0} (steps : Steps A) (first : A) (before : List ℕ) (reader : A) (cells : List ℕ) (turns : ℕ) : Type 0 where
  pub reads : List OneRead
  pub leads : Leads steps (Open first) reads (Open reader)
  pub cells_are : cells ≡ cells_after_all steps first (portions_of reads) before
  pub turns_are : length reads ≡ turns

pub no_reads : {A : Type 0} (steps : Steps A) (first : A) (before : List ℕ) → Reading steps first before first before 0
unfolding portions_of cells_after_all
no_reads steps first before = record { reads = []; leads = none; cells_are = refl; turns_are = refl }

module _ {A : Type 0} {steps : Steps A} {first : A} {before : List ℕ} {reader : A} {cells : List ℕ} {turns : ℕ}
    (reading : Reading steps first before reader cells turns) where
  module _ {portion : List ℕ} {next : Input A} {after : List ℕ} (taken : TakenRead steps reader portion cells next after) where
    abbrev read : OneRead
    read = record { got = taken.got; portion = portion }

    abbrev reads : List OneRead
    reads = reading.reads ++ (read ∷ [])

    leads-on : Leads steps (Open first) reads next
    leads-on = rw taken.input_is (led_on steps reading.leads read)

    cells-on : after ≡ cells_after_all steps first (portions_of reads) before
    cells-on =
        taken.cells_are
        ∙ ap (λ (x : A). steps.cells_after x (bytes_read taken.got portion) cells) (led steps reading.leads first refl)
        ∙ ap (steps.cells_after (reader_after_all steps first (portions_of reading.reads)) (bytes_read taken.got portion)) reading.cells_are
        ∙ sym (cells-then steps (bytes_read taken.got portion) first (portions_of reading.reads) before)
        ∙ ap (λ (xs : List (List ℕ)). cells_after_all steps first xs before) (sym (portions-then read reading.reads))

    -- the input goes on
    pub one-read : {at : A} → next ≡ Open at → Reading steps first before at after (turns + 1)
    one-read goes =
        let n = length-append reading.reads (read ∷ []) in
        let m = reading.turns_are in
        record { reads = reads; leads = rw goes at leads-on; cells_are = cells-on; turns_are = omega arith }

    -- it does not
    last-read : {last : Input A} → next ≡ last → ((at : A) → last ≡ Open at → ⊥) → ReadThrough steps first before last after
    last-read is closed =
        record { reads = reads; all = record { leads = rw is at leads-on; to_end = λ at e. absurd (closed at e) }; cells_are = cells-on }

    pub read-to-end : {at : A} → next ≡ Ended at → ReadThrough steps first before (Ended at) after
    read-to-end is = last-read is (λ at e. let z : ◌≡◌ {A = ℕ} 0 1 = cc in omega arith)

    pub failed-read : next ≡ Failed → ReadThrough steps first before Failed after
    failed-read is = last-read is (λ at e. let z : ◌≡◌ {A = ℕ} 0 1 = cc in omega arith)

  pub no-turns : turns ≡ 18446744073709551615 → ReadThrough steps first before (Open reader) cells
  no-turns e =
      let m = reading.turns_are in
      record { reads = reading.reads; all = record { leads = reading.leads; to_end = λ at same. omega arith }; cells_are = reading.cells_are }
