-- Section 12 of the specification, rules 12.4 to 12.6 and 12.16: the values of a revolution byte by byte. The main property: which timings
-- end in some bytes, and what the bytes leave unfinished, where they may end between the two of a value. Assumes nothing.
use Rattle.std.specs.Prelude.{ℕ, ◌+◌, ◌*◌, min, cond, List, [], ◌∷◌, ◌++◌, eqb, ltb, length, Option, Some, None}
use Rattle.flux_timings.specs.Timings.{first_out}
use Rattle.revolution_values.specs.declared.Unfinished.{Unfinished}

-- 12.5, 12.16, 12.19: what is unfinished after a value: the zeros before the next one. They are counted up to 7, since with 7 of them or
-- more no timing is in range
unfoldable pub unfinished_after_value : ℕ → ℕ → Unfinished
unfinished_after_value zeros value = record { held = None; zeros = cond (eqb value 0) (min (zeros + 1) 7) 0 }

-- 12.5, 12.6: the timing that ends with a value other than 0, in nanoseconds: each of the zeros before it adds 65,536 units of 25 ns. A 0
-- ends none
unfoldable pub timings_of_value : ℕ → ℕ → List ℕ
timings_of_value zeros value = cond (eqb value 0) [] (25 * (65536 * zeros + value) ∷ [])

-- 12.4, 12.16: the same after a byte. A value has two, the high one first, which is held until the other comes
abbrev pub unfinished_after_byte : Option ℕ → ℕ → ℕ → Unfinished
unfinished_after_byte None zeros byte = record { held = Some byte; zeros = zeros }
unfinished_after_byte (Some high) zeros byte = unfinished_after_value zeros (256 * high + byte)

-- 12.4, 12.15: a timing ends with the second byte of its value
abbrev pub timings_of_byte : Option ℕ → ℕ → ℕ → List ℕ
timings_of_byte None _ byte = []
timings_of_byte (Some high) zeros byte = timings_of_value zeros (256 * high + byte)

-- 12.16: what is unfinished after some bytes
unfoldable pub unfinished_after : Unfinished → List ℕ → Unfinished
unfinished_after unfinished [] = unfinished
unfinished_after unfinished (byte ∷ bytes) = unfinished_after (unfinished_after_byte unfinished.held unfinished.zeros byte) bytes

-- 12.15: the timings whose last byte is one of these
unfoldable pub timings_ending : Unfinished → List ℕ → List ℕ
timings_ending unfinished [] = []
timings_ending unfinished (byte ∷ bytes) =
    timings_of_byte unfinished.held unfinished.zeros byte
    ++ timings_ending (unfinished_after_byte unfinished.held unfinished.zeros byte) bytes

-- 12.16: between two values: no byte is held
abbrev pub between : ℕ → Unfinished
between zeros = record { held = None; zeros = zeros }

-- what is unfinished, with its zeros counted up to 7
abbrev pub capped : Unfinished → Unfinished
capped unfinished = record { held = unfinished.held; zeros = min unfinished.zeros 7 }

-- 12.17: the index of the first of some timings that is out of range, where one is
abbrev pub out_among : List ℕ → Option ℕ
out_among ts = cond (ltb (first_out ts) (length ts)) (Some (first_out ts)) None
