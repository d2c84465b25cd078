-- Section 12 of the specification, rules 12.4 to 12.7: the timings of a revolution's bytes, as a whole. The main property: however the
-- bytes are cut, the calls on their portions give `timings_in` of them all (`AllTimings`, in Portions). Assumes nothing.
use Rattle.std.specs.Prelude.{ℕ, ◌+◌, ◌*◌, cond, List, [], ◌∷◌, eqb}

-- 12.4: the values of some bytes. Each has two, the high one first; a byte without its second makes no value
unfoldable pub values_of : List ℕ → List ℕ
values_of [] = []
values_of (high ∷ []) = []
values_of (high ∷ low ∷ bytes) = (256 * high + low) ∷ values_of bytes

-- 12.5, 12.6: the timings of values in nanoseconds, where zeros before them have added so many units of 25 ns. A 0 adds 65,536 to what
-- follows it
unfoldable pub timings_from : ℕ → List ℕ → List ℕ
timings_from units [] = []
timings_from units (value ∷ values) = cond (eqb value 0) (timings_from (units + 65536) values) (25 * (units + value) ∷ timings_from 0 values)

-- 12.7: the timings of a revolution's bytes. It starts anew, so nothing is added to its first value
abbrev pub timings_in : List ℕ → List ℕ
timings_in bytes = timings_from 0 (values_of bytes)
