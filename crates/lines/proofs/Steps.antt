-- Steps of writing to a line, one after the other. Assumes nothing.
use Rattle.std.proofs.Common.{ℕ, ◌+◌, ◌≡◌, List, [], ◌++◌, ◌∙◌, refl, length, ◌≤◌}
use Rattle.lines.specs.PrivateContracts.{WroteOn}
use Rattle.lines.specs.declared.Line.{Line}
use Rattle.lines.proofs.Writing.{◌then◌, none}

-- some bytes, and then more
pub ◌and◌ : {a b c : Line} {m n : ℕ} {xs ys : List ℕ} → WroteOn a b xs m → WroteOn b c ys n → WroteOn a c (xs ++ ys) (m + n)
first and second = record { wrote = first.wrote then second.wrote; same_buffer = second.same_buffer ∙ first.same_buffer }

infixl 4 ◌and◌
-- nothing yet
pub nothing_on : (a : Line) (m : ℕ) → WroteOn a a [] m
nothing_on a m = record { wrote = none a.out.now a.at m; same_buffer = refl }

-- the same bytes by another name, with another bound
pub at_most : {a b : Line} {m : ℕ} {xs ys : List ℕ} (n : ℕ) → length ys ≤ n → xs ≡ ys → WroteOn a b xs m → WroteOn a b ys n
at_most {a} {b} n few same w =
    record {
      wrote = record { bytes = rw same at w.wrote.bytes; place = rw same at w.wrote.place; few = few };
      same_buffer = w.same_buffer;
    }
