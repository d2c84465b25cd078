-- What is written of a list and of an input, branch by branch. Assumes nothing.
use Prim.Native.Nat.{ℕ, ◌+◌, ◌<◌, ◌≤◌}
use mathlib.Core.Path.{◌≡◌, refl, sym, ◌∙◌, ap, subst}
use mathlib.Core.Bool.{Bool, true, false}
use mathlib.Core.List.{List, [], ◌∷◌, ◌++◌}
use native.Mathlib.Omega.{arith}
use borrow.Author.Tests.{eq-eqb, ne_eqb, lt-ltb, le-ltb}
use lib.ListN.{length, take, drop, length-append}
use lib.Seq.{take_all, take_at}
use Rattle.lines.specs.Lines.{bytes_of, refused_line, out_after}
use Rattle.lines.proofs.Lengths.{refused-few}
use Rattle.track_writer.specs.WriteTrack.{written, cell_count}
use Rattle.write_track.specs.FileOfList.{Outputs, file_with, refusal, unreadable, outputs_of, outputs_of_input, AtFront, Made}
use Rattle.write_track.proofs.Cells.{many-cells}

nothing : (out : List ℕ) → AtFront [] 0 out
nothing out = record { within = omega arith; front_is = refl }

-- the lines of standard error
pub refusal-made : (number : ℕ) → number < 0x1_0000_0000 → (before : List ℕ) {out : List ℕ} {n : ℕ} → length before ≡ 65536
    → length out ≡ length before → (n ≡ length (refused_line number)) × (out ≡ out_after (refused_line number) before) → Made (refusal number) 0 n out
unfolding refusal
refusal-made number fits before {out} {n} long same line =
    let made = refused_line number in
    let few = refused-few number fits in
    let all : take (length before) made ≡ made = take_all (length before) made (omega arith) in
    let written : out ≡ made ++ drop (length made) before = line.1 ∙ ap (λ (l : List ℕ). l ++ drop (length l) before) all in
    record {
      output_is = nothing out;
      message_is =
          record {
            within = omega (arith, line.0);
            front_is =
                ap (λ (k : ℕ). take k out) line.0
                ∙ ap (take (length made)) written
                ∙ take_at made (drop (length made) before) (length made) refl;
          };
    }

pub unreadable-made : {out : List ℕ} {n : ℕ} → length out ≡ 65536 → n ≡ 48 → take n out ≡ bytes_of "write_track: the list cannot be read to its end\n"
    → Made unreadable 0 n out
unfolding unreadable
unreadable-made {out} long e line = record { output_is = nothing out; message_is = record { within = omega arith; front_is = line } }

-- where the outputs are known
made_as : {outputs other : Outputs} → outputs ≡ other → {output message : ℕ} {out : List ℕ} → Made other output message out
    → Made outputs output message out
made_as e {output} {message} {out} m = subst (λ (o : Outputs). Made o output message out) (sym e) m

-- a list at a place
module _ (T H : ℕ) (list : List ℕ) {output message : ℕ} {out : List ℕ} where
  pub no-track : 83 < T → Made (refusal 1) output message out → Made (outputs_of T H list) output message out
  unfolding outputs_of
  no-track h m = made_as (rw (lt-ltb 83 T h)) m

  module _ (track : T ≤ 83) where
    pub no-side : 1 < H → Made (refusal 1) output message out → Made (outputs_of T H list) output message out
    unfolding outputs_of
    no-side h m = made_as (rw (le-ltb 83 T track, lt-ltb 1 H h)) m

    module _ (side : H ≤ 1) where
      pub no_bytes : length list ≡ 0 → Made (refusal 15) output message out → Made (outputs_of T H list) output message out
      unfolding outputs_of
      no_bytes e m = made_as (rw (le-ltb 83 T track, le-ltb 1 H side, eq-eqb (length list) 0 e)) m

      module _ (some : length list ≡ 0 → ⊥) where
        pub too-many-cells : {number : ℕ} → (number ≡ 20) × (131072 < cell_count list) → Made (refusal number) output message out
            → Made (outputs_of T H list) output message out
        unfolding outputs_of
        too-many-cells {number} h m =
            made_as
            (rw (le-ltb 83 T track, le-ltb 1 H side, ne_eqb (length list) 0 some, lt-ltb 131072 (cell_count list) h.1) (ap refusal (sym h.0)))
            m

-- the file of a list
pub file-made : {T H : ℕ} (list : List ℕ) → T ≤ 83 → H ≤ 1 → (length list ≡ 0 → ⊥) → cell_count list ≤ 131072 → {count : ℕ} {packed : List ℕ}
    → count ≡ cell_count list → packed ≡ written list → {n : ℕ} {out : List ℕ} → AtFront (file_with T H count packed) n out
    → Made (outputs_of T H list) n 0 out
unfolding outputs_of
file-made {T} {H} list track side some few {count} {packed} c p {n} {out} at =
    made_as
    {other = record { output = file_with T H (cell_count list) (written list); message = [] }}
    (rw (le-ltb 83 T track, le-ltb 1 H side, ne_eqb (length list) 0 some, le-ltb 131072 (cell_count list) few))
    record { output_is = rw (← c, ← p) at; message_is = nothing out }

-- 13.56: what follows more than 8,192 bytes changes nothing
pub enough-read : (T H : ℕ) (list rest : List ℕ) → 8192 < length list → outputs_of T H (list ++ rest) ≡ outputs_of T H list
unfolding outputs_of
enough-read T H list rest h =
    let long : length (list ++ rest) ≡ length list + length rest = length-append list rest in
    let some : length list ≡ 0 → ⊥ = λ e. omega (arith, e) in
    let some_more : length (list ++ rest) ≡ 0 → ⊥ = λ e. omega (arith, e, long) in
    rw (
      ne_eqb (length list) 0 some,
      ne_eqb (length (list ++ rest)) 0 some_more,
      lt-ltb 131072 (cell_count list) (many-cells list h),
      lt-ltb 131072 (cell_count (list ++ rest)) (many-cells (list ++ rest) (omega (arith, long))),
    )
