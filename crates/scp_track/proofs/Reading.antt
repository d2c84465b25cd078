-- What is listed of an input, by how its reading came to an end. Assumes nothing.
use Prim.Native.Nat.{ℕ, zero, suc, ◌≤◌}
use mathlib.Core.Path.{◌≡◌, refl, sym, ◌∙◌, ap, subst}
use mathlib.Core.Bool.{Bool, false}
use mathlib.Core.List.{List, [], ◌∷◌, ◌++◌}
use native.Mathlib.Omega.{arith}
use lib.IntN.{ℤ, pos, negsuc}
use lib.ListN.{length, take, drop, length-append}
use lib.Seq.{take_all, take_at}
use Rattle.basis.specs.Lists.{written_over}
use Rattle.scp_track.specs.InputListing.{input_listing, ListedBlock}
use Rattle.standard_input.proofs.Reading.{is-empty}
use Rattle.standard_input.specs.Reading.{bytes_read, is_end, Brought, SomeRead}
use Rattle.standard_input.specs.Reading.Brought.{none, more}
use Rattle.scp_track.specs.InputRead.{InputRead}
use Rattle.scp_track.specs.InputRead.InputRead.{stops, goes_on}
use Rattle.lines.specs.Lines.{out_after}

-- reads one after another
pub then-brought : {front middle bytes : List ℕ} → Brought front middle → Brought middle bytes → Brought front bytes
then-brought first none = first
then-brought first (more got room before some) = more got room (then-brought first before) some

then-read : {longest : ℕ} {front middle : List ℕ} {ended : Bool} {bytes : List ℕ} → Brought front middle → InputRead longest middle ended bytes
    → InputRead longest front ended bytes
then-read first (stops brought got room nothing) = stops (then-brought first brought) got room nothing
then-read first (goes_on brought long) = goes_on (then-brought first brought) long

-- the input is read
module _ {longest : ℕ} {front : List ℕ} {revolutions k T H : ℕ} {before : List ℕ} {size : ℕ} {after : List ℕ} where
  -- a read brought nothing
  pub listed-where-stopped : {block : List ℕ} {ended : Bool} → Brought front block → SomeRead 0 ended
      → record { answer : size ≡ length (input_listing ended block revolutions k T H); few : size ≤ 65536; out : after ≡ out_after (input_listing ended block revolutions k T H) before }
      → ListedBlock longest front revolutions k T H before size after
  listed-where-stopped {block} {ended} brought last w =
      let t = last.taken in
      let read : InputRead longest front (is_end t.got) block = stops brought t.got last.room (is-empty _ t.count_is) in
      record {
        block = block;
        ended = ended;
        read = subst (λ (b : Bool). InputRead longest front b block) (sym t.ended_is) read;
        answer_is = w.answer;
        out_is = w.out;
      }

  -- the longest room is full, and a further read was made
  pub listed-where-full : {block : List ℕ} {count : ℕ} {ended : Bool} → Brought front block → longest ≤ length block → SomeRead count ended
      → record { answer : size ≡ length (input_listing ended block revolutions k T H); few : size ≤ 65536; out : after ≡ out_after (input_listing ended block revolutions k T H) before }
      → ListedBlock longest front revolutions k T H before size after
  unfolding input_listing is_end
  listed-where-full {block} {count} {ended} brought long last w = go last.taken.got (bytes_read last.taken.got last.room) refl last.taken.ended_is
    where
      further : (got : ℤ) (x : ℕ) (bytes : List ℕ) → bytes_read got last.room ≡ x ∷ bytes → false ≡ is_end got
      further (pos zero) x bytes e =
          let n : 0 ≡ suc (length bytes) = ap length e in
          let z : ⊥ = omega arith in absurd z
      further (pos (suc n)) x bytes e = refl
      further (negsuc n) x bytes e = refl

      go : (got : ℤ) (bytes : List ℕ) → bytes_read got last.room ≡ bytes → ended ≡ is_end got → ListedBlock longest front revolutions k T H before size after
      go got [] e is =
          listed-where-stopped brought (record { room = last.room; taken = record { got = got; count_is = sym (ap length e); ended_is = is } }) w
      go got (x ∷ bytes) e is =
          let no : ended ≡ false = is ∙ sym (further got x bytes e) in
          let n : length (bytes_read got last.room) ≡ suc (length bytes) = ap length e in
          record {
            block = block ++ bytes_read got last.room;
            ended = false;
            read = goes_on (more got last.room brought (omega (arith, n))) (omega (arith, n, length-append block (bytes_read got last.room)));
            answer_is = rw no at w.answer;
            out_is = rw no at w.out;
          }

-- what is listed of the bytes that come after others, which were read before them
pub listed-on : {longest : ℕ} {front middle : List ℕ} {revolutions k T H : ℕ} {before : List ℕ} {answer : ℕ} {out : List ℕ} → Brought front middle
    → ListedBlock longest middle revolutions k T H before answer out → ListedBlock longest front revolutions k T H before answer out
listed-on first l =
    record { block = l.block; ended = l.ended; read = then-read first l.read; answer_is = l.answer_is; out_is = l.out_is }

-- bytes that were copied to the front of a room which is long enough
front-copied : (front room : List ℕ) → length front ≤ length room → {copied : List ℕ} → copied ≡ written_over (take (length room) front) room
    → take (length front) copied ≡ front
front-copied front room h e =
    let all : take (length room) front ≡ front = take_all (length room) front h in
    ap (take (length front)) (e ∙ ap (λ (l : List ℕ). written_over l room) all) ∙ take_at front (drop (length front) room) (length front) refl

pub brought-on : (front room : List ℕ) → length front ≤ length room → {copied : List ℕ} → copied ≡ written_over (take (length room) front) room → {bytes : List ℕ}
    → Brought (take (length front) copied) bytes → Brought front bytes
brought-on front room h e {bytes} b = subst (λ (l : List ℕ). Brought l bytes) (front-copied front room h e) b

-- a full room is read whole
pub whole_room : {front room : List ℕ} {count : ℕ} → Brought front (take count room) → length room ≤ count → Brought front room
whole_room {front} {room} {count} b h = subst (λ (l : List ℕ). Brought front l) (take_all count room h) b
