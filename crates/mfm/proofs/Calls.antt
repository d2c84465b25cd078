-- The judgement of a call, where it refuses and where it does not. Assumes nothing.
use Prim.Native.Nat.{ℕ, ◌<◌, ◌≤◌}
use mathlib.Core.Path.{◌≡◌, ap, ◌∙◌}
use mathlib.Core.List.{List}
use borrow.Author.Tests.{lt-ltb, le-ltb}
use Rattle.refusals.specs.RefusedCalls.{Answer, buffer_after}
use Rattle.refusals.specs.RefusedCalls.Answer.{gives, refused}
use Rattle.mfm.specs.Calls.{judged}

module _ (most given needed room : ℕ) where
  pub too_many : most < given → refused 14 given ≡ judged most given needed room
  unfolding judged
  too_many h = rw (lt-ltb most given h)

  pub no_room : given ≤ most → room < needed → refused 13 needed ≡ judged most given needed room
  unfolding judged
  no_room h g = rw (le-ltb most given h, lt-ltb room needed g)

  pub in-room : given ≤ most → needed ≤ room → gives needed ≡ judged most given needed room
  unfolding judged
  in-room h g = rw (le-ltb most given h, le-ltb room needed g)

-- an answer that is the judgement, and a buffer that is the answer's
pub answer-and-buffer : {A : Type 0} {a b : Answer A} (made buffer : List ℕ) {after : List ℕ} → a ≡ b → after ≡ buffer_after a made buffer
    → (a ≡ b) × (after ≡ buffer_after b made buffer)
answer-and-buffer {A} made buffer e h = (e, h ∙ ap (λ (x : Answer A). buffer_after x made buffer) e)
