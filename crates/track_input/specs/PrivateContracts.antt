-- What the contract of the function needs that reads a portion. Assumes nothing.
use Rattle.std.specs.Prelude.{◌≡◌, List, ℤ, ℕ}
use Rattle.track_input.specs.Reading.{Steps, bytes_read, input_after}
use Rattle.track_input.specs.declared.Input.{Input}

-- one read, that answered some number and left this portion
pub record TakenRead {A : Type 0} (steps : Steps A) (reader : A) (portion before : List ℕ) (next : Input A) (after : List ℕ) : Type 0 where
  pub got : ℤ
  pub input_is : next ≡ input_after steps reader got portion
  pub cells_are : after ≡ steps.cells_after reader (bytes_read got portion) before
