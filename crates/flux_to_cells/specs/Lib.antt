pub mod OutputOfInput
