pub mod ImageOfInput
