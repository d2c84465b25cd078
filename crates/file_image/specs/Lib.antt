pub mod ImageOfFile
