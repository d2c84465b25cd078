pub mod FileCells
