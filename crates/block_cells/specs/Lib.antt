pub mod BlockToCells
