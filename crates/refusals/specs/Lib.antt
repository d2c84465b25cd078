pub mod RefusedCalls
