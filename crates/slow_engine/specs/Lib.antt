-- What a reader must believe of the walk beside the definitions of `cubic`: what its public call promises. Inside says what a private function asks.
pub mod Promise
pub mod Inside
