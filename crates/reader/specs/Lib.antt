-- What a private function promises. What the public ones promise is said by `sheets` and `readings`.
pub mod Inside
