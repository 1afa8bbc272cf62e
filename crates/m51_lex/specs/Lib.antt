pub mod Characters
pub mod Number
pub mod Lexeme
pub mod Tokens
pub mod Answer
