-- The text that tells why spans are open.
pub mod Why
pub mod inside
