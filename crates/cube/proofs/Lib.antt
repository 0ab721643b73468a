-- Why the crate `cube` meets its contracts: that exactly one code cube has given data, and that the encoder writes it.
pub mod Unique
pub mod Tables
pub mod Existence
pub mod Axes
pub mod RoundTrip
pub mod AxisRuns
pub mod RightLines
mod RightRows
pub mod Bytes
pub mod Lending
pub mod Completing
pub mod Parity
pub mod Planes
pub mod Encoding
pub mod Outcomes
pub mod Checking
