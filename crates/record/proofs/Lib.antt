pub mod FieldLaws
pub mod KindRows
pub mod LittleEndian
pub mod RoundTrip
pub mod Sizes
pub mod Stores
pub mod Writing
pub mod LinkNumbers
