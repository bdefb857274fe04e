-- A line that is answered: by what its frame asks for, and by the bytes that it says.
pub mod Arms
pub mod Bytes
