-- The way to the theorems of `BothWays`, leaves first: what a reader leaves of a file, and of any other with the same front (`Front` to
-- `CutShort`); a header and a raster that were written, read back (`Numerals` to `ReadBack`); what was read, and what is read alike.
pub mod Front
pub mod HeaderFront
pub mod ImageFront
pub mod Told
pub mod Behind
pub mod CutShort
pub mod Numerals
pub mod HeadRead
pub mod Rasters
pub mod ReadBack
pub mod ReadInto
pub mod Alike
pub mod Written
pub mod Spaces
