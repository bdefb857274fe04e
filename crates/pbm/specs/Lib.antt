-- specs/ is all that you have to believe. Read `Read` and `Write` first: what `read_pbm` and `write_pbm` answer. `Header` says how a picture
-- begins, `Raster` what its pixels are, and `Bytes` how pixels lie in a chart. What specs/inside has, the private functions promise one another,
-- and nobody need believe it.
pub mod Header
pub mod Raster
pub mod Bytes
pub mod Read
pub mod Write
pub mod Examples
pub mod inside
