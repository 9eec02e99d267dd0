-- The packed files: 'fields are bit-packed, most significant bit first, with no gaps; zero bits fill the last
-- byte'.
pub mod Field
pub mod Encode
pub mod Inner
