-- Laws of the packed files' fields, of the shifts and masks that read them, of the bytes that hold them, and of writing them.
pub mod Number
pub mod Laws
pub mod Shifts
pub mod Bytes
pub mod Encoded
pub mod RoundTrip
pub mod Putting
pub mod Written
