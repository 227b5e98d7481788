pub mod PlainUpset
