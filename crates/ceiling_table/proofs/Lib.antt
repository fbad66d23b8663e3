mod Raised
mod RowOrder
mod Table
mod Tops
mod Turned
mod Walks
