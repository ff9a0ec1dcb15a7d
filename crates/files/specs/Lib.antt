-- What files hold, and what is printed of them. Assumes nothing.
pub mod Files
pub mod Laws
pub mod Printing
