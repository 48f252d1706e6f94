pub mod Said
pub mod Printed
