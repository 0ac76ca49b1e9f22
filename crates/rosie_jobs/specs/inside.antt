-- Of private functions.
pub mod Printed
pub mod Telling
pub mod SamplePassing
