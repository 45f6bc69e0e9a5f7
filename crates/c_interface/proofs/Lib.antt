mod Calling
mod Writing
mod Showing
mod Packing
mod Refused
