mod FirstBytes
mod Positions
