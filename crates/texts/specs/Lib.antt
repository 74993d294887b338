-- Decimals, hexadecimal digits and the lines of a text. Start with Numbers, then Texts; Inner has the steps on the way, which nobody has to believe.
pub mod Numbers
pub mod Texts
pub mod Inner
