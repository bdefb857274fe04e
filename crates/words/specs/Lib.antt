-- specs/ is all that you have to believe. Read Line first: what the words of a line are. Digits says what digits say; Hexadecimal, Decimal and Bytes
-- what a word reads as, and Examples has some of each. What stands in inside/ nobody need believe.
pub mod Line
pub mod Digits
pub mod Hexadecimal
pub mod Decimal
pub mod Bytes
pub mod Examples
pub mod inside
