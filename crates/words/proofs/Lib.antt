pub mod Fields
pub mod AllDigits
pub mod WholeTests
pub mod TopBits
pub mod EightDigits
pub mod FifteenDigits
pub mod NumberWords
pub mod OneAnswer
