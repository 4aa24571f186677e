-- Laws of the definitions in specs/.
pub mod DecodeRound
pub mod DecodeLaws
pub mod OfCode
pub mod DecimalLaws
pub mod OwnNamesLaws
pub mod TextRoomLaws
pub mod DecodeReadLaws
