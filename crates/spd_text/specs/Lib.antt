pub mod DirectionText
pub mod JudgementText
pub mod PacketText
pub mod RangeText
