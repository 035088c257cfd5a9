pub mod Headline
pub mod Replay
pub mod Reply
pub mod Stop
pub mod Words
pub mod inner
