pub mod Words
pub mod Xtime
pub mod Staggered
pub mod KeySchedule
pub mod Rounds
pub mod Tables
