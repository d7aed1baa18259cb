pub mod Worked
pub mod WorkedTrail
pub mod WorkedBroken
pub mod WorkedFailures
pub mod WorkedCompacted
pub mod WorkedAnswers
pub mod WorkedUpkeep
pub mod WorkedLeases
