pub mod GivenReplies
pub mod Holding
pub mod JudgeSteps
pub mod ReplyNumbers
pub mod StepNumbers
pub mod ToldSteps
pub mod WorldSteps
pub mod Written
