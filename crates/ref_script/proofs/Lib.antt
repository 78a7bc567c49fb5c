pub mod Common
mod Examples
mod IllegalTexts
pub mod Cuts
pub mod FirstBytes
pub mod Digits
pub mod Fields
pub mod StepForms
pub mod ExactNumbers
pub mod ReplyWords
pub mod ToldReplies
pub mod ReadBack
pub mod ReplyTexts
pub mod BatchWords
pub mod ToldBatches
pub mod ReplyAnswers
mod ReplyExamples
pub mod ReplyNumbers
pub mod ReplyRefusals
pub mod OperandReads
pub mod Spelt
pub mod LineLemmas
pub mod DeclaredSpelt
pub mod GraphLines
pub mod ScriptLines
pub mod OneReading
pub mod OneReply
pub mod OneGraph
pub mod FaultLaws
pub mod Printing
pub mod ListingLemmas
pub mod ReadLemmas
