pub mod ByteCuts
pub mod Parting
pub mod RowLaws
mod LogExamples
pub mod Common
pub mod FirstLines
pub mod HeldBytes
pub mod StreamLemmas
mod Examples
pub mod ReadLines
pub mod HeadLines
pub mod LineWords
pub mod NameLemmas
pub mod GivenNames
mod NameExamples
pub mod NamedLines
mod NamedExamples
pub mod PlacedRows
pub mod OneRow
pub mod PlacedBatches
pub mod JudgedLines
