pub mod QueueViews
pub mod NumberBlocks
pub mod QueueAnswers
pub mod CleanTables
pub mod QueueBatches
