pub mod NumberPlaceLemmas
pub mod StoreLaws
pub mod StoredFields
