pub mod NumberPlaces
pub mod GraphViews
pub mod GraphAnswers
pub mod AllowedReferents
