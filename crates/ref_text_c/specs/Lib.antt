pub mod GivenTexts
