-- Laws of judging.
pub mod ClerkLaws
pub mod RuleLaws
pub mod LentLaws
pub mod ChangeLaws
pub mod EventLaws
pub mod KnownLaws
pub mod EventPromisesHold
