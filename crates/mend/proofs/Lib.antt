-- The laws behind the contracts and promises of `mend`.
pub mod StepLaws
pub mod PhaseLaws
pub mod DueLaws
pub mod ReadyLaws
pub mod AnswerLaws
pub mod CodeLaws
pub mod AppendLaws
pub mod MendPromisesHold
