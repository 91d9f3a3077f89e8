-- Laws of counting, of one saga, of what one book adds and of their sums; and that what is promised of the term's figures holds.
pub mod CountLaws
pub mod SagaLaws
pub mod FiguresLaws
pub mod SumLaws
pub mod TermFiguresHold
