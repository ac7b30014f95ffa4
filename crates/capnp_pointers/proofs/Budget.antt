-- What is paid of the limits on words and levels, and what is left.
pub mod ChargedAsStated
pub mod LevelsLeft
pub mod MeasuresFall
pub mod OneLevelLess
pub mod PaidAndLeft
pub mod TraversalAffordable
