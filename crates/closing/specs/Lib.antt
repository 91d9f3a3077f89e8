-- The definitions that the contracts of `closing` cite, demand 3, the commits that nothing bars, what follows for a manager, and that both runs are attained.
pub mod Attained
pub mod Closing
pub mod Committing
pub mod Demand
pub mod Settling
