pub mod LentArenaSteps
