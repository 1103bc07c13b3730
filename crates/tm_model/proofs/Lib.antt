pub mod ForcedRuns
