-- The definitions that the contracts cite, by topic.
pub mod Authors
pub mod Cut
pub mod StoredRuns
