-- The bounds of a run: its steps are at most its sum, its sum is at most the fuel, and its core words are at most 3 × (N + fuel),
-- so that they fit a lent table.
pub mod Budget
