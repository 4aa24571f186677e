-- Request L9, 'Trying with more fuel', for two calls of the expansion service: the statement, and what a call is over plain numbers and
-- tables. Proved in proofs/, from the promise alone.
pub mod Statement
pub mod Said
