-- What a computation reaches outside results stems from the tree at hand: where no list of an expression is headed by the unproduced name
-- of item p, its expansion shows no form reached by that name.
pub mod Heads
