-- An accepted reading's item table passes ground 7 exactly when the first of its two elements is a list: `accepted-layout` in Claim.
-- Items, the items of data in a table; Places, each referred to once; Good, each with the words of its kind; Fit, what an accepted text
-- gives of constants and names; Root, the tree of two elements.
-- Its name table has 64 bytes a name: `read-slots` in Answers; each of its names is there: `read_named` in Named.
pub mod Items
pub mod Places
pub mod Good
pub mod Fit
pub mod Root
pub mod Claim
pub mod Answers
pub mod Named
