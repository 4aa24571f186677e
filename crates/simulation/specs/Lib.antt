-- Two runs, side by side, whose names are alike: they come to the same ground, counts and, but for names, term.
-- Read in this order: relations and what keeps them; marks; what is asked of the names of two runs (Likeness); then one induction over the
-- forms for whatever likeness (`expand-agree`). Two cases of it follow: the trees differ in the number of one template's private name, with
-- the form that holds the template reached in place (`form-agree`); and all names have other numbers, one for one (`numbers-agree`).
pub mod Relations
pub mod Shapes
pub mod Marks
pub mod Terms
pub mod Likeness
pub mod States
pub mod Outcomes
pub mod Names
pub mod Steps
pub mod Form
pub mod Numbers
