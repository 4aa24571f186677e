pub mod OldItemsLaws
