pub mod CollectionLaws
pub mod KindLaws
pub mod Lists
