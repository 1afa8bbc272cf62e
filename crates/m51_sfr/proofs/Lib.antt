mod Searches
mod RowLaws
mod TableLaw
