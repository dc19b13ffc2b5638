-- Lemmas on draws and on the records of a demo.
mod DrawLemmas
mod RowLemmas
