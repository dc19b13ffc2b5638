-- Lemmas on what the files of a command mean, on the rules of rows, on the verdict and on demos.
mod EntryLemmas
mod StatusLemmas
mod TimedLemmas
mod DecidedFacts
mod FiniteLists
mod PairLemmas
mod TextLemmas
mod ConfirmLemmas
mod NetsWritten
mod DemoNames
mod DemoNets
mod DemoBids
mod DemoMeans
mod DemoLemmas
mod AuctionTables
mod AuctionLemmas
mod HouseCommandLemmas
