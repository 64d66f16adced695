mod MapLemmas
mod OrderLemmas
