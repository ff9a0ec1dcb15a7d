-- Proofs of the worked cases. Assumes nothing.
mod Evaluated
mod ChartProofs
mod NetworkForms
mod NetworkOrder
mod NetworkCases
