pub mod WholeStep
