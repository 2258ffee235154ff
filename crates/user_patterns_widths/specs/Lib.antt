pub mod Polynomials
pub mod AllWidths
pub mod Views
pub mod Lasting
pub mod Passing
pub mod SampledValues
pub mod SampledWidths
pub mod NearLiterals
