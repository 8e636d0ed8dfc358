pub mod LeastLemmas
mod StepLemmas
