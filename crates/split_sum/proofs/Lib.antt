mod Splitting
mod Adding
